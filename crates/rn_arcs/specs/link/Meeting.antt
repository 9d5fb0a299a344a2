-- Whether tokens meet what is asked of a place. This only connects the code to what it means that a
-- place fits.
use Rattle.std.specs.Prelude.{◌≡◌, ◌<◌, ◌⊎◌, List, [], ◌∷◌, All}
use Rattle.rn_value.specs.declared.value.Value.{Value}
use Rattle.rn_model.specs.Lists.{count_of, IsWithin}
use Rattle.rn_arcs.specs.declared.asked.Asked.{Asked}

-- one clear arc at most, of just these tokens, and then nothing is taken
abbrev pub IsWhole : List Value → List (List Value) → List Value → Type 0
IsWhole tokens cleared taken =
    (cleared ≡ []) ⊎ ((cleared ≡ tokens ∷ []) × (taken ≡ []))

-- each is there more often than it is taken
abbrev pub AreLeft : List Value → List Value → List Value → Type 0
AreLeft tokens taken tested = All (λ v. count_of v taken < count_of v tokens) tested

-- none of these is there
abbrev pub AreAbsent : List Value → List Value → Type 0
AreAbsent tokens inhibited = All (λ v. count_of v tokens ≡ 0) inhibited

-- The tokens meet all that is asked. Where a place is cleared nothing remains to be tested.
pub record Meets (tokens : List Value) (g : Asked) : Type 0 where
  pub whole : IsWhole tokens g.cleared g.taken
  pub enough : IsWithin g.taken tokens
  pub absent : AreAbsent tokens g.inhibited
  pub left : AreLeft tokens g.taken g.tested
  pub nothing : (g.tested ≡ []) ⊎ (g.cleared ≡ [])
