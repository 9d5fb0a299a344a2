-- The end of the passes.
use Rattle.std.proofs.Common.{◌≡◌, ℕ, ◌<◌, ◌≤◌, Bool, List, [], ◌∷◌, length, refl}
use Rattle.std.proofs.Common.{sym, ap, ◌∙◌, subst, arith}
use Rattle.std.specs.Prelude.{◌↔◌, IsTrue}
use Rattle.rn_model.specs.declared.system.System.{System}
use Rattle.rn_model.specs.declared.binding.Binding.{Binding}
use Rattle.rn_growing.specs.Grown.{Grown}
use Rattle.rn_binding.specs.declared.part.Part.{Part}
use Rattle.rn_binding.specs.link.Parts.{picked, AllWithin}
use Rattle.rn_binding.specs.link.Passing.{AreLeft, IsPassed, Ends}
use Rattle.rn_binding.proofs.Passes.{left_then, stuck_then}
use Rattle.rn_binding.proofs.PickedParts.{as_many}

none_long : {A : Type 0} (xs : List A) → length xs ≡ 0 → xs ≡ []
none_long [] e = refl
none_long (x ∷ xs) e = absurd (let no : ⊥ = omega (arith, e) in no)

module _ (system : System) (b : Binding) (parts : List Part) (old : Grown) (now : Grown)
    (tried left : List ℕ) (before : AreLeft system b old (picked parts tried))
    (passed : IsPassed system b old (picked parts tried) now (picked parts left))
    (tried_within : AllWithin parts tried) (left_within : AllWithin parts left) where
  -- as many are left as were tried: that is the end
  pub ends : (answer : Bool) → length left ≡ length tried → (IsTrue answer ↔ (length left ≡ 0)) →
      Ends system b now answer
  ends answer many is = (
    picked parts left,
    stuck_then system b old (picked parts tried) now (picked parts left) before passed
        (as_many parts left left_within ∙ many ∙ sym (as_many parts tried tried_within)),
    (
      λ yes. none_long (picked parts left) (as_many parts left left_within ∙ is.0 yes),
      λ none. is.1 (sym (as_many parts left left_within) ∙ ap length none),
    ),
  )

  -- or fewer
  pub fewer : (length left ≡ length tried → ⊥) → length left < length tried
  fewer differ =
      let few : length left ≤ length tried =
      subst (λ n. n ≤ length tried) (as_many parts left left_within)
      (subst (λ n. length (picked parts left) ≤ n) (as_many parts tried tried_within) passed.few) in
      grind (arith, few, differ)

  pub goes_on : AreLeft system b now (picked parts left)
  goes_on = left_then system b old (picked parts tried) now (picked parts left) before passed
