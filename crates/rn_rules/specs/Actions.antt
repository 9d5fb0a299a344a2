-- Actions: what is broken in them, and where action variables may stand.
use Rattle.std.specs.Prelude.{ℕ, Bool, true, false, nat_lt, List, [], ◌∷◌, ◌++◌, Option}
use Rattle.std.specs.Prelude.{is_none, flat_map}
use Rattle.std.specs.Option.{option_map_or}
use Rattle.rn_inscript.specs.declared.inscriptions.PName.{PName}
use Rattle.rn_inscript.specs.declared.inscriptions.PInscribed.{PInscribed}
use Rattle.rn_inscript.specs.declared.inscriptions.PInscribed.TheVariants.{Set}
use Rattle.rn_inscript.specs.declared.inscriptions.PInscription.{PInscription}
use Rattle.rn_declared.specs.declared.fault.Rule.TheVariants as Rule
use Rattle.rn_declared.specs.declared.fault.Fault.{Fault}
use Rattle.rn_declared.specs.declared.pattern.Pattern.{Pattern}
use Rattle.rn_declared.specs.Faults.{broken_if}
use Rattle.rn_rules.specs.Expressions.{Seen, misfit}

-- the name on the left of an inscription that is an action, where it has one
abbrev pub set_name : PInscribed → List (List ℕ)
set_name (Set var value) = var.text ∷ []
set_name _ = []

-- the names on the left of the actions among these inscriptions
abbrev pub set_names : List PInscription → List (List ℕ)
set_names inscriptions = flat_map (λ inscription. set_name inscription.form) inscriptions

-- A name may stand where so many actions set a variable before: it is no action variable, or one of
-- them sets it.
abbrev pub is_set_by : Option ℕ → ℕ → Bool
is_set_by number past = option_map_or (λ n. nat_lt n past) number true

-- what is broken in `action v = e` by what is left of `=`, where it is the action of this number:
-- the variable is declared, and no earlier action sets it
abbrev pub set_faults : Option Pattern → Option ℕ → ℕ → PName → List Fault
set_faults pattern number past var =
    broken_if (is_none pattern) Rule.Known var.spot
    ++ broken_if (option_map_or (λ n. nat_lt n past) number false) Rule.Actions var.spot

-- the value has the variable's kind
unfoldable pub value_faults : Option Pattern → Seen → List Fault
value_faults pattern value =
    value.faults ++ option_map_or (λ p. misfit value p) pattern []
