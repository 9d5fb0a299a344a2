-- Looking a variable's value up beside the variables.
use Rattle.std.proofs.Common.{◌≡◌, ℕ, zero, suc, ◌+◌, ◌<◌, Bool, true, false, cond, List, [], ◌∷◌}
use Rattle.std.proofs.Common.{length, get_or, drop, refl, sym, ap, ◌∙◌, arith}
use Rattle.std.specs.Prelude.{Option, None, zip, slice_get, nat_eq}
use Rattle.std.proofs.lemmas.Bool.{eqb-true, eq-eqb}
use Rattle.rn_value.specs.declared.value.Value.{Value}
use Rattle.rn_model.specs.Lists.{value_beside}

abbrev pub beside : List ℕ → List Value → ℕ → Option Value
beside vars values x = value_beside (zip vars values) x

none_beside : (vars : List ℕ) (x : ℕ) → beside vars [] x ≡ None
none_beside [] x = refl
none_beside (var ∷ vars) x = refl

either_none : (b : Bool) (o : Option Value) → o ≡ None → None ≡ cond b None o
either_none true o e = refl
either_none false o e = sym e

at_drop : (i x : ℕ) (vars : List ℕ) (values : List Value) → i < length vars →
    beside (drop i vars) (drop i values) x
    ≡ cond (nat_eq (get_or vars i 0) x) (slice_get values i)
    (beside (drop (suc i) vars) (drop (suc i) values) x)
at_drop i x [] values h = absurd (let no : ⊥ = omega (arith, h) in no)
at_drop zero x (var ∷ vars) [] h = either_none (nat_eq var x) _ (none_beside vars x)
at_drop zero x (var ∷ vars) (v ∷ values) h = refl
at_drop (suc i) x (var ∷ vars) [] h =
    none_beside (drop i vars) x
    ∙ either_none (nat_eq (get_or vars i 0) x) _ (none_beside (drop (suc i) vars) x)
at_drop (suc i) x (var ∷ vars) (v ∷ values) h = at_drop i x vars values (omega (arith, h))

pub found_at : (i x : ℕ) (vars : List ℕ) (values : List Value) → i < length vars →
    get_or vars i 0 ≡ x → beside (drop i vars) (drop i values) x ≡ slice_get values i
found_at i x vars values h e =
    at_drop i x vars values h
    ∙ ap (λ t. cond t (slice_get values i) (beside (drop (suc i) vars) (drop (suc i) values) x))
    (eq-eqb (get_or vars i 0) x e)

apart : (a b : ℕ) (t : Bool) → nat_eq a b ≡ t → (a ≡ b → ⊥) → nat_eq a b ≡ false
apart a b true e other = absurd (other (eqb-true a b e))
apart a b false e other = e

pub later_at : (i x : ℕ) (vars : List ℕ) (values : List Value) → i < length vars →
    (get_or vars i 0 ≡ x → ⊥) →
    beside (drop i vars) (drop i values) x ≡ beside (drop (i + 1) vars) (drop (i + 1) values) x
later_at i x vars values h other =
    let next : suc i ≡ i + 1 = omega arith in
    at_drop i x vars values h
    ∙ ap (λ t. cond t (slice_get values i) (beside (drop (suc i) vars) (drop (suc i) values) x))
    (apart (get_or vars i 0) x (nat_eq (get_or vars i 0) x) refl other)
    ∙ ap (λ j. beside (drop j vars) (drop j values) x) next
