-- Values that mention none of some instances.
use Rattle.std.proofs.Common.{◌≡◌, ◌≢◌, ◌+◌, ◌<◌, ◌≤◌, ℕ, Bool, true, false, ◌||◌, List, [], ◌∷◌, length, map, take, get_or}
use Rattle.std.proofs.Common.{refl, sym, ap, ◌∙◌}
use Rattle.std.specs.Prelude.{Contains}
use Rattle.std.specs.List.{list_any}
use Rattle.std.proofs.lemmas.List.{take_all}
use Rattle.std.proofs.lemmas.List.Folds.{list_any_more}
use Rattle.rn_value.specs.declared.value.Value.{Value}
use Rattle.rn_model.specs.Liveness.{mentions}
use Rattle.rn_parted.specs.link.Walks.{Avoids, TestsAvoid}

-- no value of these mentions one of them
abbrev pub AllAvoid : List ℕ → ℕ → List Value → Type 0
AllAvoid found n values = (k : ℕ) → Contains found k → k ≢ n →
    list_any (λ v. mentions v k) values ≡ false

any_mapped : (values : List Value) (k : ℕ) →
    list_any (λ test. test k) (map mentions values) ≡ list_any (λ v. mentions v k) values
any_mapped [] k = refl
any_mapped (v ∷ values) k = ap (λ b. mentions v k || b) (any_mapped values k)

both_false : (a b : Bool) → a ≡ false → b ≡ false → (a || b) ≡ false
both_false true b first second = first
both_false false b first second = second

-- one value more
pub avoids_more : (found : List ℕ) (n : ℕ) (values : List Value) (i : ℕ) (v : Value) →
    i < length values → v ≡ get_or values i v → AllAvoid found n (take i values) →
    Avoids found n v → AllAvoid found n (take (i + 1) values)
avoids_more found n values i v low is before avoids k has other =
    list_any_more (λ w. mentions w k) values i v low
    ∙ ap (λ w. list_any (λ u. mentions u k) (take i values) || mentions w k) (sym is)
    ∙ both_false (list_any (λ u. mentions u k) (take i values)) (mentions v k)
    (before k has other) (avoids k has other)

-- all of them
pub all_avoid : (found : List ℕ) (n : ℕ) (values : List Value) (i : ℕ) → length values ≤ i →
    AllAvoid found n (take i values) → TestsAvoid found n (map mentions values)
all_avoid found n values i end avoid k has other =
    any_mapped values k
    ∙ ap (list_any (λ v. mentions v k)) (sym (take_all i values end))
    ∙ avoid k has other
