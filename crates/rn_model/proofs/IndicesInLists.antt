-- Elements beside their indices, and the first index whose element passes a test.
use Rattle.std.proofs.Common.{◌≡◌, ℕ, zero, suc, ◌+◌, ◌<◌, ◌≤◌, Bool, true, false, List, [], ◌∷◌, length, get_or, refl, sym, ap, ◌∙◌, subst, arith}
use Rattle.std.specs.Prelude.{Some, Contains, is_some, nat_lt, position, slice_get}
use Rattle.std.specs.List.{enumerate_from, position_or_len}
use Rattle.std.proofs.lemmas.Bool.Decides.{nat_tests}
use Rattle.std.proofs.lemmas.List.Sums.{fails_before_first}
use Rattle.rn_model.proofs.EnablingLemmas.{not_in_nil}
use Rattle.rn_model.proofs.AskedValues.{later}

-- an element stands beside its index, counted from n
pub in_enumerated : {X : Type 0} (n : ℕ) (xs : List X) (k : ℕ) (x : X) → slice_get xs k ≡ Some x → Contains (enumerate_from n xs) (n + k, x)
in_enumerated n [] k x e = absurd (let no : ⊥ = cc in no)
in_enumerated n (y ∷ xs) zero x e = let same : y ≡ x = cc in let place : n ≡ n + 0 = omega arith in (0, omega arith, ap (λ z. (n, z)) same ∙ ap (λ j. (j, x)) place)
in_enumerated n (y ∷ xs) (suc k) x e =
    let place : (n + 1) + k ≡ n + suc k = omega arith in
    later (n, y) (n + suc k, x) (enumerate_from (n + 1) xs) (subst (λ j. Contains (enumerate_from (n + 1) xs) (j, x)) place (in_enumerated (n + 1) xs k x e))

-- and what stands so is an element beside its index
pub from_enumerated : {X : Type 0} (n : ℕ) (xs : List X) (p : ℕ × X) → Contains (enumerate_from n xs) p → (k : ℕ) × (p.0 ≡ n + k) × (slice_get xs k ≡ Some p.1)
from_enumerated n [] p there = absurd (not_in_nil p there)
from_enumerated n (y ∷ xs) p (zero, h, e) = let first : n ≡ p.0 = ap (λ q. q.0) e in (0, omega (arith, first), ap (λ q. Some q.1) e)
from_enumerated n (y ∷ xs) p (suc j, h, e) =
    let found = from_enumerated (n + 1) xs p (j, omega (arith, h), e) in
    (suc found.0, omega (arith, found.1), found.2)

fails_too_late : {X : Type 0} (p : X → Bool) (xs : List X) (x : X) (k : ℕ) → k < length xs → get_or xs k x ≡ x → p x ≡ true → position_or_len p xs < length xs
fails_too_late p xs x k h e passes = elim (nat_lt (position_or_len p xs) (length xs)) as (λ low. nat_lt (position_or_len p xs) (length xs) ≡ low → position_or_len p xs < length xs) [
  | true ↦ λ low. grind (arith, nat_tests)
  | false ↦ λ high.
      let behind : length xs ≤ position_or_len p xs = grind (arith, nat_tests) in
      let fails = fails_before_first p xs k x (omega (arith, h, behind)) in
      let both : true ≡ false = sym passes ∙ ap p (sym e) ∙ fails in
      absurd (let no : ⊥ = cc in no)
] refl

-- where an element passes a test there is a first index of one that does
pub has_position : {X : Type 0} (p : X → Bool) (xs : List X) (x : X) → Contains xs x → p x ≡ true → is_some (position p xs) ≡ true
has_position p xs x (k, h, e) passes =
    let low = fails_too_late p xs x k h e passes in
    let test : nat_lt (position_or_len p xs) (length xs) ≡ true = grind (arith, nat_tests) in
    rw test refl
