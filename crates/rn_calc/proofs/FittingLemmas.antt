-- A number that fits 64 bits is a value, and another is none.
use Rattle.std.proofs.Common.{◌≡◌, ℕ, ℤ, pos, negsuc, Bool, true, false, ◌<◌, ◌≤◌, ◌^◌, refl}
use Rattle.std.proofs.Common.{arith, w64}
use Rattle.std.proofs.Math.Dec.{T, leb, le→leb, leb→le}
use Rattle.std.specs.Prelude.{Some, None, FitsSigned}
use Rattle.rn_value.specs.declared.value.Value.{Value}
use Rattle.rn_model.specs.Evaluation.{int_value}

truth_of : (b : Bool) → T b → b ≡ true
truth_of true t = refl
truth_of false t = absurd t

false_of : (b : Bool) → ¬ T b → b ≡ false
false_of true t = absurd (t tt)
false_of false t = refl

is_within : (n : ℕ) → n < 2 ^ 63 → leb n 9223372036854775807 ≡ true
is_within n small =
    truth_of (leb n 9223372036854775807) (le→leb n 9223372036854775807 (omega (arith, small)))

pub int_value-in : (z : ℤ) → FitsSigned w64 z → int_value z ≡ Some (Value.Int z)
int_value-in (pos n) h = rw (is_within n h.sfits)
int_value-in (negsuc n) h = rw (is_within n h.sfits)

fits_of : (n : ℕ) → T (leb n 9223372036854775807) → n < 2 ^ 63
fits_of n t =
    let small : n ≤ 9223372036854775807 = leb→le n 9223372036854775807 t in omega (arith, small)

is_beyond : (n : ℕ) → ¬ (n < 2 ^ 63) → leb n 9223372036854775807 ≡ false
is_beyond n big = false_of (leb n 9223372036854775807) (λ t. big (fits_of n t))

pub int_value-out : (z : ℤ) → ¬ FitsSigned w64 z → int_value z ≡ None
int_value-out (pos n) h = rw (is_beyond n (λ small. h (record { sfits = small })))
int_value-out (negsuc n) h = rw (is_beyond n (λ small. h (record { sfits = small })))

pub ruleset fitting_rules = (int_value-in, int_value-out)
