-- The numbers in a word of 64 bits.
use Rattle.std.proofs.Common.{◌≡◌, ℕ, zero, suc, ◌-◌, ◌*◌, ◌/◌, ◌%◌, ◌^◌, ◌<◌, ◌≤◌, true, false, nat_eq, bit_and, min, refl, sym, ap, ◌∙◌, arith, w64, inl, inr}
use Rattle.std.proofs.lemmas.Nat.Bits.{ones_shr, ones_shl, bit_at_ones, bit_at_and, bit_at_mask_inside, bit_at_mask_below, bit_at-lt, bit_at-zero, bit_at-trailing_zeros, bit_at_not}
use Rattle.std.proofs.lemmas.Bool.{cases_lt, eqb-true, true≢false}
use Rattle.std.proofs.lemmas.Nat.{and_le_l}
use Rattle.std.specs.Int.{bit_at, trailing_zeros}
use Rattle.rn_bag.specs.Words.{has_bit}

pub below_end : (end i : ℕ) → end ≤ 64 → i < end → has_bit (18446744073709551615 / 2 ^ (64 - end)) i ≡ true
below_end end i within low =
    let left : 64 - (64 - end) ≡ end = omega arith in
    let ones : 18446744073709551615 / 2 ^ (64 - end) ≡ 2 ^ end - 1 = ones_shr 64 (64 - end) (omega arith) ∙ ap (λ k. 2 ^ k - 1) left in
    ap (λ m. has_bit m i) ones ∙ ap (λ b. nat_eq b 1) (bit_at_ones end i low)

-- the numbers of a word from n on
abbrev pub rest_of : ℕ → ℕ → ℕ
rest_of word n = bit_and word (18446744073709551615 * 2 ^ n % 18446744073709551616)

rest_is : (word n : ℕ) → n ≤ 64 → rest_of word n ≡ bit_and word (2 ^ 64 - 2 ^ n)
rest_is word n within = ap (bit_and word) (ones_shl 64 n within)

rest_high : (word n i : ℕ) → n ≤ i → i < 64 → bit_at (rest_of word n) i ≡ bit_at word i
rest_high word n i high low =
    let here : bit_at (rest_of word n) i ≡ min (bit_at word i) (bit_at (2 ^ 64 - 2 ^ n) i) = ap (λ m. bit_at m i) (rest_is word n (omega arith)) ∙ bit_at_and word (2 ^ 64 - 2 ^ n) i in
    let inside : bit_at (2 ^ 64 - 2 ^ n) i ≡ 1 = bit_at_mask_inside n 64 i high low in
    let small : bit_at word i < 2 = bit_at-lt word i in
    here ∙ ap (λ m. min (bit_at word i) m) inside ∙ omega (arith, small)

rest_low : (word n i : ℕ) → n ≤ 64 → i < n → bit_at (rest_of word n) i ≡ 0
rest_low word n i within low =
    let here : bit_at (rest_of word n) i ≡ min (bit_at word i) (bit_at (2 ^ 64 - 2 ^ n) i) = ap (λ m. bit_at m i) (rest_is word n within) ∙ bit_at_and word (2 ^ 64 - 2 ^ n) i in
    let outside : bit_at (2 ^ 64 - 2 ^ n) i ≡ 0 = bit_at_mask_below n 64 i low in
    here ∙ ap (λ m. min (bit_at word i) m) outside ∙ omega arith

pub none_left : (word n i : ℕ) → rest_of word n ≡ 0 → n ≤ i → i < 64 → has_bit word i ≡ false
none_left word n i none high low =
    ap (λ b. nat_eq b 1) (sym (rest_high word n i high low) ∙ ap (λ m. bit_at m i) none ∙ bit_at-zero i)

-- a set bit isn't where the bits are cleared
not_before : (b t n : ℕ) → b ≡ 1 → (t < n → b ≡ 0) → n ≤ t
not_before b t n set clear = elim (cases_lt t n) [
  | inl low ↦ (let none : b ≡ 0 = clear low in omega arith)
  | inr high ↦ high
]

rest_fits : (word n : ℕ) → word < 2 ^ 64 → rest_of word n < 2 ^ 64
rest_fits word n fits = omega (arith, and_le_l word (18446744073709551615 * 2 ^ n % 18446744073709551616))

pub first_later : (word n : ℕ) → n < 64 → 0 < rest_of word n → word < 2 ^ 64 → n ≤ trailing_zeros w64 (rest_of word n)
first_later word n within some fits =
    let first = bit_at-trailing_zeros w64 (rest_of word n) some (rest_fits word n fits) in
    not_before _ _ _ first.1 (λ low. rest_low word n (trailing_zeros w64 (rest_of word n)) (omega arith) low)

pub first_there : (word n : ℕ) → n < 64 → 0 < rest_of word n → word < 2 ^ 64 → has_bit word (trailing_zeros w64 (rest_of word n)) ≡ true
first_there word n within some fits =
    let first = bit_at-trailing_zeros w64 (rest_of word n) some (rest_fits word n fits) in
    ap (λ b. nat_eq b 1) (sym (rest_high word n (trailing_zeros w64 (rest_of word n)) (first_later word n within some fits) first.0) ∙ first.1)

pub none_before : (word n i : ℕ) → n < 64 → 0 < rest_of word n → word < 2 ^ 64 → n ≤ i → i < trailing_zeros w64 (rest_of word n) → has_bit word i ≡ false
none_before word n i within some fits high low =
    let first = bit_at-trailing_zeros w64 (rest_of word n) some (rest_fits word n fits) in
    let below : i < 64 = omega (arith, first.0, low) in
    ap (λ b. nat_eq b 1) (sym (rest_high word n i high below) ∙ first.2 i low)

pub all_value : (end : ℕ) → end ≤ 64 → 18446744073709551615 / 2 ^ (64 - end) ≡ 2 ^ end - 1
all_value end within =
    let left : 64 - (64 - end) ≡ end = omega arith in
    ones_shr 64 (64 - end) (omega arith) ∙ ap (λ k. 2 ^ k - 1) left

cleared_bit : (a b : ℕ) → a ≡ 1 - b → a ≡ 1 → b ≡ 0
cleared_bit a b e f = omega arith

pub absent_bit : (word i : ℕ) → word < 18446744073709551616 → i < 64 → has_bit (18446744073709551615 - word) i ≡ true → has_bit word i ≡ false
absent_bit word i fits low set =
    let flipped : bit_at (18446744073709551615 - word) i ≡ 1 - bit_at word i = bit_at_not w64 word i fits low in
    let one : bit_at (18446744073709551615 - word) i ≡ 1 = eqb-true (bit_at (18446744073709551615 - word) i) 1 set in
    let small : bit_at word i < 2 = bit_at-lt word i in
    let zero_bit : bit_at word i ≡ 0 = cleared_bit (bit_at (18446744073709551615 - word) i) (bit_at word i) flipped one in
    ap (λ b. nat_eq b 1) zero_bit

set_bit : (a b : ℕ) → a ≡ 1 - b → b < 2 → nat_eq a 1 ≡ false → nat_eq b 1 ≡ true
set_bit a zero e small out = absurd (true≢false (ap (λ n. nat_eq n 1) (sym e) ∙ out))
set_bit a (suc zero) e small out = refl
set_bit a (suc (suc b)) e small out = absurd (omega arith)

pub present_bit : (word i : ℕ) → word < 18446744073709551616 → i < 64 → has_bit (18446744073709551615 - word) i ≡ false → has_bit word i ≡ true
present_bit word i fits low out = set_bit _ _ (bit_at_not w64 word i fits low) (bit_at-lt word i) out
