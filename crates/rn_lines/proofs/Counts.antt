-- Counts, and how often they say that a value stands there.
use Rattle.std.proofs.Common.{◌≡◌, ◌≤◌, ◌⊎◌, inl, inr, ℕ, List, [], ◌∷◌, false, cond, nat_eq, refl, sym, ap, ◌∙◌, arith}
use borrow.Author.Tests.{ne_eqb}
use Rattle.rn_value.specs.Grammar.{IsNumeral}
use Rattle.rn_value.specs.Text.{numeral}
use Rattle.rn_value.proofs.Numerals.{IsNumeral-first, IsNumeral-numeral, numeral_only}
use Rattle.rn_lines.specs.LineText.{IsCount, count_of}
use Rattle.rn_value.specs.Characters.{number_after}
use Rattle.rn_lines.proofs.NumeralReading.{numeral_value}

-- the digits of a numeral say its number
counted : {n : ℕ} {times : List ℕ} → IsNumeral n times → count_of times ≡ n
counted {n} {times} p =
    let f = IsNumeral-first p in
    ap count_of f.2 ∙ ap (number_after 0) (sym f.2) ∙ numeral_value p

-- what stands behind a value: nothing, or a star and the numeral of its count
pub written_count : {times text : List ℕ} → IsCount times text →
    ((count_of times ≡ 1) × (text ≡ [])) ⊎ ((2 ≤ count_of times) × (text ≡ 42 ∷ numeral (count_of times)))
written_count IsCount.once = inl (refl, refl)
written_count (IsCount.often {n = n} {times = times} low p) =
    let e = counted p in
    inr (omega (arith, low, e), ap (λ digits. 42 ∷ digits) (numeral_only p ∙ ap numeral (sym e)))

-- and so each count is written
pub record Counts (n : ℕ) : Type 0 where
  pub times : List ℕ
  pub stands : IsCount times (cond (nat_eq n 1) [] (42 ∷ numeral n))
  pub number : count_of times ≡ n

-- a count from 2 on is a star and its numeral
pub count_written : (n : ℕ) → 2 ≤ n → Counts n
count_written n low =
    let apart : nat_eq n 1 ≡ false = ne_eqb n 1 (λ e. omega (arith, low, e)) in
    let p = IsNumeral-numeral n in
    record {
      times = numeral n;
      stands = rw apart (IsCount.often low p);
      number = counted p;
    }

-- and a count of 1 is nothing
pub once_written : (n : ℕ) → n ≡ 1 → Counts n
once_written n is = record {
  times = [];
  stands = rw is IsCount.once;
  number = sym is;
}
