-- The lines of ends and of tallies are short.
use Rattle.std.proofs.Common.{◌≡◌, ◌≤◌, ◌<◌, ◌+◌, ◌^◌, ◌++◌, ℕ, List, length, length-append, codes, subst, arith}
use Rattle.std.proofs.lemmas.Fmt.{length-decimal-le}
use Rattle.rn_value.specs.Text.{numeral}
use Rattle.rn_value.proofs.Numerals.{decimal-numeral}
use Rattle.rn_model.specs.declared.log.FaultKind.{FaultKind}
use Rattle.rn_model.specs.declared.log.FaultKind.TheVariants.{Action, Instances}
use Rattle.rn_commands.specs.Ends.{fault_line}
use Rattle.rn_commands.specs.Workloads.{counted_line}
use Rattle.rn_commands.specs.link.Workloads.{tally_lines}

-- a number of 64 bits has at most 20 digits
pub numeral_short : (n : ℕ) → n < 2 ^ 64 → length (numeral n) ≤ 20
numeral_short n small =
    subst (λ digits. length digits ≤ 20) (decimal-numeral n small)
    (length-decimal-le 20 n (omega arith) (omega (arith, small)) small)

-- a word, a space, a number and the end of the line
line_length : (word space number end : List ℕ) →
    length (word ++ space ++ number ++ end)
    ≡ length word + length space + length number + length end
line_length word space number end =
    omega (
      arith,
      length-append (word ++ space ++ number) end,
      length-append (word ++ space) number,
      length-append word space,
    )

pub counted_short : (word : List ℕ) (n : ℕ) → n < 2 ^ 64 →
    length (counted_line word n) ≤ length word + 22
counted_short word n small =
    omega (arith, line_length word (codes " ") (numeral n) (codes "\n"), numeral_short n small)

pub fault_short : (cause : FaultKind) (step : ℕ) → step < 2 ^ 64 → length (fault_line cause step) ≤ 24
fault_short Action step small =
    omega (arith, line_length (codes "F1") (codes " ") (numeral step) (codes "\n"), numeral_short step small)
fault_short Instances step small =
    omega (arith, line_length (codes "F2") (codes " ") (numeral step) (codes "\n"), numeral_short step small)

-- the four lines, where the last is short
pub tally_short : (fired made live : ℕ) (end : List ℕ) →
    fired < 2 ^ 64 → made < 2 ^ 64 → live < 2 ^ 64 →
    length (tally_lines fired made live end) ≤ length end + 80
tally_short fired made live end few_fired few_made few_live =
    let steps = counted_line (codes "steps") fired in
    let ever = counted_line (codes "made") made in
    let now = counted_line (codes "live") live in
    omega (
      arith,
      length-append (steps ++ ever ++ now) end,
      length-append (steps ++ ever) now,
      length-append steps ever,
      counted_short (codes "steps") fired few_fired,
      counted_short (codes "made") made few_made,
      counted_short (codes "live") live few_live,
    )
