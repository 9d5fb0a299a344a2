-- What the code knows of the printed values that come next. It connects the code with the
-- definitions, and states no rule.
use Rattle.std.specs.Prelude.{◌≡◌, ◌<◌, ℕ, List, [], ◌∷◌, ◌++◌, Option, length, ⊤}
use Rattle.rn_value.specs.declared.value.Value.{Value}
use Rattle.rn_model.specs.declared.system.System.{System}
use Rattle.rn_lines.specs.LineText.{LineSaid}
use Rattle.rn_record_reader.specs.Lines.{lines_in}
use Rattle.rn_record_reader.specs.Prints.{Print, PrintsEnd as End, prints_from}
use Rattle.rn_record_reader.specs.declared.prints.PrintLine.{PrintLine}
use Rattle.rn_record_reader.specs.declared.prints.PrintLine.TheVariants.{Other, Prints, Refused}
use Rattle.rn_record_reader.specs.declared.prints.PrintsEnd.{PrintsEnd}
use Rattle.rn_record_reader.specs.declared.prints.PrintsEnd.TheVariants as Ends

-- what a line is
abbrev pub print : PrintLine → Print
print Other = Print.other
print (Prints v) = Print.prints v
print (Refused refusal) = Print.refused refusal

-- why no more printed values are read
abbrev pub prints_end : PrintsEnd → End
prints_end (Ends.Over rest) = End.over (lines_in rest.now)
prints_end (Ends.Refused refusal) = End.refused refusal

-- what is read of these lines, by what the code says of the first, with these left after it
abbrev pub PrintSteps : System → List ℕ → ℕ → ℕ → List (Option LineSaid) → PrintLine →
    List (Option LineSaid) → Type 0
PrintSteps system made step worker lines Other rest =
    prints_from system made step worker lines ≡ ([], End.over lines)
PrintSteps system made step worker lines (Prints v) rest =
    prints_from system made step worker lines
    ≡ (
      v ∷ (prints_from system made step worker rest).0,
      (prints_from system made step worker rest).1,
    )
PrintSteps system made step worker lines (Refused refusal) rest =
    prints_from system made step worker lines ≡ ([], End.refused refusal)

-- fewer bytes are left after a printed value
abbrev pub LeavesLess : PrintLine → List ℕ → List ℕ → Type 0
LeavesLess Other rest bytes = ⊤
LeavesLess (Prints v) rest bytes = length rest < length bytes
LeavesLess (Refused refusal) rest bytes = ⊤

-- printed values, with some before them
abbrev pub with_values : List Value → List Value × End → List Value × End
with_values vs read = (vs ++ read.0, read.1)
