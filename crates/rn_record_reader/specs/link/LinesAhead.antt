-- What the code knows of the lines that come next. It connects the code with the definitions, and
-- states no rule.
use Rattle.std.specs.Prelude.{◌≡◌, ◌<◌, ℕ, List, [], ◌∷◌, Option, Some, None, drop, length, ⊤}
use Rattle.rn_lines.specs.LineText.{LineSaid}
use Rattle.rn_lines.specs.link.LinesSeen.{line}
use Rattle.rn_record_reader.specs.Lines.{lines_in}
use Rattle.rn_record_reader.specs.declared.lines.Next.{Next}
use Rattle.rn_record_reader.specs.declared.lines.Next.TheVariants.{End, Broken, Line}

-- this comes first among the lines
abbrev pub ComesFirst : Next → List (Option LineSaid) → Type 0
ComesFirst End lines = lines ≡ []
ComesFirst Broken lines = lines ≡ None ∷ drop 1 lines
ComesFirst (Line l rest) lines = lines ≡ Some (line l) ∷ lines_in rest.now

-- after a line fewer bytes are left
abbrev pub IsShorter : Next → List ℕ → Type 0
IsShorter End bytes = ⊤
IsShorter Broken bytes = ⊤
IsShorter (Line l rest) bytes = length rest.now < length bytes
