use Rattle.std.proofs.Common.{◌≡◌, ◌++◌, take}
use Rattle.std.specs.Prelude.{flat_map}
use Rattle.rn_record.specs.RecordText.{mark_text}
use Rattle.rn_record.proofs.marks.put_marks.Given as goal

abbrev pub invariant-loop-line : goal.invariant-loop-line
invariant-loop-line l = l.out.items ≡ l.initial.out.items ++ flat_map (mark_text l.format l.system l.names) (take l.line-index l.lines)
