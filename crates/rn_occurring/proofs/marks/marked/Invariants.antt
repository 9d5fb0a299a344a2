-- The numbers so far that are marked.
use Rattle.std.proofs.Common.{◌≡◌, false, get_or}
use Rattle.std.specs.Prelude.{filter}
use Rattle.std.specs.List.{range_with_len}
use Rattle.rn_occurring.proofs.marks.marked.Given as goal

abbrev pub invariant-loop-x : goal.invariant-loop-x
invariant-loop-x l = l.made.items ≡ filter (λ x. get_or l.marks x false) (range_with_len 0 l.x)
