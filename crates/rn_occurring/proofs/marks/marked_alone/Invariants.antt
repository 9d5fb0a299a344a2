-- The numbers so far that are marked there and not here.
use Rattle.std.proofs.Common.{◌≡◌, ◌&&◌, not, false, get_or}
use Rattle.std.specs.Prelude.{filter}
use Rattle.std.specs.List.{range_with_len}
use Rattle.rn_occurring.proofs.marks.marked_alone.Given as goal

abbrev pub invariant-loop-x : goal.invariant-loop-x
invariant-loop-x l =
    l.made.items
    ≡ filter (λ x. get_or l.marks x false && not (get_or l.here x false)) (range_with_len 0 l.x)
