use Rattle.std.proofs.Common.{◌≡◌, drop, false}
use Rattle.std.specs.Prelude.{slice_index_or}
use Rattle.std.specs.List.{list_all}
use Rattle.rn_channel.proofs.heights.calls_answered.Given as goal

abbrev pub invariant-loop-call : goal.invariant-loop-call
invariant-loop-call l =
    list_all (λ call. slice_index_or l.answered call.channel false) (drop l.call-index l.transition.downlinks)
    ≡ list_all (λ call. slice_index_or l.answered call.channel false) l.transition.downlinks
