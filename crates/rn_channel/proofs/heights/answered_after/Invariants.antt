use Rattle.std.proofs.Common.{◌≡◌, ◌<◌, ◌||◌, ℕ, drop, false, length}
use Rattle.std.specs.Prelude.{slice_index_or}
use Rattle.std.specs.List.{list_any}
use Rattle.rn_channel.specs.Heights.{net_answers, calls_answered}
use Rattle.rn_channel.proofs.heights.answered_after.Given as goal

abbrev pub invariant-loop-net : goal.invariant-loop-net
invariant-loop-net l = record {
  same : length l.next.items ≡ length l.answered;
  noted : (c : ℕ) → c < length l.answered →
      slice_index_or l.next.items c false
      || list_any (net_answers (calls_answered (λ d. slice_index_or l.answered d false)) c)
      (drop l.net-index l.nets)
      ≡ list_any (net_answers (calls_answered (λ d. slice_index_or l.answered d false)) c) l.nets;
}
