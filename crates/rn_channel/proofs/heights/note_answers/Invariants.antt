use Rattle.std.proofs.Common.{◌≡◌, ◌<◌, ◌||◌, ℕ, drop, false, length}
use Rattle.std.specs.Prelude.{slice_index_or, ◌&&◌}
use Rattle.std.specs.List.{list_any}
use Rattle.rn_channel.specs.Answering.{is_of}
use Rattle.rn_channel.specs.Heights.{calls_answered}
use Rattle.rn_channel.proofs.heights.note_answers.Given as goal

-- what is noted, and what the transitions left will note
abbrev pub invariant-loop-transition : goal.invariant-loop-transition
invariant-loop-transition l = record {
  same : length l.next ≡ length l.initial.next;
  noted : (c : ℕ) → c < length l.initial.next →
      slice_index_or l.next c false
      || list_any
      (λ t. is_of c t.uplink && calls_answered (λ d. slice_index_or l.answered d false) t)
      (drop l.transition-index l.net.transitions)
      ≡ slice_index_or l.initial.next c false
      || list_any
      (λ t. is_of c t.uplink && calls_answered (λ d. slice_index_or l.answered d false) t)
      l.net.transitions;
}
