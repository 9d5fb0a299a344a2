use Rattle.std.proofs.Common.{◌≡◌, ◌<◌, ◌≤◌, ◌+◌, ℕ, List, length, min, sym, ap, subst}
use Rattle.std.proofs.Common.{take, ◌∙◌}
use Rattle.std.specs.Prelude.{true, false, slice_get}
use Rattle.std.specs.List.{slice_range}
use Rattle.rn_value.specs.declared.value.Value.{Value}
use Rattle.rn_bag.specs.link.Chunks.{Slots, HasRoom, tokens_in_chunk}
use Rattle.rn_bag.specs.Slots.{there_from}
use Rattle.rn_bag.specs.Words.{has_bit}
use Rattle.rn_bag.proofs.CountLemmas.{IsRun, run_bound, run_found, run_here, run_some}
use Rattle.rn_bag.proofs.chunk.Chunk.run_from.Goals as goal

-- from the slot that was found on, slots hold tokens up to the end
is_run : (x : Slots) (vs : List Value) (w s a e n : ℕ) → HasRoom x.values → vs ≡ x.values →
    w ≡ x.there → s < length x.values →
    length (there_from (has_bit x.there) 0 (take s x.values)) ≤ n →
    n < length (there_from (has_bit x.there) 0 (take (s + 1) x.values)) → s ≤ a →
    ((i : ℕ) → s ≤ i → i < a → has_bit w i ≡ true) → (a < 64 → has_bit w a ≡ false) →
    e ≡ min a (length vs) → IsRun (has_bit x.there) x.values s e n
is_run x vs w s a e n room all word within low high later present absent is =
    run_here (has_bit x.there) x.values s a e n within room.small low high later
    (λ i least most. subst (λ k. has_bit k i ≡ true) word (present i least most))
    (λ below. subst (λ k. has_bit k a ≡ false) word (absent below))
    (is ∙ ap (λ r. min a (length r)) all)

pub returns-clause-some : goal.returns-clause-some
returns-clause-some c =
    subst (λ (vs : List Value). 0 < length (slice_range vs c.slot_of-slot.result c.min-end.result))
    (sym c.values-values.ensures.value)
    (run_some (has_bit c.args.self.now.there) c.args.self.now.values c.slot_of-slot.result
    c.min-end.result c.args.index
    (is_run c.args.self.now c.values-values.result.now c.there.result c.slot_of-slot.result
    c.first_absent_from.result c.min-end.result c.args.index c.values-values.ensures.room
    c.values-values.ensures.value c.there.ensures c.slot_of-slot.ensures.inside
    c.slot_of-slot.ensures.before c.slot_of-slot.ensures.after c.first_absent_from.ensures.later
    c.first_absent_from.ensures.present c.first_absent_from.ensures.absent c.min-end.ensures))

pub returns-clause-bound : goal.returns-clause-bound
returns-clause-bound c =
    subst (λ (vs : List Value). c.args.index
    + length (slice_range vs c.slot_of-slot.result c.min-end.result) ≤ length (tokens_in_chunk c.args.self.now))
    (sym c.values-values.ensures.value)
    (run_bound (has_bit c.args.self.now.there) c.args.self.now.values c.slot_of-slot.result
    c.min-end.result c.args.index
    (is_run c.args.self.now c.values-values.result.now c.there.result c.slot_of-slot.result
    c.first_absent_from.result c.min-end.result c.args.index c.values-values.ensures.room
    c.values-values.ensures.value c.there.ensures c.slot_of-slot.ensures.inside
    c.slot_of-slot.ensures.before c.slot_of-slot.ensures.after c.first_absent_from.ensures.later
    c.first_absent_from.ensures.present c.first_absent_from.ensures.absent c.min-end.ensures))

pub returns-clause-tokens : goal.returns-clause-tokens
returns-clause-tokens c k =
    subst (λ (vs : List Value). k < length (slice_range vs c.slot_of-slot.result c.min-end.result) →
    slice_get (tokens_in_chunk c.args.self.now) (c.args.index + k)
    ≡ slice_get (slice_range vs c.slot_of-slot.result c.min-end.result) k)
    (sym c.values-values.ensures.value)
    (run_found (has_bit c.args.self.now.there) c.args.self.now.values c.slot_of-slot.result
    c.min-end.result c.args.index k
    (is_run c.args.self.now c.values-values.result.now c.there.result c.slot_of-slot.result
    c.first_absent_from.result c.min-end.result c.args.index c.values-values.ensures.room
    c.values-values.ensures.value c.there.ensures c.slot_of-slot.ensures.inside
    c.slot_of-slot.ensures.before c.slot_of-slot.ensures.after c.first_absent_from.ensures.later
    c.first_absent_from.ensures.present c.first_absent_from.ensures.absent c.min-end.ensures))
