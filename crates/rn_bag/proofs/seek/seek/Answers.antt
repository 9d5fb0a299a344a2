use Rattle.std.proofs.Common.{◌+◌, ◌-◌, sym, subst, length, take, drop, ap, ◌≡◌, arith}
use Rattle.rn_bag.specs.Cuts.{AllBefore, NoneBefore, Ascends}
use Rattle.rn_bag.specs.link.Chunks.{Slots, values_in}
use Rattle.rn_bag.proofs.SlotIndexLemmas.{chunk_ascends, seek_before, seek_rest, end_before, end_rest}
use Rattle.rn_bag.proofs.seek.seek.Goals as goal

pub slot_of-slot-requires : goal.slot_of-slot-requires
slot_of-slot-requires c = subst Ascends (sym c.values.ensures.value) (chunk_ascends c.args.chunks.now c.chunk_of-chunk.result c.at.result c.requires (omega arith) c.at.ensures.chunk)

pub returns-then-chunk-len-clause-before : goal.returns-then-chunk-len-clause-before
returns-then-chunk-len-clause-before c =
    seek_before c.args.cut c.args.key.now c.args.chunks.now c.chunk_of-chunk.result c.slot_of-slot.result c.at.result (omega arith) c.at.ensures.chunk c.chunk_of-chunk.ensures.before
    (subst (λ xs. AllBefore c.args.cut c.args.key.now (take c.slot_of-slot.result xs)) c.values.ensures.value c.slot_of-slot.ensures.before)

pub returns-then-chunk-len-clause-rest : goal.returns-then-chunk-len-clause-rest
returns-then-chunk-len-clause-rest c =
    seek_rest c.args.cut c.args.key.now c.args.chunks.now c.chunk_of-chunk.result c.slot_of-slot.result c.at.result c.requires (omega arith) c.at.ensures.chunk
    (omega (arith, ap length c.values.ensures.value, c.slot_of-slot.ensures.bound))
    (subst (λ xs. AllBefore c.args.cut c.args.key.now (take c.slot_of-slot.result xs)) c.values.ensures.value c.slot_of-slot.ensures.before)
    (subst (λ xs. NoneBefore c.args.cut c.args.key.now (drop c.slot_of-slot.result xs)) c.values.ensures.value c.slot_of-slot.ensures.rest)
    (subst (λ (x : Slots). AllBefore c.args.cut c.args.key.now x.values → ⊥) (sym c.at.ensures.chunk) (c.chunk_of-chunk.ensures.rest c.at.result (omega arith)))

pub returns-clause-before : goal.returns-clause-before
returns-clause-before c =
    let last : c.chunk_of-chunk.result ≡ c.chunk_of-chunk.result - 1 + 1 = omega arith in
    end_before c.args.cut c.args.key.now c.args.chunks.now (c.chunk_of-chunk.result - 1) (length c.values-2.result.now) c.at-2.result (omega arith) c.at-2.ensures.chunk (ap length c.values-2.ensures.value)
    (subst (λ i. AllBefore c.args.cut c.args.key.now (values_in (take i c.args.chunks.now))) last c.chunk_of-chunk.ensures.before)

pub returns-clause-rest : goal.returns-clause-rest
returns-clause-rest c =
    end_rest c.args.cut c.args.key.now c.args.chunks.now (c.chunk_of-chunk.result - 1) (length c.values-2.result.now) c.at-2.result (omega arith) c.at-2.ensures.chunk (ap length c.values-2.ensures.value)
