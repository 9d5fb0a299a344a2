use Rattle.std.proofs.Common.{take, sym, ap, refl, ◌∙◌, subst, arith}
use Rattle.std.proofs.lemmas.List.{take-set}
use Rattle.rn_bag.specs.Cuts.{Ascends}
use Rattle.rn_bag.specs.link.Chunks.{Slots, tokens_in, tokens_in_chunk, values_in}
use Rattle.rn_bag.proofs.EditLemmas.{cleared, same_values, dropped, dropped_ascends, nothing}
use Rattle.rn_bag.proofs.edits.clear_slot.Goals as goal

pub returns-else-count-eq0-clause-tokens : goal.returns-else-count-eq0-clause-tokens
returns-else-count-eq0-clause-tokens c =
    ap tokens_in (c.set_there.ensures c.at.result c.at.ensures.chunk)
    ∙ cleared c.args.chunks.now c.args.at.chunk c.args.at.slot c.at.result _ c.requires.chunk c.at.ensures.chunk c.without_slot-there.ensures.tokens

pub returns-else-count-eq0-clause-ascend : goal.returns-else-count-eq0-clause-ascend
returns-else-count-eq0-clause-ascend c =
    subst Ascends (sym (ap values_in (c.set_there.ensures c.at.result c.at.ensures.chunk) ∙ same_values c.args.chunks.now c.args.at.chunk c.at.result _ c.requires.chunk c.at.ensures.chunk refl)) c.requires.ascend

pub returns-else-count-eq0-clause-prefix : goal.returns-else-count-eq0-clause-prefix
returns-else-count-eq0-clause-prefix c =
    ap (take c.args.at.chunk) (c.set_there.ensures c.at.result c.at.ensures.chunk) ∙ take-set c.args.chunks.now c.args.at.chunk _

pub returns-then-count-eq0-clause-tokens : goal.returns-then-count-eq0-clause-tokens
returns-then-count-eq0-clause-tokens c =
    let y : Slots = record { values = c.at.result.values; there = c.without_slot-there.result.0; before = c.at.result.before } in
    ap tokens_in c.remove.ensures
    ∙ dropped c.args.chunks.now c.args.at.chunk y c.requires.chunk (nothing (tokens_in_chunk y) (omega (arith, c.without_slot-there.ensures.chunk.counted, c.if-count-eq0.true)))
    ∙ cleared c.args.chunks.now c.args.at.chunk c.args.at.slot c.at.result y c.requires.chunk c.at.ensures.chunk c.without_slot-there.ensures.tokens

pub returns-then-count-eq0-clause-ascend : goal.returns-then-count-eq0-clause-ascend
returns-then-count-eq0-clause-ascend c =
    let y : Slots = record { values = c.at.result.values; there = c.without_slot-there.result.0; before = c.at.result.before } in
    subst (λ r. Ascends (values_in r)) (sym c.remove.ensures)
    (dropped_ascends c.args.chunks.now c.args.at.chunk y c.requires.chunk
    (subst Ascends (sym (same_values c.args.chunks.now c.args.at.chunk c.at.result y c.requires.chunk c.at.ensures.chunk refl)) c.requires.ascend))
