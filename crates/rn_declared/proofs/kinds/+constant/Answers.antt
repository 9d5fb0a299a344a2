-- What is reported of the parts of a constant.
use Rattle.std.proofs.Common.{◌∙◌, ap, sym, map}
use Rattle.std.proofs.lemmas.List.{take_all}
use Rattle.std.proofs.lemmas.List.Folds.{flat_map-map}
use Rattle.std.specs.Prelude.{flat_map}
use Rattle.rn_model.specs.Limits.{most_parts}
use Rattle.rn_declared.specs.Faults.{first_from, past_limit}
use Rattle.rn_declared.specs.Declarations.{const_part}
use Rattle.rn_declared.proofs.ToldLemmas.{told_more, parts_told, const_spot}
use Rattle.rn_declared.proofs.kinds.+constant.Goals as goal

pub see_const_parts-loop-part-preserved : goal.see_const_parts-loop-part-preserved
see_const_parts-loop-part-preserved t c =
    c.see_const.ensures
    ∙ ap (λ k. first_from k (const_part c.part-item.result).faults) c.loop-part.invariant
    ∙ told_more (λ part. (const_part part).faults) c.args.parts.now c.loop-part.part-index
    c.part-item.result c.args.first.now.fault c.loop-part-test.true c.part-item.is

pub see_const_parts-returns : goal.see_const_parts-returns
see_const_parts-returns t c =
    let past = past_limit most_parts (map (λ k. k.spot) c.args.parts.now) in
    c.tell_past.ensures
    ∙ ap (λ k. first_from k past)
    (c.loop-part.invariant
    ∙ ap (λ ks. first_from c.args.first.now.fault (flat_map (λ part. (const_part part).faults) ks))
    (take_all c.loop-part.part-index c.args.parts.now c.loop-part-test.false))
    ∙ parts_told const_part (λ k. k.spot) const_spot c.args.parts.now c.args.first.now.fault

pub see_consts-loop-part-preserved : goal.see_consts-loop-part-preserved
see_consts-loop-part-preserved t c =
    c.see_const.ensures
    ∙ ap (λ k. first_from k (const_part c.part-item.result).faults) c.loop-part.invariant
    ∙ told_more (λ part. (const_part part).faults) c.args.parts.now c.loop-part.part-index
    c.part-item.result c.args.first.now.fault c.loop-part-test.true c.part-item.is

pub see_consts-returns : goal.see_consts-returns
see_consts-returns t c =
    c.loop-part.invariant
    ∙ ap (λ ks. first_from c.args.first.now.fault (flat_map (λ part. (const_part part).faults) ks))
    (take_all c.loop-part.part-index c.args.parts.now c.loop-part-test.false)
    ∙ ap (first_from c.args.first.now.fault) (sym (flat_map-map (λ p. p.faults) const_part c.args.parts.now))
