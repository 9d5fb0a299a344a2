-- What is reported of the parts of a kind.
use Rattle.std.proofs.Common.{◌∙◌, ap, map}
use Rattle.std.proofs.lemmas.List.{take_all}
use Rattle.std.specs.Prelude.{flat_map}
use Rattle.rn_model.specs.Limits.{most_parts}
use Rattle.rn_declared.specs.Faults.{first_from, past_limit}
use Rattle.rn_declared.specs.Declarations.{kind_part}
use Rattle.rn_declared.proofs.ToldLemmas.{told_more, parts_told, kind_spot}
use Rattle.rn_declared.proofs.kinds.+kind.Goals as goal

pub see_kinds-loop-kind-preserved : goal.see_kinds-loop-kind-preserved
see_kinds-loop-kind-preserved t c =
    c.see_kind.ensures
    ∙ ap (λ k. first_from k (kind_part c.kind-item.result).faults) c.loop-kind.invariant
    ∙ told_more (λ kind. (kind_part kind).faults) c.args.kinds.now c.loop-kind.kind-index
    c.kind-item.result c.args.first.now.fault c.loop-kind-test.true c.kind-item.is

pub see_kinds-returns : goal.see_kinds-returns
see_kinds-returns t c =
    let past = past_limit most_parts (map (λ k. k.spot) c.args.kinds.now) in
    c.tell_past.ensures
    ∙ ap (λ k. first_from k past)
    (c.loop-kind.invariant
    ∙ ap (λ ks. first_from c.args.first.now.fault (flat_map (λ kind. (kind_part kind).faults) ks))
    (take_all c.loop-kind.kind-index c.args.kinds.now c.loop-kind-test.false))
    ∙ parts_told kind_part (λ k. k.spot) kind_spot c.args.kinds.now c.args.first.now.fault
