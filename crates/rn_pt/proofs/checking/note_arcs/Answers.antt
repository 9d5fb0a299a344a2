use Rattle.std.proofs.Common.{◌∙◌, ap}
use Rattle.std.proofs.lemmas.List.{take_all}
use Rattle.std.specs.Prelude.{flat_map}
use Rattle.rn_pt.specs.Faults.{first_from}
use Rattle.rn_pt.specs.Rules.{arc_broken}
use Rattle.rn_pt.proofs.NotedLemmas.{noted_more}
use Rattle.rn_pt.proofs.checking.note_arcs.Goals as goal

pub loop-arc-preserved : goal.loop-arc-preserved
loop-arc-preserved c = λ names found.
    let xs = c.args.arcs.now in
    let x = c.arc-item.result in
    c.note_arc.ensures names found
    ∙ ap (λ k. first_from k (arc_broken names x)) (c.loop-arc.invariant names found)
    ∙ noted_more (arc_broken names) xs c.loop-arc.arc-index x c.args.first.now.broken c.loop-arc-test.true c.arc-item.is

pub returns : goal.returns
returns c = λ names found.
    c.loop-arc.invariant names found
    ∙ ap (λ ys. first_from c.args.first.now.broken (flat_map (arc_broken names) ys))
    (take_all c.loop-arc.arc-index c.args.arcs.now c.loop-arc-test.false)
