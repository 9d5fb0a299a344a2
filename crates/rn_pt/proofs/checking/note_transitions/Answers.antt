use Rattle.std.proofs.Common.{◌∙◌, ap, sym, map}
use Rattle.std.proofs.lemmas.List.{take_all}
use Rattle.std.specs.Prelude.{flat_map}
use Rattle.rn_pt.specs.Faults.{first_from, past_limit}
use Rattle.rn_pt.specs.Rules.{arc_broken, transition_broken}
use Rattle.rn_pt.proofs.NotedLemmas.{first_from-append, noted_more}
use Rattle.rn_weighted.specs.Limits.{most_arcs}
use Rattle.rn_pt.specs.declared.plain.PtArc.{PtArc}
use Rattle.rn_pt.proofs.checking.note_transitions.Goals as goal

pub loop-transition-preserved : goal.loop-transition-preserved
loop-transition-preserved c = λ names found.
    let xs = c.args.transitions.now in
    let x = c.transition-item.result in
    let past = past_limit most_arcs (map (λ (arc : PtArc). arc.word.spot) x.arcs) in
    let known = c.loop-transition.first.broken in
    c.note_past_arc.ensures
    ∙ ap (λ k. first_from k (past_limit most_arcs (map (λ (arc : PtArc). arc.word.spot) c.as_slice-arcs.result.now))) (c.note_arcs.ensures names found)
    ∙ ap (λ es. first_from (first_from known (flat_map (arc_broken names) es)) (past_limit most_arcs (map (λ (arc : PtArc). arc.word.spot) es))) c.as_slice-arcs.ensures
    ∙ sym (first_from-append (flat_map (arc_broken names) x.arcs) past known)
    ∙ ap (λ k. first_from k (transition_broken names x)) (c.loop-transition.invariant names found)
    ∙ noted_more (transition_broken names) xs c.loop-transition.transition-index x c.args.first.now.broken c.loop-transition-test.true c.transition-item.is

pub returns : goal.returns
returns c = λ names found.
    c.loop-transition.invariant names found
    ∙ ap (λ ys. first_from c.args.first.now.broken (flat_map (transition_broken names) ys))
    (take_all c.loop-transition.transition-index c.args.transitions.now c.loop-transition-test.false)
