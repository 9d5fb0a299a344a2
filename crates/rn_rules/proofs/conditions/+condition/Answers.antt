-- What is reported of the lists of a condition.
use Rattle.std.proofs.Common.{◌∙◌, ap, sym}
use Rattle.std.proofs.lemmas.List.{take_all}
use Rattle.std.specs.Prelude.{flat_map}
use Rattle.rn_declared.specs.Faults.{first_from}
use Rattle.rn_rules.specs.Conditions.{simple_seen}
use Rattle.rn_rules.specs.link.Sights.{where_of}
use Rattle.rn_declared.proofs.ToldLemmas.{told_more}
use Rattle.rn_rules.proofs.ConditionLemmas.{condition_seen}
use Rattle.rn_rules.proofs.conditions.+condition.Goals as goal

pub see_condition-loop-simple-preserved : goal.see_condition-loop-simple-preserved
see_condition-loop-simple-preserved g t c =
    let place = where_of c.args.here.now in
    c.in_ok-see_simple.ensures
    ∙ ap (λ k. first_from k (simple_seen c.simple-item.result place)) c.loop-simple.invariant
    ∙ told_more (λ simple. simple_seen simple place) c.as_slice-simple-items.result.now
    c.loop-simple.simple-index c.simple-item.result c.loop-simples.first.fault c.loop-simple-test.true
    c.simple-item.is

pub see_condition-loop-simples-preserved : goal.see_condition-loop-simples-preserved
see_condition-loop-simples-preserved g t c =
    let place = where_of c.args.here.now in
    c.loop-simple.invariant
    ∙ ap (λ xs. first_from c.loop-simples.first.fault (flat_map (λ simple. simple_seen simple place) xs))
    (take_all c.loop-simple.simple-index c.as_slice-simple-items.result.now c.loop-simple-test.false
    ∙ c.as_slice-simple-items.ensures)
    ∙ ap (λ k. first_from k (flat_map (λ simple. simple_seen simple place) c.simples-item.result)) c.loop-simples.invariant
    ∙ told_more (λ simples. flat_map (λ simple. simple_seen simple place) simples)
    c.as_slice-simples-items.result.now c.loop-simples.simples-index c.simples-item.result
    c.args.first.now.fault c.loop-simples-test.true c.simples-item.is

pub see_condition-returns : goal.see_condition-returns
see_condition-returns g t c =
    let place = where_of c.args.here.now in
    c.loop-simples.invariant
    ∙ ap (λ xs. first_from c.args.first.now.fault (flat_map (λ simples. flat_map (λ simple. simple_seen simple place) simples) xs))
    (take_all c.loop-simples.simples-index c.as_slice-simples-items.result.now c.loop-simples-test.false
    ∙ c.as_slice-simples-items.ensures)
    ∙ ap (first_from c.args.first.now.fault) (sym (condition_seen c.args.cond.now place))
