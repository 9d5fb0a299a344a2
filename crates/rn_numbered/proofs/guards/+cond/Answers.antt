-- One more list of a condition, and all of them.
use Rattle.std.proofs.Common.{◌∙◌, ap, map}
use Rattle.std.proofs.lemmas.List.{take_all}
use Rattle.rn_numbered.specs.Numbered.{number_in}
use Rattle.rn_numbered.specs.link.Parts.{simple_of}
use Rattle.rn_numbered.proofs.GuardLemmas.{numbered_more, numbered_cond}
use Rattle.rn_numbered.proofs.guards.+cond.Goals as goal

pub cond_of-loop-simples-preserved : goal.cond_of-loop-simples-preserved
cond_of-loop-simples-preserved t c =
    numbered_more (number_in c.args.vars.now) c.as_slice-simples-items.result.now
    c.loop-simples.simples-index c.simples-item.result c.loop-simples.any.items
    c.in_ok-simples_of.field-0 c.push.new.self.items
    c.loop-simples-test.true c.simples-item.is c.loop-simples.invariant
    (c.in_ok-simples_of.ensures ∙ ap (λ xs. map (λ numbered. numbered (number_in c.args.vars.now)) (map simple_of xs)) c.as_slice.ensures)
    c.in_ok-push.ensures.items

pub cond_of-returns : goal.cond_of-returns
cond_of-returns t c =
    numbered_cond (number_in c.args.vars.now) c.args.cond.now c.from_vec.result
    (c.from_vec.ensures ∙ c.loop-simples.invariant
    ∙ ap (λ xs. map (map (λ numbered. numbered (number_in c.args.vars.now))) (map (map simple_of) xs))
    (take_all c.loop-simples.simples-index c.as_slice-simples-items.result.now c.loop-simples-test.false
    ∙ c.as_slice-simples-items.ensures))
