-- By the node on the path without its last number.
use Rattle.std.proofs.Common.{◌∙◌, sym, ap, length}
use Rattle.rn_agree.proofs.LinkLemmas.{called_from, called_by_none}
use Rattle.rn_agree.proofs.links.has_caller.Goals as goal

pub returns-in-Some-node_on : goal.returns-in-Some-node_on
returns-in-Some-node_on c =
    called_from c.args.system.now c.args.binding.now c.args.node.now c.in-Some.front.now
    c.in-Some.last.now c.requires.ascending
    (sym c.as_slice.ensures ∙ c.in-Some.ensures.cases.0)
    c.in-Some-node_on.caller.now c.len.result (sym c.in-Some-node_on.ensures.node)
    (c.len.ensures ∙ ap (λ t. length t.downlinks) c.transition_of.ensures)

pub returns-in-None : goal.returns-in-None
returns-in-None c = (
  λ no. absurd (let no : ⊥ = cc in no),
  λ has. absurd
      (called_by_none c.args.system.now c.args.binding.now c.args.node.now c.in-Some.front.now
      c.in-Some.last.now c.requires.ascending
      (sym c.as_slice.ensures ∙ c.in-Some.ensures.cases.0) (sym c.in-None.ensures.node) has),
)
