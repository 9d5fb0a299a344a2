-- The child is a node of the binding.
use Rattle.std.proofs.lemmas.List.Elements.{All-contains}
use Rattle.rn_agree.specs.link.Agreeing.{IsFitNode}
use Rattle.rn_agree.proofs.calls.call_agrees_at.Goals as goal

pub call_agrees-requires-clause-child_fit : goal.call_agrees-requires-clause-child_fit
call_agrees-requires-clause-child_fit c =
    All-contains (IsFitNode c.args.system.now) c.args.binding.now.nodes c.in-Some.child.now
    c.requires.fit c.in-Some.ensures.there
