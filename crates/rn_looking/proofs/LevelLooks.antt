-- Where a node's calls need more levels than are left, nothing leads on.
use Rattle.std.proofs.Common.{◌≡◌, ◌∙◌, ◌-◌, ℕ, false, length, sym}
use Rattle.std.proofs.lemmas.Bool.{true≢false}
use Rattle.rn_choices.specs.declared.next.Next.TheVariants.{Stuck}
use Rattle.rn_model.specs.declared.system.Transition.{Transition}
use Rattle.rn_channel.specs.Heights.{suffices}
use Rattle.rn_growing.specs.declared.decision.Head.{Head}
use Rattle.rn_growing.specs.declared.decision.Decision.TheVariants.{Entered}
use Rattle.rn_growing.specs.Decisions.{transition_in}
use Rattle.rn_growing.specs.Grown.{Grown}
use Rattle.rn_growing.proofs.Growth.{at_in}
use Rattle.rn_search.specs.Missing.{NodesHaveRoom}
use Rattle.rn_search.specs.Sought.{Sought}
use Rattle.rn_search.specs.Standing.{IsHead}
use Rattle.rn_looking.specs.Branches.{IsLookedAt}
use Rattle.rn_looking.specs.Looks.{GoesOn}
use Rattle.rn_looking.proofs.LookedAt.{entered}

-- the node is of a transition of the system
pub looked_head : (sought : Sought) (g : Grown) (node : ℕ) (head : Head) (t : Transition) →
    IsLookedAt sought g node head t → IsHead sought.system sought.depth head
looked_head sought g node head t at =
    let d = Entered head at.caller in
    at.branch.sound.heads d (at_in g.decisions node d at.at)

pub too_few_is_stuck : (sought : Sought) (g : Grown) (node : ℕ) (head : Head) (t : Transition) →
    NodesHaveRoom → IsLookedAt sought g node head t →
    suffices sought.system (sought.depth - length head.path) (transition_in sought.system head)
    ≡ false → GoesOn sought g.decisions Stuck
too_few_is_stuck sought g node head t rooms at few b leads =
    let room = rooms sought g.decisions b head at.good leads (entered sought g node head t at) in
    true≢false (sym room.1 ∙ few)
