-- The net and the transition of a node are there where they are looked up.
use Rattle.std.proofs.Common.{◌≡◌, ℕ, ◌<◌, length, sym, subst}
use Rattle.rn_model.specs.declared.system.System.{System}
use Rattle.rn_model.specs.Systems.{net_at}
use Rattle.rn_growing.specs.declared.decision.Head.{Head}
use Rattle.rn_search.specs.Standing.{IsHead}

pub net_is_there : (s system : System) (h head : Head) (depth : ℕ) → system ≡ s → head ≡ h →
    IsHead s depth h → head.net < length system.nets
net_is_there s system h head depth same is on =
    subst (λ z. head.net < length z.nets) (sym same)
    (subst (λ z. z.net < length s.nets) (sym is) on.net)

pub transition_is_there : (s system : System) (h head : Head) (depth : ℕ) → system ≡ s →
    head ≡ h → IsHead s depth h →
    head.transition < length (net_at system head.net).transitions
transition_is_there s system h head depth same is on =
    subst (λ z. head.transition < length (net_at z head.net).transitions) (sym same)
    (subst (λ z. z.transition < length (net_at s z.net).transitions) (sym is) on.transition)
