-- The creations of transitions.
use Rattle.std.proofs.Common.{◌≡◌, ◌≤◌, ℕ, List, length, refl, subst, arith}
use Rattle.std.specs.Prelude.{Option, Some, None, All, slice_get, unwrap_or}
use Rattle.std.proofs.lemmas.Option.{slice_get_within, get_or_from_slice_get}
use Rattle.rn_model.specs.declared.system.System.{System}
use Rattle.rn_model.specs.declared.system.Net.{Net}
use Rattle.rn_model.specs.declared.system.Transition.{Transition}
use Rattle.rn_model.specs.Systems.{empty_net, empty_transition}
use Rattle.rn_growing.specs.declared.decision.Head.{Head}
use Rattle.rn_growing.specs.Decisions.{transition_in}
use Rattle.rn_growing.specs.Following.{GoodHaveFewCreations}
use Rattle.rn_growing.specs.Grown.{HasFewCreations}

there_of : {A : Type 0} (P : A → Type 0) (xs : List A) (k : ℕ) (x : A) → All P xs →
    slice_get xs k ≡ Some x → P x
there_of P xs k x all at =
    subst P (get_or_from_slice_get xs k x x at) (all k x (slice_get_within xs k x at))

abbrev IsFew : Transition → Type 0
IsFew t = length t.creations ≤ 256

few_at : (o : Option Transition) → ((t : Transition) → o ≡ Some t → IsFew t) →
    IsFew (unwrap_or o empty_transition)
few_at None few = omega arith
few_at (Some t) few = few t refl

few_of : (o : Option Net) (t : ℕ) →
    ((net : Net) → o ≡ Some net → All IsFew net.transitions) →
    IsFew (unwrap_or (slice_get (unwrap_or o empty_net).transitions t) empty_transition)
few_of None t few = omega arith
few_of (Some net) t few = few_at (slice_get net.transitions t)
    (λ x at. there_of IsFew net.transitions t x (few net refl) at)

-- the transition of a node has few creations
pub few_in_node : (system : System) (head : Head) → HasFewCreations system →
    length (transition_in system head).creations ≤ 256
few_in_node system head few = few_of (slice_get system.nets head.net) head.transition
    (λ net at. there_of (λ n. All IsFew n.transitions) system.nets head.net net few at)

pub good_have_few_creations : GoodHaveFewCreations
good_have_few_creations system good n net_default n_within t t_default t_within =
    let net = good.nets n net_default n_within in
    let transition = net.transitions t t_default t_within in
    let many = transition.many in
    omega (arith, many)
