-- Looks at the inhibitor arcs of a node.
use Rattle.std.proofs.Common.{◌≡◌, ℕ, subst}
use Rattle.std.specs.Prelude.{Some, Contains, slice_get}
use Rattle.rn_choices.specs.declared.next.Next.TheVariants.{Stuck}
use Rattle.rn_value.specs.declared.value.Value.{Value}
use Rattle.rn_model.specs.declared.system.ArcKind.TheVariants.{Inhibit}
use Rattle.rn_model.specs.declared.system.NetArc.{NetArc}
use Rattle.rn_model.specs.declared.system.Transition.{Transition}
use Rattle.rn_growing.specs.declared.decision.Head.{Head}
use Rattle.rn_growing.specs.Grown.{Grown}
use Rattle.rn_growing.proofs.Growth.{at_in}
use Rattle.rn_search.specs.Missing.{IsKnown}
use Rattle.rn_search.specs.Points.{first_token, node_of, tokens_of}
use Rattle.rn_search.specs.Sought.{Sought}
use Rattle.rn_search.proofs.Alternatives.{first_is}
use Rattle.rn_search.proofs.Offered.{known_inhibitors_hold}
use Rattle.rn_looking.specs.Branches.{IsLookedAt}
use Rattle.rn_looking.specs.Forced.{IsKnownValue}
use Rattle.rn_looking.specs.Looks.{GoesOn}
use Rattle.rn_looking.proofs.LookedAt.{some, node_is, entered, known_by, vars_searched}
use Rattle.rn_looking.proofs.VarsOfForms.{inhibitor_searched}

-- Where the token of one is known, and its place holds that, nothing leads on.
pub held_is_stuck : (sought : Sought) (g : Grown) (node : ℕ) (head : Head) (t : Transition) →
    IsLookedAt sought g node head t → (k : ℕ) (x : NetArc) (v : Value) (from : ℕ) →
    slice_get t.arcs k ≡ Some x → x.kind ≡ Inhibit → IsKnownValue g head x.inscription v →
    first_token (tokens_of sought (node_of sought g.decisions node) k) from ≡ Some v →
    GoesOn sought g.decisions Stuck
held_is_stuck sought g node head t looked k x v from at kind (env, knows, is) first b leads =
    let itself = node_is sought g node head t looked in
    let known : IsKnown sought.system g.decisions head x.inscription env =
    subst (λ h. IsKnown sought.system g.decisions h x.inscription env) itself
    (known_by sought g node head t looked x.inscription env
    (vars_searched sought g node head t looked x.inscription
    (inhibitor_searched t x (at_in t.arcs k x at) kind)) knows) in
    let held : Contains (tokens_of sought head k) v =
    subst (λ h. Contains (tokens_of sought h k) v) itself
    (at_in (tokens_of sought (node_of sought g.decisions node) k) from v
    (first_is (tokens_of sought (node_of sought g.decisions node) k) from v first).0) in
    known_inhibitors_hold sought g.decisions b head k x v env leads looked.branch.sound.turns
    (some sought g node head t looked) (entered sought g node head t looked)
    (subst (λ u. slice_get u.arcs k ≡ Some x) looked.transition at) kind known is held
