-- The derived `partial_cmp` of nodes answers as `node_cmp`, which so is a total order. The same of
-- bindings and `binding_cmp`.
use Rattle.std.proofs.Common.{◌≡◌, refl}
use Rattle.std.specs.Prelude.{Option, Some}
use Rattle.std.specs.Ordering.{nat_cmp, ordering_then, partial_ordering_then}
use Rattle.std.specs.Ordering.{is_eq}
use Rattle.std.specs.Cmp.{IsTotalOrder, Some-then}
use Rattle.std.specs.Cmp as laws_of
use Rattle.std.specs.declared.cmp.Ordering.{Ordering}
use Rattle.std.specs.Cmp.Lexicographic.{slice_cmp, lists_agrees}
use Rattle.rn_value.specs.Order.{inst_cmp}
use Rattle.rn_value.specs.link.OrderLaws.{numbers_alike, inst_alike, alike}
use Rattle.rn_model.specs.declared.binding.Binding.{Binding}
use Rattle.rn_model.specs.declared.binding.Node.{Node}
use Rattle.rn_model.specs.contracts.binding.NodePartialEq.TheImpl as derived_eq
use Rattle.rn_model.specs.contracts.binding.NodePartialOrd.TheImpl as derived
use Rattle.rn_model.specs.contracts.binding.NodePartialOrd.TheImpl.Laws as laws
use Rattle.rn_model.specs.contracts.binding.BindingPartialEq.TheImpl as derived_binding_eq
use Rattle.rn_model.specs.contracts.binding.BindingPartialOrd.TheImpl as derived_binding
use Rattle.rn_model.specs.contracts.binding.BindingPartialOrd.TheImpl.Laws as binding_laws
use Rattle.rn_model.specs.Order.{node_cmp, binding_cmp}

then_alike : (c d : Option Ordering) (a b : Ordering) → c ≡ Some a → d ≡ Some b →
    partial_ordering_then c d ≡ Some (ordering_then a b)
then_alike c d a b e f = rw (e, f) (Some-then a b)

pub node_alike : (x y : Node) → derived.ghosts.partial_cmp x y ≡ Some (node_cmp x y)
node_alike x y =
    then_alike _ _ (slice_cmp nat_cmp x.path y.path) _ (numbers_alike x.path y.path)
    (then_alike _ _ (inst_cmp x.inst y.inst) _ (inst_alike x.inst y.inst)
    (then_alike _ _ (nat_cmp x.net y.net) _ refl
    (then_alike _ _ (nat_cmp x.transition y.transition) _ refl
    (lists_agrees alike x.values y.values))))

pub node_cmp-total : IsTotalOrder node_cmp
node_cmp-total = laws_of.total laws.laws-law node_alike

pub node_cmp-ties : (x y : Node) → derived_eq.ghosts.eq x y ≡ is_eq (node_cmp x y)
node_cmp-ties = laws_of.ties laws.laws-law node_alike

pub binding_alike : (a b : Binding) →
    derived_binding.ghosts.partial_cmp a b ≡ Some (binding_cmp a b)
binding_alike a b = lists_agrees node_alike a.nodes b.nodes

pub binding_cmp-total : IsTotalOrder binding_cmp
binding_cmp-total = laws_of.total binding_laws.laws-law binding_alike

pub binding_cmp-ties : (a b : Binding) →
    derived_binding_eq.ghosts.eq a b ≡ is_eq (binding_cmp a b)
binding_cmp-ties = laws_of.ties binding_laws.laws-law binding_alike
