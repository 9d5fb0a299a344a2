-- Only equal bindings are equal in the order of bindings.
use Rattle.std.proofs.Common.{◌≡◌, ℕ, List, [], ◌∷◌, refl, ap, subst}
use Rattle.std.specs.Prelude.{◌↔◌, IsTrue}
use Rattle.std.specs.Ordering.{nat_cmp, is_eq}
use Rattle.std.specs.Cmp.{Equal-is, tied_itself}
use Rattle.std.specs.Cmp.Lexicographic.{slice_cmp}
use Rattle.std.specs.declared.cmp.Ordering.{Ordering}
use Rattle.std.specs.declared.cmp.Ordering.TheVariants.{Equal}
use Rattle.std.proofs.lemmas.Map.Lookups.{exact_unsigned, exact_bytes}
use Rattle.rn_value.specs.Order.{inst_cmp, value_cmp, IsAntisymmetric}
use Rattle.rn_value.specs.link.OrderLaws.{then_equal, insts_apart, value_cmp-apart}
use Rattle.rn_value.specs.declared.value.InstRef.{InstRef}
use Rattle.rn_value.specs.declared.value.Value.{Value}
use Rattle.rn_model.specs.declared.binding.Node.{Node}
use Rattle.rn_model.specs.declared.binding.Binding.{Binding}
use Rattle.rn_model.specs.Order.{node_cmp, binding_cmp}
use Rattle.rn_model.specs.link.OrderLaws.{binding_cmp-total}

-- lists whose elements are told apart are told apart
lists_apart : {A : Type 0} (compare : A → A → Ordering) → IsAntisymmetric compare → IsAntisymmetric (slice_cmp compare)
lists_apart compare apart [] [] e = refl
lists_apart compare apart [] (y ∷ ys) e = cc
lists_apart compare apart (x ∷ xs) [] e = cc
lists_apart compare apart (x ∷ xs) (y ∷ ys) e =
    let both = then_equal (compare x y) (slice_cmp compare xs ys) e in
    let first : x ≡ y = apart x y both.0 in
    let rest : xs ≡ ys = lists_apart compare apart xs ys both.1 in
    cc

abbrev node_of : List ℕ → InstRef → ℕ → ℕ → List Value → Node
node_of path inst net transition values = record { path = path; inst = inst; net = net; transition = transition; values = values }

nodes_apart : IsAntisymmetric node_cmp
nodes_apart x y e =
    let by_path = then_equal (slice_cmp nat_cmp x.path y.path) _ e in
    let by_inst = then_equal (inst_cmp x.inst y.inst) _ by_path.1 in
    let by_net = then_equal (nat_cmp x.net y.net) _ by_inst.1 in
    let by_transition = then_equal (nat_cmp x.transition y.transition) _ by_net.1 in
    let paths : x.path ≡ y.path = exact_bytes x.path y.path by_path.0 in
    let insts : x.inst ≡ y.inst = insts_apart x.inst y.inst by_inst.0 in
    let nets : x.net ≡ y.net = exact_unsigned x.net y.net by_net.0 in
    let transitions : x.transition ≡ y.transition = exact_unsigned x.transition y.transition by_transition.0 in
    let values : x.values ≡ y.values = lists_apart value_cmp value_cmp-apart x.values y.values by_transition.1 in
    let same : node_of x.path x.inst x.net x.transition x.values ≡ node_of y.path y.inst y.net y.transition y.values = cc in
    same

-- bindings that compare as equal are equal
pub binding_cmp-apart : IsAntisymmetric binding_cmp
binding_cmp-apart a b e = ap (λ nodes. record { nodes = nodes }) (lists_apart node_cmp nodes_apart a.nodes b.nodes e)

pub ruleset order_laws = (binding_cmp-total, binding_cmp-apart)

-- bindings compare as equal exactly where they are
pub equal_iff_same : (a b : Binding) → IsTrue (is_eq (binding_cmp a b)) ↔ (a ≡ b)
equal_iff_same a b =
    (λ h. binding_cmp-apart a b ((Equal-is (binding_cmp a b)).0 h), λ e. (Equal-is (binding_cmp a b)).1 (subst (λ c. binding_cmp a c ≡ Equal) e (tied_itself binding_cmp-total a)))
