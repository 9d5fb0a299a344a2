-- The order of bindings by the instances in which they start, and lists in order.
use Rattle.std.proofs.Common.{◌≡◌, ◌≢◌, ◌<◌, ◌+◌, ℕ, List, [], ◌∷◌, length, get_or}
use Rattle.std.proofs.Common.{false, refl, sym, ap, subst, ◌∙◌, arith}
use Rattle.std.specs.Prelude.{AllPairs}
use Rattle.std.specs.List.{AllAdjacentBelow}
use Rattle.std.specs.List.Sorted.{IsSorted}
use Rattle.std.specs.Cmp.{nat_cmp_is}
use Rattle.std.specs.Cmp.Lexicographic.{slice_cmp}
use Rattle.std.specs.Ordering.{nat_cmp, is_lt, ordering_reverse, ordering_then}
use Rattle.std.specs.declared.cmp.Ordering.{Ordering}
use Rattle.std.specs.declared.cmp.Ordering.TheVariants.{Less, Equal}
use Rattle.std.proofs.lemmas.List.Sorted.{ranks_by, sorted_far}
use Rattle.rn_value.specs.Order.{inst_cmp}
use Rattle.rn_value.specs.declared.value.InstRef.TheVariants.{Old}
use Rattle.rn_model.specs.declared.binding.Node.{Node}
use Rattle.rn_model.specs.declared.binding.Binding.{Binding}
use Rattle.rn_model.specs.declared.system.System.{System}
use Rattle.rn_model.specs.Enabling.{Enabled}
use Rattle.rn_model.specs.Markings.{Marking}
use Rattle.rn_model.specs.Order.{node_cmp, binding_cmp}
use Rattle.rn_model.specs.link.OrderLaws.{binding_cmp-total}
use Rattle.rn_finder.specs.Starting.{HasStartIn}
use Rattle.rn_finder.proofs.FirstBindings.{root_is_first}
use Rattle.rn_incr.proofs.StartLemmas.{starts_with}

-- where each is less than the next, each is another one
pub adjacent_apart : (xs : List Binding) →
    AllAdjacentBelow (λ b c. binding_cmp b c ≡ Less) xs (length xs) → AllPairs (λ b c. b ≢ c) xs
adjacent_apart xs up i j d less within same =
    let rising : IsSorted binding_cmp xs = λ k e low more.
    ap is_lt (binding_cmp-total.antisymm (get_or xs (k + 1) e) (get_or xs k e)
    ∙ ap ordering_reverse (up k e more)) in
    let next : binding_cmp (get_or xs i d) (get_or xs (i + 1) d) ≡ Less = up i d (omega (arith, less, within)) in
    let far = sorted_far (λ x y. is_lt (binding_cmp x y)) (ranks_by binding_cmp-total (λ x. x)) xs
    rising (i + 1) j d (omega (arith, less)) within in
    let back : is_lt (binding_cmp (get_or xs i d) (get_or xs (i + 1) d)) ≡ false
    = subst (λ b. is_lt (binding_cmp b (get_or xs (i + 1) d)) ≡ false) (sym same) far in
    let no : ⊥ = cc in
    no

then_less : (o p q : Ordering) → o ≡ Equal → p ≡ Less → ordering_then o (ordering_then p q) ≡ Less
then_less o p q tied less =
    subst (λ x. ordering_then x (ordering_then p q) ≡ Less) (sym tied)
    (subst (λ x. ordering_then x q ≡ Less) (sym less) refl)

nodes_less : (x y : Node) → x.path ≡ [] → y.path ≡ [] → inst_cmp x.inst y.inst ≡ Less → node_cmp x y ≡ Less
nodes_less x y one other less =
    then_less (slice_cmp nat_cmp x.path y.path) (inst_cmp x.inst y.inst) _
    (subst (λ p. slice_cmp nat_cmp p y.path ≡ Equal) (sym one)
    (subst (λ p. slice_cmp nat_cmp [] p ≡ Equal) (sym other) refl))
    less

lists_less : (xs ys : List Node) (x y : Node) (rest others : List Node) → xs ≡ x ∷ rest → ys ≡ y ∷ others →
    node_cmp x y ≡ Less → slice_cmp node_cmp xs ys ≡ Less
lists_less xs ys x y rest others one other less =
    subst (λ ns. slice_cmp node_cmp ns ys ≡ Less) (sym one)
    (subst (λ ns. slice_cmp node_cmp (x ∷ rest) ns ≡ Less) (sym other)
    (subst (λ o. ordering_then o (slice_cmp node_cmp rest others) ≡ Less) (sym less) refl))

-- of two enabled bindings the one that starts in an instance of a lower number is less
pub lower_is_less : (system : System) (m : Marking) (depth : ℕ) (b c : Binding) (n k : ℕ) →
    Enabled system m b depth → Enabled system m c depth → HasStartIn n b → HasStartIn k c → n < k →
    binding_cmp b c ≡ Less
lower_is_less system m depth b c n k first second one other low =
    let x = starts_with system m depth b n first one in
    let y = starts_with system m depth c k second other in
    let head = root_is_first b.nodes x.0 first.shape.ascending x.1 x.2 in
    let next = root_is_first c.nodes y.0 second.shape.ascending y.1 y.2 in
    let numbers : nat_cmp n k ≡ Less = sym (nat_cmp_is n k Less low) in
    let insts : inst_cmp x.0.inst y.0.inst ≡ Less
    = subst (λ i. inst_cmp i y.0.inst ≡ Less) (sym x.3)
    (subst (λ i. inst_cmp (Old n) i ≡ Less) (sym y.3) numbers) in
    lists_less b.nodes c.nodes x.0 y.0 head.0 next.0 head.1 next.1 (nodes_less x.0 y.0 x.2 y.2 insts)
