-- In a binding of the shape a node is found by its path.
use Rattle.std.proofs.Common.{◌≡◌, ℕ, zero, suc, ◌+◌, Bool, true, false, List, [], ◌∷◌, length, get_or, refl, ◌∙◌, subst, arith}
use Rattle.std.specs.Prelude.{Option, Some, Contains, nat_eq}
use Rattle.std.specs.List.{AllAdjacentBelow}
use Rattle.std.specs.Ordering.{nat_cmp}
use Rattle.std.specs.Cmp.{tied_itself}
use Rattle.std.specs.Cmp.Lexicographic.{pointwise, slice_cmp}
use Rattle.std.specs.declared.cmp.Ordering.TheVariants.{Less, Equal}
use Rattle.std.proofs.lemmas.Cmp.{nat_list_cmp_total}
use Rattle.rn_items.proofs.Numbers.{same_numbers, numbers_themselves}
use Rattle.rn_model.specs.declared.system.System.{System}
use Rattle.rn_model.specs.declared.binding.Node.{Node}
use Rattle.rn_model.specs.declared.binding.Binding.{Binding}
use Rattle.rn_model.specs.Bindings.{Shape, node_at}

abbrev pub IsBelow : Node → Node → Type 0
IsBelow x y = slice_cmp nat_cmp x.path y.path ≡ Less

abbrev pub Ascending : List Node → Type 0
Ascending nodes = AllAdjacentBelow IsBelow nodes (length nodes)

pub tail_ascends : (x : Node) (xs : List Node) → Ascending (x ∷ xs) → Ascending xs
tail_ascends x xs a k d h =
    let place : suc k + 1 ≡ suc (k + 1) = omega arith in
    subst (λ j. IsBelow (get_or xs k d) (get_or (x ∷ xs) j d)) place (a (suc k) d (omega (arith, h)))

-- the first is below each other
pub below_others : (x : Node) (xs : List Node) (y : Node) → Ascending (x ∷ xs) → Contains xs y → IsBelow x y
below_others x [] y a (k, h, e) = let no : ⊥ = omega (arith, h) in absurd no
below_others x (z ∷ zs) y a (zero, h, e) = subst (IsBelow x) e (a 0 x (omega arith))
below_others x (z ∷ zs) y a (suc k, h, e) =
    let rest : IsBelow z y = below_others z zs y (tail_ascends x (z ∷ zs) a) (k, omega (arith, h), e) in
    nat_list_cmp_total.trans x.path z.path y.path (a 0 x (omega arith)) rest

not_below_itself : (p q : List ℕ) → p ≡ q → slice_cmp nat_cmp p q ≡ Less → ⊥
not_below_itself p q same less =
    let tied : slice_cmp nat_cmp p q ≡ Equal = subst (λ r. slice_cmp nat_cmp p r ≡ Equal) same (tied_itself nat_list_cmp_total p) in
    let no : ⊥ = cc in no

abbrev found_in : List Node → List ℕ → Option Node
found_in nodes path = node_at (record { nodes = nodes }) path

not_found_first : (x : Node) (xs : List Node) (path : List ℕ) (same : Bool) → pointwise nat_eq x.path path ≡ same → same ≡ false → found_in (x ∷ xs) path ≡ found_in xs path
not_found_first x xs path same e differ = rw (e ∙ differ) refl

differs : (x y : Node) (same : Bool) → IsBelow x y → pointwise nat_eq x.path y.path ≡ same → same ≡ false
differs x y true less e = absurd (not_below_itself x.path y.path (same_numbers x.path y.path e) less)
differs x y false less e = refl

found : (nodes : List Node) (y : Node) → Ascending nodes → Contains nodes y → found_in nodes y.path ≡ Some y
found [] y a (k, h, e) = let no : ⊥ = omega (arith, h) in absurd no
found (x ∷ xs) y a (zero, h, e) =
    let here : found_in (x ∷ xs) x.path ≡ Some x = rw (numbers_themselves x.path) refl in
    subst (λ z. found_in (x ∷ xs) z.path ≡ Some z) e here
found (x ∷ xs) y a (suc k, h, e) =
    let there : Contains xs y = (k, omega (arith, h), e) in
    not_found_first x xs y.path (pointwise nat_eq x.path y.path) refl (differs x y (pointwise nat_eq x.path y.path) (below_others x xs y a there) refl)
    ∙ found xs y (tail_ascends x xs a) there

-- a node of a binding of the shape is the one on its path
pub node_at-path : (system : System) (b : Binding) (depth : ℕ) (node : Node) → Shape system b depth → Contains b.nodes node → node_at b node.path ≡ Some node
node_at-path system b depth node shape there = found b.nodes node shape.ascending there
