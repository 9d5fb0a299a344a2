-- What is made of decisions is one binding, and what they lead to is made of them.
use Rattle.std.proofs.Common.{◌≡◌, ℕ, zero, suc, ◌+◌, ◌<◌, ◌⊎◌, Bool, true, false, List, []}
use Rattle.std.proofs.Common.{◌∷◌, length}
use Rattle.std.proofs.Common.{get_or, refl, sym, ap, ◌∙◌, subst, inl, inr, arith}
use Rattle.std.specs.Prelude.{Option, Some, Contains, zip, nat_eq, if◌then◌else◌}
use Rattle.std.specs.List.{AllAdjacentBelow}
use Rattle.std.specs.Ordering.{nat_cmp}
use Rattle.std.specs.Cmp.{tied_itself}
use Rattle.std.specs.Cmp.Lexicographic.{slice_cmp}
use Rattle.std.specs.declared.cmp.Ordering.TheVariants.{Less, Equal}
use Rattle.std.proofs.lemmas.Bool.{eqb-true, eq-eqb}
use Rattle.std.proofs.lemmas.Cmp.{nat_list_cmp_total}
use Rattle.std.proofs.lemmas.List.Elements.{All-contains}
use Rattle.rn_value.specs.declared.value.Value.{Value}
use Rattle.rn_model.specs.declared.binding.Node.{Node}
use Rattle.rn_model.specs.declared.binding.Binding.{Binding}
use Rattle.rn_model.specs.Lists.{value_beside}
use Rattle.rn_model.specs.Systems.{transition_of}
use Rattle.rn_model.specs.Bindings.{IsNodeOf}
use Rattle.rn_model.specs.Good.{Good}
use Rattle.rn_model.proofs.AskedValues.{later}
use Rattle.rn_model.proofs.EnablingLemmas.{not_in_nil}
use Rattle.rn_model.proofs.ItemsOfNodes.{below_each}
use Rattle.rn_model.proofs.MarkingsOfRuns.{good_transition}
use Rattle.rn_model.proofs.MarkingsStay.{Increases, from_strict}
use Rattle.rn_growing.specs.declared.decision.Head.{Head}
use Rattle.rn_growing.specs.declared.decision.Decision.{Decision}
use Rattle.rn_growing.specs.Decisions.{head_of, transition_in}
use Rattle.rn_growing.specs.Turns.{IsVarForced}
use Rattle.rn_growing.proofs.Growth.{some_equal}
use Rattle.rn_search.specs.Ending.{IsMadeOf, LeadingIsMade, MadeIsOne}
use Rattle.rn_growing.specs.Equations.{IsSolvable}
use Rattle.rn_search.proofs.Ends.{leading_forces, entered_in_them}
use Rattle.rn_search.proofs.Following.{entered_node}
use Rattle.rn_search.proofs.Known.{forced_are_its_values}
use Rattle.rn_model.specs.declared.system.System.{System}

-- Nodes that ascend by path are given by which they are.
abbrev Before : Node → Node → Type 0
Before x y = slice_cmp nat_cmp x.path y.path ≡ Less

abbrev Ascend : List Node → Type 0
Ascend nodes = AllAdjacentBelow Before nodes (length nodes)

never : (x : Node) → ¬ Before x x
never x less =
    let tied : slice_cmp nat_cmp x.path x.path ≡ Equal = tied_itself nat_list_cmp_total x.path in
    let no : ⊥ = cc in no

tail_ascends : (x : Node) (xs : List Node) → Ascend (x ∷ xs) → Ascend xs
tail_ascends x xs a k d h =
    let next : suc k + 1 ≡ suc (k + 1) = omega arith in
    subst (λ j. Before (get_or xs k d) (get_or (x ∷ xs) j d)) next
    (a (suc k) d (omega (arith, h)))

before_others : (x : Node) (xs : List Node) (y : Node) → Ascend (x ∷ xs) → Contains xs y →
    Before x y
before_others x [] y a there = absurd (not_in_nil y there)
before_others x (z ∷ zs) y a (zero, h, e) = subst (Before x) e (a 0 x (omega arith))
before_others x (z ∷ zs) y a (suc k, h, e) =
    let rest = before_others z zs y (tail_ascends x (z ∷ zs) a) (k, omega (arith, h), e) in
    nat_list_cmp_total.trans x.path z.path y.path (a 0 x (omega arith)) rest

first_or_later : (x : Node) (xs : List Node) (y : Node) → Contains (x ∷ xs) y →
    (x ≡ y) ⊎ Contains xs y
first_or_later x xs y (zero, h, e) = inl e
first_or_later x xs y (suc k, h, e) = inr (k, omega (arith, h), e)

abbrev Within : List Node → List Node → Type 0
Within xs ys = (x : Node) → Contains xs x → Contains ys x

same_first : (x : Node) (xs : List Node) (y : Node) (ys : List Node) → Ascend (x ∷ xs) →
    Ascend (y ∷ ys) → Contains (y ∷ ys) x → Contains (x ∷ xs) y → x ≡ y
same_first x xs y ys a c there back =
    elim (first_or_later y ys x there) as (λ _. x ≡ y) [
      | inl same ↦ sym same
      | inr later_x ↦
          elim (first_or_later x xs y back) as (λ _. x ≡ y) [
            | inl same ↦ same
            | inr later_y ↦
                absurd (never x (nat_list_cmp_total.trans x.path y.path x.path
                (before_others x xs y a later_y) (before_others y ys x c later_x)))
          ]
    ]

rest_within : (x : Node) (xs ys : List Node) → Ascend (x ∷ xs) → Within (x ∷ xs) (x ∷ ys) →
    Within xs ys
rest_within x xs ys a there z is =
    elim (first_or_later x ys z (there z (later x z xs is))) as (λ _. Contains ys z) [
      | inl same ↦ absurd (never x (subst (Before x) (sym same) (before_others x xs z a is)))
      | inr others ↦ others
    ]

same_lists : (xs ys : List Node) → Ascend xs → Ascend ys → Within xs ys → Within ys xs → xs ≡ ys
same_lists [] [] a c there back = refl
same_lists [] (y ∷ ys) a c there back = absurd (not_in_nil y (back y (0, omega arith, refl)))
same_lists (x ∷ xs) [] a c there back = absurd (not_in_nil x (there x (0, omega arith, refl)))
same_lists (x ∷ xs) (y ∷ ys) a c there back =
    let first = same_first x xs y ys a c (there x (0, omega arith, refl))
    (back y (0, omega arith, refl)) in
    let also : Ascend (x ∷ ys) = subst (λ z. Ascend (z ∷ ys)) (sym first) c in
    let there_too = subst (λ z. Within (x ∷ xs) (z ∷ ys)) (sym first) there in
    let back_too = subst (λ z. Within (z ∷ ys) (x ∷ xs)) (sym first) back in
    let rest = same_lists xs ys (tail_ascends x xs a) (tail_ascends x ys also)
    (rest_within x xs ys a there_too) (rest_within x ys xs also back_too) in
    ap (λ zs. x ∷ zs) rest ∙ ap (λ z. z ∷ ys) first

-- Values beside numbers that ascend are given by what stands beside each number.
pub passed : (x y : ℕ) (w : Value) (rest : Option Value) (same : Bool) → nat_eq x y ≡ same → x < y →
    (if same then Some w else rest) ≡ rest
passed x y w rest true e low =
    let is : x ≡ y = eqb-true x y e in absurd (let no : ⊥ = omega (arith, is, low) in no)
passed x y w rest false e low = refl

pub here_is : (x : ℕ) (w : Value) (rest : Option Value) → (if nat_eq x x then Some w else rest) ≡
    Some w
here_is x w rest = rw (eq-eqb x x refl) refl

same_values : (xs : List ℕ) (vs ws : List Value) → Increases xs → length vs ≡ length xs →
    length ws ≡ length xs →
    ((x : ℕ) → Contains xs x → value_beside (zip xs vs) x ≡ value_beside (zip xs ws) x) → vs ≡ ws
same_values [] [] [] up many also each = refl
same_values [] (v ∷ vs) ws up many also each = absurd (let no : ⊥ = omega (arith, many) in no)
same_values [] [] (w ∷ ws) up many also each = absurd (let no : ⊥ = omega (arith, also) in no)
same_values (x ∷ xs) [] ws up many also each = absurd (let no : ⊥ = omega (arith, many) in no)
same_values (x ∷ xs) (v ∷ vs) [] up many also each =
    absurd (let no : ⊥ = omega (arith, also) in no)
same_values (x ∷ xs) (v ∷ vs) (w ∷ ws) up many also each =
    let first : v ≡ w = some_equal v w
    (sym (here_is x v (value_beside (zip xs vs) x)) ∙ each x (0, omega arith, refl)
    ∙ here_is x w (value_beside (zip xs ws) x)) in
    let rest = same_values xs vs ws up.1 (omega (arith, many)) (omega (arith, also))
    (λ y there.
    let low = below_each x y xs up there in
    sym (passed x y v (value_beside (zip xs vs) y) (nat_eq x y) refl low)
    ∙ each y (later x y xs there)
    ∙ passed x y w (value_beside (zip xs ws) y) (nat_eq x y) refl low) in
    ap (λ us. v ∷ us) rest ∙ ap (λ u. u ∷ ws) first

abbrev with_values : Head → List Value → Node
with_values head vs = record {
  path = head.path;
  inst = head.inst;
  net = head.net;
  transition = head.transition;
  values = vs;
}

module _ (system : System) (ds : List Decision) (good : Good system)
    (solvable : IsSolvable system ds) where
  -- a node of a binding that is made of decisions is one of each other that is
  node_of_other : (b c : Binding) → IsMadeOf system ds b → IsMadeOf system ds c → (node : Node) →
      Contains b.nodes node → Contains c.nodes node
  node_of_other b c made also node there =
      let n = also.nodes (head_of node) (made.entered node there) in
      let vars = (transition_of system node).vars in
      let of : IsNodeOf system node =
      All-contains (IsNodeOf system) b.nodes node made.sound there in
      let of_n : IsNodeOf system n.0 =
      All-contains (IsNodeOf system) c.nodes n.0 also.sound n.1 in
      let vars_are : (transition_of system n.0).vars ≡ vars =
      ap (λ h. (transition_in system h).vars) (sym n.2) in
      let t = good_transition system node.net node.transition good of.net of.transition in
      let up = from_strict vars t.its_vars.ascending in
      let each : (x : ℕ) → Contains vars x →
      value_beside (zip vars node.values) x ≡ value_beside (zip vars n.0.values) x = λ x var.
      let mine = made.values node x there var in
      let other = also.values n.0 x n.1 (subst (λ xs. Contains xs x) (sym vars_are) var) in
      let beside : value_beside (zip vars n.0.values) x ≡ Some other.0 =
      subst (λ xs. value_beside (zip xs n.0.values) x ≡ Some other.0) vars_are other.1 in
      let told : Some (solvable.0.var node.path x) ≡ Some other.0 =
      ap (λ h. Some (solvable.0.var h.path x)) n.2 ∙ other.2 solvable.0 solvable.1 in
      mine.1 ∙ sym (mine.2 solvable.0 solvable.1) ∙ told ∙ sym beside in
      let values : node.values ≡ n.0.values =
      same_values vars node.values n.0.values up of.values (of_n.values ∙ ap length vars_are)
      each in
      let same : n.0 ≡ node =
      sym (ap (λ h. with_values h node.values) n.2 ∙ ap (with_values (head_of n.0)) values) in
      subst (Contains c.nodes) same n.1

pub made_is_one : MadeIsOne
made_is_one system ds b c good solvable made also =
    ap (λ nodes. record { nodes = nodes })
    (same_lists b.nodes c.nodes made.ascending also.ascending
    (node_of_other system ds good solvable b c made also)
    (node_of_other system ds good solvable c b also made))

pub leading_is_made : LeadingIsMade
leading_is_made sought ds b turns some done leads =
    let system = sought.system in
    let items = leads.follows.0 in
    let on = leads.follows.1 in
    let shape = leads.enabled.shape in
    let entered = entered_in_them system b sought.depth shape ds items on turns some done in
    let forced = leading_forces sought ds b turns some done leads in
    record {
      ascending = shape.ascending;
      sound = shape.nodes;
      entered = entered;
      nodes = entered_node system b ds items on;
      values = λ node x there var.
          let v = All-contains (IsVarForced system ds (head_of node))
          (transition_of system node).vars x (forced (head_of node) (entered node there)) var in
          (v.0, forced_are_its_values sought ds b node x v.0 leads turns some there var v.1, v.1);
    }
