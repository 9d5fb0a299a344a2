-- The nodes that are made of decisions, in the order of their paths, are a binding that is made of
-- them.
use Rattle.std.proofs.Common.{◌≡◌, ℕ, suc, ◌+◌, ◌<◌, Bool, true, false, List, [], ◌∷◌}
use Rattle.std.proofs.Common.{get_or, refl, sym, ap, ◌∙◌, subst, inl, inr, arith}
use Rattle.std.specs.Prelude.{Option, Some, slice_get, Contains, flat_map, nat_eq}
use Rattle.std.specs.List.{AllZip, IsDistinct}
use Rattle.std.specs.List.Sorted.{IsPermutation, IsSorted}
use Rattle.std.specs.Cmp.Lexicographic.{pointwise, slice_cmp}
use Rattle.std.specs.FinMap.{nat_cmp-IsAntisymmetric, slice_cmp-IsAntisymmetric}
use Rattle.std.specs.Ordering.{nat_cmp, ordering_reverse, is_lt}
use Rattle.std.specs.declared.cmp.Ordering.{Ordering}
use Rattle.std.specs.declared.cmp.Ordering.TheVariants.{Less, Equal, Greater}
use Rattle.std.proofs.lemmas.Bool.{true≢false}
use Rattle.std.proofs.lemmas.Cmp.{nat_list_cmp_total}
use Rattle.std.proofs.lemmas.List.Elements.{Contains-append_cases, All-contains_itself}
use Rattle.std.proofs.lemmas.List.Sorted.{Contains-permutation, IsPermutation-sym}
use Rattle.std.proofs.lemmas.Map.Keys.{IsDistinct-IsPermutation, apart_from_distinct}
use Rattle.std.proofs.lemmas.Option.{slice_get-get_or}
use Rattle.rn_items.proofs.Numbers.{same_numbers, numbers_themselves}
use Rattle.rn_model.specs.declared.binding.Node.{Node}
use Rattle.rn_model.specs.Bindings.{IsNodeOf}
use Rattle.rn_model.specs.Markings.{Marking}
use Rattle.rn_model.specs.Order.{node_cmp}
use Rattle.rn_model.specs.Systems.{transition_of}
use Rattle.rn_model.proofs.AskedValues.{contained_flat, later}
use Rattle.rn_model.proofs.EnablingLemmas.{not_in_nil}
use Rattle.rn_model.proofs.ReadConditions.{each_in}
use Rattle.rn_model.proofs.Rounds.{all_more}
use Rattle.rn_growing.specs.declared.decision.Head.{Head}
use Rattle.rn_growing.specs.declared.decision.Caller.{Caller}
use Rattle.rn_growing.specs.declared.decision.Decision.{Decision}
use Rattle.rn_growing.specs.declared.decision.Decision.TheVariants.{Entered, Found, Computed}
use Rattle.rn_growing.specs.Decisions.{head_of, transition_in}
use Rattle.rn_growing.specs.Grown.{Grown}
use Rattle.rn_growing.specs.Turns.{IsEntered, SameThing}
use Rattle.rn_growing.proofs.Growth.{only_one}
use Rattle.rn_search.specs.Ending.{IsMadeOf}
use Rattle.rn_search.specs.Standing.{AreSound, IsHead}
use Rattle.rn_looking.specs.Forced.{IsVarForcedTo}
use Rattle.rn_branch.specs.Making.{AreMadeNodes, IsMadeNode, entered_by}
use Rattle.rn_looking.proofs.ListsBeside.{zip_beside, zip_left, zip_lengths, zip_right}

-- The nodes that are entered are just those that decisions enter, in order.
in_heads : (ds : List Decision) (head : Head) → IsEntered ds head →
    Contains (flat_map entered_by ds) head
in_heads ds head (caller, there) =
    contained_flat entered_by ds (Entered head caller) head there (0, omega arith, refl)

entered_alone : (d : Decision) (ds : List Decision) (head : Head) → Contains (entered_by d) head →
    IsEntered (d ∷ ds) head
entered_alone (Entered other caller) ds head there =
    (caller, (0, omega arith, ap (λ h. Entered h caller) (only_one other head there)))
entered_alone (Found other k v) ds head there = absurd (not_in_nil head there)
entered_alone (Computed other site way v) ds head there = absurd (not_in_nil head there)

from_heads : (ds : List Decision) (head : Head) → Contains (flat_map entered_by ds) head →
    IsEntered ds head
from_heads [] head there = absurd (not_in_nil head there)
from_heads (d ∷ ds) head there =
    elim (Contains-append_cases (entered_by d) (flat_map entered_by ds) head there) as
    (λ _. IsEntered (d ∷ ds) head) [
      | inl here ↦ entered_alone d ds head here
      | inr others ↦
          let rest = from_heads ds head others in
          (rest.0, later d (Entered head rest.0) ds rest.1)
    ]

-- No two of them stand on one path.
abbrev on_one_path : Node → Node → Bool
on_one_path x y = pointwise nat_eq x.path y.path

abbrev AreApart : List Decision → Type 0
AreApart ds = (j k : ℕ) (d e : Decision) → j < k → slice_get ds j ≡ Some d →
    slice_get ds k ≡ Some e → ¬ SameThing d e

not_same : (p q : List ℕ) (same : Bool) → pointwise nat_eq p q ≡ same → ¬ (p ≡ q) → same ≡ false
not_same p q true e differ = absurd (differ (same_numbers p q e))
not_same p q false e differ = refl

module _ (g : Grown) where
  other_path : (head : Head) (caller : Option Caller) (ds : List Decision) (node : Node)
      (nodes : List Node) → AreApart (Entered head caller ∷ ds) → IsMadeNode g head node →
      AllZip (IsMadeNode g) (flat_map entered_by ds) nodes → (other : Node) →
      Contains nodes other → on_one_path node other ≡ false
  other_path head caller ds node nodes apart made all other there =
      let h = zip_left (IsMadeNode g) (flat_map entered_by ds) nodes other all there in
      let entered = from_heads ds h.0 h.1 in
      let d : Decision = Entered h.0 entered.0 in
      let at : slice_get ds entered.1.0 ≡ Some d =
      slice_get-get_or ds entered.1.0 d entered.1.1 ∙ ap Some entered.1.2 in
      not_same node.path other.path (on_one_path node other) refl
      (λ same. apart 0 (suc entered.1.0) (Entered head caller) d (omega arith) refl at
      (sym (ap (λ h. h.path) made.0) ∙ same ∙ ap (λ h. h.path) h.2.0))

  all_apart : (ds : List Decision) (nodes : List Node) → AreApart ds →
      AllZip (IsMadeNode g) (flat_map entered_by ds) nodes → IsDistinct on_one_path nodes
  unfolding IsDistinct
  all_apart [] [] apart all = tt
  all_apart [] (node ∷ nodes) apart all = absurd all
  all_apart (Entered head caller ∷ ds) [] apart all = absurd all
  all_apart (Entered head caller ∷ ds) (node ∷ nodes) apart all = (
    each_in (λ other. on_one_path node other ≡ false) nodes
        (other_path head caller ds node nodes apart all.0 all.1),
    all_apart ds nodes
        (λ j k d e less at also. apart (suc j) (suc k) d e (omega (arith, less)) at also) all.1,
  )
  all_apart (Found head k v ∷ ds) nodes apart all =
      all_apart ds nodes
      (λ i j d e less at also. apart (suc i) (suc j) d e (omega (arith, less)) at also) all
  all_apart (Computed head site way v ∷ ds) nodes apart all =
      all_apart ds nodes
      (λ i j d e less at also. apart (suc i) (suc j) d e (omega (arith, less)) at also) all

-- So where they are sorted, their paths ascend.
flips : (x y : Node) → on_one_path x y ≡ on_one_path y x
flips x y = by (on_one_path x y) (on_one_path y x) refl refl
  where
    by : (a b : Bool) → on_one_path x y ≡ a → on_one_path y x ≡ b → a ≡ b
    by true true e f = refl
    by false false e f = refl
    by true false e f =
        let same = same_numbers x.path y.path e in
        sym (subst (λ p. pointwise nat_eq p x.path ≡ true) same (numbers_themselves x.path)) ∙ f
    by false true e f =
        let same = same_numbers y.path x.path f in
        sym e ∙ subst (λ p. pointwise nat_eq p y.path ≡ true) same (numbers_themselves y.path)

is_below : (x y : Node) (o : Ordering) → slice_cmp nat_cmp x.path y.path ≡ o →
    on_one_path x y ≡ false → is_lt (node_cmp y x) ≡ false → o ≡ Less
is_below x y Less e apart low = refl
is_below x y Equal e apart low =
    let same : x.path ≡ y.path =
    slice_cmp-IsAntisymmetric nat_cmp-IsAntisymmetric x.path y.path e in
    let tied : on_one_path x y ≡ true =
    subst (λ p. pointwise nat_eq x.path p ≡ true) same (numbers_themselves x.path) in
    absurd (true≢false (sym tied ∙ apart))
is_below x y Greater e apart low =
    let back : slice_cmp nat_cmp y.path x.path ≡ Less =
    nat_list_cmp_total.antisymm y.path x.path ∙ ap ordering_reverse e in
    let under : is_lt (node_cmp y x) ≡ true = rw back refl in
    absurd (true≢false (sym under ∙ low))

module _ (g : Grown) (m : Marking) (depth : ℕ) (sound : AreSound g.system m depth g.decisions)
    (made sorted : List Node) (are : AreMadeNodes g g.decisions made)
    (ordered : IsSorted node_cmp sorted) (same : IsPermutation made sorted) where
  distinct : IsDistinct on_one_path sorted
  distinct =
      IsDistinct-IsPermutation on_one_path flips made sorted same
      (all_apart g g.decisions made sound.turns.once are)

  its_head : (node : Node) → Contains sorted node →
      (head : Head) × IsEntered g.decisions head × IsMadeNode g head node
  its_head node there =
      let back = Contains-permutation sorted made node (IsPermutation-sym made sorted same) there in
      let h = zip_left (IsMadeNode g) (flat_map entered_by g.decisions) made node are back in
      (h.0, from_heads g.decisions h.0 h.1, h.2)

  its_values : (node : Node) → Contains sorted node →
      AllZip (λ x v. IsVarForcedTo g node.path x v) (transition_of g.system node).vars node.values
  its_values node there =
      let h = its_head node there in
      subst (λ head. AllZip (λ x v. IsVarForcedTo g head.path x v)
      (transition_in g.system head).vars node.values) (sym h.2.0) h.2.1

  is_node : (node : Node) → Contains sorted node → IsNodeOf g.system node
  is_node node there =
      let h = its_head node there in
      let of : IsHead g.system depth (head_of node) =
      subst (IsHead g.system depth) (sym h.2.0) (sound.heads (Entered h.0 h.1.0) h.1.1) in
      record {
        net = of.net;
        transition = of.transition;
        values = zip_lengths (λ x v. IsVarForcedTo g node.path x v)
            (transition_of g.system node).vars node.values (its_values node there);
      }

  pub made_of_them : IsMadeOf g.system g.decisions (record { nodes = sorted })
  made_of_them = record {
    ascending = λ k d h.
        is_below (get_or sorted k d) (get_or sorted (k + 1) d)
        (slice_cmp nat_cmp (get_or sorted k d).path (get_or sorted (k + 1) d).path) refl
        (apart_from_distinct on_one_path sorted k (k + 1) d distinct (omega arith) h)
        (ordered k d (omega arith) h);
    sound = all_more (Contains sorted) (IsNodeOf g.system) sorted is_node
        (All-contains_itself sorted);
    entered = λ node there.
        let h = its_head node there in subst (IsEntered g.decisions) (sym h.2.0) h.1;
    nodes = λ head entered.
        let n = zip_right (IsMadeNode g) (flat_map entered_by g.decisions) made head are
        (in_heads g.decisions head entered) in
        (n.0, Contains-permutation made sorted n.0 same n.1, sym n.2.0);
    values = λ node x there var.
        zip_beside (λ x v. IsVarForcedTo g node.path x v) (transition_of g.system node).vars
        node.values x (its_values node there) var;
  }
