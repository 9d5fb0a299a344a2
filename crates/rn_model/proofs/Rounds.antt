-- Items that come in one at a time, and the rounds.
use Rattle.std.proofs.Common.{◌≡◌, ℕ, zero, suc, ◌<◌, ◌≤◌, ◌⊎◌, List, [], length, take}
use Rattle.std.proofs.Common.{get_or, refl, sym, ap, ◌∙◌, subst, arith, inl, inr}
use Rattle.std.specs.Prelude.{Option, Some, slice_get, All, Contains}
use Rattle.std.proofs.lemmas.Option.{same_Some, slice_get-get_or, slice_get_within}
use Rattle.std.proofs.lemmas.Option.{get_or_from_slice_get}
use Rattle.std.proofs.lemmas.List.{get_or-take, length-take-le}
use Rattle.rn_value.specs.declared.value.Value.{Value}
use Rattle.rn_model.specs.declared.system.System.{System}
use Rattle.rn_model.specs.declared.binding.Node.{Node}
use Rattle.rn_model.specs.declared.binding.Binding.{Binding}
use Rattle.rn_model.specs.Systems.{transition_of, vars_in}
use Rattle.rn_model.specs.Bindings.{Shape, node_at}
use Rattle.rn_model.specs.Derivation.{Item, entry, found, computed, target, items_of, Assignment}
use Rattle.rn_model.specs.Derivation.{Forced, IsVarForced, MayEnter, InBy, Derived, term_value_at}
use Rattle.rn_model.specs.RoundLaws.{ComeIn, IsClosed, AreAll, ForceAll, IsIn, RoundsHoldThem}
use Rattle.rn_model.specs.RoundLaws.{ClosedAreRounds, ClosedDecide, MayEnterByMore, ForcedByMore}
use Rattle.rn_model.specs.RoundLaws.{StaysIn}
use Rattle.rn_model.proofs.NodesByPath.{node_at-path}
use Rattle.rn_model.proofs.ListsWithoutRepeats.{no_longer}

-- each item of one set is in another
abbrev pub Within : (Item → Type 0) → (Item → Type 0) → Type 0
Within In Others = (item : Item) → In item → Others item

-- what is forced stays so as further items come in
pub forced_more : (system : System) (b : Binding) (In Others : Item → Type 0)
    (term : Assignment → Option Value) → Within In Others →
    Forced system b In term → Forced system b Others term
forced_more system b In Others term within forced =
    (forced.0, λ a all. forced.1 a (λ item there. all item (within item there)))

-- what follows from what holds of all elements holds of all
pub all_more : {A : Type 0} (P Q : A → Type 0) (xs : List A) → ((x : A) → P x → Q x) →
    All P xs → All Q xs
all_more P Q xs more all = λ k d h. more (get_or xs k d) (all k d h)

-- and so does what may come in
pub may_enter_more : (system : System) (b : Binding) (In Others : Item → Type 0) (item : Item) →
    Within In Others → MayEnter system b In item → MayEnter system b Others item
may_enter_more system b In Others (entry node) within (caller, i, downlink, calls, there, forced) =
    let target_of = λ (a : Assignment). term_value_at a caller (target i) downlink.target in
    let more = forced_more system b In Others target_of within forced in
    (caller, i, downlink, calls, within (entry caller) there, more)
may_enter_more system b In Others (found node k x) within there = within (entry node) there
may_enter_more system b In Others (computed node site hole) within (there, forced) =
    let more = λ (x : ℕ) (f : IsVarForced system b In node x).
    forced_more system b In Others (λ a. Some (a.var node.path x)) within f in (
      within (entry node) there,
      all_more (IsVarForced system b In node) (IsVarForced system b Others node) (vars_in hole.form)
          more forced,
    )

pub may_enter_by_more : MayEnterByMore
may_enter_by_more system b set others item within may =
    may_enter_more system b (IsIn system b set) (IsIn system b others) item within may

pub forced_by_more : ForcedByMore
forced_by_more system b set others term within forced =
    ((forced.0, λ a all. forced.1 a (λ item there. all item (within item there))), refl)

nat_cases : (j n : ℕ) → j ≤ suc n → (j ≤ n) ⊎ (j ≡ suc n)
nat_cases j n le = grind arith

-- what is in stays in
pub in_later : (system : System) (b : Binding) (item : Item) (j n : ℕ) → j ≤ n →
    InBy system b j item → InBy system b n item
in_later system b item j zero le now =
    let first : j ≡ 0 = omega (arith, le) in subst (λ k. InBy system b k item) first now
in_later system b item j (suc n) le now = elim (nat_cases j n le) [
  | inl before ↦ inl (in_later system b item j n before now)
  | inr same ↦ subst (λ k. InBy system b k item) same now
]

-- an element of the first ones of a list has an index below
taken_at : {A : Type 0} (xs : List A) (n : ℕ) (x : A) → n ≤ length xs → Contains (take n xs) x →
    (k : ℕ) × (k < n) × (slice_get xs k ≡ Some x)
taken_at xs n x within (k, h, e) =
    let below : k < n = omega (arith, h, length-take-le n xs within) in
    let here = slice_get-get_or xs k x (omega (arith, below, within)) in
    (k, below, here ∙ ap Some (sym (get_or-take n xs k x below) ∙ e))

module _ (system : System) (b : Binding) (items : List Item) (come : ComeIn system b items) where
  within : (k : ℕ) (item : Item) → slice_get items k ≡ Some item → k < length items
  within k item at = slice_get_within items k item at

  so_far : (n j : ℕ) (item : Item) → j ≤ n → slice_get items j ≡ Some item →
      InBy system b n item
  so_far zero j item le at =
      let first : j ≡ 0 = omega (arith, le) in
      let here : slice_get items 0 ≡ Some item =
      subst (λ k. slice_get items k ≡ Some item) first at in
      let node = come.start.0 in
      let is = same_Some item (entry node) (sym here ∙ come.start.3) in
      (node, come.start.1, come.start.2, is)
  so_far (suc n) j item le at = elim (nat_cases j n le) [
    | inl before ↦ inl (so_far n j item before at)
    | inr same ↦
        let here : slice_get items (suc n) ≡ Some item =
        subst (λ k. slice_get items k ≡ Some item) same at in
        let room : suc n ≤ length items = let h = within (suc n) item here in omega (arith, h) in
        let earlier : Within (Contains (take (suc n) items)) (InBy system b n) = λ other there.
        let at = taken_at items (suc n) other room there in
        so_far n at.0 other (omega (arith, at.1)) at.2 in
        let may = come.enter (suc n) item (omega arith) here in
        inr (
          come.each (suc n) item here,
          may_enter_more system b (Contains (take (suc n) items)) (InBy system b n) item earlier
              may,
        )
  ]

  pub rounds_hold : (k : ℕ) (item : Item) → slice_get items k ≡ Some item → InBy system b k item
  rounds_hold k item at = so_far k k item (omega arith) at

  index_of : (item : Item) → Contains items item →
      (k : ℕ) × (k < length items) × (slice_get items k ≡ Some item)
  index_of item (k, h, e) = (k, h, slice_get-get_or items k item h ∙ ap Some e)

  as_index : (k : ℕ) (item : Item) → slice_get items k ≡ Some item → Contains items item
  as_index k item at = (k, within k item at, get_or_from_slice_get items k item item at)

  few : length items ≤ length (items_of system b)
  few = no_longer (items_of system b) items come.each come.once

  -- after as many rounds as there are items
  abbrev last : ℕ
  last = length (items_of system b)

  in_all_rounds : Within (Contains items) (InBy system b last)
  in_all_rounds item there =
      let at = index_of item there in
      in_later system b item at.0 last (omega (arith, at.1, few)) (rounds_hold at.0 item at.2)

  module _ (depth : ℕ) (shape : Shape system b depth) where
    same_start : (node : Node) → Contains b.nodes node → node.path ≡ [] → node ≡ come.start.0
    same_start node there start =
        let at_start = λ (other : Node) (is : Contains b.nodes other) (path : other.path ≡ []).
        subst (λ p. node_at b p ≡ Some other) path
        (node_at-path system b depth other shape is) in
        let own : node_at b [] ≡ Some node = at_start node there start in
        same_Some node come.start.0
        (sym own ∙ at_start come.start.0 come.start.1 come.start.2)

    module _ (closed : IsClosed system b items) where
      pub closed_hold : (n : ℕ) → Within (InBy system b n) (Contains items)
      closed_hold zero item (node, there, start, is) =
          let same = ap (λ x. Some (entry x)) (sym (same_start node there start)) in
          as_index 0 item (come.start.3 ∙ same ∙ ap Some (sym is))
      closed_hold (suc n) item (inl before) = closed_hold n item before
      closed_hold (suc n) item (inr (there, may)) =
          closed item there
          (may_enter_more system b (InBy system b n) (Contains items) item (closed_hold n) may)

      -- each variable of a node is forced by these
      abbrev ForcesVars : (Item → Type 0) → Node → Type 0
      ForcesVars In node = All (IsVarForced system b In node) (transition_of system node).vars

      node_alike : (In Others : Item → Type 0) → Within In Others → (node : Node) →
          ForcesVars In node → ForcesVars Others node
      node_alike In Others more node all =
          all_more (IsVarForced system b In node) (IsVarForced system b Others node)
          (transition_of system node).vars
          (λ x f. forced_more system b In Others (λ a. Some (a.var node.path x)) more f) all

      forced_alike : (In Others : Item → Type 0) → Within In Others →
          All (ForcesVars In) b.nodes → All (ForcesVars Others) b.nodes
      forced_alike In Others more forced =
          all_more (ForcesVars In) (ForcesVars Others) b.nodes (node_alike In Others more) forced

      pub derived_gives : Derived system b → AreAll system b items × ForceAll system b items
      derived_gives d = (
        all_more (InBy system b last) (Contains items) (items_of system b) (closed_hold last)
            d.all_in,
        forced_alike (InBy system b last) (Contains items) (closed_hold last) d.forced,
      )

      pub gives_derived : AreAll system b items × ForceAll system b items → Derived system b
      gives_derived (all, forced) = record {
        all_in = all_more (Contains items) (InBy system b last) (items_of system b) in_all_rounds
            all;
        forced = forced_alike (Contains items) (InBy system b last) in_all_rounds forced;
      }

pub stays_in : StaysIn
stays_in = in_later

pub rounds_hold_them : RoundsHoldThem
rounds_hold_them system b items come = rounds_hold system b items come

pub closed_are_rounds : ClosedAreRounds
closed_are_rounds system b depth items shape come closed item = (
  λ there.
      let at = index_of system b items come item there in
      (at.0, rounds_hold system b items come at.0 item at.2),
  λ (n, now). closed_hold system b items come depth shape closed n item now,
)

-- a binding is derived just where closed items are all of its items and force its variables
pub closed_decide : ClosedDecide
closed_decide system b depth items shape come closed = (
  derived_gives system b items come depth shape closed,
  gives_derived system b items come depth shape closed,
)
