-- Where enabled bindings start.
use Rattle.std.proofs.Common.{◌≡◌, ◌<◌, ◌≤◌, ◌+◌, ℕ, List, [], ◌++◌, length, true, subst, sym}
use Rattle.std.proofs.Common.{refl, ap, ◌∙◌, arith, ⊎_elim, inl, inr}
use Rattle.std.specs.Prelude.{Option, Some, None, Contains, AllPairs, filter, find, nat_eq, nat_le, is_none, ⊤}
use Rattle.std.specs.Prelude.{◌↔◌, IsNone, IfSome, IfNone}
use Rattle.std.proofs.lemmas.Option.{unwrap_or-slice_get}
use Rattle.std.proofs.lemmas.List.Elements.{All-contains, All-filter, Contains-get_or}
use Rattle.rn_value.specs.declared.value.InstRef.{InstRef}
use Rattle.rn_value.specs.declared.value.InstRef.TheVariants.{Old}
use Rattle.rn_model.specs.declared.system.System.{System}
use Rattle.rn_model.specs.declared.system.Transition.{Transition}
use Rattle.rn_model.specs.declared.binding.Binding.{Binding}
use Rattle.rn_model.specs.Enabling.{Enabled, DeadAt}
use Rattle.rn_model.specs.Markings.{Marking, Instance, net_of, instance_at}
use Rattle.rn_model.specs.Systems.{net_at, transition_at, may_start, empty_transition}
use Rattle.rn_model.proofs.AfterFiring.{found_number}
use Rattle.rn_model.proofs.AskedValues.{contained_mapped, map_source}
use Rattle.rn_model.proofs.LiveByRounds.{contained_any}
use Rattle.rn_model.proofs.MarkingsOfRuns.{found_is_there}
use Rattle.rn_table.specs.Tables.{Kept, starting_in}
use Rattle.rn_channel.specs.declared.uplinks.Uplinks.{Uplinks}
use Rattle.rn_growing.specs.declared.decision.Head.{Head}
use Rattle.rn_search.specs.Missing.{MayStart}
use Rattle.rn_search.specs.Sought.{StartsAt}
use Rattle.rn_search.proofs.Alternatives.{from_map}
use Rattle.rn_search.proofs.Following.{one_start}
use Rattle.rn_search.proofs.Items.{in_filter}
use Rattle.rn_search.proofs.Offered.{starts_are_kept}
use Rattle.rn_finder.specs.Starting.{IsSearchable, IsNoStart, IsNoStartIn, HasStartIn, start_of}
use Rattle.rn_finder.specs.Starting.{AreJust, AreNoStartsBetween}
use Rattle.rn_finder.proofs.JustThese.{just_more, just_same}
use Rattle.rn_finder.proofs.Numbers.{chosen_ascend, first_from, less_or_not, none_from}

-- an enabled binding starts where a firing may start
pub may_start_there : (system : System) (m : Marking) (depth : ℕ) (b : Binding) (start : Head) →
    Enabled system m b depth → StartsAt b start → MayStart system m start
may_start_there system m depth b start enabled starts =
    let kept = starts_are_kept system m b depth enabled in
    subst (MayStart system m) (one_start b kept.0 start kept.2 starts) kept.1

same_number : (n k : ℕ) → Old n ≡ Old k → n ≡ k
same_number n k is = cc

-- what is said of a start by a transition of an instance
pub record IsStartOf (system : System) (m : Marking) (number net t : ℕ) : Type 0 where
  pub of_net : net_of m number ≡ Some net
  pub there : t < length (net_at system net).transitions
  pub uplink : (transition_at system net t).uplink ≡ None

-- it is so where the start may start a firing
pub is_start_of : (system : System) (m : Marking) (number net t : ℕ) →
    MayStart system m (start_of number net t) → IsStartOf system m number net t
is_start_of system m number net t may = record {
  of_net = subst (λ n. net_of m n ≡ Some net) (sym (same_number number may.number may.inst)) may.net;
  there = may.there;
  uplink = may.uplink;
}

pub may_start_of : (system : System) (m : Marking) (number net t : ℕ) →
    net_of m number ≡ Some net → t < length (net_at system net).transitions →
    (transition_at system net t).uplink ≡ None → MayStart system m (start_of number net t)
may_start_of system m number net t is there uplink = record {
  path = refl;
  number = number;
  inst = refl;
  net = is;
  there = there;
  uplink = uplink;
}

pub head_is : (start : Head) (number : ℕ) → start.path ≡ [] → start.inst ≡ Old number →
    start ≡ start_of number start.net start.transition
head_is start number path inst =
    ap
    (λ (p : List ℕ). record {
      path = p;
      inst = start.inst;
      net = start.net;
      transition = start.transition;
    })
    path
    ∙ ap
    (λ (i : InstRef). record {
      path = [];
      inst = i;
      net = start.net;
      transition = start.transition;
    })
    inst

-- an enabled binding starts with an instance
pub starts_in : (system : System) (m : Marking) (depth : ℕ) (b : Binding) →
    Enabled system m b depth → (number : ℕ) × HasStartIn number b
starts_in system m depth b enabled =
    let kept = starts_are_kept system m b depth enabled in
    let start = kept.0 in
    let may = kept.1 in (
      may.number,
      (
        start.net,
        start.transition,
        subst (StartsAt b) (head_is start may.number may.path may.inst) kept.2,
      ),
    )

-- with one alone
pub one_number : (b : Binding) (n k : ℕ) → HasStartIn n b → HasStartIn k b → n ≡ k
one_number b n k (net, t, starts) (other, u, also) =
    let same = one_start b (start_of n net t) (start_of k other u) starts also in
    same_number n k (ap (λ h. h.inst) same)

-- by one transition alone
pub one_transition : (b : Binding) (number net t u : ℕ) → StartsAt b (start_of number net t) →
    StartsAt b (start_of number net u) → t ≡ u
one_transition b number net t u starts also =
    ap (λ h. h.transition)
    (one_start b (start_of number net t) (start_of number net u) starts also)

-- by that of its net alone
pub one_net : (system : System) (m : Marking) (depth : ℕ) (b : Binding) (number other net t : ℕ) →
    Enabled system m b depth → net_of m number ≡ Some net →
    StartsAt b (start_of number other t) → other ≡ net
one_net system m depth b number other net t enabled is starts =
    let start = is_start_of system m number other t
    (may_start_there system m depth b (start_of number other t) enabled starts) in
    let also = start.of_net in
    let same : other ≡ net = cc in
    same

-- a binding starts by one of the first transitions of an instance, or with one of the first instances
abbrev pub HasStartBelow : ℕ → ℕ → ℕ → Binding → Type 0
HasStartBelow number net end b = (t : ℕ) × (t < end) × StartsAt b (start_of number net t)

abbrev pub HasStartBefore : ℕ → Binding → Type 0
HasStartBefore end b = (number : ℕ) × (number < end) × HasStartIn number b

no_uplink : (t : Transition) → t.uplink ≡ None → is_none t.uplink ≡ true
no_uplink t is = ap is_none is

-- the net of a start may start
pub net_may_start : (system : System) (m : Marking) (number net t : ℕ) →
    IsStartOf system m number net t → may_start system net ≡ true
net_may_start system m number net t start =
    let transitions = (net_at system net).transitions in
    let at = unwrap_or-slice_get transitions t empty_transition in
    contained_any (λ t. is_none t.uplink) transitions (transition_at system net t)
    (subst (Contains transitions) (sym at)
    (Contains-get_or transitions t empty_transition start.there))
    (no_uplink (transition_at system net t) start.uplink)

-- the instance of a start is among those that the table knows
pub is_among : (system : System) (uplinks : Uplinks) (table : Kept) (number net t : ℕ) →
    IsSearchable system uplinks table → IsStartOf system table.marking number net t →
    Contains table.starting number
is_among system uplinks table number net t searched start =
    let m = table.marking in
    let found = from_map (λ (i : Instance). i.net) (instance_at m number) net start.of_net in
    let i = found.0 in
    let there = found_is_there (λ (j : Instance). nat_eq j.number number) m.instances i found.1 in
    let may : may_start system i.net ≡ true
    = ap (may_start system) found.2 ∙ net_may_start system m number net t start in
    let chosen = in_filter (λ (j : Instance). may_start system j.net) m.instances i there may in
    let listed = contained_mapped (λ (j : Instance). j.number)
    (filter (λ (j : Instance). may_start system j.net) m.instances) i chosen in
    subst (λ xs. Contains xs number) (sym searched.of_system)
    (subst (Contains (starting_in system m)) (found_number m.instances number i found.1) listed)

-- so one that the table doesn't know starts nothing
pub none_unless_known : (system : System) (uplinks : Uplinks) (table : Kept) (depth number : ℕ) →
    IsSearchable system uplinks table → ¬ Contains table.starting number →
    IsNoStartIn system table.marking depth number
none_unless_known system uplinks table depth number searched out net t b enabled starts =
    out (is_among system uplinks table number net t searched
    (is_start_of system table.marking number net t
    (may_start_there system table.marking depth b (start_of number net t) enabled starts)))

-- those ascend, and are below the next one
pub ascend : (system : System) (uplinks : Uplinks) (table : Kept) →
    IsSearchable system uplinks table → AllPairs (λ m n. m < n) table.starting
ascend system uplinks table searched =
    subst (AllPairs (λ m n. m < n)) (sym searched.of_system)
    (chosen_ascend (λ (i : Instance). i.number) (λ i. may_start system i.net)
    table.marking.instances searched.ascending)

pub below_next : (system : System) (uplinks : Uplinks) (table : Kept) (number : ℕ) →
    IsSearchable system uplinks table → Contains table.starting number →
    number < table.marking.next
below_next system uplinks table number searched there =
    let m = table.marking in
    let source = map_source (λ (i : Instance). i.number)
    (filter (λ (i : Instance). may_start system i.net) m.instances) number
    (subst (λ xs. Contains xs number) searched.of_system there) in
    let all = All-filter (λ (i : Instance). may_start system i.net) (λ i. i.number < m.next)
    m.instances searched.below in
    subst (λ n. n < m.next) source.2
    (All-contains (λ i. i.number < m.next)
    (filter (λ (i : Instance). may_start system i.net) m.instances) source.0 all source.1)

-- an instance that isn't there starts nothing
pub none_where_absent : (system : System) (m : Marking) (depth number : ℕ) →
    net_of m number ≡ None → IsNoStartIn system m depth number
none_where_absent system m depth number absent net t b enabled starts =
    let start = is_start_of system m number net t
    (may_start_there system m depth b (start_of number net t) enabled starts) in
    let is = start.of_net in
    let no : ⊥ = cc in
    no

-- by no transition, so with no binding
pub none_in : (system : System) (m : Marking) (depth number net : ℕ) →
    net_of m number ≡ Some net →
    ((t : ℕ) → t < length (net_at system net).transitions →
    IsNoStart system m depth (start_of number net t)) →
    IsNoStartIn system m depth number
none_in system m depth number net is none other t b enabled starts =
    let start = is_start_of system m number other t
    (may_start_there system m depth b (start_of number other t) enabled starts) in
    let also = start.of_net in
    let same : other ≡ net = cc in
    none t (subst (λ n. t < length (net_at system n).transitions) same start.there) b enabled
    (subst (λ n. StartsAt b (start_of number n t)) same starts)

-- with no instance, so not at all
pub dead_where_none : (system : System) (uplinks : Uplinks) (table : Kept) (depth : ℕ) →
    IsSearchable system uplinks table →
    ((number : ℕ) → Contains table.starting number →
    IsNoStartIn system table.marking depth number) →
    DeadAt system table.marking depth
dead_where_none system uplinks table depth searched none b enabled =
    let starts = starts_in system table.marking depth b enabled in
    let at = starts.1 in
    let start = is_start_of system table.marking starts.0 at.0 at.1
    (may_start_there system table.marking depth b (start_of starts.0 at.0 at.1) enabled at.2) in
    none starts.0 (is_among system uplinks table starts.0 at.0 at.1 searched start) at.0 at.1 b
    enabled at.2

-- what is found says whether there is any
pub found_or_dead : (system : System) (m : Marking) (depth : ℕ) (found : Option Binding) →
    IfSome found (λ b. Enabled system m b depth) → IfNone found (DeadAt system m depth) →
    IsNone found ↔ DeadAt system m depth
found_or_dead system m depth None some none = (λ _. none, λ _. refl)
found_or_dead system m depth (Some b) some none =
    (λ is. absurd (let no : ⊥ = cc in no), λ dead. absurd (dead b some))

-- Of the instances from a number on that may start a firing, those before the first start nothing.
pub before_first : (system : System) (uplinks : Uplinks) (table : Kept) (from number k : ℕ) →
    IsSearchable system uplinks table → find (λ n. nat_le from n) table.starting ≡ Some number →
    Contains table.starting k → from ≤ k → number ≤ k
before_first system uplinks table from number k searched first there least =
    let only = first_from from table.starting number (ascend system uplinks table searched) first in
    ⊎_elim
    (λ (below : k < number). let less = only.1 k there below in absurd (omega arith))
    (λ (not_below : number ≤ k). not_below)
    (less_or_not k number)

-- what holds of each number from one on, with one more
pub one_more : (P : ℕ → Type 0) (from t : ℕ) → ((k : ℕ) → from ≤ k → k < t → P k) → P t →
    (k : ℕ) → from ≤ k → k < t + 1 → P k
one_more P from t before here k least below = ⊎_elim
    (λ (less : k < t). before k least less)
    (λ (not_less : t ≤ k). let same : t ≡ k = omega arith in subst P same here)
    (less_or_not k t)

-- no transition from one on, nor one before it, starts anything
pub none_round : {X : Type 0} (system : System) (m : Marking) (depth number net first count : ℕ)
    (found : Option X) → net_of m number ≡ Some net →
    count ≡ length (net_at system net).transitions →
    ((t : ℕ) → first ≤ t → t < count → IsNoStart system m depth (start_of number net t)) →
    IfNone found
    ((t : ℕ) → 0 ≤ t → t < first → IsNoStart system m depth (start_of number net t)) →
    IfNone found (IsNoStartIn system m depth number)
none_round system m depth number net first count None is whole later earlier =
    none_in system m depth number net is
    (λ t there. ⊎_elim
    (λ (before : t < first). earlier t (omega arith) before)
    (λ (from : first ≤ t). later t from (omega arith))
    (less_or_not t first))
none_round system m depth number net first count (Some x) is whole later earlier = tt

module _ (system : System) (m : Marking) (depth number net : ℕ) where
  abbrev Just : (Binding → Type 0) → List Binding → Type 0
  Just = AreJust system m depth

  -- those that start by the transitions before one, and those that start by it
  pub more_below : (t : ℕ) (found more : List Binding) →
      Just (HasStartBelow number net t) found → Just (λ b. StartsAt b (start_of number net t)) more →
      Just (HasStartBelow number net (t + 1)) (found ++ more)
  more_below t found more = just_more system m depth (HasStartBelow number net t)
      (λ b. StartsAt b (start_of number net t)) (HasStartBelow number net (t + 1)) found more
      (λ b (u, below, starts). (u, omega (arith, below), starts))
      (λ b starts. (t, omega arith, starts))
      (λ b enabled (u, below, starts). ⊎_elim
      (λ (before : u < t). inl (u, before, starts))
      (λ (after : t ≤ u).
      let same : u ≡ t = omega (arith, below) in
      inr (subst (λ v. StartsAt b (start_of number net v)) same starts))
      (less_or_not u t))
      (λ b (u, below, starts) also.
      let same = one_transition b number net u t starts also in
      omega (arith, below))

  -- those are all that start with the instance
  pub all_below : (end : ℕ) (found : List Binding) → net_of m number ≡ Some net →
      end ≡ length (net_at system net).transitions → Just (HasStartBelow number net end) found →
      Just (HasStartIn number) found
  all_below end found is whole = just_same system m depth (HasStartBelow number net end)
      (HasStartIn number) found
      (λ b enabled (t, below, starts). (net, t, starts))
      (λ b enabled (other, t, starts).
      let start = is_start_of system m number other t
      (may_start_there system m depth b (start_of number other t) enabled starts) in
      let also = start.of_net in
      let same : other ≡ net = cc in
      let there = subst (λ n. t < length (net_at system n).transitions) same start.there in
      (t, omega arith, subst (λ n. StartsAt b (start_of number n t)) same starts))

module _ (system : System) (uplinks : Uplinks) (table : Kept) (depth : ℕ)
    (searched : IsSearchable system uplinks table) where
  abbrev Those : (Binding → Type 0) → List Binding → Type 0
  Those = AreJust system table.marking depth

  -- the instance of an enabled binding's start
  pub starts_among : (b : Binding) (number : ℕ) → Enabled system table.marking b depth →
      HasStartIn number b → Contains table.starting number
  starts_among b number enabled (net, t, starts) =
      is_among system uplinks table number net t searched
      (is_start_of system table.marking number net t
      (may_start_there system table.marking depth b (start_of number net t) enabled starts))

  -- those that start with the instances before a number, and those that start with the next one
  pub more_before : (from number : ℕ) (found more : List Binding) →
      find (λ n. nat_le from n) table.starting ≡ Some number →
      Those (HasStartBefore from) found → Those (HasStartIn number) more →
      Those (HasStartBefore (number + 1)) (found ++ more)
  more_before from number found more first =
      let least = (first_from from table.starting number (ascend system uplinks table searched)
      first).0 in
      just_more system table.marking depth (HasStartBefore from) (HasStartIn number)
      (HasStartBefore (number + 1)) found more
      (λ b (n, below, starts). (n, omega (arith, below), starts))
      (λ b starts. (number, omega arith, starts))
      (λ b enabled (n, below, starts). ⊎_elim
      (λ (before : n < from). inl (n, before, starts))
      (λ (after : from ≤ n).
      let not_less = before_first system uplinks table from number n searched first
      (starts_among b n enabled starts) after in
      let same : n ≡ number = omega (arith, below) in
      inr (subst (λ k. HasStartIn k b) same starts))
      (less_or_not n from))
      (λ b (n, below, starts) also.
      let same = one_number b n number starts also in
      omega (arith, below))

  -- where there is no next one, those are all
  pub all_before : (from : ℕ) (found : List Binding) →
      find (λ n. nat_le from n) table.starting ≡ None → Those (HasStartBefore from) found →
      Those (λ b. ⊤) found
  all_before from found none = just_same system table.marking depth (HasStartBefore from) (λ b. ⊤)
      found
      (λ b enabled before. tt)
      (λ b enabled any.
      let starts = starts_in system table.marking depth b enabled in (
        starts.0,
        none_from from table.starting none starts.0 (starts_among b starts.0 enabled starts.1),
        starts.1,
      ))

  -- up to the next one
  pub none_up_to : (from next number end : ℕ) →
      find (λ n. nat_le next n) table.starting ≡ Some number → end ≤ number →
      AreNoStartsBetween system table depth from next →
      AreNoStartsBetween system table depth from end
  none_up_to from next number end first past before k least below there = ⊎_elim
      (λ (less : k < next). before k least less there)
      (λ (not_less : next ≤ k).
      let after = before_first system uplinks table next number k searched first there not_less in
      absurd (omega arith))
      (less_or_not k next)

  -- where there is no next one
  pub none_further : (from next end : ℕ) → find (λ n. nat_le next n) table.starting ≡ None →
      AreNoStartsBetween system table depth from next →
      AreNoStartsBetween system table depth from end
  none_further from next end first before k least below there =
      before k least (none_from next table.starting first k there) there

  -- the next one isn't before
  pub next_is_later : (next number : ℕ) →
      find (λ n. nat_le next n) table.starting ≡ Some number → next ≤ number
  next_is_later next number first =
      (first_from next table.starting number (ascend system uplinks table searched) first).0

  -- it is below the number of the next instance
  pub next_is_below : (next number : ℕ) →
      find (λ n. nat_le next n) table.starting ≡ Some number → number < table.marking.next
  next_is_below next number first =
      below_next system uplinks table number searched
      (found_is_there (λ n. nat_le next n) table.starting number first)

  -- from a number on, and before it: nowhere
  pub none_all_round : (from : ℕ) →
      AreNoStartsBetween system table depth from table.marking.next →
      AreNoStartsBetween system table depth 0 from → DeadAt system table.marking depth
  none_all_round from later earlier =
      dead_where_none system uplinks table depth searched
      (λ k there. ⊎_elim
      (λ (before : k < from). earlier k (omega arith) before there)
      (λ (after : from ≤ k).
      later k after (below_next system uplinks table k searched there) there)
      (less_or_not k from))

  pub found_all_round : (from : ℕ) (found : Option Binding) →
      AreNoStartsBetween system table depth from table.marking.next →
      IfSome found (λ b. Enabled system table.marking b depth) →
      IfNone found (AreNoStartsBetween system table depth 0 from) →
      IsNone found ↔ DeadAt system table.marking depth
  found_all_round from None later some earlier =
      found_or_dead system table.marking depth None some (none_all_round from later earlier)
  found_all_round from (Some b) later some earlier =
      found_or_dead system table.marking depth (Some b) some earlier
