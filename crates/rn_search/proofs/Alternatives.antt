-- Alternatives of a point: which decisions they are, and that no two are the same.
use Rattle.std.proofs.Common.{◌≡◌, ℕ, zero, suc, ◌+◌, ◌<◌, ◌≤◌, Bool, true, false, List, [], ◌∷◌}
use Rattle.std.proofs.Common.{◌++◌, length, take, refl, sym, ap, ◌∙◌, subst, arith}
use Rattle.std.specs.Prelude.{Option, Some, None, option_map, option_and_then, slice_get, Contains}
use Rattle.std.specs.Prelude.{nat_eq, if◌then◌else◌}
use Rattle.std.proofs.lemmas.Bool.{eqb-true}
use Rattle.rn_value.specs.declared.value.InstRef.{InstRef}
use Rattle.rn_value.specs.declared.value.Value.{Value}
use Rattle.rn_model.specs.declared.system.Transition.{Transition}
use Rattle.rn_model.specs.declared.binding.Binding.{Binding}
use Rattle.rn_model.specs.Lists.{count_of, same_value}
use Rattle.rn_model.specs.Derivation.{Item}
use Rattle.rn_model.specs.Bindings.{Shape}
use Rattle.rn_model.specs.Systems.{net_at}
use Rattle.rn_model.proofs.AskedValues.{is_counted, same_itself}
use Rattle.rn_model.proofs.EnablingLemmas.{not_in_nil}
use Rattle.rn_model.proofs.ValueLists.{one_if, count_of-cons, same_is}
use Rattle.rn_growing.specs.declared.decision.Head.{Head}
use Rattle.rn_growing.specs.declared.decision.Caller.{Caller}
use Rattle.rn_growing.specs.declared.decision.Decision.{Decision}
use Rattle.rn_growing.specs.declared.decision.Decision.TheVariants.{Found, Computed}
use Rattle.rn_growing.specs.Decisions.{transition_in}
use Rattle.rn_growing.proofs.Followers.{On}
use Rattle.rn_growing.proofs.Growth.{some_equal, at_in}
use Rattle.rn_growing.proofs.SameUnknowns.{as_site}
use Rattle.rn_channel.specs.Answering.{is_of, answering, answering_from}
use Rattle.rn_search.specs.declared.point.Point.{Point}
use Rattle.rn_search.specs.declared.point.Point.TheVariants as P
use Rattle.rn_search.specs.Sought.{Sought}
use Rattle.rn_search.specs.Points.{node_of, first_token, tokens_of, holes_of, instance_of}
use Rattle.rn_search.specs.Points.{net_called, child, called_at, only_at, offered, offers}
use Rattle.rn_search.specs.Missing.{NoneLeadsNowhere, OneWay}
use Rattle.rn_search.proofs.Following.{last_on, one_value, one_head, is_decision}

-- an option that leads on to a value has a value that leads to it
pub from_and_then : {X Y : Type 0} (f : X → Option Y) (o : Option X) (y : Y) →
    option_and_then f o ≡ Some y → (x : X) × (o ≡ Some x) × (f x ≡ Some y)
from_and_then f None y e = absurd (let no : ⊥ = cc in no)
from_and_then f (Some x) y e = (x, refl, e)

-- a mapped option with a value was made of an option with one
pub from_map : {X Y : Type 0} (f : X → Y) (o : Option X) (y : Y) → option_map f o ≡ Some y →
    (x : X) × (o ≡ Some x) × (f x ≡ y)
from_map f None y e = absurd (let no : ⊥ = cc in no)
from_map f (Some x) y e = (x, refl, some_equal (f x) y e)

apart : (j k : ℕ) → ((j < k) → ⊥) → ((k < j) → ⊥) → j ≡ k
apart j k not_less not_more = grind arith

-- Tokens that no earlier one equals.
none_before : (n : ℕ) (zeroth : Bool) (v w : Value) → nat_eq n 0 ≡ zeroth →
    (if zeroth then Some v else None) ≡ Some w → (v ≡ w) × (n ≡ 0)
none_before n true v w e is = (some_equal v w is, eqb-true n 0 e)
none_before n false v w e is = absurd (let no : ⊥ = cc in no)

-- a first token stands at its index, and at none before it
pub first_is : (ts : List Value) (i : ℕ) (v : Value) → first_token ts i ≡ Some v →
    (slice_get ts i ≡ Some v) × (count_of v (take i ts) ≡ 0)
first_is ts i v e =
    let got = from_and_then
    (λ w. if nat_eq (count_of w (take i ts)) 0 then Some w else None) (slice_get ts i) v e in
    let both = none_before (count_of got.0 (take i ts)) (nat_eq (count_of got.0 (take i ts)) 0)
    got.0 v refl got.2 in (
      got.1 ∙ ap Some both.0,
      subst (λ w. count_of w (take i ts) ≡ 0) both.0 both.1,
    )

pub is_first : (ts : List Value) (i : ℕ) (v : Value) → slice_get ts i ≡ Some v →
    count_of v (take i ts) ≡ 0 → first_token ts i ≡ Some v
is_first ts i v at none = rw (at, none) refl

in_front : {X : Type 0} (xs : List X) (i j : ℕ) (x : X) → slice_get xs i ≡ Some x → i < j →
    slice_get (take j xs) i ≡ Some x
in_front [] i j x at less = absurd (let no : ⊥ = cc in no)
in_front (y ∷ xs) i zero x at less = absurd (let no : ⊥ = omega (arith, less) in no)
in_front (y ∷ xs) zero (suc j) x at less = at
in_front (y ∷ xs) (suc i) (suc j) x at less = in_front xs i j x at (omega (arith, less))

not_earlier : (ts : List Value) (i j : ℕ) (v : Value) → first_token ts i ≡ Some v →
    first_token ts j ≡ Some v → (i < j) → ⊥
not_earlier ts i j v one other less =
    let first = first_is ts i v one in
    let second = first_is ts j v other in
    let some = is_counted v (take j ts) (at_in (take j ts) i v (in_front ts i j v first.0 less)) in
    let none = second.1 in
    let no : ⊥ = omega (arith, some, none) in no

-- a token is first at one index alone
pub first_once : (ts : List Value) (i j : ℕ) (v : Value) → first_token ts i ≡ Some v →
    first_token ts j ≡ Some v → i ≡ j
first_once ts i j v one other =
    apart i j (not_earlier ts i j v one other) (not_earlier ts j i v other one)

differs_here : (v t : Value) → t ≡ v → same_value v t ≡ false → ⊥
differs_here v t e differs =
    let same : true ≡ false = sym (same_itself v) ∙ ap (same_value v) (sym e) ∙ differs in
    let no : ⊥ = cc in no

among_rest : (v t : Value) (ts : List Value) → Contains (t ∷ ts) v → same_value v t ≡ false →
    Contains ts v
among_rest v t ts (zero, h, e) differs = absurd (differs_here v t e differs)
among_rest v t ts (suc k, h, e) differs = (k, omega (arith, h), e)

later_first : (v t : Value) (ts : List Value) (i : ℕ) → same_value v t ≡ false →
    first_token ts i ≡ Some v → first_token (t ∷ ts) (suc i) ≡ Some v
later_first v t ts i differs first =
    let is = first_is ts i v first in
    let whole = count_of-cons v t (take i ts) in
    let none : one_if (same_value v t) ≡ 0 = ap one_if differs in
    let before = is.1 in
    is_first (t ∷ ts) (suc i) v is.0 (omega (arith, whole, none, before))

abbrev pub HasFirst : List Value → Value → Type 0
HasFirst ts v = (i : ℕ) × (i < length ts) × (first_token ts i ≡ Some v)

by_first : (v t : Value) (ts : List Value) (same : Bool) → same_value v t ≡ same →
    (same ≡ false → HasFirst ts v) → HasFirst (t ∷ ts) v
by_first v t ts true e others =
    (0, omega arith, is_first (t ∷ ts) 0 v (ap Some (sym (same_is v t e))) refl)
by_first v t ts false e others =
    let rest = others refl in
    let within = rest.1 in
    (suc rest.0, omega (arith, within), later_first v t ts rest.0 e rest.2)

-- each token has a first that equals it
pub has_first : (ts : List Value) (v : Value) → Contains ts v → HasFirst ts v
has_first [] v there = absurd (not_in_nil v there)
has_first (t ∷ ts) v there =
    by_first v t ts (same_value v t) refl
    (λ e. has_first ts v (among_rest v t ts there e))

-- Transitions that answer stand once, and each that answers is there.
least_of : (keeps : Bool) (k i t : ℕ) (rest : List ℕ) →
    ((j : ℕ) → slice_get rest j ≡ Some t → suc k ≤ t) →
    slice_get (if keeps then k ∷ rest else rest) i ≡ Some t → k ≤ t
least_of true k zero t rest above e = let same : k ≡ t = some_equal k t e in omega (arith, same)
least_of true k (suc i) t rest above e = let low = above i e in omega (arith, low)
least_of false k i t rest above e = let low = above i e in omega (arith, low)

pub at_least : (channel k : ℕ) (ts : List Transition) (i t : ℕ) →
    slice_get (answering_from channel k ts) i ≡ Some t → k ≤ t
at_least channel k [] i t e = absurd (let no : ⊥ = cc in no)
at_least channel k (x ∷ ts) i t e =
    least_of (is_of channel x.uplink) k i t (answering_from channel (suc k) ts)
    (λ j at. at_least channel (suc k) ts j t at) e

past : (k j t : ℕ) (rest : List ℕ) → ((j : ℕ) → slice_get rest j ≡ Some t → suc k ≤ t) →
    k ≡ t → slice_get rest j ≡ Some t → ⊥
past k j t rest above same e = let low = above j e in let no : ⊥ = omega (arith, low, same) in no

once_of : (keeps : Bool) (k i j t : ℕ) (rest : List ℕ) →
    ((j : ℕ) → slice_get rest j ≡ Some t → suc k ≤ t) →
    ((i j : ℕ) → slice_get rest i ≡ Some t → slice_get rest j ≡ Some t → i ≡ j) →
    slice_get (if keeps then k ∷ rest else rest) i ≡ Some t →
    slice_get (if keeps then k ∷ rest else rest) j ≡ Some t → i ≡ j
once_of true k zero zero t rest above once e f = refl
once_of true k zero (suc j) t rest above once e f =
    absurd (past k j t rest above (some_equal k t e) f)
once_of true k (suc i) zero t rest above once e f =
    absurd (past k i t rest above (some_equal k t f) e)
once_of true k (suc i) (suc j) t rest above once e f =
    let same = once i j e f in omega (arith, same)
once_of false k i j t rest above once e f = once i j e f

pub answers_once : (channel k : ℕ) (ts : List Transition) (i j t : ℕ) →
    slice_get (answering_from channel k ts) i ≡ Some t →
    slice_get (answering_from channel k ts) j ≡ Some t → i ≡ j
answers_once channel k [] i j t e f = absurd (let no : ⊥ = cc in no)
answers_once channel k (x ∷ ts) i j t e f =
    once_of (is_of channel x.uplink) k i j t (answering_from channel (suc k) ts)
    (λ j at. at_least channel (suc k) ts j t at)
    (λ i j at also. answers_once channel (suc k) ts i j t at also) e f

put_before : (keeps : Bool) (k t : ℕ) (rest : List ℕ) (i : ℕ) → slice_get rest i ≡ Some t →
    (i : ℕ) × (slice_get (if keeps then k ∷ rest else rest) i ≡ Some t)
put_before true k t rest i e = (suc i, e)
put_before false k t rest i e = (i, e)

pub has_answer : (channel k : ℕ) (ts : List Transition) (t : ℕ) (x : Transition) →
    slice_get ts t ≡ Some x → is_of channel x.uplink ≡ true →
    (i : ℕ) × (slice_get (answering_from channel k ts) i ≡ Some (k + t))
has_answer channel k [] t x at is = absurd (let no : ⊥ = cc in no)
has_answer channel k (y ∷ ts) zero x at is =
    let same : y ≡ x = some_equal y x at in
    let keeps : is_of channel y.uplink ≡ true =
    ap (λ z. is_of channel z.uplink) same ∙ is in
    let place : k ≡ k + 0 = omega arith in (
      0,
      subst (λ keep. slice_get (if keep then k ∷ answering_from channel (suc k) ts
          else answering_from channel (suc k) ts) 0 ≡ Some (k + 0)) (sym keeps) (ap Some place),
    )
has_answer channel k (y ∷ ts) (suc t) x at is =
    let rest = has_answer channel (suc k) ts t x at is in
    let place : suc k + t ≡ k + suc t = omega arith in
    put_before (is_of channel y.uplink) k (k + suc t) (answering_from channel (suc k) ts) rest.0
    (rest.1 ∙ ap Some place)

-- No two alternatives of a point are one decision.
only_is : (a : ℕ) (x d : Decision) → only_at a x ≡ Some d → a ≡ 0
only_is zero x d e = refl
only_is (suc a) x d e = absurd (let no : ⊥ = cc in no)

only_once : (a c : ℕ) (x y d e : Decision) → only_at a x ≡ Some d → only_at c y ≡ Some e → a ≡ c
only_once a c x y d e is also = only_is a x d is ∙ sym (only_is c y e also)

module _ (sought : Sought) (ds : List Decision) (b : Binding) (depth : ℕ)
    (shape : Shape sought.system b depth) (d e : Decision) (one other : Item)
    (first : On sought.system b d one) (second : On sought.system b e other) where
  one_token : (head : Head) (k : ℕ) (ts : List Value) (i j : ℕ) →
      option_map (λ v. Found head k v) (first_token ts i) ≡ Some d →
      option_map (λ v. Found head k v) (first_token ts j) ≡ Some e → i ≡ j
  one_token head k ts i j is also =
      let left = from_map (λ v. Found head k v) (first_token ts i) d is in
      let right = from_map (λ v. Found head k v) (first_token ts j) e also in
      let same : left.0 ≡ right.0 = one_value sought.system b depth shape head k left.0 right.0
      one other (subst (λ x. On sought.system b x one) (sym left.2) first)
      (subst (λ x. On sought.system b x other) (sym right.2) second) in
      first_once ts i j right.0 (left.1 ∙ ap Some same) right.1

  one_answer : (from : Head) (i : ℕ) (inst : InstRef) (net a c : ℕ) →
      called_at sought.system from i inst a net ≡ Some d →
      called_at sought.system from i inst c net ≡ Some e → a ≡ c
  one_answer from i inst net a c is also =
      let links = (transition_in sought.system from).downlinks in
      let left = from_and_then
      (λ l. option_map (child from i inst net) (slice_get (answering sought.system net
      l.channel) a))
      (slice_get links i) d is in
      let right = from_and_then
      (λ l. option_map (child from i inst net) (slice_get (answering sought.system net
      l.channel) c))
      (slice_get links i) e also in
      let link : left.0 ≡ right.0 = some_equal left.0 right.0 (sym left.1 ∙ right.1) in
      let answers = answering sought.system net right.0.channel in
      let t = from_map (child from i inst net)
      (slice_get (answering sought.system net left.0.channel) a) d left.2 in
      let u = from_map (child from i inst net) (slice_get answers c) e right.2 in
      let by : Caller = record { head = from; downlink = i } in
      let heads = one_head sought.system b depth shape
      (record { path = from.path ++ i ∷ []; inst = inst; net = net; transition = t.0 })
      (record { path = from.path ++ i ∷ []; inst = inst; net = net; transition = u.0 })
      (Some by) (Some by) one other (subst (λ x. On sought.system b x one) (sym t.2) first)
      (subst (λ x. On sought.system b x other) (sym u.2) second) refl in
      let same : t.0 ≡ u.0 = ap (λ h. h.transition) heads in
      answers_once right.0.channel 0 (net_at sought.system net).transitions a c u.0
      (subst (λ l. slice_get (answering sought.system net l.channel) a ≡ Some u.0) link
      (t.1 ∙ ap Some same)) u.1

  one_alternative : (point : Point) (a c : ℕ) → offered sought ds point a ≡ Some d →
      offered sought ds point c ≡ Some e → a ≡ c
  one_alternative P.Start a c is also = only_once a c _ _ d e is also
  one_alternative (P.Token node k from) a c is also =
      let head = node_of sought ds node in
      let same = one_token head k (tokens_of sought head k) (from + a) (from + c) is also in
      omega (arith, same)
  one_alternative (P.List node k) a c is also = only_once a c _ _ d e is also
  one_alternative (P.Result node k n) a c is also =
      let head = node_of sought ds node in
      let holes = holes_of (transition_in sought.system head) in
      let left = from_and_then
      (λ hole. only_at a (Computed head (as_site hole.0) hole.1.way (Value.Int n)))
      (slice_get holes k) d is in
      let right = from_and_then
      (λ hole. only_at c (Computed head (as_site hole.0) hole.1.way (Value.Int n)))
      (slice_get holes k) e also in
      only_once a c _ _ d e left.2 right.2
  one_alternative (P.Call node i called) a c is also =
      let head = node_of sought ds node in
      let inst = instance_of sought ds called in
      let left = from_and_then (called_at sought.system head i inst a)
      (net_called sought ds called) d is in
      let right = from_and_then (called_at sought.system head i inst c)
      (net_called sought ds called) e also in
      let net : left.0 ≡ right.0 = some_equal left.0 right.0 (sym left.1 ∙ right.1) in
      one_answer head i inst right.0 a c
      (subst (λ m. called_at sought.system head i inst a m ≡ Some d) net left.2) right.2

-- different alternatives of a point lead to different bindings
pub one_way : OneWay
one_way sought ds point a c b leads also =
    let first = last_on sought.system b ds leads.follows.0 (offers sought ds point a)
    leads.follows.1 in
    let second = last_on sought.system b ds also.follows.0 (offers sought ds point c)
    also.follows.1 in
    let shape = leads.enabled.shape in
    let d = is_decision sought.system b sought.depth shape (offered sought ds point a) first.0
    first.1 in
    let e = is_decision sought.system b sought.depth shape (offered sought ds point c) second.0
    second.1 in
    one_alternative sought ds b sought.depth shape d.0 e.0 first.0 second.0 d.2 e.2 point a c d.1
    e.1

-- an alternative that isn't a decision leads to nothing
pub none_leads_nowhere : NoneLeadsNowhere
none_leads_nowhere sought ds point a b none leads =
    let last = last_on sought.system b ds leads.follows.0 (offers sought ds point a)
    leads.follows.1 in
    let d = is_decision sought.system b sought.depth leads.enabled.shape (offered sought ds
    point a)
    last.0 last.1 in
    let both = sym none ∙ d.1 in let no : ⊥ = cc in no
