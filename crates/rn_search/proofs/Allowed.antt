-- The alternatives of a point may be tried.
use Rattle.std.proofs.Common.{◌≡◌, ℕ, zero, suc, ◌+◌, ◌<◌, Bool, true, false, List, [], ◌∷◌}
use Rattle.std.proofs.Common.{◌++◌, length, length-append, map, refl, sym, ap, ◌∙◌, subst, arith}
use Rattle.std.proofs.Common.{inl, inr, ◌⊎◌}
use Rattle.std.specs.Prelude.{Option, Some, None, slice_get, Contains, All, option_map, unwrap_or}
use Rattle.std.specs.Prelude.{if◌then◌else◌}
use Rattle.std.specs.List.{list_any}
use Rattle.std.proofs.lemmas.Bool.{eqb-true}
use Rattle.std.proofs.lemmas.List.Elements.{All-contains_itself}
use Rattle.std.proofs.lemmas.Option.{slice_get-get_or, unwrap_or-slice_get}
use Rattle.rn_value.specs.Kinds.{HasKind}
use Rattle.rn_value.specs.declared.value.InstRef.{InstRef}
use Rattle.rn_value.specs.declared.value.InstRef.TheVariants.{Old, New}
use Rattle.rn_value.specs.declared.value.Kind.{Kind}
use Rattle.rn_value.specs.declared.value.Value.{Value, fold_out-Value}
use Rattle.rn_value.specs.declared.value.Value.TheVariants as Value
use Rattle.rn_model.specs.declared.system.Transition.{Transition}
use Rattle.rn_model.specs.declared.system.Net.{Net}
use Rattle.rn_model.specs.declared.system.ArcKind.{ArcKind}
use Rattle.rn_model.specs.declared.system.ArcKind.TheVariants.{Input, Output, Test, Reserve}
use Rattle.rn_model.specs.declared.system.ArcKind.TheVariants.{FlexInput, FlexOutput, Inhibit, Clear}
use Rattle.rn_model.specs.declared.system.NetArc.{NetArc}
use Rattle.rn_model.specs.declared.system.System.{System}
use Rattle.rn_model.specs.declared.system.Uplink.{Uplink}
use Rattle.rn_model.specs.Agreement.{inscribed_kind}
use Rattle.rn_model.specs.Derivation.{finds_token, finds_values}
use Rattle.rn_model.specs.Markings.{net_of, tokens}
use Rattle.rn_model.specs.Systems.{net_at, empty_net, empty_transition, place_kind, transition_at}
use Rattle.rn_model.specs.Systems.{vars_in}
use Rattle.rn_model.specs.SoundTokens.{holds_new, new_in_step}
use Rattle.rn_model.proofs.EnablingLemmas.{not_in_nil}
use Rattle.rn_model.proofs.KindRules.{value_has_kind-Int}
use Rattle.rn_model.proofs.MendedValues.{each_listed}
use Rattle.rn_model.proofs.AskedValues.{later}
use Rattle.rn_model.proofs.Rounds.{all_more}
use Rattle.rn_growing.specs.declared.decision.Caller.{Caller}
use Rattle.rn_growing.specs.declared.decision.Head.{Head}
use Rattle.rn_growing.specs.declared.decision.Decision.{Decision}
use Rattle.rn_growing.specs.declared.decision.Decision.TheVariants.{Entered, Found, Computed}
use Rattle.rn_growing.specs.Decisions.{transition_in, site_of}
use Rattle.rn_growing.specs.Turns.{IsEntered, IsVarForced, IsHole, MayBeCalled}
use Rattle.rn_growing.proofs.Growth.{some_equal, at_in}
use Rattle.rn_growing.proofs.SameUnknowns.{as_site, as_site-is}
use Rattle.rn_channel.specs.Answering.{is_of, answering, answering_from}
use Rattle.rn_search.specs.Sought.{Sought}
use Rattle.rn_search.specs.Points.{node_of, tokens_of, first_token, holes_of, instance_of, child}
use Rattle.rn_search.specs.Points.{net_called, called_at, only_at}
use Rattle.rn_search.specs.Making.{is_made}
use Rattle.rn_search.specs.Problems.{HasFitTokens}
use Rattle.rn_search.specs.Standing.{IsHead, IsOfItsNet, AreSound, MayBeMade}
use Rattle.rn_search.specs.Allowing.{IsOpen, StartIsAllowed, TokensAreAllowed, ListsAreAllowed}
use Rattle.rn_search.specs.Allowing.{ResultsAreAllowed, CallsAreAllowed}
use Rattle.rn_search.specs.declared.point.Called.{Called}
use Rattle.rn_search.specs.declared.point.Called.TheVariants.{Kept, Made}
use Rattle.rn_search.proofs.Alternatives.{from_map, from_and_then, first_is, at_least}
use Rattle.rn_search.proofs.Offered.{at_site}

-- a net with a transition is one of the system
pub net_there : (nets : List Net) (n : ℕ) (t : ℕ) →
    t < length (unwrap_or (slice_get nets n) empty_net).transitions → n < length nets
net_there [] n t low = absurd (let no : ⊥ = omega (arith, low) in no)
net_there (net ∷ nets) zero t low = omega arith
net_there (net ∷ nets) (suc n) t low =
    let rest = net_there nets n t low in omega (arith, rest)

pub only_one_is : (a : ℕ) (x d : Decision) → only_at a x ≡ Some d → x ≡ d
only_one_is zero x d e = some_equal x d e
only_one_is (suc a) x d e = absurd (let no : ⊥ = cc in no)

pub same_number : (k n : ℕ) → Old k ≡ Old n → k ≡ n
same_number k n e = cc

its_head : (sought : Sought) (ds : List Decision) (head : Head) →
    AreSound sought.system sought.marking sought.depth ds → IsEntered ds head →
    IsHead sought.system sought.depth head
its_head sought ds head sound (caller, there) = sound.heads (Entered head caller) there

pub its_net : (sought : Sought) (ds : List Decision) (head : Head) →
    AreSound sought.system sought.marking sought.depth ds → IsEntered ds head →
    IsOfItsNet sought.marking head
its_net sought ds head sound (caller, there) = sound.placed (Entered head caller) there

-- a token of a place has its kind
pub token_kind : (sought : Sought) (inst : InstRef) (net place : ℕ) (v : Value) →
    HasFitTokens sought.system sought.marking →
    ((n : ℕ) → inst ≡ Old n → net_of sought.marking n ≡ Some net) →
    Contains (tokens sought.marking inst place) v → HasKind v (place_kind sought.system net place)
token_kind sought (Old n) net place v fit placed there = (fit n net place v (placed n refl) there).0
token_kind sought (New path j) net place v fit placed there = absurd (not_in_nil v there)

-- the kind of what an arc finds
pub token_found : (kind : ArcKind) (of : Kind) (v : Value) → finds_token kind ≡ true → HasKind v of →
    HasKind v (inscribed_kind kind of)
token_found Input of v finds has = has
token_found Test of v finds has = has
token_found Reserve of v finds has = has
token_found Clear of v finds has = absurd (let no : ⊥ = cc in no)
token_found Output of v finds has = absurd (let no : ⊥ = cc in no)
token_found FlexInput of v finds has = absurd (let no : ⊥ = cc in no)
token_found FlexOutput of v finds has = absurd (let no : ⊥ = cc in no)
token_found Inhibit of v finds has = absurd (let no : ⊥ = cc in no)

list_found : (kind : ArcKind) (of : Kind) (ts : List Value) → finds_values kind ≡ true →
    finds_token kind ≡ false → ((v : Value) → Contains ts v → HasKind v of) →
    HasKind (Value.List ts) (inscribed_kind kind of)
list_found Clear of ts finds list each = each_listed of ts each
list_found Input of ts finds list each = absurd (let no : ⊥ = cc in no)
list_found Test of ts finds list each = absurd (let no : ⊥ = cc in no)
list_found Reserve of ts finds list each = absurd (let no : ⊥ = cc in no)
list_found Output of ts finds list each = absurd (let no : ⊥ = cc in no)
list_found FlexInput of ts finds list each = absurd (let no : ⊥ = cc in no)
list_found FlexOutput of ts finds list each = absurd (let no : ⊥ = cc in no)
list_found Inhibit of ts finds list each = absurd (let no : ⊥ = cc in no)

-- the start may be tried where it may start a firing
pub start_is_allowed : StartIsAllowed
start_is_allowed sought a may d is =
    let start = sought.start in
    let low = may.there in
    let short = ap length may.path in
    let made : MayBeMade sought.system sought.marking sought.depth [] (Entered start None) = record {
      may = (refl, may.path);
      fresh = λ e there. absurd (not_in_nil e there);
      head = record {
        net = net_there sought.system.nets start.net start.transition low;
        transition = low;
        deep = omega (arith, short);
      };
      placed = λ n old.
          let same : Old may.number ≡ Old n = sym may.inst ∙ old in
          subst (λ k. net_of sought.marking k ≡ Some start.net) (same_number may.number n same)
          may.net;
      kinded = (
        net_there sought.system.nets start.net start.transition low,
        low,
        λ from downlink uplink is. absurd (let no : ⊥ = cc in no),
      );
      made = ap (is_made sought.system []) may.inst;
      right = tt;
    } in
    subst (MayBeMade sought.system sought.marking sought.depth []) (only_one_is a (Entered start None) d is) made

-- what an open arc finds may be made
found_is_allowed : (sought : Sought) (ds : List Decision) (node k : ℕ) (v : Value) →
    (opened : IsOpen sought ds node k) → holds_new v ≡ false →
    HasKind v (inscribed_kind opened.arc.kind
    (place_kind sought.system (node_of sought ds node).net opened.arc.place)) →
    MayBeMade sought.system sought.marking sought.depth ds (Found (node_of sought ds node) k v)
found_is_allowed sought ds node k v open_arc old kind = record {
  may = (open_arc.entered, (open_arc.arc, open_arc.there, open_arc.finds));
  fresh = open_arc.fresh v;
  head = its_head sought ds (node_of sought ds node) open_arc.sound open_arc.entered;
  placed = its_net sought ds (node_of sought ds node) open_arc.sound open_arc.entered;
  kinded = λ x at.
      let head = node_of sought ds node in
      subst (λ y. HasKind v (inscribed_kind y.kind (place_kind sought.system head.net y.place)))
      (some_equal open_arc.arc x (sym open_arc.there ∙ at)) kind;
  made = old;
  right = tt;
}

-- each token of the place of an open arc has its kind
place_has_kind : (sought : Sought) (ds : List Decision) (node k : ℕ)
    (opened : IsOpen sought ds node k) (v : Value) →
    Contains (tokens_of sought (node_of sought ds node) k) v →
    HasKind v (place_kind sought.system (node_of sought ds node).net opened.arc.place)
place_has_kind sought ds node k opened v there =
    let head = node_of sought ds node in
    token_kind sought head.inst head.net opened.arc.place v opened.tokens
    (its_net sought ds head opened.sound opened.entered)
    (subst (λ o. Contains (unwrap_or (option_map
    (λ (y : NetArc). tokens sought.marking head.inst y.place) o) []) v) opened.there there)

-- a token may be tried at an arc that is open
pub tokens_are_allowed : TokensAreAllowed
tokens_are_allowed sought ds node k from a open_arc token d is =
    let head = node_of sought ds node in
    let ts = tokens_of sought head k in
    let v = from_map (λ v. Found head k v) (first_token ts (from + a)) d is in
    let first = first_is ts (from + a) v.0 v.1 in
    subst (MayBeMade sought.system sought.marking sought.depth ds) v.2
    (found_is_allowed sought ds node k v.0 open_arc
    (open_arc.old v.0 (at_in ts (from + a) v.0 first.0))
    (token_found open_arc.arc.kind (place_kind sought.system head.net open_arc.arc.place) v.0 token
    (place_has_kind sought ds node k open_arc v.0 (at_in ts (from + a) v.0 first.0))))

none_new : (ts : List Value) → ((v : Value) → Contains ts v → holds_new v ≡ false) →
    list_any (λ h. h) (map holds_new ts) ≡ false
none_new [] old = refl
none_new (t ∷ ts) old =
    let here = old t (0, omega arith, refl) in
    let rest = none_new ts (λ v there. old v (later t v ts there)) in
    rw (here, rest) refl

list_old : (ts : List Value) → ((v : Value) → Contains ts v → holds_new v ≡ false) →
    holds_new (Value.List ts) ≡ false
list_old ts old =
    fold_out-Value Bool new_in_step (Value.List ts) ∙ rw (Value.outs-List ts) (none_new ts old)

-- and so may the list of tokens
pub lists_are_allowed : ListsAreAllowed
lists_are_allowed sought ds node k a open_arc list d is =
    let head = node_of sought ds node in
    let v : Value = Value.List (tokens_of sought head k) in
    subst (MayBeMade sought.system sought.marking sought.depth ds) (only_one_is a (Found head k v) d is)
    (found_is_allowed sought ds node k v open_arc (list_old (tokens_of sought head k)
    open_arc.old)
    (list_found open_arc.arc.kind (place_kind sought.system head.net open_arc.arc.place)
    (tokens_of sought head k) open_arc.finds list (place_has_kind sought ds node k open_arc)))

-- the known value of an operator application may be tried, where none is decided
pub results_are_allowed : ResultsAreAllowed
results_are_allowed sought ds node k a n hole env sound entered at known value fresh d is =
    let head = node_of sought ds node in
    let system = sought.system in
    let t = transition_in system head in
    let v : Value = Value.Int n in
    let site = at_site t k hole at in
    let of : IsHole system head (site_of (as_site hole.0)) hole.1 =
    subst (λ s. IsHole system head s hole.1) (sym (as_site-is hole.0)) site in
    let forced : All (IsVarForced system ds head) (vars_in hole.1.form) =
    all_more (Contains (vars_in hole.1.form)) (IsVarForced system ds head) (vars_in hole.1.form)
    (λ x occurs. let w = known.forced x occurs in (w.0, w.2))
    (All-contains_itself (vars_in hole.1.form)) in
    let made : MayBeMade system sought.marking sought.depth ds (Computed head (as_site hole.0) hole.1.way v) =
    record {
      may = (entered, (hole.1, refl, of, forced));
      fresh = fresh v;
      head = its_head sought ds head sound entered;
      placed = its_net sought ds head sound entered;
      kinded = value_has_kind-Int n;
      made = (n, refl);
      right = (hole.1, refl, of, (env, known, value));
    } in
    let got = from_and_then
    (λ hole. only_at a (Computed head (as_site hole.0) hole.1.way v)) (slice_get (holes_of t)
    k) d is
    in
    let same : got.0 ≡ hole = some_equal got.0 hole (sym got.1 ∙ at) in
    let one : only_at a (Computed head (as_site hole.0) hole.1.way v) ≡ Some d =
    subst (λ h. only_at a (Computed head (as_site h.0) h.1.way v) ≡ Some d) same got.2 in
    subst (MayBeMade system sought.marking sought.depth ds)
    (only_one_is a (Computed head (as_site hole.0) hole.1.way v) d one) made

-- a transition that answers is one of the net
below_of : (keeps : Bool) (k i t end : ℕ) (rest : List ℕ) → k < end →
    ((j : ℕ) → slice_get rest j ≡ Some t → t < end) →
    slice_get (if keeps then k ∷ rest else rest) i ≡ Some t → t < end
below_of true k zero t end rest low all e =
    let same : k ≡ t = some_equal k t e in omega (arith, same, low)
below_of true k (suc i) t end rest low all e = all i e
below_of false k i t end rest low all e = all i e

pub answer_below : (channel k : ℕ) (ts : List Transition) (i t : ℕ) →
    slice_get (answering_from channel k ts) i ≡ Some t → t < k + length ts
answer_below channel k [] i t e = absurd (let no : ⊥ = cc in no)
answer_below channel k (x ∷ ts) i t e =
    below_of (is_of channel x.uplink) k i t (k + length (x ∷ ts)) (answering_from channel (suc
    k) ts)
    (omega arith)
    (λ j at. let rest = answer_below channel (suc k) ts j t at in omega (arith, rest)) e

-- its uplink is of the channel
chosen : (keeps : Bool) (k i t : ℕ) (rest : List ℕ) →
    slice_get (if keeps then k ∷ rest else rest) i ≡ Some t →
    ((keeps ≡ true) × (k ≡ t)) ⊎ ((j : ℕ) × (slice_get rest j ≡ Some t))
chosen true k zero t rest e = inl (refl, some_equal k t e)
chosen true k (suc i) t rest e = inr (i, e)
chosen false k i t rest e = inr (i, e)

answers_channel : (channel k : ℕ) (ts : List Transition) (i t j : ℕ) (x : Transition) →
    slice_get (answering_from channel k ts) i ≡ Some t → t ≡ k + j → slice_get ts j ≡ Some x →
    is_of channel x.uplink ≡ true
answers_channel channel k [] i t j x e is at = absurd (let no : ⊥ = cc in no)
answers_channel channel k (y ∷ ts) i t zero x e is at =
    elim (chosen (is_of channel y.uplink) k i t (answering_from channel (suc k) ts) e) as
    (λ _. is_of channel x.uplink ≡ true) [
      | inl here ↦ subst (λ z. is_of channel z.uplink ≡ true) (some_equal y x at) here.0
      | inr more ↦
          let low = at_least channel (suc k) ts more.0 t more.1 in
          absurd (let no : ⊥ = omega (arith, low, is) in no)
    ]
answers_channel channel k (y ∷ ts) i t (suc j) x e is at =
    elim (chosen (is_of channel y.uplink) k i t (answering_from channel (suc k) ts) e) as
    (λ _. is_of channel x.uplink ≡ true) [
      | inl here ↦ let same = here.1 in absurd (let no : ⊥ = omega (arith, same, is) in no)
      | inr more ↦
          let on : t ≡ suc k + j = omega (arith, is) in
          answers_channel channel (suc k) ts more.0 t j x more.1 on at
    ]

of_channel : (channel : ℕ) (o : Option Uplink) (u : Uplink) → is_of channel o ≡ true →
    o ≡ Some u → channel ≡ u.channel
of_channel channel o u is some =
    let here : is_of channel (Some u) ≡ true = ap (is_of channel) (sym some) ∙ is in
    sym (eqb-true u.channel channel here)

pub answer_is_of : (system : System) (channel net i t : ℕ) (u : Uplink) →
    slice_get (answering system net channel) i ≡ Some t →
    t < length (net_at system net).transitions → (transition_at system net t).uplink ≡ Some u →
    channel ≡ u.channel
answer_is_of system channel net i t u e within has =
    let ts = (net_at system net).transitions in
    let there : slice_get ts t ≡ Some (transition_at system net t) =
    slice_get-get_or ts t empty_transition within
    ∙ ap Some (sym (unwrap_or-slice_get ts t empty_transition)) in
    of_channel channel (transition_at system net t).uplink u
    (answers_channel channel 0 ts i t t (transition_at system net t) e (omega arith) there) has

-- an instance that is called is of the net that is called
called_net : (sought : Sought) (ds : List Decision) (called : Called) (net : ℕ) →
    net_called sought ds called ≡ Some net → (n : ℕ) → instance_of sought ds called ≡ Old n →
    net_of sought.marking n ≡ Some net
called_net sought ds (Kept k) net is n old =
    subst (λ j. net_of sought.marking j ≡ Some net) (same_number k n old) is
called_net sought ds (Made k j) net is n old = absurd (let no : ⊥ = cc in no)

-- the child at a downlink with a forced target may be tried, where it isn't too deep
pub calls_are_allowed : CallsAreAllowed
calls_are_allowed sought ds node i a downlink called sound entered at forced made short fresh d
    is =
    let head = node_of sought ds node in
    let system = sought.system in
    let inst = instance_of sought ds called in
    let net = from_and_then (called_at system head i inst a) (net_called sought ds called) d is in
    let link = from_and_then
    (λ l. option_map (child head i inst net.0) (slice_get (answering system net.0 l.channel) a))
    (slice_get (transition_in system head).downlinks i) d net.2 in
    let t = from_map (child head i inst net.0) (slice_get (answering system net.0
    link.0.channel) a) d
    link.2 in
    let low = answer_below link.0.channel 0 (net_at system net.0).transitions a t.0 t.1 in
    let within : t.0 < length (net_at system net.0).transitions = omega (arith, low) in
    let long = length-append head.path (i ∷ []) in
    let may : MayBeCalled system ds
    (record { path = head.path ++ i ∷ []; inst = inst; net = net.0; transition = t.0 })
    (record { head = head; downlink = i }) = record {
      entered = entered;
      downlink = downlink;
      there = at;
      path = refl;
      forced = (Value.Inst inst, forced);
    } in
    let whole : MayBeMade system sought.marking sought.depth ds (child head i inst net.0 t.0) = record {
      may = may;
      fresh = fresh net.0 t.0;
      head = record {
        net = net_there system.nets net.0 t.0 within;
        transition = within;
        deep = omega (arith, long, short);
      };
      placed = called_net sought ds called net.0 net.1;
      kinded = (
        net_there system.nets net.0 t.0 within,
        within,
        λ from l u is of has.
            let caller : record { head = head; downlink = i } ≡ from = some_equal _ from is in
            let here : slice_get (transition_in system head).downlinks i ≡ Some l =
            subst (λ (c : Caller). slice_get (transition_in system c.head).downlinks c.downlink ≡ Some l)
            (sym caller) of in
            let same : link.0 ≡ l = some_equal link.0 l (sym link.1 ∙ here) in
            ap (λ d. d.channel) (sym same)
            ∙ answer_is_of system link.0.channel net.0 a t.0 u t.1 within has,
      );
      made = made;
      right = tt;
    } in
    subst (MayBeMade system sought.marking sought.depth ds) t.2 whole
