-- What a branch keeps where a decision is made, and where some are taken back.
use Rattle.std.proofs.Common.{◌≡◌, ℕ, zero, suc, ◌<◌, ◌≤◌, Bool, true, false, List, [], ◌∷◌, ◌++◌}
use Rattle.std.proofs.Common.{◌+◌, length, take, drop, refl, sym, ap, ◌∙◌, subst}
use Rattle.std.specs.Prelude.{Option, Some, None, slice_get, Contains, IsTrue, option_map}
use Rattle.std.specs.Prelude.{unwrap_or}
use Rattle.std.proofs.Math.Seq.{take-append_seam, take-length}
use Rattle.std.proofs.lemmas.List.{take-append-drop}
use Rattle.std.proofs.lemmas.List.Elements.{Contains-append_left}
use Rattle.rn_choices.specs.Leading.{NoneLeads}
use Rattle.rn_model.specs.declared.system.System.{System}
use Rattle.rn_model.proofs.EnablingLemmas.{not_in_nil}
use Rattle.rn_value.specs.declared.value.Value.{Value}
use Rattle.rn_value.specs.declared.value.Value.TheVariants as Value
use Rattle.rn_growing.specs.declared.decision.Head.{Head}
use Rattle.rn_growing.specs.declared.decision.Caller.{Caller}
use Rattle.rn_growing.specs.declared.decision.Decision.{Decision}
use Rattle.rn_growing.specs.declared.decision.Decision.TheVariants.{Entered, Found, Computed}
use Rattle.rn_growing.specs.Decisions.{transition_in}
use Rattle.rn_growing.specs.Equations.{IsSolvable}
use Rattle.rn_growing.specs.Grown.{Grown, Tries, with_decision, first_decisions}
use Rattle.rn_growing.specs.Turns.{MayCome}
use Rattle.rn_growing.proofs.Growth.{at_in, some_equal}
use Rattle.rn_growing.proofs.SameUnknowns.{as_site}
use Rattle.rn_search.specs.declared.point.Point.{Point}
use Rattle.rn_search.specs.declared.point.Point.TheVariants as P
use Rattle.rn_search.specs.Sought.{Sought, Leads}
use Rattle.rn_search.specs.Points.{node_on, node_of, nowhere, offered, offers, only_at, first_token}
use Rattle.rn_search.specs.Points.{tokens_of, holes_of, net_called, called_at, instance_of, child}
use Rattle.rn_search.specs.Missing.{MayStart}
use Rattle.rn_search.specs.Room.{room}
use Rattle.rn_search.specs.Standing.{AreSound, IsHead, MayBeMade}
use Rattle.rn_search.proofs.Allowed.{start_is_allowed, only_one_is}
use Rattle.rn_search.proofs.Alternatives.{from_map, from_and_then, none_leads_nowhere}
use Rattle.rn_search.proofs.Falling.{room_falls}
use Rattle.rn_search.proofs.Offered.{leading_is_solvable}
use Rattle.rn_search.proofs.Sound.{sound_by_one, sound_by_fewer}
use Rattle.rn_channel.specs.Answering.{answering}
use Rattle.rn_looking.specs.Branches.{IsBranchOf}
use Rattle.rn_branch.specs.GoingOn.{AreHeadsIn}

-- each decision, and the start, is on a node of the system
pub heads_in : (sought : Sought) (ds : List Decision) →
    MayStart sought.system sought.marking sought.start →
    AreSound sought.system sought.marking sought.depth ds → AreHeadsIn sought ds
heads_in sought ds may sound node = by (slice_get ds node) refl
  where
    by : (o : Option Decision) → slice_get ds node ≡ o →
        IsHead sought.system sought.depth (unwrap_or (option_map node_on o) sought.start)
    by (Some d) e = sound.heads d (at_in ds node d e)
    by None e = (start_is_allowed sought 0 may (Entered sought.start None) refl).head

-- what may come in first enters a node without a caller
pub first_enters : (system : System) (d : Decision) → MayCome system [] d →
    (head : Head) × (d ≡ Entered head None)
first_enters system (Entered head None) may = (head, refl)
first_enters system (Entered head (Some from)) may =
    absurd (not_in_nil (Entered from.head may.entered.0) may.entered.1)
first_enters system (Found head k v) may = absurd (not_in_nil (Entered head may.0.0) may.0.1)
first_enters system (Computed head site way v) may =
    absurd (not_in_nil (Entered head may.0.0) may.0.1)

-- An alternative that may be made first is the start's.
offered_first : (sought : Sought) (point : Point) (a : ℕ) (head : Head) →
    offered sought [] point a ≡ Some (Entered head None) → head ≡ sought.start
offered_first sought P.Start a head is =
    let same = only_one_is a (Entered sought.start None) (Entered head None) is in
    ap node_on (sym same)
offered_first sought (P.Token node k from) a head is =
    let on = node_of sought [] node in
    let got = from_map (λ v. Found on k v) (first_token (tokens_of sought on k) (from + a))
    (Entered head None) is in
    let other = got.2 in
    absurd (let no : ⊥ = cc in no)
offered_first sought (P.List node k) a head is =
    let on = node_of sought [] node in
    let other = only_one_is a (Found on k (Value.List (tokens_of sought on k)))
    (Entered head None) is in
    absurd (let no : ⊥ = cc in no)
offered_first sought (P.Result node k n) a head is =
    let on = node_of sought [] node in
    let got = from_and_then
    (λ hole. only_at a (Computed on (as_site hole.0) hole.1.way (Value.Int n)))
    (slice_get (holes_of (transition_in sought.system on)) k) (Entered head None) is in
    let other = only_one_is a (Computed on (as_site got.0.0) got.0.1.way (Value.Int n))
    (Entered head None) got.2 in
    absurd (let no : ⊥ = cc in no)
offered_first sought (P.Call node i called) a head is =
    let on = node_of sought [] node in
    let inst = instance_of sought [] called in
    let net = from_and_then (called_at sought.system on i inst a) (net_called sought [] called)
    (Entered head None) is in
    let link = from_and_then
    (λ l. option_map (child on i inst net.0) (slice_get (answering sought.system net.0 l.channel)
    a)) (slice_get (transition_in sought.system on).downlinks i) (Entered head None) net.2 in
    let got = from_map (child on i inst net.0)
    (slice_get (answering sought.system net.0 link.0.channel) a) (Entered head None) link.2 in
    let by : Caller = record { head = on; downlink = i } in
    let entered : Head =
    record { path = on.path ++ i ∷ []; inst = inst; net = net.0; transition = got.0 } in
    let other : Entered entered (Some by) ≡ Entered head None = got.2 in
    absurd (let no : ⊥ = cc in no)

begins_at_start : (sought : Sought) (point : Point) (a : ℕ) (ds : List Decision) (d : Decision) →
    ((e : Decision) → slice_get ds 0 ≡ Some e → node_on e ≡ sought.start) →
    offered sought ds point a ≡ Some d → MayCome sought.system ds d →
    (e : Decision) → slice_get (ds ++ d ∷ []) 0 ≡ Some e → node_on e ≡ sought.start
begins_at_start sought point a [] d starts is may e at =
    let enters = first_enters sought.system d may in
    let start = offered_first sought point a enters.0 (is ∙ ap Some enters.1) in
    ap node_on (sym (some_equal d e at)) ∙ ap node_on enters.1 ∙ start
begins_at_start sought point a (x ∷ ds) d starts is may e at = starts e at

module _ (sought : Sought) (old : Grown) (branch : IsBranchOf sought old) where
  -- where an alternative is no decision, nothing leads on by it
  pub none_offered : (point : Point) (a : ℕ) →
      offered sought old.decisions point a ≡ None →
      NoneLeads (Leads sought) (old.decisions ++ offers sought old.decisions point a ∷ [])
  none_offered point a none b = none_leads_nowhere sought old.decisions point a b none

  module _ (point : Point) (a : ℕ) (d : Decision)
      (is : offered sought old.decisions point a ≡ Some d)
      (may : MayBeMade sought.system sought.marking sought.depth old.decisions d) where
    more_sound : AreSound sought.system sought.marking sought.depth (old.decisions ++ d ∷ [])
    more_sound =
        sound_by_one sought.system sought.marking sought.depth old.decisions d branch.sound may

    with_one : IsSolvable old.system (old.decisions ++ d ∷ []) →
        IsBranchOf sought (with_decision old d)
    with_one solvable = record {
      system = branch.system;
      sound = more_sound;
      solvable = subst (λ s. IsSolvable s (old.decisions ++ d ∷ [])) branch.system solvable;
      start = begins_at_start sought point a old.decisions d branch.start is may.may;
    }

    pub stands_after : (new : Grown) (yes : Bool) → Tries old d new yes → IsBranchOf sought new
    stands_after new true tries = subst (IsBranchOf sought) (sym tries.0) (with_one tries.1)
    stands_after new false tries = subst (IsBranchOf sought) (sym tries.0) branch

    offered_is : offers sought old.decisions point a ≡ d
    offered_is = ap (λ o. unwrap_or o (nowhere sought.system)) is

    pub pushed_after : (new : Grown) (yes : Bool) → Tries old d new yes → IsTrue yes →
        new.decisions ≡ old.decisions ++ offers sought old.decisions point a ∷ []
    pushed_after new true tries y =
        ap (λ g. g.decisions) tries.0 ∙ ap (λ e. old.decisions ++ e ∷ []) (sym offered_is)
    pushed_after new false tries y = absurd (let no : ⊥ = cc in no)

    pub room_after : (new : Grown) (yes : Bool) → Tries old d new yes → IsTrue yes →
        room sought.system sought.depth new.decisions
        < room sought.system sought.depth old.decisions
    room_after new true tries y =
        subst (λ g. room sought.system sought.depth g.decisions
        < room sought.system sought.depth old.decisions) (sym tries.0)
        (room_falls sought.system sought.depth old.decisions d branch.sound.turns may.may may.fresh
        may.head.deep)
    room_after new false tries y = absurd (let no : ⊥ = cc in no)

    pub kept_after : (new : Grown) (yes : Bool) → Tries old d new yes →
        take (length old.decisions) new.decisions ≡ old.decisions
    kept_after new true tries =
        ap (λ g. take (length old.decisions) g.decisions) tries.0
        ∙ take-append_seam old.decisions (d ∷ [])
    kept_after new false tries =
        ap (λ g. take (length old.decisions) g.decisions) tries.0 ∙ take-length old.decisions

    pub none_after : (new : Grown) (yes : Bool) → Tries old d new yes → yes ≡ false →
        NoneLeads (Leads sought) (old.decisions ++ offers sought old.decisions point a ∷ [])
    none_after new true tries fails b leads = absurd (let never : ⊥ = cc in never)
    none_after new false tries fails b leads =
        let on : Leads sought (old.decisions ++ d ∷ []) b =
        subst (λ e. Leads sought (old.decisions ++ e ∷ []) b) offered_is leads in
        tries.1 (subst (λ s. IsSolvable s (old.decisions ++ d ∷ [])) (sym branch.system)
        (leading_is_solvable sought (old.decisions ++ d ∷ []) b on more_sound.turns))

-- and where the last decisions are taken back
at_front : (n : ℕ) (ds : List Decision) (d : Decision) → slice_get (take n ds) 0 ≡ Some d →
    slice_get ds 0 ≡ Some d
at_front zero ds d at = absurd (let no : ⊥ = cc in no)
at_front (suc n) [] d at = at
at_front (suc n) (e ∷ ds) d at = at

pub stands_before : (sought : Sought) (g : Grown) (n : ℕ) → n ≤ length g.decisions →
    IsBranchOf sought g → IsBranchOf sought (first_decisions n g)
stands_before sought g n within branch = record {
  system = branch.system;
  sound =
      sound_by_fewer sought.system sought.marking sought.depth n g.decisions within branch.sound;
  solvable = (
    branch.solvable.0,
    λ d there. branch.solvable.1 d
        (subst (λ es. Contains es d) (take-append-drop n g.decisions)
        (Contains-append_left (take n g.decisions) (drop n g.decisions) d there)),
  );
  start = λ d at. branch.start d (at_front n g.decisions d at);
}
