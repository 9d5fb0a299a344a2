-- Looks at the calls of a node.
use Rattle.std.proofs.Common.{◌≡◌, ℕ, ◌<◌, ◌≤◌, true, false, [], ◌∷◌, ◌++◌, length, refl, sym}
use Rattle.std.proofs.Common.{ap, ◌∙◌, subst, arith, length-append}
use Rattle.std.specs.Prelude.{Option, Some, None, option_and_then, option_map, slice_get}
use Rattle.std.specs.Prelude.{unwrap_or}
use Rattle.std.specs.List.{list_any}
use Rattle.std.proofs.lemmas.List.Elements.{All-contains}
use Rattle.rn_value.specs.declared.value.InstRef.{InstRef}
use Rattle.rn_value.specs.declared.value.InstRef.TheVariants.{Old}
use Rattle.rn_value.specs.declared.value.Kind.{Kind}
use Rattle.rn_value.specs.declared.value.Value.{Value}
use Rattle.rn_model.specs.declared.binding.Binding.{Binding}
use Rattle.rn_model.specs.declared.binding.Node.{Node}
use Rattle.rn_model.specs.declared.system.Downlink.{Downlink}
use Rattle.rn_model.specs.declared.system.Transition.{Transition}
use Rattle.rn_model.specs.Bindings.{Calls}
use Rattle.rn_model.specs.Derivation.{Assignment, target, term_value_at}
use Rattle.rn_model.specs.Good.{IsGoodCall}
use Rattle.rn_model.specs.Kinds.{HasExprKind}
use Rattle.rn_model.specs.Systems.{net_at, transition_of, var_kind_in}
use Rattle.rn_channel.specs.Answering.{answering}
use Rattle.rn_choices.specs.declared.next.Next.TheVariants.{Stuck, Choose}
use Rattle.rn_growing.specs.declared.decision.Head.{Head}
use Rattle.rn_growing.specs.declared.decision.Decision.TheVariants.{Entered, Found, Computed}
use Rattle.rn_growing.specs.Decided.{enters}
use Rattle.rn_growing.specs.Decisions.{head_of, transition_in}
use Rattle.rn_growing.specs.Equations.{IsForced, IsForcedTo, read_at}
use Rattle.rn_growing.specs.Grown.{Grown, IsNew}
use Rattle.rn_growing.specs.Turns.{IsEntered}
use Rattle.rn_growing.proofs.Growth.{at_in, some_equal}
use Rattle.rn_growing.proofs.NewThings.{new_entries}
use Rattle.rn_search.specs.declared.point.Called.{Called}
use Rattle.rn_search.specs.declared.point.Point.TheVariants as P
use Rattle.rn_search.specs.Making.{is_made}
use Rattle.rn_search.specs.Offering.{alternatives}
use Rattle.rn_search.specs.Points.{child, instance_of, node_of}
use Rattle.rn_search.specs.Sought.{Sought, Leads}
use Rattle.rn_search.proofs.Allowed.{calls_are_allowed}
use Rattle.rn_search.proofs.Following.{its_node, own_values, own_solve}
use Rattle.rn_search.proofs.Made.{forced_are_made}
use Rattle.rn_search.proofs.Offered.{calls_are_offered}
use Rattle.rn_search.proofs.Sound.{sound_are_right}
use Rattle.rn_looking.specs.Branches.{IsLookedAt}
use Rattle.rn_looking.specs.Calling.{IsCalledOn, IsTarget}
use Rattle.rn_looking.specs.Looks.{AreAllDecided, AreAllClosed, GoesOn, IsOneLeft}
use Rattle.rn_looking.specs.Things.{IsOnCall, IsToBeCalled}
use Rattle.rn_looking.proofs.DecidedThings.{new_is_open, was_entered}
use Rattle.rn_looking.proofs.LookedAt.{entered, its_good, node_is, some}

module _ (sought : Sought) (g : Grown) (node : ℕ) (head : Head) (t : Transition)
    (looked : IsLookedAt sought g node head t) (i : ℕ) where
  -- a call that was answered is decided
  pub was_entered_before : list_any (enters (head.path ++ i ∷ [])) g.decisions ≡ true →
      AreAllDecided sought.system g.decisions (IsOnCall head i)
  was_entered_before found (Entered other (Some from)) (same, index)
      (is_in, (downlink, there, path)) =
      let along : other.path ≡ head.path ++ i ∷ [] =
      path ∙ ap (λ h. h.path ++ from.downlink ∷ []) same ∙ ap (λ n. head.path ++ n ∷ []) index in
      was_entered g.decisions other (Some from)
      (ap (λ p. list_any (enters p) g.decisions) along ∙ found)
  was_entered_before found (Entered other None) on asked = absurd on
  was_entered_before found (Found other j v) on asked = absurd on
  was_entered_before found (Computed other site way v) on asked = absurd on

  -- the target of a call has the kind of instances
  pub target_kind : (d : Downlink) → slice_get t.downlinks i ≡ Some d →
      (kinds : ℕ → Kind) × HasExprKind kinds d.target Kind.Net
  target_kind d at =
      let kinds = var_kind_in (net_at sought.system head.net) in
      let both = All-contains
      (λ d. HasExprKind kinds d.target Kind.Net × IsGoodCall sought.system kinds d.channel d.args)
      t.downlinks d (its_good sought g node head t looked).kinds.downlinks (at_in t.downlinks i d
      at) in
      (kinds, both.0)

  -- a call that wasn't answered
  module _ (open_call : IsToBeCalled g.decisions head t i) where
    abbrev itself : Head
    itself = node_of sought g.decisions node

    abbrev goal_of : Assignment → Option Value
    goal_of a = read_at a head (target i) open_call.downlink.target

    link_there : slice_get (transition_in sought.system head).downlinks i
        ≡ Some open_call.downlink
    link_there = ap (λ u. slice_get u.downlinks i) (sym looked.transition) ∙ open_call.there

    link_of_node : slice_get (transition_in sought.system itself).downlinks i
        ≡ Some open_call.downlink
    link_of_node =
        ap (λ h. slice_get (transition_in sought.system h).downlinks i)
        (node_is sought g node head t looked) ∙ link_there

    fresh : (inst : InstRef) (net u : ℕ) → IsNew g.decisions (child head i inst net u)
    fresh inst net u =
        (new_entries g.decisions
        (record { path = head.path ++ i ∷ []; inst = inst; net = net; transition = u })
        (Some (record { head = head; downlink = i }))).1 open_call.none

    -- it is left
    one_left : IsOneLeft sought.system g.decisions
    one_left = (
      child head i (Old 0) 0 0,
      (entered sought g node head t looked, (open_call.downlink, link_there, refl)),
      new_is_open g.decisions (child head i (Old 0) 0 0) (fresh (Old 0) 0 0),
    )

    -- where its target isn't forced, it may not come in
    unforced_is_closed : ¬ IsForced sought.system g.decisions goal_of →
        AreAllClosed sought.system g.decisions (IsOnCall head i)
    unforced_is_closed unforced (Entered other (Some from)) (same, index) may =
        let link : may.downlink ≡ open_call.downlink =
        some_equal may.downlink open_call.downlink (sym may.there
        ∙ ap (λ h. slice_get (transition_in sought.system h).downlinks from.downlink) same
        ∙ ap (slice_get (transition_in sought.system head).downlinks) index ∙ link_there) in
        absurd (unforced (
          may.forced.0,
          λ a solves.
              ap (λ h. read_at a h (target i) open_call.downlink.target) (sym same)
              ∙ ap (λ n. read_at a from.head (target n) open_call.downlink.target) (sym index)
              ∙ ap (λ l. read_at a from.head (target from.downlink) l.target) (sym link)
              ∙ may.forced.1 a solves,
        ))
    unforced_is_closed unforced (Entered other None) on may = absurd on
    unforced_is_closed unforced (Found other j v) on may = absurd on
    unforced_is_closed unforced (Computed other site way v) on may = absurd on

    abbrev IsTargetOf : Option Value → Type 0
    IsTargetOf told = IsTarget g head (target i) open_call.downlink.target told

    pub target_known : (d : Downlink) (told : Option Value) → slice_get t.downlinks i ≡ Some d →
        IsTarget g head (target i) d.target told → IsTargetOf told
    target_known d told at tells =
        subst (λ (e : Downlink). IsTarget g head (target i) e.target told)
        (some_equal d open_call.downlink (sym at ∙ open_call.there)) tells

    pub waits_for_target : (told : Option Value) → ((v : Value) → told ≡ Some v → ⊥) →
        IsTargetOf told → AreAllClosed sought.system g.decisions (IsOnCall head i)
        × IsOneLeft sought.system g.decisions
    waits_for_target (Some v) none tells = absurd (none v refl)
    waits_for_target None none tells =
        let unforced : ¬ IsForced sought.system g.decisions goal_of =
        subst (λ s. ¬ IsForced s g.decisions goal_of) looked.branch.system tells in
        (unforced_is_closed unforced, one_left)

    forced_to : (told : Option Value) (v : Value) → told ≡ Some v → IsTargetOf told →
        IsForcedTo sought.system g.decisions goal_of v
    forced_to told v is tells =
        subst (λ s. IsForcedTo s g.decisions goal_of v) looked.branch.system
        (subst IsTargetOf is tells)

    -- the child in a binding to which the decisions lead
    abbrev HasChild : Binding → Type 0
    HasChild b = (n c : Node) × (itself ≡ head_of n)
        × Calls sought.system b n i open_call.downlink c

    has_child : (b : Binding) → Leads sought g.decisions b → HasChild b
    has_child b leads =
        let n = its_node sought g.decisions b leads node in
        let link : slice_get (transition_of sought.system n.0).downlinks i
        ≡ Some open_call.downlink =
        subst (λ h. slice_get (transition_in sought.system h).downlinks i
        ≡ Some open_call.downlink) n.2 link_of_node in
        let callee = leads.enabled.shape.children n.0 i open_call.downlink n.1 link in
        (n.0, callee.0, n.2, callee.1)

    -- where the target is forced to a value that isn't an instance, nothing leads on
    pub names_no_instance : (told : Option Value) (v : Value) → told ≡ Some v → IsTargetOf told →
        ((inst : InstRef) → v ≡ Value.Inst inst → ⊥) → GoesOn sought g.decisions Stuck
    names_no_instance told v is tells never b leads =
        let both = has_child b leads in
        let own = own_values sought g.decisions b leads in
        let head_is : head ≡ head_of both.0 =
        sym (node_is sought g node head t looked) ∙ both.2 in
        let read : term_value_at own.0 both.0 (target i) open_call.downlink.target ≡ Some v =
        subst (λ h. read_at own.0 h (target i) open_call.downlink.target ≡ Some v) head_is
        (forced_to told v is tells own.0 (own_solve sought g.decisions b leads
        looked.branch.sound.turns)) in
        never both.1.inst (some_equal v (Value.Inst both.1.inst)
        (sym read ∙ own.1.targets both.0 i open_call.downlink both.1 both.3))

    -- nor does it where the child would be too deep
    pub is_too_deep : sought.depth ≤ length head.path → GoesOn sought g.decisions Stuck
    is_too_deep deep b leads =
        let both = has_child b leads in
        let head_is : head.path ≡ both.0.path =
        ap (λ h. h.path) (sym (node_is sought g node head t looked) ∙ both.2) in
        let within : length both.1.path ≤ sought.depth =
        All-contains (λ n. length n.path ≤ sought.depth) b.nodes both.1 leads.enabled.shape.deep
        both.3.node_there in
        let long : length both.1.path ≡ length (head.path ++ i ∷ []) =
        ap length (both.3.path ∙ ap (λ p. p ++ i ∷ []) (sym head_is)) in
        let more = length-append head.path (i ∷ []) in
        let no : ⊥ = omega (arith, deep, within, long, more) in no

    -- an instance to which it is forced is made
    target_is_made : (inst : InstRef) → IsForcedTo sought.system g.decisions goal_of
        (Value.Inst inst) → is_made sought.system g.decisions inst ≡ true
    target_is_made inst forced =
        forced_are_made sought.system g.decisions head (target i) open_call.downlink.target inst
        looked.branch.sound.turns
        looked.branch.solvable
        (sound_are_right sought.system sought.marking sought.depth g.decisions looked.branch.sound).0
        (entered sought g node head t looked) forced

    pub is_unmade : (told : Option Value) (v : Value) (inst : InstRef) → told ≡ Some v →
        v ≡ Value.Inst inst → IsTargetOf told →
        IsCalledOn sought.system g.decisions inst None → GoesOn sought g.decisions Stuck
    is_unmade told v inst is names tells none b leads =
        let made = target_is_made inst (forced_to told (Value.Inst inst) (is ∙ ap Some names)
        tells) in
        let both : true ≡ false = sym made ∙ none in
        let no : ⊥ = cc in no

    -- the transitions that answer are the alternatives
    pub chooses_call : (told : Option Value) (v : Value) (inst : InstRef) (called : Called)
        (of : ℕ) → told ≡ Some v → v ≡ Value.Inst inst → IsTargetOf told →
        IsCalledOn sought.system g.decisions inst (Some called) →
        length head.path < sought.depth →
        of ≡ alternatives sought g.decisions (P.Call node i called) →
        GoesOn sought g.decisions (Choose (P.Call node i called) of 0)
    chooses_call told v inst called of is names tells on short count =
        let the = instance_of sought g.decisions called in
        let inst_is : inst ≡ the = sym (on.1 sought) in
        let here = sym (node_is sought g node head t looked) in
        let forced : IsForcedTo sought.system g.decisions
        (λ a. read_at a itself (target i) open_call.downlink.target) (Value.Inst the) =
        subst (λ h. IsForcedTo sought.system g.decisions
        (λ a. read_at a h (target i) open_call.downlink.target) (Value.Inst the)) here
        (subst (λ j. IsForcedTo sought.system g.decisions goal_of (Value.Inst j)) inst_is
        (forced_to told (Value.Inst inst) (is ∙ ap Some names) tells)) in
        let made : is_made sought.system g.decisions the ≡ true =
        ap (is_made sought.system g.decisions) (on.1 sought) ∙ on.0 in (
          λ a less.
              calls_are_allowed sought g.decisions node i a open_call.downlink called
              looked.branch.sound
              (subst (IsEntered g.decisions) here (entered sought g node head t looked))
              link_of_node forced made
              (subst (λ h. length h.path < sought.depth) here short)
              (λ net u. subst (λ h. IsNew g.decisions (child h i the net u)) here
              (fresh the net u)),
          λ b leads.
              let by = calls_are_offered sought g.decisions b node i open_call.downlink called leads
              looked.branch.sound.turns (some sought g node head t looked) link_of_node forced in
              let counted : of ≡ length (answering sought.system by.0 open_call.downlink.channel) =
              count
              ∙ ap (λ o. length (unwrap_or (option_and_then
              (λ net. option_map (λ (d : Downlink). answering sought.system net d.channel)
              (slice_get (transition_in sought.system itself).downlinks i)) o) [])) by.2
              ∙ ap (λ o. length (unwrap_or
              (option_map (λ (d : Downlink). answering sought.system by.0 d.channel) o) []))
              link_of_node in
              let low = by.3 in
              let within : by.1 < of = omega (arith, counted, low) in
              (by.1, within, by.4),
        )
