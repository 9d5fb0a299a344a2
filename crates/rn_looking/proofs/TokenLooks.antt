-- Looks at the arcs of a node.
use Rattle.std.proofs.Common.{◌≡◌, ℕ, ◌+◌, ◌-◌, ◌<◌, ◌≤◌, true, false, List, [], ◌∷◌, map}
use Rattle.std.proofs.Common.{◌++◌, refl, sym, ap, ◌∙◌, subst, inl, inr, ◌⊎◌, arith}
use Rattle.std.specs.Prelude.{Option, Some, None, Contains, All, option_and_then, option_map, slice_get}
use Rattle.std.specs.Prelude.{unwrap_or}
use Rattle.std.specs.List.{concat, list_any}
use Rattle.std.proofs.lemmas.List.Elements.{All-contains, All-contains_itself}
use Rattle.std.proofs.lemmas.List.Elements.{Contains-append_left}
use Rattle.std.proofs.lemmas.Option.{slice_get-get_or}
use Rattle.rn_value.specs.declared.value.InstRef.{InstRef}
use Rattle.rn_value.specs.declared.value.InstRef.TheVariants.{Old, New}
use Rattle.rn_value.specs.declared.value.Value.{Value}
use Rattle.rn_value.specs.declared.value.Value.TheVariants as Value
use Rattle.rn_bag.specs.Cuts.{has_first}
use Rattle.rn_model.specs.declared.expr.Expr.{Expr}
use Rattle.rn_model.specs.declared.expr.Expr.TheVariants as Expr
use Rattle.rn_model.specs.declared.binding.Binding.{Binding}
use Rattle.rn_model.specs.declared.system.ArcKind.{ArcKind}
use Rattle.rn_model.specs.declared.system.ArcKind.TheVariants.{Clear}
use Rattle.rn_model.specs.declared.system.NetArc.{NetArc}
use Rattle.rn_model.specs.declared.system.Transition.{Transition}
use Rattle.rn_model.specs.Derivation.{finds_token, finds_values}
use Rattle.rn_model.specs.Markings.{Instance, instance_at, tokens}
use Rattle.rn_model.specs.SoundTokens.{holds_new}
use Rattle.rn_model.specs.Systems.{vars_in}
use Rattle.rn_model.proofs.AskedValues.{same_itself}
use Rattle.rn_model.proofs.DerivationLemmas.{vars_in-Tuple}
use Rattle.rn_model.proofs.EnablingLemmas.{not_in_nil}
use Rattle.rn_model.proofs.Rounds.{all_more}
use Rattle.rn_model.proofs.OwnValues.{token_is_value}
use Rattle.rn_choices.specs.declared.next.Next.TheVariants.{Stuck, Forced, Choose}
use Rattle.rn_growing.specs.declared.decision.Head.{Head}
use Rattle.rn_growing.specs.declared.decision.Decision.{Decision}
use Rattle.rn_growing.specs.declared.decision.Decision.TheVariants.{Entered, Found, Computed}
use Rattle.rn_growing.specs.Decided.{finds}
use Rattle.rn_growing.specs.Decisions.{transition_in}
use Rattle.rn_growing.specs.Grown.{Grown}
use Rattle.rn_growing.specs.Turns.{IsEntered}
use Rattle.rn_growing.proofs.Growth.{some_equal, at_in}
use Rattle.rn_growing.proofs.NewThings.{new_finds}
use Rattle.rn_search.specs.declared.point.Point.TheVariants as P
use Rattle.rn_search.specs.Allowing.{IsOpen}
use Rattle.rn_search.specs.Missing.{LeadsBy}
use Rattle.rn_search.specs.Narrowing.{FindsBy, Equates}
use Rattle.rn_search.specs.Offering.{alternatives}
use Rattle.rn_search.specs.Points.{first_token, node_of, nowhere, offered, offers, tokens_of}
use Rattle.rn_search.specs.Problems.{HasFitTokens}
use Rattle.rn_search.specs.Sought.{Sought, Leads}
use Rattle.rn_search.proofs.Allowed.{tokens_are_allowed, lists_are_allowed}
use Rattle.rn_search.proofs.Alternatives.{first_is, first_once, from_map}
use Rattle.rn_search.proofs.Following.{is_decision, last_on}
use Rattle.rn_search.proofs.Narrowed.{equated_token_is_it, known_first_part, known_token_is_it}
use Rattle.rn_search.proofs.Offered.{tokens_are_offered, lists_are_offered}
use Rattle.rn_looking.specs.Branches.{IsLookedAt}
use Rattle.rn_looking.specs.Equating.{IsKnownToken}
use Rattle.rn_looking.specs.Knowing.{IsKnownTokenFirst}
use Rattle.rn_looking.specs.Looks.{AreAllDecided, GoesOn}
use Rattle.rn_looking.specs.Things.{FindsToken, IsOnArc}
use Rattle.rn_looking.proofs.DecidedThings.{was_found}
use Rattle.rn_looking.proofs.EquatedTokens.{by_side}
use Rattle.rn_looking.proofs.LookedAt.{entered, inscription_searched, known_by, node_is, some}
use Rattle.rn_looking.proofs.LookedAt.{vars_searched}

is_clear : (kind : ArcKind) → finds_values kind ≡ true → finds_token kind ≡ false → kind ≡ Clear
is_clear Clear e f = refl
is_clear _ e f = absurd (let no : ⊥ = cc in no)

-- what lies in a place of an instance that is there holds no new instance
old_at : (sought : Sought) (inst : InstRef) (place : ℕ) (v : Value) →
    HasFitTokens sought.system sought.marking →
    Contains (tokens sought.marking inst place) v → holds_new v ≡ false
old_at sought (New path j) place v fit there = absurd (not_in_nil v there)
old_at sought (Old n) place v fit there =
    elim (instance_at sought.marking n) as (λ o. instance_at sought.marking n ≡ o →
    holds_new v ≡ false) [
      | None ↦ λ none.
          absurd (not_in_nil v (subst (λ o. Contains (unwrap_or (option_and_then
          (λ (i : Instance). slice_get i.places place) o) []) v) none there))
      | Some i ↦ λ is. (fit n i.net place v (ap (option_map (λ (i : Instance). i.net)) is) there).1
    ] refl

-- a tuple begins with its first part
begins_with : (v : Value) (rest : List Value) → has_first v (Value.Tuple (v ∷ rest)) ≡ true
begins_with v rest = rw (Value.outs-Tuple (v ∷ rest)) (same_itself v)

-- the variables of its first part are those of a tuple
part_vars : (vars : List ℕ) (part : Expr) (parts : List Expr) →
    All (Contains vars) (vars_in (Expr.Tuple (part ∷ parts))) →
    All (Contains vars) (vars_in part)
part_vars vars part parts all =
    all_more (Contains (vars_in part)) (Contains vars) (vars_in part) (λ y occurs.
    All-contains (Contains vars) (vars_in (Expr.Tuple (part ∷ parts))) y all
    (subst (λ ys. Contains ys y) (sym (vars_in-Tuple (part ∷ parts)))
    (Contains-append_left (vars_in part) (concat (map vars_in parts)) y occurs)))
    (All-contains_itself (vars_in part))

module _ (sought : Sought) (g : Grown) (node : ℕ) (head : Head) (t : Transition)
    (looked : IsLookedAt sought g node head t) (k : ℕ) where
  -- the arc of the node by which points give it
  arc_there : (x : NetArc) → slice_get t.arcs k ≡ Some x →
      slice_get (transition_in sought.system (node_of sought g.decisions node)).arcs k ≡ Some x
  arc_there x at =
      ap (λ h. slice_get (transition_in sought.system h).arcs k)
      (node_is sought g node head t looked)
      ∙ ap (λ u. slice_get u.arcs k) (sym looked.transition) ∙ at

  -- an arc that finds no value asks nothing
  pub asks_nothing : (x : NetArc) → slice_get t.arcs k ≡ Some x → finds_values x.kind ≡ false →
      AreAllDecided sought.system g.decisions (IsOnArc head k)
  asks_nothing x at none (Found other j v) (same, index) (entered, (y, there, finds)) =
      let y_is : y ≡ x = some_equal y x (sym there
      ∙ ap (λ h. slice_get (transition_in sought.system h).arcs j) same
      ∙ ap (slice_get (transition_in sought.system head).arcs) index
      ∙ ap (λ u. slice_get u.arcs k) (sym looked.transition) ∙ at) in
      let both : true ≡ false = sym finds ∙ ap (λ z. finds_values z.kind) y_is ∙ none in
      absurd (let no : ⊥ = cc in no)
  asks_nothing x at none (Entered child caller) on asked = absurd on
  asks_nothing x at none (Computed other site way v) on asked = absurd on

  -- an arc of which something was found is decided
  pub was_found_before : list_any (finds head.path k) g.decisions ≡ true →
      AreAllDecided sought.system g.decisions (IsOnArc head k)
  was_found_before found (Found other j v) (same, index) asked =
      was_found g.decisions other j v
      (ap (λ h. list_any (finds h.path j) g.decisions) same
      ∙ ap (λ n. list_any (finds head.path n) g.decisions) index ∙ found)
  was_found_before found (Entered child caller) on asked = absurd on
  was_found_before found (Computed other site way v) on asked = absurd on

  -- an arc of which nothing was found
  module _ (x : NetArc) (at : slice_get t.arcs k ≡ Some x)
      (values : finds_values x.kind ≡ true)
      (none : list_any (finds head.path k) g.decisions ≡ false) where
    abbrev itself : Head
    itself = node_of sought g.decisions node

    is_open : IsOpen sought g.decisions node k
    is_open = record {
      sound = looked.branch.sound;
      entered = subst (IsEntered g.decisions) (sym (node_is sought g node head t looked))
          (entered sought g node head t looked);
      arc = x;
      there = arc_there x at;
      finds = values;
      tokens = looked.tokens;
      fresh = λ v. (new_finds g.decisions itself k v).1
          (ap (λ h. list_any (finds h.path k) g.decisions) (node_is sought g node head t looked)
          ∙ none);
      old = λ v there. old_at sought itself.inst x.place v looked.tokens
          (subst (λ o. Contains (unwrap_or (option_map
          (λ (y : NetArc). tokens sought.marking itself.inst y.place) o) []) v) (arc_there x at)
          there);
    }

    -- a clear arc finds the list of its place
    pub forces_list : finds_token x.kind ≡ false → GoesOn sought g.decisions (Forced (P.List node k))
    unfolding is_open
    forces_list list = (
      lists_are_allowed sought g.decisions node k 0 is_open list,
      λ b leads. lists_are_offered sought g.decisions b node k x leads (arc_there x at)
          (is_clear x.kind values list),
    )

  -- an arc that finds a token, of which nothing was found
  module _ (open_arc : FindsToken g.decisions head t k) where
    abbrev x : NetArc
    x = open_arc.arc

    abbrev held_there : List Value
    held_there = tokens_of sought (node_of sought g.decisions node) k

    abbrev found_at : ℕ → Decision
    found_at i = unwrap_or (option_map (λ v. Found (node_of sought g.decisions node) k v)
        (first_token held_there i)) (nowhere sought.system)

    may_find : IsOpen sought g.decisions node k
    may_find = is_open x open_arc.there (token_is_value x.kind open_arc.token) open_arc.none

    -- each token of the place may be tried
    pub chooses_token : (of first : ℕ) → of ≡ alternatives sought g.decisions (P.Token node k 0) →
        GoesOn sought g.decisions (Choose (P.Token node k 0) of first)
    unfolding may_find is_open
    chooses_token of first is = (
      λ a less. tokens_are_allowed sought g.decisions node k 0 a may_find open_arc.token,
      λ b leads.
          let by = tokens_are_offered sought g.decisions b node k x leads
          (arc_there x open_arc.there) open_arc.token in
          let low = by.1 in
          let within : by.0 < of = omega (arith, is, low) in
          (by.0, within, by.2),
    )

    -- an alternative that leads on is a token that the arc finds, the first of its value
    finds_by : (b : Binding) (a : ℕ) → LeadsBy sought g.decisions (P.Token node k 0) a b →
        FindsBy sought g.decisions node k x a b
    finds_by b a leads = record {
      turns = looked.branch.sound.turns;
      some = some sought g node head t looked;
      arc = arc_there x open_arc.there;
      leads = leads;
    }

    first_there : (b : Binding) (a : ℕ) (v : Value) →
        LeadsBy sought g.decisions (P.Token node k 0) a b → slice_get held_there a ≡ Some v →
        first_token held_there a ≡ Some v
    first_there b a v leads there =
        let last = last_on sought.system b g.decisions leads.follows.0
        (offers sought g.decisions (P.Token node k 0) a) leads.follows.1 in
        let d = is_decision sought.system b sought.depth leads.enabled.shape
        (offered sought g.decisions (P.Token node k 0) a) last.0 last.1 in
        let place : 0 + a ≡ a = omega arith in
        let offered_is : option_map (λ v. Found (node_of sought g.decisions node) k v)
        (first_token held_there a) ≡ Some d.0 =
        subst (λ i. option_map (λ v. Found (node_of sought g.decisions node) k v)
        (first_token held_there i) ≡ Some d.0) place d.1 in
        let w = from_map (λ v. Found (node_of sought g.decisions node) k v)
        (first_token held_there a) d.0 offered_is in
        let first = first_is held_there a w.0 w.1 in
        w.1 ∙ ap Some (some_equal w.0 v (sym first.0 ∙ there))

    -- the variables of the inscription are the transition's
    its_vars : All (Contains t.vars) (vars_in x.inscription)
    its_vars = vars_searched sought g node head t looked x.inscription
        (inscription_searched sought g node head t looked x
        (at_in t.arcs k x open_arc.there) open_arc.token)

    -- where the token is known, that is found
    finds_just : (w : Option Value) → IsKnownToken g head t k w → (a : ℕ) (b : Binding) →
        LeadsBy sought g.decisions (P.Token node k 0) a b → slice_get held_there a ≡ w
    finds_just w known_token a b leads =
        elim (known_token x open_arc.there) as (λ _. slice_get held_there a ≡ w) [
          | inl value ↦
              known_token_is_it sought g.decisions node k x a b value.0 (finds_by b a leads)
              (known_by sought g node head t looked x.inscription value.0 its_vars value.1)
              ∙ value.2
          | inr told ↦ (
              let by = by_side g head t told.0 w told.1.1 in
              let vars = vars_searched sought g node head t looked by.side by.searched in
              equated_token_is_it sought g.decisions node k x a b by.env by.guard by.side
              (finds_by b a leads)
              (subst (λ u. Contains u.guards by.guard)
              (looked.transition
              ∙ ap (transition_in sought.system) (sym (node_is sought g node head t looked)))
              by.there)
              (subst (λ e. Equates by.guard e by.side ⊎ Equates by.guard by.side e)
              (sym told.1.0) by.equates)
              (known_by sought g node head t looked by.side by.env vars by.knows)
              ∙ by.is)
        ]

    token_is : (b : Binding) (a : ℕ) (v : Value) → IsKnownToken g head t k (Some v) →
        LeadsBy sought g.decisions (P.Token node k 0) a b → first_token held_there a ≡ Some v
    token_is b a v known leads =
        first_there b a v leads (finds_just (Some v) known a b leads)

    -- where that of its first part is, a tuple with that first part is found
    first_part_is : (b : Binding) (a : ℕ) (v : Value) → IsKnownTokenFirst g head t k v →
        LeadsBy sought g.decisions (P.Token node k 0) a b → (rest : List Value) ×
        (slice_get held_there a ≡ Some (Value.Tuple (v ∷ rest)))
    first_part_is b a v known_first leads =
        let part = known_first x open_arc.there in
        let tuple = part.1.1 in
        let value = part.1.2 in
        let vars = part_vars t.vars part.0 part.1.0
        (subst (λ e. All (Contains t.vars) (vars_in e)) tuple its_vars) in
        let known = known_by sought g node head t looked part.0 value.0 vars value.1 in
        known_first_part sought g.decisions node k x a b value.0 part.0 part.1.0 v
        (finds_by b a leads) tuple known value.2

    -- so one of these may be tried
    pub chooses_first : (v : Value) (start end of first : ℕ) → IsKnownTokenFirst g head t k v →
        ((i : ℕ) (w : Value) → slice_get held_there i ≡ Some w → has_first v w ≡ true →
        (start ≤ i) × (i < end)) → of ≡ end - start →
        GoesOn sought g.decisions (Choose (P.Token node k start) of first)
    unfolding may_find is_open
    chooses_first v start end of first known within is = (
      λ a less. tokens_are_allowed sought g.decisions node k start a may_find open_arc.token,
      λ b leads.
          let by = tokens_are_offered sought g.decisions b node k x leads
          (arc_there x open_arc.there) open_arc.token in
          let tuple = first_part_is b by.0 v known by.2 in
          let here = within by.0 (Value.Tuple (v ∷ tuple.0)) tuple.1 (begins_with v tuple.0) in
          let low = here.0 in
          let high = here.1 in
          let place : 0 + by.0 ≡ start + (by.0 - start) = omega (arith, low) in (
            by.0 - start,
            omega (arith, is, low, high),
            subst (λ i. Leads sought (g.decisions ++ found_at i ∷ []) b) place by.2,
          ),
    )

    -- so where it is a token of the place, that is found,
    pub forces_token : (v : Value) (from : ℕ) → IsKnownToken g head t k (Some v) →
        first_token held_there from ≡ Some v →
        GoesOn sought g.decisions (Forced (P.Token node k from))
    unfolding may_find is_open
    forces_token v from known first = (
      tokens_are_allowed sought g.decisions node k from 0 may_find open_arc.token,
      λ b leads.
          let by = tokens_are_offered sought g.decisions b node k x leads
          (arc_there x open_arc.there) open_arc.token in
          let same : from ≡ by.0 =
          first_once held_there from by.0 v first (token_is b by.0 v known by.2) in
          let place : 0 + by.0 ≡ from + 0 = omega (arith, same) in
          subst (λ i. Leads sought (g.decisions ++ found_at i ∷ []) b) place by.2,
    )

    -- and where it is none, nothing leads on.
    pub finds_no_token : (v : Value) → IsKnownToken g head t k (Some v) →
        ¬ Contains held_there v → GoesOn sought g.decisions Stuck
    finds_no_token v known absent b leads =
        let by = tokens_are_offered sought g.decisions b node k x leads
        (arc_there x open_arc.there) open_arc.token in
        let first = first_is held_there by.0 v (token_is b by.0 v known by.2) in
        absent (at_in held_there by.0 v first.0)

    -- Nor does anything where it is known that the arc finds none.
    pub finds_nothing : IsKnownToken g head t k None → GoesOn sought g.decisions Stuck
    finds_nothing known b leads =
        let by = tokens_are_offered sought g.decisions b node k x leads
        (arc_there x open_arc.there) open_arc.token in
        let both = sym (slice_get-get_or held_there by.0 (Value.Tuple []) by.1)
        ∙ finds_just None known by.0 b by.2 in
        let no : ⊥ = cc in no
