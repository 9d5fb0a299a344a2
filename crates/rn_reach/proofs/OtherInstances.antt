-- A firing leaves each instance as it was on which no node of it stands and that it doesn't make.
use Rattle.std.proofs.Common.{◌≡◌, ℕ, zero, suc, ◌+◌, ◌<◌, ◌≤◌, Bool, true, false, List, [], ◌∷◌, ◌++◌, map, length, refl, sym, ap, ◌∙◌, subst, inl, inr, arith}
use Rattle.std.specs.Prelude.{Option, Some, None, Ok, Contains, ◌⊎◌, ◌&&◌, All, flat_map, nat_eq, position, slice_get}
use Rattle.std.specs.Cmp.{Equal-is}
use Rattle.std.specs.Cmp.Lexicographic.{pointwise}
use Rattle.std.specs.List.{enumerate_from}
use Rattle.std.specs.List.Sorted.{IsSorted}
use Rattle.std.specs.Option.{option_map_or}
use Rattle.std.specs.Ordering.{is_eq}
use Rattle.std.proofs.lemmas.List.{append-nil}
use Rattle.std.proofs.lemmas.List.Elements.{All-contains}
use Rattle.std.proofs.lemmas.List.Quantifiers.{position-Some}
use Rattle.rn_value.proofs.SortedLists.{values_by_counts}
use Rattle.rn_value.specs.Order.{inst_cmp, value_cmp}
use Rattle.rn_value.specs.link.OrderLaws.{insts_apart}
use Rattle.rn_value.specs.declared.value.InstRef.{InstRef}
use Rattle.rn_value.specs.declared.value.InstRef.TheVariants.{Old, New}
use Rattle.rn_value.specs.declared.value.Value.{Value}
use Rattle.rn_model.specs.declared.system.System.{System}
use Rattle.rn_model.specs.declared.system.ArcKind.{ArcKind}
use Rattle.rn_model.specs.declared.binding.Node.{Node}
use Rattle.rn_model.specs.declared.binding.Binding.{Binding}
use Rattle.rn_model.specs.Bindings.{env_of}
use Rattle.rn_model.specs.Demands.{Reading, asked_at, clears, puts, readings, rest_at, takes}
use Rattle.rn_model.specs.Firing.{Effects, Fired, Made, creations_of, fire, instance_after, marking_after, named, numbered_inst, renamed_node, tokens_after}
use Rattle.rn_model.specs.Good.{Good}
use Rattle.rn_model.specs.Lists.{ordered_values, without_each}
use Rattle.rn_model.specs.Markings.{Instance, Marking, IsMarking, initial_marking, instance_at}
use Rattle.rn_model.specs.Runs.{Firing, RunFrom, after_firing, end_from, end_of}
use Rattle.rn_model.proofs.AfterFiring.{found_number, was_or_is_new, was_there}
use Rattle.rn_model.proofs.AskedValues.{later, map_source}
use Rattle.rn_model.proofs.DeadInstances.{fired_as}
use Rattle.rn_model.proofs.IndicesInLists.{from_enumerated}
use Rattle.rn_model.proofs.MarkingsOfRuns.{firings_keep_markings, found_is_there, runs_end_in_markings}
use Rattle.rn_model.proofs.PutValues.{reading_stays}
use Rattle.rn_model.proofs.RunLemmas.{prefixes_are_runs, rest_from}
use Rattle.rn_model.proofs.ValueLists.{ordered_values_ascend, ordered_values_stay}
use Rattle.rn_model.proofs.SoundRuns.{end_joined}
use Rattle.rn_reach.specs.Changes.{MayChange}
use Rattle.rn_reach.specs.Laws.{FiringsChangeNoOther}

-- Of an instance on which no node stands nothing is asked.
elsewhere : (inst other : InstRef) → ¬ (inst ≡ other) → is_eq (inst_cmp inst other) ≡ false
elsewhere inst other apart = by_test (is_eq (inst_cmp inst other)) refl
  where
    by_test : (same : Bool) → is_eq (inst_cmp inst other) ≡ same →
        is_eq (inst_cmp inst other) ≡ false
    by_test true e = absurd (apart (insts_apart inst other ((Equal-is (inst_cmp inst other)).0 e)))
    by_test false e = e

asks_nothing : {A : Type 0} (pick : ArcKind → Value → List A) (system : System) (inst : InstRef)
    (place : ℕ) (read : List Reading) →
    ((r : Reading) → Contains read r → ¬ (r.node.inst ≡ inst)) →
    asked_at pick system read inst place ≡ []
asks_nothing pick system inst place [] none = refl
asks_nothing pick system inst place (r ∷ read) none =
    let here = elsewhere r.node.inst inst (none r (0, omega arith, refl)) in
    let rest =
    asks_nothing pick system inst place read (λ q there. none q (later r q read there)) in
    rw (here, rest) refl

-- Under the numbers of new instances a node stands on an existing one where it did before, or on one
-- that was made.
abbrev StandsBelow : List Made → ℕ → ℕ → InstRef → Type 0
StandsBelow made next n inst = (inst ≡ Old n) ⊎ ((next ≤ n) × (n < next + length made))

same_old : (k n : ℕ) → Old k ≡ Old n → k ≡ n
same_old k n e = cc

numbered_old : (made : List Made) (next n : ℕ) (inst : InstRef) →
    numbered_inst made next inst ≡ Old n → StandsBelow made next n inst
numbered_old made next n (Old k) e = inl e
numbered_old made next n (New path j) e =
    by_position (position (λ m. pointwise nat_eq m.path path && nat_eq m.index j) made) refl e
  where
    by_position : (o : Option ℕ) →
        position (λ m. pointwise nat_eq m.path path && nat_eq m.index j) made ≡ o →
        option_map_or (λ k. Old (next + k)) o (New path j) ≡ Old n →
        StandsBelow made next n (New path j)
    by_position None is e = absurd (let no : ⊥ = cc in no)
    by_position (Some k) is e =
        let first : Made = record { path = path; index = j; net = 0 } in
        let low = (position-Some (λ m. pointwise nat_eq m.path path && nat_eq m.index j) made k first
        is).0 in
        let same = same_old (next + k) n e in
        inr (omega (arith, same), omega (arith, same, low))

-- Ascending values stay where nothing is taken and nothing is put.
values_stay : (vs taken cleared put : List Value) → IsSorted value_cmp vs → taken ≡ [] →
    cleared ≡ [] → put ≡ [] →
    ordered_values (without_each (without_each vs taken) cleared ++ put) ≡ vs
values_stay vs taken cleared put up none nothing empty =
    ap (λ ts. ordered_values (without_each (without_each vs ts) cleared ++ put)) none
    ∙ ap (λ ts. ordered_values (without_each vs ts ++ put)) nothing
    ∙ ap (λ ts. ordered_values (vs ++ ts)) empty
    ∙ ap ordered_values (append-nil vs)
    ∙ sym (values_by_counts vs (ordered_values vs) up (ordered_values_ascend vs)
    (λ z. sym (ordered_values_stay vs z)))

places_stay : (change : ℕ → List Value → List Value) (k : ℕ) (places : List (List Value)) →
    ((j : ℕ) (vs : List Value) → Contains places vs → change j vs ≡ vs) →
    map (λ p. change p.0 p.1) (enumerate_from k places) ≡ places
places_stay change k [] same = refl
places_stay change k (vs ∷ places) same =
    ap (λ ws. ws ∷ map (λ p. change p.0 p.1) (enumerate_from (k + 1) places))
    (same k vs (0, omega arith, refl))
    ∙ ap (λ rest. vs ∷ rest)
    (places_stay change (k + 1) places (λ j ws there. same j ws (later vs ws places there)))

-- One firing, by its effects.
module _ (system : System) (m : Marking) (b : Binding) (acts : Effects) (n : ℕ)
    (own : (node : Node) → Contains b.nodes node → ¬ (node.inst ≡ Old n))
    (read : (r : Reading) → Contains acts.read r → Contains b.nodes r.node) where
  asks_not : {A : Type 0} (pick : ArcKind → Value → List A) (place : ℕ) →
      asked_at pick system (readings system b) (Old n) place ≡ []
  asks_not pick place =
      asks_nothing pick system (Old n) place (readings system b)
      (λ r there is.
      let from = map_source (λ (node : Node). let r : Reading = record { node = node; env = env_of system node } in r) b.nodes r there in
      own from.0 from.1 (ap (λ (q : Reading). q.node.inst) from.2 ∙ is))

  puts_not : (place : ℕ) → asked_at puts system acts.read (Old n) place ≡ []
  puts_not place =
      asks_nothing puts system (Old n) place acts.read
      (λ r there is. own r.node (read r there) is)

  place_stays : (place : ℕ) (vs : List Value) → IsSorted value_cmp vs →
      tokens_after system b acts n place (rest_at system b (Old n) place vs) ≡ vs
  place_stays place vs up =
      values_stay vs
      (ordered_values (asked_at takes system (readings system b) (Old n) place))
      (flat_map (λ vs. vs) (asked_at clears system (readings system b) (Old n) place))
      (asked_at puts system acts.read (Old n) place) up
      (ap ordered_values (asks_not takes place))
      (ap (λ xs. flat_map (λ vs. vs) xs) (asks_not clears place)) (puts_not place)

  stays_itself : (i : Instance) → i.number ≡ n → All (λ vs. IsSorted value_cmp vs) i.places →
      instance_after system b acts i ≡ i
  stays_itself i is sorted =
      ap (λ ps. let j : Instance = record i { places = ps } in j)
      (places_stay
      (λ place vs. tokens_after system b acts i.number place
      (rest_at system b (Old i.number) place vs)) 0 i.places
      (λ place vs there.
      subst (λ k. tokens_after system b acts k place (rest_at system b (Old k) place vs) ≡ vs)
      (sym is)
      (place_stays place vs (All-contains (λ vs. IsSorted value_cmp vs) i.places vs sorted there))))

  one_stays : (made : List Made) → IsMarking system m → ¬ ((m.next ≤ n) × (n < m.next + length made)) →
      instance_at (marking_after system m made b acts) n ≡ instance_at m n
  one_stays made form old = by_before (instance_at m n) refl
    where
      by_after : (o : Option Instance) → instance_at (marking_after system m made b acts) n ≡ o →
          instance_at m n ≡ None → o ≡ None
      by_after None is none = refl
      by_after (Some j) is none =
          elim (was_or_is_new system m made b acts n j is) as (λ _. Some j ≡ None) [
            | inl (i, found, same) ↦ absurd (let no : ⊥ = cc in no)
            | inr (c, there, not, same) ↦
                let at = from_enumerated m.next made (n, c) there in
                absurd (old (omega (arith, at.1), below made at.0 c at.1 at.2))
          ]
        where
          within : {X : Type 0} (xs : List X) (k : ℕ) (x : X) → slice_get xs k ≡ Some x → k < length xs
          within [] k x e = absurd (let no : ⊥ = cc in no)
          within (y ∷ xs) zero x e = omega arith
          within (y ∷ xs) (suc k) x e = let rest = within xs k x e in omega (arith, rest)

          below : (made : List Made) (k : ℕ) (c : Made) → n ≡ m.next + k → slice_get made k ≡ Some c →
              n < m.next + length made
          below made k c e found = let low = within made k c found in omega (arith, e, low)

      by_before : (o : Option Instance) → instance_at m n ≡ o →
          instance_at (marking_after system m made b acts) n ≡ instance_at m n
      by_before None is =
          by_after (instance_at (marking_after system m made b acts) n) refl is ∙ sym is
      by_before (Some i) is =
          was_there system m made b acts n i is
          ∙ ap (λ j. Some j)
          (stays_itself i (found_number m.instances n i is)
          (All-contains (λ i. All (λ vs. IsSorted value_cmp vs) i.places) m.instances i form.sorted
          (found_is_there (λ i. nat_eq i.number n) m.instances i is)))
          ∙ sym is

-- A firing that is defined.
module _ (system : System) (m : Marking) (b : Binding) (step : ℕ) (f : Fired) (n : ℕ)
    (form : IsMarking system m) (fires : fire system m b step ≡ Ok f)
    (own : (node : Node) → Contains b.nodes node → ¬ (node.inst ≡ Old n))
    (old : ¬ ((m.next ≤ n) × (n < f.marking.next))) where
  abbrev made : List Made
  made = creations_of system b

  abbrev nb : Binding
  nb = named system b m.next

  abbrev Below : Type 0
  Below = (m.next ≤ n) × (n < m.next + length made)

  pub next_is : f.marking.next ≡ m.next + length made
  next_is = ap (λ x. x.next) (sym (fired_as system m b step f fires).marking)

  not_made : ¬ Below
  not_made low = old (low.0, subst (λ k. n < k) (sym next_is) low.1)

  none_stands : (node : Node) → Contains nb.nodes node → ¬ (node.inst ≡ Old n)
  none_stands node there is =
      let from = map_source (renamed_node (numbered_inst made m.next)) b.nodes node there in
      elim (numbered_old made m.next n from.0.inst (ap (λ (x : Node). x.inst) from.2 ∙ is))
      as (λ _. ⊥) [ inl before ↦ own from.0 from.1 before | inr new ↦ not_made new ]

  pub firing_leaves : instance_at f.marking n ≡ instance_at m n
  firing_leaves =
      let fired = fired_as system m b step f fires in
      let read = λ (r : Reading) (there : Contains fired.acts.read r).
      (reading_stays system step (λ node env. Unit {0}) nb.nodes
      (record { begins = λ node there. tt; goes_on = λ node x e v env there action is worth. tt })
      fired.acts fired.are r there).0 in
      subst (λ x. instance_at x n ≡ instance_at m n) fired.marking
      (one_stays system m nb fired.acts n none_stands read made form not_made)

-- The next number never falls.
next_grows : (system : System) (depth step : ℕ) (m : Marking) (fs : List Firing) →
    RunFrom system depth step m fs → m.next ≤ (end_from system step m fs).next
next_grows system depth step m [] run = omega arith
next_grows system depth step m (f ∷ fs) (fires, run) =
    let after = after_firing system step m f in
    let fired : Fired = record { marking = after; outs = f.outs } in
    let is : after.next ≡ m.next + length (creations_of system f.binding) =
    ap (λ x. x.next) (sym (fired_as system m f.binding step fired fires.fired).marking) in
    let rest = next_grows system depth (suc step) after fs run in
    omega (arith, is, rest)

-- Firings from a marking.
leave_from : (system : System) (depth step : ℕ) (m : Marking) (fs : List Firing) (n : ℕ) →
    Good system → IsMarking system m → RunFrom system depth step m fs →
    ¬ MayChange fs m.next (end_from system step m fs).next n →
    instance_at (end_from system step m fs) n ≡ instance_at m n
leave_from system depth step m [] n good form run other = refl
leave_from system depth step m (f ∷ fs) n good form (fires, run) other =
    let after = after_firing system step m f in
    let fired : Fired = record { marking = after; outs = f.outs } in
    let grows = next_grows system depth (suc step) after fs run in
    let first = next_grows system depth step m (f ∷ []) (fires, tt) in
    let kept : IsMarking system after =
    firings_keep_markings system m f.binding depth step fired good form fires.enabled fires.fired in
    let rest = leave_from system depth (suc step) after fs n good kept run (λ may. other (later_may may)) in
    rest
    ∙ firing_leaves system m f.binding step fired n form fires.fired
    (λ node there is. other (inl (f, (0, omega arith, refl), (node, there, is))))
    (λ new. other (inr (new.0, omega (arith, new.1, grows))))
  where
    later_may : MayChange fs (after_firing system step m f).next
        (end_from system (suc step) (after_firing system step m f) fs).next n →
        MayChange (f ∷ fs) m.next (end_from system step m (f ∷ fs)).next n
    later_may (inl (g, there, has)) = inl (g, later f g fs there, has)
    later_may (inr (from, to)) =
        let first = next_grows system depth step m (f ∷ []) (fires, tt) in
        inr (omega (arith, first, from), to)

-- later firings of a run change only instances on which their nodes stand or that they make
pub firings_change_no_other : FiringsChangeNoOther
firings_change_no_other system depth fs gs n good run other =
    let m = initial_marking system in
    let middle = end_of system fs in
    let joined = end_joined system 1 m fs gs in
    let form = runs_end_in_markings system depth fs good (prefixes_are_runs system depth fs gs run) in
    subst (λ x. instance_at x n ≡ instance_at middle n) (sym joined)
    (leave_from system depth (1 + length fs) middle gs n good form
    (rest_from system depth 1 m fs gs run)
    (subst (λ x. ¬ MayChange gs middle.next x.next n) joined other))
