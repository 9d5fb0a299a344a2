-- Tables that stand for markings: the same is live, enabled and fired in both.
use Rattle.std.proofs.Common.{◌≡◌, ℕ, zero, suc, ◌<◌, ◌≤◌, Bool, true, false, cond, List, [], ◌∷◌, map, length, refl, sym, ap, ◌∙◌, subst, inl, inr, arith}
use Rattle.std.specs.Prelude.{find, not, Option, Some, None, Ok, Contains, All, nat_eq, filter, slice_get, unwrap_or, option_map, option_and_then}
use Rattle.std.specs.List.{enumerate_from}
use Rattle.std.proofs.lemmas.List.Elements.{All-contains, All-from_recursion, recursion_from_All, All-contains_itself, All-filter, All-weaker, Contains-append_right}
use Rattle.std.proofs.lemmas.Bool.{eqb-true, eq-eqb}
use Rattle.rn_value.specs.declared.value.InstRef.TheVariants.{Old}
use Rattle.rn_value.specs.declared.value.Value.{Value}
use Rattle.rn_value.specs.Order.{value_cmp}
use Rattle.std.specs.List.Sorted.{IsSorted}
use Rattle.rn_model.specs.declared.system.System.{System}
use Rattle.rn_model.specs.declared.binding.Binding.{Binding}
use Rattle.rn_model.specs.Good.{Good}
use Rattle.rn_model.specs.Systems.{net_at}
use Rattle.rn_model.specs.Markings.{Marking, Instance, IsMarking, IsThere, instance_at, net_of, tokens_at}
use Rattle.rn_model.specs.Enabling.{Enabled}
use Rattle.rn_model.specs.Liveness.{IsLive, starts, held, Stands}
use Rattle.rn_model.specs.SoundTokens.{HasSoundTokens}
use Rattle.rn_model.specs.Firing.{Made, Effects, Fired, fire, firing_result, effects, creations_of, named, marking_after, instance_after, new_instance, too_many}
use Rattle.rn_model.specs.LivenessLaws.{FireAlike, TablesEnableTheSame, TablesFireAlike, TablesStandAfter, TablesHaveTheSameLive, MarkingsStandForThemselves, StandingIsTransitive, DroppingKeeps}
use Rattle.rn_model.proofs.EachElement.{each_append, each_map, each_weaker}
use Rattle.rn_model.proofs.EnablingLemmas.{not_in_nil}
use Rattle.rn_model.proofs.MarkingsStay.{Increases, BelowFirst, from_strict, to_strict}
use Rattle.rn_model.proofs.MarkingsOfRuns.{found_is_there, firings_keep_markings}
use Rattle.rn_model.proofs.OwnInstances.{looks_at_its_own}
use Rattle.rn_model.proofs.LiveBindings.{nodes_stand_on_live}
use Rattle.rn_model.proofs.DeadInstances.{fired_as, there_of_net, live_there, live_before, below_next}
use Rattle.rn_model.proofs.ItemsOfNodes.{below_each}
use Rattle.rn_model.proofs.AskedValues.{later, contained_mapped}
use Rattle.rn_model.proofs.AfterFiring.{found_number, some_found, was_there, is_new, at_least, was_or_is_new}

abbrev held_by : Option Instance → ℕ → List Value
held_by o place = unwrap_or (option_and_then (λ i. slice_get i.places place) o) []

module _ (system : System) (table m : Marking) (stands : Stands system table m) where
  -- what is in the table is so in the marking
  pub as_in_table : (n : ℕ) (i : Instance) → instance_at table n ≡ Some i → instance_at m n ≡ Some i
  as_in_table n i e =
      let kept = All-contains (λ i. instance_at m i.number ≡ Some i) table.instances i stands.kept (found_is_there (λ i. nat_eq i.number n) table.instances i e) in
      subst (λ k. instance_at m k ≡ Some i) (found_number table.instances n i e) kept

  -- a live instance is the same in both
  pub same_live : (n : ℕ) → IsLive system m n → instance_at table n ≡ instance_at m n
  same_live n live = let there = stands.live n live in there.1 ∙ sym (as_in_table n there.0 there.1)

  live_in_marking : (n : ℕ) → IsLive system table n → IsLive system m n
  live_in_marking n (starts {net = net} there may) =
      let found = there_of_net table n net there in
      starts {net = net} (ap (option_map (λ i. i.net)) (as_in_table n found.0 found.1) ∙ ap Some found.2) may
  live_in_marking n (held {holder = h} {token = token} place live has said there) =
      let holder = live_there system table h live in
      let tokens : tokens_at table h place ≡ tokens_at m h place = ap (λ o. held_by o place) (holder.1 ∙ sym (as_in_table h holder.0 holder.1)) in
      held place (live_in_marking h live) (subst (λ vs. Contains vs token) tokens has) said (there.0, as_in_table n there.0 there.1)

  live_in_table : (n : ℕ) → IsLive system m n → IsLive system table n
  live_in_table n (starts {net = net} there may) = starts {net = net} (ap (option_map (λ i. i.net)) (same_live n (starts {net = net} there may)) ∙ there) may
  live_in_table n (held {holder = h} {token = token} place live has said there) =
      let tokens : tokens_at table h place ≡ tokens_at m h place = ap (λ o. held_by o place) (same_live h live) in
      held place (live_in_table h live) (subst (λ vs. Contains vs token) (sym tokens) has) said (stands.live n (held place live has said there))

-- the same instances are live in a table and in the marking that it stands for
pub tables_have_the_same_live : TablesHaveTheSameLive
tables_have_the_same_live system table m stands n = (live_in_marking system table m stands n, live_in_table system table m stands n)

-- and, where its tokens are sound, the same bindings are enabled at both
pub tables_enable_the_same : TablesEnableTheSame
tables_enable_the_same system table m b depth sound stands = (
  λ e. looks_at_its_own system table m b depth (λ node n there is.
      let net = All-contains (λ node. (n : ℕ) → node.inst ≡ Old n → net_of table n ≡ Some node.net) b.nodes node e.fits.there there n is in
      let found = there_of_net table n node.net net in
      as_in_table system table m stands n found.0 found.1 ∙ sym found.1) e,
  λ e. looks_at_its_own system m table b depth (λ node n there is. same_live system table m stands n (nodes_stand_on_live system m b depth sound e node n there is)) e,
)

alike : (system : System) (table m : Marking) (b : Binding) (acts : Option Effects) (many : Bool) → table.next ≡ m.next → too_many table.next (length (creations_of system b)) ≡ many → FireAlike (firing_result system table b acts) (firing_result system m b acts)
alike system table m b None many next few = refl
alike system table m b (Some acts) many next few =
    let few_too : too_many m.next (length (creations_of system b)) ≡ many = ap (λ k. too_many k (length (creations_of system b))) (sym next) ∙ few in
    by_number many few few_too
  where
    by_number : (many : Bool) → too_many table.next (length (creations_of system b)) ≡ many → too_many m.next (length (creations_of system b)) ≡ many → FireAlike (firing_result system table b (Some acts)) (firing_result system m b (Some acts))
    by_number true few few_too = rw (few, few_too) refl
    by_number false few few_too = rw (few, few_too) refl

-- a firing at the table prints as at the marking, or is undefined by the same cause
pub tables_fire_alike : TablesFireAlike
tables_fire_alike system table m b step stands =
    subst (λ k. FireAlike (fire system table b step) (firing_result system m b (effects system b k step))) stands.next
    (alike system table m b (effects system b table.next step) (too_many table.next (length (creations_of system b))) stands.next refl)

-- After a firing made in both.
module _ (system : System) (is : List Instance) (m : Marking) (b : Binding) (acts : Effects) (made : List Made) (form : IsMarking system m) (kept : All (λ i. instance_at m i.number ≡ Some i) is) where
  abbrev table : Marking
  table = record { next = m.next; instances = is }

  abbrev after : Marking → Marking
  after x = marking_after system x made b acts

  not_yet : (k : ℕ) → m.next ≤ k → instance_at m k ≡ None
  not_yet k high = by_instance (instance_at m k) refl
    where
      by_instance : (o : Option Instance) → instance_at m k ≡ o → instance_at m k ≡ None
      by_instance None e = e
      by_instance (Some i) e = let low = below_next system m k form (i, e) in absurd (let no : ⊥ = omega (arith, low, high) in no)

  old_kept : (i : Instance) → instance_at m i.number ≡ Some i → instance_at (after m) (instance_after system b acts i).number ≡ Some (instance_after system b acts i)
  old_kept i e = was_there system m made b acts i.number i e

  new_kept : (p : ℕ × Made) → Contains (enumerate_from m.next made) p → instance_at (after m) (new_instance system b acts p).number ≡ Some (new_instance system b acts p)
  new_kept p there = is_new system m made b acts p (not_yet p.0 (at_least m.next made p there)) there

  kept_after : All (λ i. instance_at (after m) i.number ≡ Some i) (after table).instances
  kept_after =
      All-from_recursion (λ i. instance_at (after m) i.number ≡ Some i) (after table).instances
      (each_append (λ i. instance_at (after m) i.number ≡ Some i) (map (instance_after system b acts) is) (map (new_instance system b acts) (enumerate_from m.next made))
      (each_map (λ i. instance_at (after m) i.number ≡ Some i) (instance_after system b acts) is
      (each_weaker (λ i. instance_at m i.number ≡ Some i) (λ i. instance_at (after m) (instance_after system b acts i).number ≡ Some (instance_after system b acts i)) old_kept is (recursion_from_All (λ i. instance_at m i.number ≡ Some i) is kept)))
      (each_map (λ i. instance_at (after m) i.number ≡ Some i) (new_instance system b acts) (enumerate_from m.next made)
      (each_weaker (Contains (enumerate_from m.next made)) (λ p. instance_at (after m) (new_instance system b acts p).number ≡ Some (new_instance system b acts p)) new_kept (enumerate_from m.next made)
      (recursion_from_All (Contains (enumerate_from m.next made)) (enumerate_from m.next made) (All-contains_itself (enumerate_from m.next made))))))

  live_after : ((n : ℕ) → IsLive system (after m) n → IsThere m n → IsThere table n) → (n : ℕ) → IsLive system (after m) n → IsThere (after table) n
  live_after stays n live =
      let there = live_there system (after m) n live in
      elim (was_or_is_new system m made b acts n there.0 there.1) as (λ _. IsThere (after table) n) [
        | inl (i, found, same) ↦ let in_table = stays n live (i, found) in (instance_after system b acts in_table.0, was_there system table made b acts n in_table.0 in_table.1)
        | inr (c, new, none, same) ↦
            some_found (after table).instances n (new_instance system b acts (n, c))
            (Contains-append_right (map (instance_after system b acts) is) (map (new_instance system b acts) (enumerate_from m.next made)) (new_instance system b acts (n, c)) (contained_mapped (new_instance system b acts) (enumerate_from m.next made) (n, c) new)) refl
      ]

-- a table with the marking's next number
of_same_next : (system : System) (is : List Instance) (m : Marking) (b : Binding) (depth step : ℕ) (f g : Fired) → Good system → IsMarking system m → HasSoundTokens system m → Stands system (record { next = m.next; instances = is }) m → Enabled system m b depth →
    fire system (record { next = m.next; instances = is }) b step ≡ Ok f → fire system m b step ≡ Ok g → Stands system f.marking g.marking
of_same_next system is m b depth step f g good form sound stands enabled at_table at_marking =
    let table : Marking = record { next = m.next; instances = is } in
    let made = creations_of system b in
    let nb = named system b m.next in
    let first = fired_as system table b step f at_table in
    let second = fired_as system m b step g at_marking in
    let same_acts : second.acts ≡ first.acts = same (sym second.are ∙ first.are) in
    let f_is : marking_after system table made nb first.acts ≡ f.marking = first.marking in
    let g_is : marking_after system m made nb first.acts ≡ g.marking = ap (marking_after system m made nb) (sym same_acts) ∙ second.marking in
    let enabled_too = (tables_enable_the_same system table m b depth sound stands).1 enabled in
    let stays = λ (n : ℕ) (live : IsLive system (marking_after system m made nb first.acts) n) (there : IsThere m n). stands.live n (live_before system m b depth step g good form sound enabled at_marking n (subst (λ x. IsLive system x n) g_is live) there) in
    let stand : Stands system (marking_after system table made nb first.acts) (marking_after system m made nb first.acts) = record {
      form = subst (IsMarking system) (sym f_is) (firings_keep_markings system table b depth step f good stands.form enabled_too at_table);
      next = refl;
      kept = kept_after system is m nb first.acts made form stands.kept;
      live = live_after system is m nb first.acts made form stands.kept stays;
    } in
    subst (Stands system f.marking) g_is (subst (λ x. Stands system x (marking_after system m made nb first.acts)) f_is stand)
  where
    same : {x y : Effects} → Some x ≡ Some y → x ≡ y
    same e = cc

-- after an enabled binding has fired in both, the table stands for the marking again
pub tables_stand_after : TablesStandAfter
tables_stand_after system table m b depth step f g good form sound stands enabled at_table at_marking =
    let same : table ≡ record { next = m.next; instances = table.instances } = ap (λ k. record { next = k; instances = table.instances }) stands.next in
    of_same_next system table.instances m b depth step f g good form sound (subst (λ t. Stands system t m) same stands) enabled (subst (λ t. fire system t b step ≡ Ok f) same at_table) at_marking

-- in a marking each instance is found by its number
found_itself : (is : List Instance) (i : Instance) → Increases (map (λ i. i.number) is) → Contains is i → find (λ j. nat_eq j.number i.number) is ≡ Some i
found_itself [] i up there = absurd (not_in_nil i there)
found_itself (j ∷ is) i up (zero, h, e) =
    let same : nat_eq j.number i.number ≡ true = eq-eqb j.number i.number (ap (λ k. k.number) e) in
    ap (λ first. cond first (Some j) (find (λ j. nat_eq j.number i.number) is)) same ∙ ap (λ k. Some k) e
found_itself (j ∷ is) i up (suc k, h, e) =
    let there : Contains is i = (k, omega (arith, h), e) in
    let low : j.number < i.number = below_each j.number i.number (map (λ i. i.number) is) up (contained_mapped (λ i. i.number) is i there) in
    passed_over j i is (nat_eq j.number i.number) refl low ∙ found_itself is i up.1 there
  where
    passed_over : (j i : Instance) (is : List Instance) (same : Bool) → nat_eq j.number i.number ≡ same → j.number < i.number → cond same (Some j) (find (λ j. nat_eq j.number i.number) is) ≡ find (λ j. nat_eq j.number i.number) is
    passed_over j i is true same low = let number = eqb-true j.number i.number same in absurd (let no : ⊥ = omega (arith, number, low) in no)
    passed_over j i is false other low = refl

-- a marking stands for itself
pub markings_stand_for_themselves : MarkingsStandForThemselves
markings_stand_for_themselves system m form =
    let up = from_strict (map (λ i. i.number) m.instances) form.ascending in
    let each = each_weaker (Contains m.instances) (λ i. instance_at m i.number ≡ Some i) (λ i there. found_itself m.instances i up there) m.instances (recursion_from_All (Contains m.instances) m.instances (All-contains_itself m.instances)) in
    record {
      form = form;
      next = refl;
      kept = All-from_recursion (λ i. instance_at m i.number ≡ Some i) m.instances each;
      live = λ n live. live_there system m n live;
    }

pub standing_is_transitive : StandingIsTransitive
standing_is_transitive system small table m first second = record {
  form = first.form;
  next = first.next ∙ second.next;
  kept = All-weaker (λ i. instance_at table i.number ≡ Some i) (λ i. instance_at m i.number ≡ Some i) (λ i e. as_in_table system table m second i.number i e) small.instances first.kept;
  live = λ n live. first.live n (live_in_table system table m second n live);
}

-- Dropping instances.
below_further : (n i : ℕ) (ks : List ℕ) → n < i → BelowFirst i ks → BelowFirst n ks
below_further n i [] first low = tt
below_further n i (k ∷ ks) first low = omega (arith, first, low)

below_or_not : (n : ℕ) (i : Instance) (is : List Instance) (kept : Bool) → n < i.number → BelowFirst n (map (λ i. i.number) is) → BelowFirst n (map (λ i. i.number) (cond kept (i ∷ is) is))
below_or_not n i is true first others = first
below_or_not n i is false first others = others

below_kept : (n : ℕ) (keeps : Instance → Bool) (is : List Instance) → Increases (n ∷ map (λ i. i.number) is) → BelowFirst n (map (λ i. i.number) (filter keeps is))
below_kept n keeps [] up = tt
below_kept n keeps (i ∷ is) up =
    below_or_not n i (filter keeps is) (keeps i) up.0 (below_kept n keeps is (below_further n i.number (map (λ i. i.number) is) up.0 up.1.0, up.1.1))

increase_or_not : (i : Instance) (is : List Instance) (kept : Bool) → BelowFirst i.number (map (λ i. i.number) is) → Increases (map (λ i. i.number) is) → Increases (map (λ i. i.number) (cond kept (i ∷ is) is))
increase_or_not i is true first others = (first, others)
increase_or_not i is false first others = others

kept_increase : (keeps : Instance → Bool) (is : List Instance) → Increases (map (λ i. i.number) is) → Increases (map (λ i. i.number) (filter keeps is))
kept_increase keeps [] up = tt
kept_increase keeps (i ∷ is) up = increase_or_not i (filter keeps is) (keeps i) (below_kept i.number keeps is up) (kept_increase keeps is up.1)

contained_or_not : (j i : Instance) (is : List Instance) (kept : Bool) → Contains is i → Contains (cond kept (j ∷ is) is) i
contained_or_not j i is true there = later j i is there
contained_or_not j i is false there = there

contained_kept : (keeps : Instance → Bool) (is : List Instance) (i : Instance) → Contains is i → keeps i ≡ true → Contains (filter keeps is) i
contained_kept keeps [] i there e = absurd (not_in_nil i there)
contained_kept keeps (j ∷ is) i (zero, h, same) e = let passes : keeps j ≡ true = ap keeps same ∙ e in rw passes (0, omega arith, same)
contained_kept keeps (j ∷ is) i (suc k, h, same) e = contained_or_not j i (filter keeps is) (keeps j) (contained_kept keeps is i (k, omega (arith, h), same) e)

-- a table still stands for its marking without instances that aren't live in it
pub dropping_keeps : DroppingKeeps
dropping_keeps system table m drops stands dead =
    let keeps = λ (i : Instance). not (drops i.number) in
    record {
      form = record {
        ascending = to_strict (map (λ i. i.number) (filter keeps table.instances)) (kept_increase keeps table.instances (from_strict (map (λ i. i.number) table.instances) stands.form.ascending));
        numbered = All-filter keeps (λ i. (0 < i.number) × (i.number < table.next)) table.instances stands.form.numbered;
        placed = All-filter keeps (λ i. (i.net < length system.nets) × (length i.places ≡ length (net_at system i.net).places)) table.instances stands.form.placed;
        sorted = All-filter keeps (λ i. All (λ vs. IsSorted value_cmp vs) i.places) table.instances stands.form.sorted;
      };
      next = stands.next;
      kept = All-filter keeps (λ i. instance_at m i.number ≡ Some i) table.instances stands.kept;
      live = λ n live.
          let there = stands.live n live in
          let number = found_number table.instances n there.0 there.1 in
          let stays : not (drops there.0.number) ≡ true = not_dropped (drops there.0.number) (λ e. dead n (ap drops (sym number) ∙ e) (live_in_table system table m stands n live)) in
          some_found (filter keeps table.instances) n there.0 (contained_kept keeps table.instances there.0 (found_is_there (λ i. nat_eq i.number n) table.instances there.0 there.1) stays) number;
    }
  where
    not_dropped : (drop : Bool) → (drop ≡ true → ⊥) → not drop ≡ true
    not_dropped true kept = absurd (kept refl)
    not_dropped false kept = refl
