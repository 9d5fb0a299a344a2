-- A change with the rows of a firing, place by place.
use Rattle.std.proofs.Common.{◌≡◌, ℕ, ◌+◌, List, [], ◌∷◌, ◌++◌, length, map, refl, ap, ◌∙◌, arith}
use Rattle.std.specs.Prelude.{flat_map}
use Rattle.std.specs.List.{enumerate_from}
use Rattle.std.proofs.lemmas.List.{map-append, length-map}
use Rattle.rn_value.specs.declared.value.InstRef.TheVariants.{Old}
use Rattle.rn_value.specs.declared.value.Value.{Value}
use Rattle.rn_value.proofs.SortedLists.{values_by_counts}
use Rattle.rn_model.specs.declared.system.System.{System}
use Rattle.rn_model.specs.declared.binding.Binding.{Binding}
use Rattle.rn_model.specs.Lists.{without_each, ordered_values}
use Rattle.rn_model.specs.Demands.{asked_at, puts, rest_at, taken_at, cleared_at}
use Rattle.rn_model.specs.Markings.{Instance, Marking, fresh_instance}
use Rattle.rn_model.specs.Firing.{Made, Effects, changed_instance, tokens_after, instance_after, new_instance}
use Rattle.rn_model.proofs.ValueLists.{ordered_values_ascend, ordered_values_stay, others_are_taken}
use Rattle.rn_table.specs.declared.change.Change.{Change}
use Rattle.rn_table.specs.Changes.{changed_tokens, new_from, values_at}
use Rattle.rn_table.specs.Laws.{IsChangeOf, LeavesNew, FiringsAreChanges}
use Rattle.rn_table.proofs.ChangeLemmas.{count_append, places_same}
use Rattle.rn_table.proofs.StepLemmas.{with_places}

module _ (system : System) (made : List Made) (b : Binding) (acts : Effects) (change : Change) (is : IsChangeOf system made b acts change) where
  abbrev change_of : Instance → Instance
  change_of i = changed_instance (changed_tokens change i.number) i

  -- a place of an instance that was there
  old_place : (n place : ℕ) (vs : List Value) → changed_tokens change n place vs ≡ tokens_after system b acts n place (rest_at system b (Old n) place vs)
  old_place n place vs =
      let t : List Value = values_at change.taken n place in
      let c : List Value = values_at change.cleared n place in
      let p : List Value = values_at change.put n place in
      let t' : List Value = taken_at system b (Old n) place in
      let c' : List Value = flat_map (λ vs. vs) (cleared_at system b (Old n) place) in
      let p' : List Value = asked_at puts system acts.read (Old n) place in
      let xs : List Value = without_each (without_each vs t) c ++ p in
      let ys : List Value = without_each (without_each vs t') c' ++ p' in
      values_by_counts (ordered_values xs) (ordered_values ys) (ordered_values_ascend xs) (ordered_values_ascend ys) (λ z.
      let x_order = ordered_values_stay xs z in
      let y_order = ordered_values_stay ys z in
      let x_joined = count_append z (without_each (without_each vs t) c) p in
      let y_joined = count_append z (without_each (without_each vs t') c') p' in
      let x_left = others_are_taken (without_each vs t) c z in
      let y_left = others_are_taken (without_each vs t') c' z in
      let x_first = others_are_taken vs t z in
      let y_first = others_are_taken vs t' z in
      let taken = is.taken n place z in
      let cleared = is.cleared n place z in
      let put = is.put n place z in
      omega (arith, x_order, y_order, x_joined, y_joined, x_left, y_left, x_first, y_first, taken, cleared, put))

  -- a place of a new instance
  new_place : (n place : ℕ) (vs : List Value) → (values_at change.taken n place ≡ []) × (values_at change.cleared n place ≡ []) → changed_tokens change n place vs ≡ tokens_after system b acts n place vs
  new_place n place vs none =
      let p : List Value = values_at change.put n place in
      let p' : List Value = asked_at puts system acts.read (Old n) place in
      ap (λ t. ordered_values (without_each (without_each vs t) (values_at change.cleared n place) ++ p)) none.0 ∙ ap (λ c. ordered_values (without_each vs c ++ p)) none.1
      ∙ values_by_counts (ordered_values (vs ++ p)) (ordered_values (vs ++ p')) (ordered_values_ascend (vs ++ p)) (ordered_values_ascend (vs ++ p')) (λ z.
      let x_order = ordered_values_stay (vs ++ p) z in
      let y_order = ordered_values_stay (vs ++ p') z in
      let x_joined = count_append z vs p in
      let y_joined = count_append z vs p' in
      let put = is.put n place z in
      omega (arith, x_order, y_order, x_joined, y_joined, put))

  old_instances : (xs : List Instance) → map change_of xs ≡ map (instance_after system b acts) xs
  old_instances [] = refl
  old_instances (i ∷ xs) =
      ap (λ j. j ∷ map change_of xs) (ap (with_places i) (places_same (changed_tokens change i.number) (λ place vs. tokens_after system b acts i.number place (rest_at system b (Old i.number) place vs)) 0 i.places (λ k vs inside vs_is. old_place i.number (0 + k) vs)))
      ∙ ap (λ r. instance_after system b acts i ∷ r) (old_instances xs)

  new_instances : (next : ℕ) (ms : List Made) → LeavesNew change next → map change_of (new_from system next (map (λ c. c.net) ms)) ≡ map (new_instance system b acts) (enumerate_from next ms)
  new_instances next [] leaves = refl
  new_instances next (made ∷ ms) leaves =
      let i : Instance = fresh_instance system next made.net in
      ap (λ j. j ∷ map change_of (new_from system (next + 1) (map (λ c. c.net) ms))) (ap (with_places i) (places_same (changed_tokens change next) (tokens_after system b acts next) 0 i.places (λ k vs inside vs_is. new_place next (0 + k) vs (leaves next (0 + k) (omega arith)))))
      ∙ ap (λ r. new_instance system b acts (next, made) ∷ r) (new_instances (next + 1) ms (λ n place high. leaves n place (omega (arith, high))))

-- a change with the rows of a firing leads to the marking after it
pub firing_is_change : FiringsAreChanges
firing_is_change system m made b acts change is leaves =
    let nets : List ℕ = map (λ c. c.net) made in
    let after : List Instance = map (instance_after system b acts) m.instances ++ map (new_instance system b acts) (enumerate_from m.next made) in
    ap (λ ns. let r : Marking = record { next = m.next + length ns; instances = map (change_of system made b acts change is) (m.instances ++ new_from system m.next ns) } in r) is.nets
    ∙ ap (λ n. let r : Marking = record { next = m.next + n; instances = map (change_of system made b acts change is) (m.instances ++ new_from system m.next nets) } in r) (length-map made (λ c. c.net))
    ∙ ap (λ xs. let r : Marking = record { next = m.next + length made; instances = xs } in r)
    (map-append (change_of system made b acts change is) m.instances (new_from system m.next nets)
    ∙ ap (λ r. r ++ map (change_of system made b acts change is) (new_from system m.next nets)) (old_instances system made b acts change is m.instances)
    ∙ ap (λ r. map (instance_after system b acts) m.instances ++ r) (new_instances system made b acts change is m.next made leaves))
