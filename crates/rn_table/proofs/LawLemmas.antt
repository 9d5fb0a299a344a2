-- The laws over changed tables.
use Rattle.std.proofs.Common.{◌≡◌, ℕ, ◌<◌, true, false, cond, Some, None, List, [], ◌∷◌, ◌++◌, length, get_or, append-nil, map, refl, sym, ap, ◌∙◌, subst, arith}
use Rattle.std.specs.Prelude.{filter, slice_get, unwrap_or, option_and_then, option_map}
use Rattle.std.proofs.lemmas.Option.{slice_get-get_or}
use Rattle.rn_value.specs.declared.value.Value.{Value}
use Rattle.rn_value.proofs.SortedLists.{values_by_counts}
use Rattle.rn_model.specs.Lists.{without_each}
use Rattle.rn_model.specs.Markings.{Instance, instance_at, tokens_at}
use Rattle.rn_model.specs.Firing.{changed_instance}
use Rattle.rn_model.proofs.ValueLists.{ordered_values_ascend, ordered_values_stay, others_are_taken}
use Rattle.rn_model.proofs.AfterFiring.{found_before, found_number, changed_place}
use Rattle.rn_table.specs.Changes.{changed, changed_tokens, values_at, with_made}
use Rattle.rn_table.specs.Laws.{TokensAfterChange, SameIsLeft, KeptAfterRemoval}
use Rattle.rn_table.specs.Staying.{stays}
use Rattle.rn_table.specs.link.Leaves.{numbered}
use Rattle.rn_table.proofs.ChangeLemmas.{count_append}
use Rattle.rn_table.proofs.InstanceLemmas.{numbered_passed, numbered_out}

element : {A : Type 0} (xs : List A) (k : ℕ) → k < length xs → (x : A) × (slice_get xs k ≡ Some x)
element [] k inside = absurd (omega arith)
element (x ∷ xs) k inside = let at = slice_get-get_or (x ∷ xs) k x inside in (get_or (x ∷ xs) k x, at)

pub tokens_after : TokensAfterChange
tokens_after system change m n place i there inside =
    let change_of = λ (j : Instance). changed_instance (changed_tokens change j.number) j in
    let made = with_made system change.made m in
    let vs = element i.places place inside in
    let found : instance_at (changed system change m) n ≡ Some (change_of i) =
    subst (λ is. numbered n is ≡ Some (change_of i)) (append-nil (map change_of made.instances)) (found_before change_of (λ j. refl) made.instances [] n i there) in
    let number : i.number ≡ n = found_number made.instances n i there in
    let before : tokens_at made n place ≡ vs.0 = ap (λ o. unwrap_or (option_and_then (λ (j : Instance). slice_get j.places place) o) []) there ∙ ap (λ o. unwrap_or o []) vs.1 in
    ap (λ o. unwrap_or (option_and_then (λ (j : Instance). slice_get j.places place) o) []) found
    ∙ ap (λ o. unwrap_or o []) (changed_place (changed_tokens change i.number) i place ∙ ap (option_map (changed_tokens change i.number place)) vs.1)
    ∙ ap (λ k. changed_tokens change k place vs.0) number ∙ ap (changed_tokens change n place) (sym before)

pub same_left : SameIsLeft
same_left change n place tokens up within same =
    let t : List Value = values_at change.taken n place in
    let c : List Value = values_at change.cleared n place in
    let p : List Value = values_at change.put n place in
    values_by_counts (changed_tokens change n place tokens) tokens (ordered_values_ascend (without_each (without_each tokens t) c ++ p)) up (λ z.
    let inside = within z in
    let put = same z in
    let both = count_append z t c in
    let left = others_are_taken (without_each tokens t) c z in
    let first = others_are_taken tokens t z in
    let joined = count_append z (without_each (without_each tokens t) c) p in
    let order = ordered_values_stay (without_each (without_each tokens t) c ++ p) z in
    omega (arith, inside, put, both, left, first, joined, order))

pub kept_after : KeptAfterRemoval
kept_after m numbers n = elim (stays numbers n) as (λ b. stays numbers n ≡ b → numbered n (filter (λ i. stays numbers i.number) m.instances) ≡ cond b (numbered n m.instances) None) [
  | true ↦ λ e. numbered_passed (stays numbers) n m.instances e
  | false ↦ λ e. numbered_out (stays numbers) n m.instances e
] refl
