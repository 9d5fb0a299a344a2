-- What holds of the marks while found instances wait, and that all live ones are marked where none
-- waits.
use Rattle.std.proofs.Common.{◌≡◌, ℕ, ◌<◌, ◌≤◌, Bool, true, false, List, [], ◌∷◌, ◌++◌, length, refl, sym, subst, inl, inr, arith}
use Rattle.std.specs.Prelude.{◌⊎◌, Option, Some, None, IsTrue, All, Contains, option_map, ◌↔◌}
use Rattle.std.proofs.lemmas.List.Elements.{Contains-push, Contains-append_left, Contains-push_cases}
use Rattle.rn_model.specs.declared.system.System.{System}
use Rattle.rn_model.specs.Systems.{may_start}
use Rattle.rn_model.specs.Liveness.{IsLive, starts, held}
use Rattle.rn_model.specs.Markings.{Marking, Instance, IsThere, instance_at, net_of}
use Rattle.rn_model.proofs.EnablingLemmas.{not_in_nil}
use Rattle.rn_model.proofs.AfterFiring.{found_number}
use Rattle.rn_live.specs.Rooms.{is_marked, starts_of}
use Rattle.rn_live.specs.link.Marks.{Marked, Finds, holds, is_start_below}
use Rattle.rn_live.proofs.HolderLemmas.{held_by, holds_mentioned, of_each}
use Rattle.rn_live.proofs.StartLemmas.{is_starting, starting_live, live_starting}

pub net_there : (o : Option Instance) (net : ℕ) → option_map (λ i. i.net) o ≡ Some net → (i : Instance) × (o ≡ Some i)
net_there None net e = absurd (let no : ⊥ = cc in no)
net_there (Some i) net e = (i, refl)

module _ (system : System) (m : Marking) where
  -- all that an instance holds is marked
  abbrev pub IsGoneThrough : List Bool → ℕ → Type 0
  IsGoneThrough marks holder = (n : ℕ) → holds m holder n ≡ true → IsThere m n → Marked marks n

  -- Only live instances are marked and wait. Those that start are marked, and each marked one waits
  -- or was gone through.
  pub record IsUnderWay (marks : List Bool) (waiting : List ℕ) : Type 0 where
    pub below : (n : ℕ) → IsThere m n → n < length marks
    pub live : (n : ℕ) → Marked marks n → IsLive system m n
    pub due : (n : ℕ) → Contains waiting n → IsLive system m n
    pub starts : (n net : ℕ) → net_of m n ≡ Some net → IsTrue (may_start system net) → Marked marks n
    pub gone : (n : ℕ) → Marked marks n → Contains waiting n ⊎ IsGoneThrough marks n

  all_below : (end : ℕ) → All (λ i. (0 < i.number) × (i.number < end)) m.instances → (n : ℕ) → IsThere m n → n < end
  all_below end all n there =
      let P : Instance → Type 0 = λ i. (0 < i.number) × (i.number < end) in
      let number : there.0.number ≡ n = found_number m.instances n there.0 there.1 in
      subst (λ k. k < end) number (of_each P m n there.0 all there.1).1

  -- where no number was marked and those that start were found below an end that all are below
  pub first_found : (end room left : ℕ) (old marks : List Bool) (none waiting : List ℕ) → ((n : ℕ) → is_marked old n ≡ false) → none ≡ [] → end ≤ length old → All (λ i. (0 < i.number) × (i.number < end)) m.instances → Finds m (is_starting system m end) old marks none waiting room left → IsUnderWay marks waiting
  first_found end room left old marks none waiting unmarked none_waits most all found =
      let within : (n : ℕ) → IsThere m n → n < length old = λ n there. let less = all_below end all n there in omega (arith, less, most) in
      let not_yet : (n : ℕ) → Marked old n → ⊥ = λ n marked. let is = unmarked n in let no : ⊥ = cc in no in
      record {
        below = λ n there. subst (λ k. n < k) (sym found.size) (within n there);
        live = λ n marked. elim (found.came n marked) as (λ _. IsLive system m n) [
          | inl before ↦ absurd (not_yet n before)
          | inr now ↦ starting_live system m end n now.1.0
        ];
        due = λ n waits. elim (found.due n waits) as (λ _. IsLive system m n) [
          | inl before ↦ absurd (not_in_nil n (subst (λ ns. Contains ns n) none_waits before))
          | inr now ↦ starting_live system m end n now.0
        ];
        starts = λ n net is may.
            let there = net_there (instance_at m n) net is in
            found.all n (live_starting system m end n net is may (all_below end all n there)) there (within n there);
        gone = λ n marked. elim (found.came n marked) as (λ _. Contains waiting n ⊎ IsGoneThrough marks n) [
          | inl before ↦ absurd (not_yet n before)
          | inr now ↦ inl now.0
        ];
      }

  pub starts_found : (tests : List Bool) (end room left : ℕ) (old marks : List Bool) (none waiting : List ℕ) → tests ≡ starts_of system → ((n : ℕ) → is_marked old n ≡ false) → none ≡ [] → end ≤ length old → All (λ i. (0 < i.number) × (i.number < end)) m.instances → Finds m (is_start_below m tests end) old marks none waiting room left → IsUnderWay marks waiting
  starts_found tests end room left old marks none waiting tests_are unmarked none_waits most all found =
      first_found end room left old marks none waiting unmarked none_waits most all
      (subst (λ ss. Finds m (is_start_below m ss end) old marks none waiting room left) tests_are found)

  -- what a live instance holds is live
  held_live : (h n : ℕ) → IsLive system m h → holds m h n ≡ true → IsThere m n → IsLive system m n
  held_live h n live e there =
      let by = held_by m h n e in held {holder = h} {token = by.1} by.0 live by.2 by.3 there

  pub one_gone : (k room left : ℕ) (marks new : List Bool) (rest longer : List ℕ) → IsUnderWay marks (rest ++ k ∷ []) → Finds m (holds m k) marks new rest longer room left → IsUnderWay new longer
  one_gone k room left marks new rest longer so found =
      let live : IsLive system m k = so.due k (Contains-push rest k) in
      record {
        below = λ n there. subst (λ j. n < j) (sym found.size) (so.below n there);
        live = λ n marked. elim (found.came n marked) as (λ _. IsLive system m n) [
          | inl before ↦ so.live n before
          | inr now ↦ held_live k n live now.1.0 now.1.1
        ];
        due = λ n waits. elim (found.due n waits) as (λ _. IsLive system m n) [
          | inl before ↦ so.due n (Contains-append_left rest (k ∷ []) n before)
          | inr now ↦ held_live k n live now.0 now.1
        ];
        starts = λ n net is may. found.stay n (so.starts n net is may);
        gone = λ n marked. elim (found.came n marked) as (λ _. Contains longer n ⊎ IsGoneThrough new n) [
          | inr now ↦ inl now.0
          | inl before ↦ elim (so.gone n before) as (λ _. Contains longer n ⊎ IsGoneThrough new n) [
            | inr gone ↦ inr (λ j holds_it there. found.stay j (gone j holds_it there))
            | inl waits ↦ elim (Contains-push_cases rest k n waits) as (λ _. Contains longer n ⊎ IsGoneThrough new n) [
              | inl still ↦ inl (found.wait n still)
              | inr same ↦ inr (subst (IsGoneThrough new) same (λ j holds_it there. found.all j holds_it there (so.below j there)))
            ]
          ]
        ];
      }

  all_live : (marks : List Bool) → IsUnderWay marks [] → (n : ℕ) → IsLive system m n → Marked marks n
  all_live marks so n (starts {net = net} is may) = so.starts n net is may
  all_live marks so n (held {holder = h} {token = token} place live there mentioned is_there) =
      elim (so.gone h (all_live marks so h live)) as (λ _. Marked marks n) [
        | inl waits ↦ absurd (not_in_nil h waits)
        | inr gone ↦ gone n (holds_mentioned m h n place token there mentioned) is_there
      ]

  -- where none waits, just the live instances are marked
  pub marks_are_live : (marks : List Bool) (waiting : List ℕ) → length waiting ≡ 0 → IsUnderWay marks waiting → (n : ℕ) → Marked marks n ↔ IsLive system m n
  marks_are_live marks [] h so n = (so.live n, all_live marks so n)
  marks_are_live marks (k ∷ waiting) h so n = absurd (let no : ⊥ = omega (arith, h) in no)
