-- What becomes of a wish on the assignments of a store as that grows.
use Rattle.std.proofs.Common.{◌≡◌, ◌≤◌, ℕ, List, [], ◌++◌, arith, length}
use Rattle.std.proofs.Common.{take, drop, sym, ◌∙◌, ap, subst, append_assoc}
use Rattle.std.specs.Prelude.{None, ◌↔◌}
use Rattle.std.proofs.lemmas.List.{take_all, take-take, length-take-le, take-append-drop}
use Rattle.std.proofs.lemmas.List.{append-nil}
use Rattle.std.proofs.Math.Seq.{take-append_seam}
use Rattle.rn_value.specs.declared.value.Value.{Value}
use Rattle.rn_term.specs.Stores.{State, Leads, link_of, with_note}
use Rattle.rn_term.specs.Assignments.{Satisfies}
use Rattle.rn_term.proofs.AssignmentLemmas.{satisfies_note, satisfied_before}
use Rattle.rn_term.proofs.Agreement.{leads-same}
use Rattle.rn_unify.specs.link.Binding.{Becomes, prefix_of}
use Rattle.rn_unify.specs.Unifying.{AreOne}

-- the prefix of an assignment of the store itself
pub prefix_of-all : (s : State) (vs : List Value) → length vs ≡ length s.terms → prefix_of s vs ≡ vs
prefix_of-all s vs each = take_all (length s.terms) vs (omega (arith, each))

pub prefix_of-append : (s : State) (vs more : List Value) → length vs ≡ length s.terms →
    prefix_of s (vs ++ more) ≡ vs
prefix_of-append s vs more each =
    ap (λ n. take n (vs ++ more)) (sym each) ∙ take-append_seam vs more

-- in the store itself a wish becomes each that is true exactly where it is
pub becomes_same : (s : State) (wish left : List Value → Type 0) →
    ((vs : List Value) → Satisfies s vs → wish vs ↔ left vs) → Becomes s wish s left
becomes_same s wish left same = record {
  back = λ vs sat. subst (Satisfies s) (sym (prefix_of-all s vs sat.each)) sat;
  enough = λ vs sat is. subst wish (sym (prefix_of-all s vs sat.each)) ((same vs sat).1 is);
  forth = λ vs sat is. (
    [],
    subst (Satisfies s) (sym (append-nil vs)) sat,
    subst left (sym (append-nil vs)) ((same vs sat).0 is),
  );
}

-- a wish that becomes another, which becomes a third
pub becomes_through : (old s new : State) (wish between left : List Value → Type 0) →
    length old.terms ≤ length s.terms → Becomes old wish s between → Becomes s between new left →
    Becomes old wish new left
becomes_through old s new wish between left room first last = record {
  back = λ vs sat.
      subst (Satisfies old) (shorter vs) (first.back (prefix_of s vs) (last.back vs sat));
  enough = λ vs sat is.
      subst wish (shorter vs)
      (first.enough (prefix_of s vs) (last.back vs sat) (last.enough vs sat is));
  forth = λ vs sat is.
      let on = first.forth vs sat is in
      let further = last.forth (vs ++ on.0) on.1 on.2 in
      let same = append_assoc vs on.0 further.0 in (
        on.0 ++ further.0,
        subst (Satisfies new) same further.1,
        subst left same further.2,
      );
}
  where
    shorter : (vs : List Value) → prefix_of old (prefix_of s vs) ≡ prefix_of old vs
    shorter vs = take-take (length old.terms) (length s.terms) vs room

-- a wish on the ids of a store stays as it is as values of later ids come
abbrev pub Stays : State → (List Value → Type 0) → Type 0
Stays s wish = (vs more : List Value) → length vs ≡ length s.terms → wish vs ↔ wish (vs ++ more)

-- such a wish may stand after one that becomes another
pub becomes_with : (old new : State) (wish left other : List Value → Type 0) →
    length old.terms ≤ length new.terms → Stays old other → Becomes old wish new left →
    Becomes old (λ vs. wish vs × other vs) new (λ vs. left vs × other vs)
becomes_with old new wish left other room stays is = record {
  back = is.back;
  enough = λ vs sat both. (
    is.enough vs sat both.0,
    (stays (prefix_of old vs) (drop (length old.terms) vs)
        (length-take-le (length old.terms) vs (omega (arith, room, sat.each)))).1
        (subst other (sym (take-append-drop (length old.terms) vs)) both.1),
  );
  forth = λ vs sat both.
      let on = is.forth vs sat both.0 in
      (on.0, on.1, (on.2, (stays vs on.0 sat.each).0 both.1));
}

-- or before it
pub becomes_after : (old new : State) (other wish left : List Value → Type 0) →
    length old.terms ≤ length new.terms → Stays old other → Becomes old wish new left →
    Becomes old (λ vs. other vs × wish vs) new (λ vs. other vs × left vs)
becomes_after old new other wish left room stays is =
    let swapped = becomes_with old new wish left other room stays is in
    record {
      back = is.back;
      enough = λ vs sat both.
          let now = swapped.enough vs sat (both.1, both.0) in (now.1, now.0);
      forth = λ vs sat both.
          let on = swapped.forth vs sat (both.1, both.0) in (on.0, on.1, (on.2.1, on.2.0));
    }

-- a note of a variable makes that variable one with what leads to where it leads
pub becomes_note : (s : State) (var to end : ℕ) (left : List Value → Type 0) →
    link_of s.notes var ≡ None → Leads s.notes to end →
    Becomes s (λ vs. AreOne var to vs × left vs) (with_note s var end) left
becomes_note s var to end left unbound leads = record {
  back = λ vs sat.
      subst (Satisfies s) (sym (prefix_of-all s vs sat.each))
      (satisfied_before s var end vs unbound sat).0;
  enough = λ vs sat is.
      let before = satisfied_before s var end vs unbound sat in
      subst (λ us. AreOne var to us × left us) (sym (prefix_of-all s vs sat.each))
      (before.1 ∙ sym (leads-same s vs to end before.0 leads), is);
  forth = λ vs sat both. (
    [],
    subst (Satisfies (with_note s var end)) (sym (append-nil vs))
        (satisfies_note s var end vs sat (both.0 ∙ leads-same s vs to end sat leads) unbound),
    subst left (sym (append-nil vs)) both.1,
  );
}
