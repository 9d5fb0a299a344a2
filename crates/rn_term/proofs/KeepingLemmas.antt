-- A store stays sound as terms and notes come and go.
use Rattle.std.proofs.Common.{◌≡◌, ◌⊎◌, ⊎_elim, ◌<◌, ◌≤◌, ◌+◌, ℕ, zero, suc, List, [], ◌∷◌, ◌++◌}
use Rattle.std.proofs.Common.{refl, subst}
use Rattle.std.proofs.Common.{arith}
use Rattle.std.proofs.Common.{length, sym, ◌∙◌, ap, get_or, set, take, length-append}
use Rattle.std.specs.Prelude.{Bool, true, Option, Some, None}
use Rattle.std.proofs.lemmas.List.{get_or_append_left, get_or-take, length-set, length-take}
use Rattle.std.proofs.lemmas.List.{get_or_past}
use Rattle.std.proofs.lemmas.Bool.{cases_lt}
use Rattle.std.proofs.Math.Seq.{get_or-append_seam}
use Rattle.rn_term.specs.declared.term.Term.{Term}
use Rattle.rn_term.specs.declared.term.Term.TheVariants as T
use Rattle.rn_term.specs.Stores.{State, link_of, IsBuiltBelow, with_term, with_note}
use Rattle.rn_term.specs.Assignments.{HasListTail, MayBeOne, IsNote, Keeps}
use Rattle.rn_term.specs.link.Kept.{KeepsAll, AreLastLists, last_cons, or_cons}
use Rattle.rn_term.specs.link.Kept.{AreFlags, AreLevels, IsBuiltOfFlagged, IsFlagged, level_of}
use Rattle.rn_term.specs.link.Kept.{AreFloors, AreLowered, IsLowAlong, floor_of}
use Rattle.rn_term.proofs.Closed.{flags_with_term, flags_of_fewer_terms}
use Rattle.rn_term.proofs.Floors.{floors_with_term, floors_with_note, floors_of_fewer_terms}
use Rattle.rn_term.proofs.LevelLemmas.{levels_with_term, levels_with_note, levels_of_fewer_terms}
use Rattle.rn_term.proofs.ListEnds.{at_end, after_prefix, none_at_end}
use Rattle.rn_term.proofs.LinkLemmas.{set_link}
use Rattle.rn_term.proofs.AssignmentLemmas.{new_value, satisfies_term, satisfies_note, link_within}

note_stays : (terms : List Term) (t : Term) (before : List (ℕ × ℕ)) (note : ℕ × ℕ) →
    IsNote terms before note → IsNote (terms ++ t ∷ []) before note
note_stays terms t before note is =
    let long : length (terms ++ t ∷ []) ≡ length terms + 1 = length-append terms (t ∷ []) in
    record {
      var = omega (arith, is.var, long);
      to = omega (arith, is.to, long);
      free = get_or_append_left terms (t ∷ []) T.Free note.0 is.var ∙ is.free;
      fresh = is.fresh;
      apart = is.apart;
    }

-- a store stays sound with one more term of earlier ones, whose tail, if any, may be a list
pub keeps_term : (s : State) (t : Term) → Keeps s → IsBuiltBelow (length s.terms) t →
    HasListTail s t → Keeps (with_term s t)
keeps_term s t keeps built tail =
    let some = new_value s t keeps tail in
    record {
      built = at_end T.Free (λ id u. IsBuiltBelow id u) s.terms t keeps.built built;
      noted = λ k within. note_stays s.terms t (take k s.notes) (get_or s.notes k (0, 0))
          (keeps.noted k within);
      satisfied = (
        some.0 ++ some.1 ∷ [],
        satisfies_term s t some.0 some.1 keeps built some.2 some.3,
      );
    }

-- and with one more note of a variable that may be one with what it is bound to
pub keeps_note : (s : State) (var to : ℕ) → Keeps s → IsNote s.terms s.notes (var, to) →
    MayBeOne s var to → Keeps (with_note s var to)
keeps_note s var to keeps note one = record {
  built = keeps.built;
  noted = after_prefix (0, 0) (λ before n. IsNote s.terms before n) s.notes (var, to)
      keeps.noted note;
  satisfied = (one.0, satisfies_note s var to one.0 one.1 one.2 note.fresh);
}

-- which list is the last depends on the terms up to it alone
same_last : (terms others : List Term) (n : ℕ) →
    ((k : ℕ) → k < n → get_or terms k T.Free ≡ get_or others k T.Free) →
    last_cons terms n ≡ last_cons others n
same_last terms others zero same = refl
same_last terms others (suc n) same =
    ap (λ t. or_cons t n (last_cons terms n)) (same n (omega arith))
    ∙ ap (or_cons (get_or others n T.Free) n)
    (same_last terms others n (λ k small. same k (omega (arith, small))))

-- the last lists beside one more term
one_list_more : (terms : List Term) (lists : List (Option ℕ)) (t : Term) (last : Option ℕ) →
    length lists ≡ length terms → AreLastLists lists terms →
    last ≡ or_cons t (length terms) (last_cons terms (length terms)) →
    AreLastLists (lists ++ last ∷ []) (terms ++ t ∷ [])
one_list_more terms lists t last counted are is id within = ⊎_elim
    (λ small. get_or_append_left lists (last ∷ []) None id (rw counted small)
    ∙ are id small
    ∙ same_last terms (terms ++ t ∷ []) (suc id)
    (λ k less. sym (get_or_append_left terms (t ∷ []) T.Free k (omega (arith, less, small)))))
    (λ big.
    let long : length (terms ++ t ∷ []) ≡ length terms + 1 = length-append terms (t ∷ []) in
    let here : id ≡ length terms = omega (arith, big, within, long) in
    subst (λ n. get_or (lists ++ last ∷ []) n None ≡ last_cons (terms ++ t ∷ []) (suc n)) (sym here)
    (ap (λ n. get_or (lists ++ last ∷ []) n None) (sym counted)
    ∙ get_or-append_seam lists last [] None ∙ is
    ∙ ap (or_cons t (length terms)) (same_last terms (terms ++ t ∷ []) (length terms)
    (λ k less. sym (get_or_append_left terms (t ∷ []) T.Free k less)))
    ∙ ap (λ u. or_cons u (length terms) (last_cons (terms ++ t ∷ []) (length terms)))
    (sym (get_or-append_seam terms t [] T.Free))))
    (cases_lt id (length terms))

-- the last lists beside the first terms
fewer_lists : (terms : List Term) (lists : List (Option ℕ)) (n : ℕ) → n ≤ length terms →
    AreLastLists lists terms → AreLastLists (take n lists) (take n terms)
fewer_lists terms lists n room are id within =
    let small : id < n = omega (arith, within, length-take n terms) in
    get_or-take n lists id None small ∙ are id (omega (arith, small, room))
    ∙ same_last terms (take n terms) (suc id)
    (λ k less. sym (get_or-take n terms k T.Free (omega (arith, less, small))))

-- the same of how a store is kept
pub kept_term : (terms : List Term) (links lists : List (Option ℕ)) (floors : List ℕ)
    (flags : List Bool) (levels : List ℕ) (notes : List (ℕ × ℕ)) (t : Term) (last : Option ℕ)
    (low : List ℕ) (top : ℕ) (flag : Bool) →
    KeepsAll terms links lists floors flags levels notes →
    last ≡ or_cons t (length terms) (last_cons terms (length terms)) →
    IsBuiltBelow (length terms) t →
    HasListTail (record { terms = terms; notes = notes }) t →
    AreLowered (floors ++ top ∷ []) low → ((ids : List ℕ) (end : ℕ) → t ≡ T.Cons ids end →
    IsLowAlong notes end (length terms) low) → (flag ≡ true → IsBuiltOfFlagged flags t) →
    KeepsAll (terms ++ t ∷ []) (links ++ None ∷ []) (lists ++ last ∷ []) low (flags ++ flag ∷ [])
    levels notes
kept_term terms links lists floors flags levels notes t last low top flag kept is built tail lowered
    along of =
    record {
      sound = keeps_term (record { terms = terms; notes = notes }) t kept.sound built tail;
      each = length-append links (None ∷ []) ∙ ap (λ n. n + 1) kept.each
          ∙ sym (length-append terms (t ∷ []));
      linked = λ id. none_at_end links id ∙ kept.linked id;
      counted = length-append lists (last ∷ []) ∙ ap (λ n. n + 1) kept.counted
          ∙ sym (length-append terms (t ∷ []));
      last = one_list_more terms lists t last kept.counted kept.last is;
      measured = lowered.each ∙ length-append floors (top ∷ []) ∙ ap (λ n. n + 1) kept.measured
          ∙ sym (length-append terms (t ∷ []));
      floored = floors_with_term (record { terms = terms; notes = notes }) floors low t top kept.sound
          built kept.measured kept.floored lowered along;
      marked = length-append flags (flag ∷ []) ∙ ap (λ n. n + 1) kept.marked
          ∙ sym (length-append terms (t ∷ []));
      flagged = flags_with_term (record { terms = terms; notes = notes }) flags t flag kept.sound built
          kept.marked kept.flagged of;
      few = omega (arith, kept.few, length-append terms (t ∷ []));
      leveled = levels_with_term (record { terms = terms; notes = notes }) levels flags t flag
          kept.few kept.leveled;
    }

pub kept_note : (terms : List Term) (links lists : List (Option ℕ)) (floors : List ℕ)
    (flags : List Bool) (levels : List ℕ) (notes : List (ℕ × ℕ)) (var to : ℕ)
    (low raised : List ℕ) →
    KeepsAll terms links lists floors flags levels notes → IsNote terms notes (var, to) →
    MayBeOne (record { terms = terms; notes = notes }) var to →
    AreLowered floors low → IsLowAlong notes to (floor_of floors var) low →
    length raised ≤ length terms →
    AreLevels raised flags (record { terms = terms; notes = notes }) →
    IsFlagged flags to ⊎ (level_of raised var ≤ level_of raised to) →
    KeepsAll terms (set links var (Some to)) lists low flags raised (notes ++ (var, to) ∷ [])
kept_note terms links lists floors flags levels notes var to low raised kept note one lowered along
    few leveled enough = record {
      sound = keeps_note (record { terms = terms; notes = notes }) var to kept.sound note one;
      each = length-set links var (Some to) ∙ kept.each;
      linked = set_link links notes var to kept.linked (rw kept.each note.var) note.fresh;
      counted = kept.counted;
      last = kept.last;
      measured = lowered.each ∙ kept.measured;
      floored = floors_with_note (record { terms = terms; notes = notes }) floors low var to note.fresh
          kept.floored lowered along;
      marked = kept.marked;
      flagged = kept.flagged;
      few = few;
      leveled = levels_with_note (record { terms = terms; notes = notes }) raised flags var to
          note.fresh leveled enough;
    }

-- what lies past the terms has no link
pub no_link : (s : State) (id : ℕ) → Keeps s → length s.terms ≤ id → link_of s.notes id ≡ None
no_link s id keeps past = split (link_of s.notes id) refl where
  split : (o : Option ℕ) → link_of s.notes id ≡ o → link_of s.notes id ≡ None
  split None is = is
  split (Some to) is =
      let both = link_within s keeps id to is in
      let none : ⊥ = omega (arith, both.0, past) in absurd none

-- a store that is cut where it is sound
pub kept_prefix : (terms : List Term) (links lists : List (Option ℕ)) (floors : List ℕ)
    (flags : List Bool) (levels : List ℕ) (notes : List (ℕ × ℕ)) (n : ℕ) →
    Keeps (record { terms = take n terms; notes = notes }) → n ≤ length terms →
    length links ≡ length terms → ((id : ℕ) → get_or links id None ≡ link_of notes id) →
    length lists ≡ length terms → AreLastLists lists terms → length floors ≡ length terms →
    AreFloors floors (record { terms = terms; notes = notes }) → length flags ≡ length terms →
    AreFlags flags terms → length levels ≤ length terms →
    AreLevels levels flags (record { terms = terms; notes = notes }) →
    KeepsAll (take n terms) (take n links) (take n lists) (take n floors) (take n flags)
    (take n levels) notes
kept_prefix terms links lists floors flags levels notes n keeps within each linked counted last
    measured floored marked flagged few leveled =
    record {
      sound = keeps;
      each = length-take n links ∙ rw each refl ∙ sym (length-take n terms);
      linked = λ id. ⊎_elim
          (λ small. get_or-take n links id None small ∙ linked id)
          (λ big. get_or_past (take n links) id None (omega (arith, big, length-take n links))
          ∙ sym (no_link (record { terms = take n terms; notes = notes }) id keeps
          (omega (arith, big, length-take n terms))))
          (cases_lt id n);
      counted = length-take n lists ∙ rw counted refl ∙ sym (length-take n terms);
      last = fewer_lists terms lists n within last;
      measured = length-take n floors ∙ rw measured refl ∙ sym (length-take n terms);
      floored = floors_of_fewer_terms terms notes floors n floored;
      marked = length-take n flags ∙ rw marked refl ∙ sym (length-take n terms);
      flagged = flags_of_fewer_terms terms flags n keeps.built within flagged;
      few = omega (arith, few, within, length-take n levels, length-take n terms);
      leveled = levels_of_fewer_terms terms levels flags notes n keeps leveled;
    }
