-- What a store was at earlier marks, as it grows.
use Rattle.std.proofs.Common.{◌≡◌, ◌<◌, ℕ, [], ◌∷◌, refl, arith, length, take, sym, ◌∙◌, ap}
use Rattle.std.proofs.Common.{length-append, length-take}
use Rattle.std.proofs.lemmas.List.{take_all, take-append-le, get_or-take}
use Rattle.rn_term.specs.declared.term.Term.{Term}
use Rattle.rn_term.specs.declared.term.Term.TheVariants as T
use Rattle.rn_term.specs.Stores.{State, term_at, with_term, with_note}
use Rattle.rn_term.specs.Undoing.{Rolled, mark_of, IsNotLater, LeavesEarlier}
use Rattle.rn_unify.specs.Laws.{UndoGivesBack}

-- a store grew from another: what that was at its marks is left as it was
pub record IsGrown (old new : State) : Type 0 where
  pub earlier : LeavesEarlier old new
  pub not_later : IsNotLater (mark_of old) new

-- at its own mark a store is as it is
rolled_now : (s : State) → Rolled s (mark_of s) ≡ s
rolled_now s =
    ap (λ ts. record { terms = ts; notes = take (length s.notes) s.notes })
    (take_all (length s.terms) s.terms (omega arith))
    ∙ ap (λ ns. record { terms = s.terms; notes = ns })
    (take_all (length s.notes) s.notes (omega arith))

pub undo_gives_back : UndoGivesBack
undo_gives_back old new earlier =
    earlier (mark_of old) (omega arith, omega arith) ∙ rolled_now old

pub grown_not : (s : State) → IsGrown s s
grown_not s = record { earlier = λ m within. refl; not_later = (omega arith, omega arith) }

-- what leaves earlier marks as they were took nothing away
pub grown : (old new : State) → LeavesEarlier old new → IsGrown old new
grown old new earlier =
    let same : take (length old.terms) new.terms ≡ old.terms =
    ap (λ s. s.terms) (undo_gives_back old new earlier) in
    let noted : take (length old.notes) new.notes ≡ old.notes =
    ap (λ s. s.notes) (undo_gives_back old new earlier) in
    record {
      earlier = earlier;
      not_later = (
        omega (arith, ap length same, length-take (length old.terms) new.terms),
        omega (arith, ap length noted, length-take (length old.notes) new.notes),
      );
    }

-- a term is still what it was
pub term_stays : (old new : State) (id : ℕ) → IsGrown old new → id < length old.terms →
    term_at new id ≡ term_at old id
term_stays old new id grown within =
    sym (get_or-take (length old.terms) new.terms id T.Free within)
    ∙ ap (λ s. term_at s id) (undo_gives_back old new grown.earlier)

-- a store that grew twice grew
pub grown_through : (old s new : State) → IsGrown old s → IsGrown s new → IsGrown old new
grown_through old s new first last = record {
  earlier = λ m within.
      last.earlier m (
        omega (arith, within.0, first.not_later.0),
        omega (arith, within.1, first.not_later.1),
      )
      ∙ first.earlier m within;
  not_later = (
    omega (arith, first.not_later.0, last.not_later.0),
    omega (arith, first.not_later.1, last.not_later.1),
  );
}

pub grown_by_term : (s : State) (t : Term) → IsGrown s (with_term s t)
grown_by_term s t = record {
  earlier = λ m within.
      ap (λ ts. record { terms = ts; notes = take m.notes s.notes })
      (take-append-le m.size s.terms (t ∷ []) within.0);
  not_later = (omega (arith, length-append s.terms (t ∷ [])), omega arith);
}

pub grown_by_note : (s : State) (var to : ℕ) → IsGrown s (with_note s var to)
grown_by_note s var to = record {
  earlier = λ m within.
      ap (λ ns. record { terms = take m.size s.terms; notes = ns })
      (take-append-le m.notes s.notes ((var, to) ∷ []) within.1);
  not_later = (omega arith, omega (arith, length-append s.notes ((var, to) ∷ [])));
}
