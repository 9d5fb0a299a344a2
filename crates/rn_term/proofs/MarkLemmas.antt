-- What marks lead back to, as a store changes.
use Rattle.std.proofs.Common.{◌≡◌, ⊎_elim, ℕ, List, [], ◌∷◌, refl, arith, ◌∙◌, ap}
use Rattle.std.proofs.Common.{subst, length, take}
use Rattle.std.proofs.lemmas.List.{length-take, take-take}
use Rattle.std.proofs.Math.Seq.{take-length}
use Rattle.rn_term.specs.declared.term.Mark.{Mark}
use Rattle.rn_term.specs.declared.term.Term.{Term}
use Rattle.rn_term.specs.Stores.{State}
use Rattle.rn_term.specs.Undoing.{Rolled, mark_of, IsNotLater, Changes, IsSince}
use Rattle.rn_term.specs.Undoing.{last_of, MarksLeadBack, MarksStay}

state_is : (terms others : List Term) (notes more : List (ℕ × ℕ)) → terms ≡ others →
    notes ≡ more →
    record { terms = terms; notes = notes } ≡
    (let s : State = record { terms = others; notes = more } in s)
state_is terms others notes more same_terms same_notes =
    ap (λ ts. (let s : State = record { terms = ts; notes = notes } in s)) same_terms
    ∙ ap (λ ns. (let s : State = record { terms = others; notes = ns } in s)) same_notes

-- an earlier mark leads back to the same from what a later one leads back to
rolled_twice : (m to : Mark) (s : State) → IsNotLater m (Rolled s to) →
    Rolled (Rolled s to) m ≡ Rolled s m
rolled_twice m to s early =
    state_is _ _ _ _
    (take-take m.size to.size s.terms (omega (arith, early.0, length-take to.size s.terms)))
    (take-take m.notes to.notes s.notes (omega (arith, early.1, length-take to.notes s.notes)))

one_change : (m : Mark) (s next : State) → IsNotLater m s → IsNotLater m next → Changes s next →
    Rolled next m ≡ Rolled s m
one_change m s next early enough change = ⊎_elim
    (λ leaves. leaves m early)
    (λ undone.
    ap (λ (t : State). Rolled t m) undone.2
    ∙ rolled_twice m undone.0 s (subst (λ (t : State). IsNotLater m t) undone.2 enough))
    change

leads_back : (m : Mark) (s : State) (later : List State) → IsNotLater m s → IsSince m s later →
    Rolled (last_of s later) m ≡ Rolled s m
leads_back m s [] early since = refl
leads_back m s (next ∷ later) early since =
    leads_back m next later since.1 since.2 ∙ one_change m s next early since.1 since.0

pub marks_lead_back : MarksLeadBack
marks_lead_back s later since =
    leads_back (mark_of s) s later (omega arith, omega arith) since
    ∙ state_is _ _ _ _ (take-length s.terms) (take-length s.notes)

-- a mark that isn't later stays so where a store is left what it was there
pub marks_stay : MarksStay
marks_stay before after m leaves not_later =
    let same : Rolled after (mark_of before) ≡ Rolled before (mark_of before) =
    leaves (mark_of before) (omega arith, omega arith) in
    let terms : take (length before.terms) after.terms ≡ take (length before.terms) before.terms =
    ap (λ s. s.terms) same in
    let notes : take (length before.notes) after.notes ≡ take (length before.notes) before.notes =
    ap (λ s. s.notes) same in (
      omega (
        arith,
        not_later.0,
        ap length terms,
        length-take (length before.terms) after.terms,
        length-take (length before.terms) before.terms,
      ),
      omega (
        arith,
        not_later.1,
        ap length notes,
        length-take (length before.notes) after.notes,
        length-take (length before.notes) before.notes,
      ),
    )
