-- Terms in which no variable stands.
use Rattle.std.proofs.Common.{◌≡◌, ⊎_elim, ◌<◌, ◌≤◌, ◌+◌, ℕ, List, [], ◌∷◌, ◌++◌, arith, length}
use Rattle.std.proofs.Common.{sym, ◌∙◌, ap, subst, get_or, take, true, false, length-append}
use Rattle.std.specs.Prelude.{Bool}
use Rattle.std.proofs.lemmas.Bool.{cases_lt}
use Rattle.std.proofs.lemmas.List.{get_or_append_left, get_or-take, get_or_past, length-take}
use Rattle.std.proofs.lemmas.List.Elements.{All-contains}
use Rattle.std.proofs.Math.Seq.{get_or-append_seam}
use Rattle.rn_term.specs.declared.term.Term.{Term}
use Rattle.rn_term.specs.declared.term.Term.TheVariants as T
use Rattle.rn_term.specs.Stores.{State, term_at, IsBuiltBelow}
use Rattle.rn_term.specs.Assignments.{Keeps}
use Rattle.rn_term.specs.Occurring.{Occurs, parts_of}
use Rattle.rn_term.specs.link.Kept.{AreFlags, IsBuiltOfFlagged, IsClosed, IsFlagged}
use Rattle.rn_term.proofs.AssignmentLemmas.{link_within}
use Rattle.rn_term.proofs.Parts.{parts_below}

-- no variable occurs in what is flagged
pub flagged_is_closed : (s : State) (flags : List Bool) (id : ℕ) → Keeps s → AreFlags flags s.terms →
    IsFlagged flags id → IsClosed s id
flagged_is_closed s flags id keeps are is part Occurs.here = (are id is).0
flagged_is_closed s flags id keeps are is part (Occurs.in_part {part = piece} there rest) =
    flagged_is_closed s flags piece keeps are
    ((are id is).1 piece there) part rest
flagged_is_closed s flags id keeps are is part (Occurs.in_bound {to = to} link rest) =
    absurd ((are id is).0 (link_within s keeps id to link).2)

pub flags_with_term : (s : State) (flags : List Bool) (t : Term) (flag : Bool) → Keeps s →
    IsBuiltBelow (length s.terms) t → length flags ≡ length s.terms → AreFlags flags s.terms →
    (flag ≡ true → IsBuiltOfFlagged flags t) →
    AreFlags (flags ++ flag ∷ []) (s.terms ++ t ∷ [])
flags_with_term s flags t flag keeps built each are new id is =
    ⊎_elim old (λ big. ⊎_elim (here big) past (cases_lt id (length s.terms + 1)))
    (cases_lt id (length s.terms))
  where
    still : (p : ℕ) → p < length s.terms → IsFlagged flags p → IsFlagged (flags ++ flag ∷ []) p
    still p small flagged =
        get_or_append_left flags (flag ∷ []) false p (omega (arith, small, each)) ∙ flagged

    built_still : (n : ℕ) (u : Term) → n ≤ length s.terms → IsBuiltBelow n u →
        IsBuiltOfFlagged flags u → IsBuiltOfFlagged (flags ++ flag ∷ []) u
    built_still n u most below of = (
      of.0,
      λ p there.
          let small : p < n = All-contains (λ k. k < n) (parts_of u) p (parts_below n u below) there in
          still p (omega (arith, small, most)) (of.1 p there),
    )

    old : id < length s.terms →
        IsBuiltOfFlagged (flags ++ flag ∷ []) (get_or (s.terms ++ t ∷ []) id T.Free)
    old small =
        let before : IsFlagged flags id =
        sym (get_or_append_left flags (flag ∷ []) false id (omega (arith, small, each))) ∙ is in
        subst (IsBuiltOfFlagged (flags ++ flag ∷ []))
        (sym (get_or_append_left s.terms (t ∷ []) T.Free id small))
        (built_still id (term_at s id) (omega (arith, small)) (keeps.built id small) (are id before))

    here : length s.terms ≤ id → id < length s.terms + 1 →
        IsBuiltOfFlagged (flags ++ flag ∷ []) (get_or (s.terms ++ t ∷ []) id T.Free)
    here big small =
        let at : id ≡ length s.terms = omega (arith, big, small) in
        let on : flag ≡ true =
        sym (get_or-append_seam flags flag [] false)
        ∙ ap (λ k. get_or (flags ++ flag ∷ []) k false) (each ∙ sym at) ∙ is in
        subst (IsBuiltOfFlagged (flags ++ flag ∷ []))
        (sym (ap (λ k. get_or (s.terms ++ t ∷ []) k T.Free) at
        ∙ get_or-append_seam s.terms t [] T.Free))
        (built_still (length s.terms) t (omega arith) built (new on))

    past : length s.terms + 1 ≤ id →
        IsBuiltOfFlagged (flags ++ flag ∷ []) (get_or (s.terms ++ t ∷ []) id T.Free)
    past big =
        let none : get_or (flags ++ flag ∷ []) id false ≡ false =
        get_or_past (flags ++ flag ∷ []) id false
        (omega (arith, big, each, length-append flags (flag ∷ []))) in
        let no : ⊥ = cc in absurd no

pub flags_of_fewer_terms : (terms : List Term) (flags : List Bool) (n : ℕ) →
    ((id : ℕ) → id < length (take n terms) → IsBuiltBelow id (get_or (take n terms) id T.Free)) →
    n ≤ length terms → AreFlags flags terms → AreFlags (take n flags) (take n terms)
flags_of_fewer_terms terms flags n built room are id is = ⊎_elim
    (λ small.
    let of : IsBuiltOfFlagged flags (get_or (take n terms) id T.Free) =
    subst (IsBuiltOfFlagged flags) (sym (get_or-take n terms id T.Free small))
    (are id (sym (get_or-take n flags id false small) ∙ is)) in (
      of.0,
      λ p there.
          let less : p < id = All-contains (λ k. k < id) (parts_of (get_or (take n terms) id T.Free)) p
          (parts_below id (get_or (take n terms) id T.Free)
          (built id (omega (arith, small, room, length-take n terms)))) there in
          get_or-take n flags p false (omega (arith, less, small)) ∙ of.1 p there,
    ))
    (λ big.
    let none : get_or (take n flags) id false ≡ false =
    get_or_past (take n flags) id false (omega (arith, big, length-take n flags)) in
    let no : ⊥ = cc in absurd no)
    (cases_lt id n)
