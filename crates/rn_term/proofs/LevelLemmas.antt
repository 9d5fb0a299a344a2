-- Levels beside ids, which go no lower from a term to what occurs in it.
use Rattle.std.proofs.Common.{◌≡◌, ◌⊎◌, inl, inr, ⊎_elim, ◌<◌, ◌≤◌, ◌+◌, ℕ, List, [], ◌∷◌}
use Rattle.std.proofs.Common.{◌++◌, arith, length, sym, ◌∙◌, ap, subst, get_or, set, take, drop}
use Rattle.std.proofs.Common.{refl}
use Rattle.std.specs.Prelude.{Bool, false, Option, Some, None, option_to_list}
use Rattle.std.specs.List.{Contains}
use Rattle.std.proofs.lemmas.Bool.{cases_lt}
use Rattle.std.proofs.lemmas.Bool.Decides.{eqb_tells}
use Rattle.std.proofs.lemmas.List.{get_or_append_left, get_or-take, get_or_past, length-take}
use Rattle.std.proofs.lemmas.List.{get_or-set_same, get_or-set_other, length-set}
use Rattle.std.proofs.lemmas.List.{take-append-drop}
use Rattle.std.proofs.lemmas.List.Elements.{Contains-append_left, Contains-append_right}
use Rattle.std.proofs.lemmas.List.Elements.{Contains-append_cases, Contains-push}
use Rattle.std.proofs.lemmas.List.Elements.{Contains-push_cases}
use Rattle.std.proofs.lemmas.Option.{same_Some}
use Rattle.rn_term.specs.declared.term.Term.{Term}
use Rattle.rn_term.specs.declared.term.Term.TheVariants as T
use Rattle.rn_term.specs.Stores.{State, term_at, link_of, with_term, with_note}
use Rattle.rn_term.specs.Assignments.{Keeps}
use Rattle.rn_term.specs.Occurring.{Occurs, parts_of}
use Rattle.rn_term.specs.link.Kept.{AreFlags, AreLevels, IsFlagged, IsUnder, level_of}
use Rattle.rn_term.proofs.AssignmentLemmas.{link_within}
use Rattle.rn_term.proofs.Bulks.{bulk, bulk-is, total_of, total_of-append}
use Rattle.rn_term.proofs.Closed.{flagged_is_closed}
use Rattle.rn_term.proofs.LinkLemmas.{link-here, link-other, link-stays}
use Rattle.rn_term.proofs.Occurrences.{part_within}
use Rattle.rn_term.proofs.Parts.{whole_within}

-- a variable has no lower level than a term in which it occurs
pub level_of_occurring : (s : State) (levels : List ℕ) (flags : List Bool) → Keeps s →
    AreFlags flags s.terms → AreLevels levels flags s → (var id : ℕ) → term_at s var ≡ T.Free →
    Occurs s var id → level_of levels id ≤ level_of levels var
level_of_occurring s levels flags keeps flagged are var _ free Occurs.here = omega arith
level_of_occurring s levels flags keeps flagged are var id free
    (Occurs.in_part {part = part} there rest) =
    ⊎_elim
    (λ closed. absurd (flagged_is_closed s flags part keeps flagged closed var rest free))
    (λ low. omega (
      arith,
      low,
      level_of_occurring s levels flags keeps flagged are var part free rest,
    ))
    (are id part (inl there))
level_of_occurring s levels flags keeps flagged are var id free
    (Occurs.in_bound {to = to} link rest) =
    ⊎_elim
    (λ closed. absurd (flagged_is_closed s flags to keeps flagged closed var rest free))
    (λ low. omega (
      arith,
      low,
      level_of_occurring s levels flags keeps flagged are var to free rest,
    ))
    (are id to (inr link))

-- with fewer notes there is less under an id
pub levels_of_fewer_notes : (terms : List Term) (notes : List (ℕ × ℕ)) (levels : List ℕ)
    (flags : List Bool) (m : ℕ) →
    AreLevels levels flags (record { terms = terms; notes = notes }) →
    AreLevels levels flags (record { terms = terms; notes = take m notes })
levels_of_fewer_notes terms notes levels flags m are id under = ⊎_elim
    (λ part. are id under (inl part))
    (λ link. are id under (inr
    (subst (λ ns. link_of ns id ≡ Some under) (take-append-drop m notes)
    (link-stays (take m notes) (drop m notes) id under link))))

-- with fewer terms there is less under an id too
pub levels_of_fewer_terms : (terms : List Term) (levels : List ℕ) (flags : List Bool)
    (notes : List (ℕ × ℕ)) (n : ℕ) → Keeps (record { terms = take n terms; notes = notes }) →
    AreLevels levels flags (record { terms = terms; notes = notes }) →
    AreLevels (take n levels) (take n flags) (record { terms = take n terms; notes = notes })
levels_of_fewer_terms terms levels flags notes n keeps are id under is =
    ⊎_elim
    (λ part.
    both (whole_within cut id under part) (part_within cut keeps id under part)
    (inl (subst (λ t. Contains (parts_of t) under)
    (get_or-take n terms id T.Free (below (whole_within cut id under part))) part)))
    (λ link.
    both (id_within link) (link_within cut keeps id under link).1 (inr link))
    is
  where
    cut : State
    cut = record { terms = take n terms; notes = notes }

    below : {k : ℕ} → k < length (take n terms) → k < n
    below small = omega (arith, small, length-take n terms)

    id_within : link_of notes id ≡ Some under → id < length (take n terms)
    id_within link = (link_within cut keeps id under link).0

    both : id < length (take n terms) → under < length (take n terms) →
        IsUnder (record { terms = terms; notes = notes }) id under →
        IsFlagged (take n flags) under
        ⊎ (level_of (take n levels) id ≤ level_of (take n levels) under)
    both id_small small there =
        let small_id : id < n = below id_small in
        let small_under : under < n = below small in
        ⊎_elim
        (λ flagged. inl (get_or-take n flags under false small_under ∙ flagged))
        (λ low. inr (omega (
          arith,
          low,
          get_or-take n levels id 0 small_id,
          get_or-take n levels under 0 small_under,
        )))
        (are id under there)

-- a flag beside an id stays as flags are added
flag_stays : (flags more : List Bool) (id : ℕ) → IsFlagged flags id → IsFlagged (flags ++ more) id
flag_stays flags more id is = ⊎_elim
    (λ small. get_or_append_left flags more false id small ∙ is)
    (λ past. let none : get_or flags id false ≡ false = get_or_past flags id false past in
    let no : ⊥ = cc in absurd no)
    (cases_lt id (length flags))

-- one more term has the lowest level
pub levels_with_term : (s : State) (levels : List ℕ) (flags : List Bool) (t : Term) (flag : Bool) →
    length levels ≤ length s.terms → AreLevels levels flags s →
    AreLevels levels (flags ++ flag ∷ []) (with_term s t)
levels_with_term s levels flags t flag few are id under is = ⊎_elim
    (λ small.
    ⊎_elim (λ flagged. inl (flag_stays flags (flag ∷ []) under flagged)) (λ low. inr low)
    (are id under (⊎_elim
    (λ part. inl (subst (λ u. Contains (parts_of u) under)
    (get_or_append_left s.terms (t ∷ []) T.Free id small) part))
    (λ link. inr link) is)))
    (λ big. inr (omega (arith, get_or_past levels id 0 (omega (arith, few, big)))))
    (cases_lt id (length s.terms))

-- a variable is bound to what is as high
pub levels_with_note : (s : State) (levels : List ℕ) (flags : List Bool) (var to : ℕ) →
    link_of s.notes var ≡ None → AreLevels levels flags s →
    IsFlagged flags to ⊎ (level_of levels var ≤ level_of levels to) →
    AreLevels levels flags (with_note s var to)
levels_with_note s levels flags var to fresh are enough id under = ⊎_elim
    (λ part. are id under (inl part))
    (λ link. ⊎_elim
    (λ e.
    let same : to ≡ under =
    same_Some to under (sym (link-here s.notes var to id fresh e.1) ∙ link) in
    subst (λ x. IsFlagged flags x ⊎ (level_of levels id ≤ level_of levels x)) same
    (subst (λ x. IsFlagged flags to ⊎ (level_of levels x ≤ level_of levels to)) (sym e.1) enough))
    (λ e. are id under (inr (sym (link-other s.notes var to id e.1) ∙ link)))
    (eqb_tells id var))

-- How far levels were raised: what is under an id is as high, or is left to be raised.
pub record IsRaising
    (s : State) (flags : List Bool) (var to level : ℕ) (levels rest : List ℕ) : Type 0 where
  pub each : length levels ≡ length s.terms
  pub within : (k : ℕ) → Contains rest k → k < length s.terms
  pub low : level_of levels var ≤ level
  pub left : (id under : ℕ) → IsUnder s id under →
      IsFlagged flags under ⊎ ((level_of levels id ≤ level_of levels under)
      ⊎ (Contains rest under × (level_of levels id ≤ level)))
  pub start : IsFlagged flags to ⊎ ((level ≤ level_of levels to) ⊎ Contains rest to)

none_in : {B : Type 0} (x : ℕ) → Contains {X = ℕ} [] x → B
none_in x is = absurd (let no : ⊥ = omega (arith, is.1) in no)

-- nothing was raised
pub raising_starts : (s : State) (flags : List Bool) (var to level : ℕ)
    (before levels rest : List ℕ) → length levels ≡ length s.terms → to < length s.terms →
    ((id : ℕ) → level_of levels id ≡ level_of before id) → level_of before var ≤ level →
    AreLevels before flags s → rest ≡ [] ++ to ∷ [] → IsRaising s flags var to level levels rest
raising_starts s flags var to level before levels rest each within same low are is =
    subst (IsRaising s flags var to level levels) (sym is) (record {
      each = each;
      within = λ k there. ⊎_elim
          (λ none. none_in k none)
          (λ here. subst (λ x. x < length s.terms) here within)
          (Contains-push_cases [] to k there);
      low = omega (arith, same var, low);
      left = λ id under there. ⊎_elim
          (λ flagged. inl flagged)
          (λ less. inr (inl (omega (arith, same id, same under, less))))
          (are id under there);
      start = inr (inr (Contains-push [] to));
    })

module _ (s : State) (flags : List Bool) (var to level : ℕ) (levels before rest : List ℕ)
    (next : ℕ) (keeps : Keeps s) (so_far : IsRaising s flags var to level levels before)
    (popped : before ≡ rest ++ next ∷ []) where
  -- the next id is one of the store
  pub next_within : next < length s.terms
  next_within =
      so_far.within next (subst (λ xs. Contains xs next) (sym popped) (Contains-push rest next))

  rest_left : (x : ℕ) → Contains rest x → Contains before x
  rest_left x there =
      subst (λ xs. Contains xs x) (sym popped) (Contains-append_left rest (next ∷ []) x there)

  left_or_next : (x : ℕ) → Contains before x → Contains rest x ⊎ (next ≡ x)
  left_or_next x there =
      Contains-push_cases rest next x (subst (λ xs. Contains xs x) popped there)

  steps_before : total_of (bulk s) before ≡ total_of (bulk s) rest + bulk s next
  steps_before =
      let all = ap (total_of (bulk s)) popped in
      omega (arith, all, total_of-append (bulk s) rest (next ∷ []))

  -- the next one is high enough
  pub passed : IsFlagged flags next ⊎ (level ≤ level_of levels next) →
      IsRaising s flags var to level levels rest
  passed high = record {
    each = so_far.each;
    within = λ k there. so_far.within k (rest_left k there);
    low = so_far.low;
    left = λ id under there. ⊎_elim
        (λ flagged. inl flagged)
        (λ more. ⊎_elim
        (λ less. inr (inl less))
        (λ later. ⊎_elim
        (λ in_rest. inr (inr (in_rest, later.1)))
        (λ is. subst
        (λ x. IsFlagged flags x ⊎ ((level_of levels id ≤ level_of levels x)
        ⊎ (Contains rest x × (level_of levels id ≤ level)))) is
        (⊎_elim (λ flagged. inl flagged) (λ less. inr (inl (omega (arith, less, later.1)))) high))
        (left_or_next under later.0))
        more)
        (so_far.left id under there);
    start = ⊎_elim
        (λ flagged. inl flagged)
        (λ more. ⊎_elim
        (λ less. inr (inl less))
        (λ later. ⊎_elim
        (λ in_rest. inr (inr in_rest))
        (λ is. subst
        (λ x. IsFlagged flags x ⊎ ((level ≤ level_of levels x) ⊎ Contains rest x)) is
        (⊎_elim (λ flagged. inl flagged) (λ less. inr (inl less)) high))
        (left_or_next to later))
        more)
        so_far.start;
  }

  pub passed_smaller : total_of (bulk s) rest < total_of (bulk s) before
  passed_smaller = omega (arith, steps_before, bulk-is s keeps next next_within)

  -- the levels after the next one was raised
  abbrev pub now : List ℕ
  now = set levels next level

  here : level_of now next ≡ level
  here = get_or-set_same levels next level 0 (rw so_far.each next_within)

  elsewhere : (x : ℕ) → (x ≡ next → ⊥) → level_of now x ≡ level_of levels x
  elsewhere x apart = get_or-set_other levels next x level 0 apart

  risen : level_of levels next < level → (x : ℕ) → level_of levels x ≤ level_of now x
  risen small x = ⊎_elim
      (λ e. subst (λ y. level_of levels y ≤ level_of now y) (sym e.1) (omega (arith, here, small)))
      (λ e. omega (arith, elsewhere x e.1))
      (eqb_tells x next)

  -- no level but that of the next one changed
  kept_low : (x : ℕ) → level_of levels x ≤ level → level_of now x ≤ level
  kept_low x low = ⊎_elim
      (λ e. subst (λ y. level_of now y ≤ level) (sym e.1) (omega (arith, here)))
      (λ e. omega (arith, elsewhere x e.1, low))
      (eqb_tells x next)

  -- it is raised, and what is under it is left
  pub raised : (more : List ℕ) → level_of levels next < level →
      more ≡ rest ++ parts_of (term_at s next) ++ option_to_list (link_of s.notes next) →
      IsRaising s flags var to level now more
  raised more small is = subst (IsRaising s flags var to level now) (sym is) (record {
    each = length_same;
    within = λ k there. ⊎_elim
        (λ first. ⊎_elim
        (λ in_rest. so_far.within k (rest_left k in_rest))
        (λ part. part_within s keeps next k part)
        (Contains-append_cases rest parts k first))
        (λ link. (link_within s keeps next k (linked (link_of s.notes next) k refl link)).1)
        (Contains-append_cases (rest ++ parts) links k there);
    low = kept_low var so_far.low;
    left = λ id under there. ⊎_elim
        (λ e. inr (inr (
          subst (Contains (rest ++ parts ++ links)) refl
              (under_next under (subst (λ x. IsUnder s x under) e.1 there)),
          subst (λ x. level_of now x ≤ level) (sym e.1) (omega (arith, here)),
        )))
        (λ e. other id under e.1 (so_far.left id under there))
        (eqb_tells id next);
    start = ⊎_elim
        (λ flagged. inl flagged)
        (λ later. inr (⊎_elim
        (λ less. inl (omega (arith, less, risen small to)))
        (λ on. ⊎_elim
        (λ in_rest. inr (longer to in_rest))
        (λ e. inl (subst (λ x. level ≤ level_of now x) e (omega (arith, here))))
        (left_or_next to on))
        later))
        so_far.start;
  })
    where
      parts : List ℕ
      parts = parts_of (term_at s next)

      links : List ℕ
      links = option_to_list (link_of s.notes next)

      length_same : length now ≡ length s.terms
      length_same = length-set levels next level ∙ so_far.each

      linked : (link : Option ℕ) (k : ℕ) → link_of s.notes next ≡ link →
          Contains (option_to_list link) k → link_of s.notes next ≡ Some k
      linked None k at there = none_in k there
      linked (Some to) k at there = ⊎_elim
          (λ none. none_in k none)
          (λ same. at ∙ ap Some same)
          (Contains-push_cases [] to k there)

      longer : (x : ℕ) → Contains rest x → Contains (rest ++ parts ++ links) x
      longer x there =
          Contains-append_left (rest ++ parts) links x (Contains-append_left rest parts x there)

      under_next : (under : ℕ) → IsUnder s next under → Contains (rest ++ parts ++ links) under
      under_next under = ⊎_elim
          (λ part. Contains-append_left (rest ++ parts) links under
          (Contains-append_right rest parts under part))
          (λ link. Contains-append_right (rest ++ parts) links under
          (subst (λ o. Contains (option_to_list o) under) (sym link) (Contains-push [] under)))

      other : (id under : ℕ) → (id ≡ next → ⊥) →
          IsFlagged flags under ⊎ ((level_of levels id ≤ level_of levels under)
          ⊎ (Contains before under × (level_of levels id ≤ level))) →
          IsFlagged flags under ⊎ ((level_of now id ≤ level_of now under)
          ⊎ (Contains (rest ++ parts ++ links) under × (level_of now id ≤ level)))
      other id under apart = ⊎_elim
          (λ flagged. inl flagged)
          (λ more. inr (⊎_elim
          (λ less. inl (omega (arith, less, elsewhere id apart, risen small under)))
          (λ later. ⊎_elim
          (λ in_rest. inr (longer under in_rest, omega (arith, elsewhere id apart, later.1)))
          (λ e. inl (subst (λ x. level_of now id ≤ level_of now x) e
          (omega (arith, elsewhere id apart, later.1, here))))
          (left_or_next under later.0))
          more))

  pub raised_smaller : (more : List ℕ) →
      more ≡ rest ++ parts_of (term_at s next) ++ option_to_list (link_of s.notes next) →
      total_of (bulk s) more < total_of (bulk s) before
  raised_smaller more is =
      let all = ap (total_of (bulk s)) is in
      let parts = parts_of (term_at s next) in
      omega (
        arith,
        steps_before,
        all,
        total_of-append (bulk s) (rest ++ parts) (option_to_list (link_of s.notes next)),
        total_of-append (bulk s) rest parts,
        bulk-is s keeps next next_within,
      )

-- nothing is left: what is under an id is as high
pub raised_all : (s : State) (flags : List Bool) (var to level : ℕ) (levels rest : List ℕ) →
    IsRaising s flags var to level levels rest → rest ≡ [] → AreLevels levels flags s
raised_all s flags var to level levels rest so_far empty id under there = ⊎_elim
    (λ flagged. inl flagged)
    (λ more. inr (⊎_elim
    (λ less. less)
    (λ later. none_in under (subst (λ xs. Contains xs under) empty later.0))
    more))
    (so_far.left id under there)

pub raised_enough : (s : State) (flags : List Bool) (var to level : ℕ) (levels rest : List ℕ) →
    IsRaising s flags var to level levels rest → rest ≡ [] →
    IsFlagged flags to ⊎ (level_of levels var ≤ level_of levels to)
raised_enough s flags var to level levels rest so_far empty = ⊎_elim
    (λ flagged. inl flagged)
    (λ more. inr (⊎_elim
    (λ less. omega (arith, less, so_far.low))
    (λ later. none_in to (subst (λ xs. Contains xs to) empty later))
    more))
    so_far.start
