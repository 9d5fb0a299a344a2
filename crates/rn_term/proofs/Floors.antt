-- The numbers beside ids, below which no list ends there.
use Rattle.std.proofs.Common.{◌≡◌, ◌⊎◌, inl, inr, ⊎_elim, ◌<◌, ◌≤◌, ℕ, List, [], ◌∷◌, ◌++◌, arith}
use Rattle.std.proofs.Common.{length, sym, ◌∙◌, ap, subst, get_or, take, drop, length-append}
use Rattle.std.specs.Prelude.{Some, None}
use Rattle.std.proofs.lemmas.Bool.{cases_lt}
use Rattle.std.proofs.lemmas.Bool.Decides.{eqb_tells}
use Rattle.std.proofs.lemmas.List.{get_or_append_left, get_or-take, get_or_past, length-take}
use Rattle.std.proofs.lemmas.List.{take-append-drop}
use Rattle.std.proofs.lemmas.Option.{same_Some}
use Rattle.std.proofs.Math.Seq.{get_or-append_seam}
use Rattle.rn_term.specs.declared.term.Term.{Term}
use Rattle.rn_term.specs.declared.term.Term.TheVariants as T
use Rattle.rn_term.specs.Stores.{State, term_at, link_of, Leads, IsBuiltBelow, with_term, with_note}
use Rattle.rn_term.specs.Assignments.{Keeps}
use Rattle.rn_term.specs.link.Kept.{AreFloors, AreLowered, IsLowAlong, floor_of}
use Rattle.rn_term.proofs.Following.{leads_within}
use Rattle.rn_term.proofs.LinkLemmas.{link-here, link-other}
use Rattle.rn_term.proofs.LinkRanks.{leads-more}

-- with fewer notes links lead to less
pub floors_of_fewer_notes : (terms : List Term) (notes : List (ℕ × ℕ)) (floors : List ℕ) (m : ℕ) →
    AreFloors floors (record { terms = terms; notes = notes }) →
    AreFloors floors (record { terms = terms; notes = take m notes })
floors_of_fewer_notes terms notes floors m are id list ids tail is leads =
    are id list ids tail is
    (subst (λ ns. Leads ns tail id) (take-append-drop m notes)
    (leads-more (take m notes) (drop m notes) tail id leads))

-- what stands among the first is what stands there
cut_floor : (floors : List ℕ) (n id : ℕ) → floor_of (take n floors) id ≤ floor_of floors id
cut_floor floors n id = ⊎_elim
    (λ small. omega (arith, get_or-take n floors id 0 small))
    (λ big. omega (
      arith,
      get_or_past (take n floors) id 0 (omega (arith, big, length-take n floors)),
    ))
    (cases_lt id n)

cut_term : (terms : List Term) (n list : ℕ) (ids : List ℕ) (tail : ℕ) →
    get_or (take n terms) list T.Free ≡ T.Cons ids tail → get_or terms list T.Free ≡ T.Cons ids tail
cut_term terms n list ids tail is = ⊎_elim
    (λ small. sym (get_or-take n terms list T.Free small) ∙ is)
    (λ big.
    let past : get_or (take n terms) list T.Free ≡ T.Free =
    get_or_past (take n terms) list T.Free (omega (arith, big, length-take n terms)) in
    let no : ⊥ = cc in absurd no)
    (cases_lt list n)

-- with fewer terms there are fewer lists
pub floors_of_fewer_terms : (terms : List Term) (notes : List (ℕ × ℕ)) (floors : List ℕ) (n : ℕ) →
    AreFloors floors (record { terms = terms; notes = notes }) →
    AreFloors (take n floors) (record { terms = take n terms; notes = notes })
floors_of_fewer_terms terms notes floors n are id list ids tail is leads =
    omega (
      arith,
      are id list ids tail (cut_term terms n list ids tail is) leads,
      cut_floor floors n id,
    )

-- what is built below a number has its tail below it
tail_below : (n : ℕ) (t : Term) (ids : List ℕ) (tail : ℕ) → IsBuiltBelow n t → t ≡ T.Cons ids tail →
    tail < n
tail_below n t ids tail built is = (subst (λ u. IsBuiltBelow n u) is built).2

-- one more term: no list ends in it, and where it is a list, it ends along the links of its tail
pub floors_with_term : (s : State) (floors low : List ℕ) (t : Term) (top : ℕ) → Keeps s →
    IsBuiltBelow (length s.terms) t → length floors ≡ length s.terms → AreFloors floors s →
    AreLowered (floors ++ top ∷ []) low →
    ((ids : List ℕ) (tail : ℕ) → t ≡ T.Cons ids tail →
    IsLowAlong s.notes tail (length s.terms) low) →
    AreFloors low (with_term s t)
floors_with_term s floors low t top keeps built each are lowered along id list ids tail is leads =
    ⊎_elim old new (cases_lt list (length s.terms))
  where
    old : list < length s.terms → floor_of low id ≤ list
    old small =
        let here : term_at s list ≡ T.Cons ids tail =
        sym (get_or_append_left s.terms (t ∷ []) T.Free list small) ∙ is in
        let less = tail_below list (term_at s list) ids tail (keeps.built list small) here in
        let within = leads_within s keeps tail id (omega (arith, less, small)) leads in
        omega (
          arith,
          lowered.lower id,
          get_or_append_left floors (top ∷ []) 0 id (omega (arith, within, each)),
          are id list ids tail here leads,
        )

    last : length s.terms ≤ list → list ≡ length s.terms
    last big = ⊎_elim
        (λ small.
        omega (arith, big, small, length-append s.terms (t ∷ [])))
        (λ past.
        let none : get_or (s.terms ++ t ∷ []) list T.Free ≡ T.Free =
        get_or_past (s.terms ++ t ∷ []) list T.Free past in
        let no : ⊥ = cc in absurd no)
        (cases_lt list (length (s.terms ++ t ∷ [])))

    new : length s.terms ≤ list → floor_of low id ≤ list
    new big =
        let at = last big in
        let here : t ≡ T.Cons ids tail =
        sym (get_or-append_seam s.terms t [] T.Free)
        ∙ ap (λ k. get_or (s.terms ++ t ∷ []) k T.Free) (sym at) ∙ is in
        omega (arith, along ids tail here id leads, at)

-- a first link, and where links lead from there
split_first : (notes : List (ℕ × ℕ)) (var to a after b : ℕ) → link_of notes var ≡ None →
    link_of (notes ++ (var, to) ∷ []) a ≡ Some after →
    Leads notes after b ⊎ (Leads notes after var × Leads notes to b) →
    Leads notes a b ⊎ (Leads notes a var × Leads notes to b)
split_first notes var to a after b fresh first rest = ⊎_elim
    (λ e.
    let same : to ≡ after = same_Some to after (sym (link-here notes var to a fresh e.1) ∙ first) in
    let start : Leads notes a var = subst (λ v. Leads notes a v) e.1 Leads.here in
    ⊎_elim
    (λ on. inr (start, subst (λ x. Leads notes x b) (sym same) on))
    (λ both. inr (start, both.1))
    rest)
    (λ e.
    let link : link_of notes a ≡ Some after = sym (link-other notes var to a e.1) ∙ first in
    ⊎_elim
    (λ on. inl (Leads.next link on))
    (λ both. inr (Leads.next link both.0, both.1))
    rest)
    (eqb_tells a var)

-- with one more note links lead where they led, or to its variable and on from what that was bound
-- to
leads_split : (notes : List (ℕ × ℕ)) (var to a b : ℕ) → link_of notes var ≡ None →
    Leads (notes ++ (var, to) ∷ []) a b →
    Leads notes a b ⊎ (Leads notes a var × Leads notes to b)
leads_split notes var to a _ fresh Leads.here = inl Leads.here
leads_split notes var to a b fresh (Leads.next {to = after} first more) =
    split_first notes var to a after b fresh first (leads_split notes var to after b fresh more)

-- one more note: the lists that ended in its variable end along the links of the other id
pub floors_with_note : (s : State) (floors low : List ℕ) (var to : ℕ) →
    link_of s.notes var ≡ None → AreFloors floors s → AreLowered floors low →
    IsLowAlong s.notes to (floor_of floors var) low → AreFloors low (with_note s var to)
floors_with_note s floors low var to fresh are lowered along id list ids tail is leads = ⊎_elim
    (λ l. omega (arith, are id list ids tail is l, lowered.lower id))
    (λ both. omega (arith, are var list ids tail is both.0, along id both.1))
    (leads_split s.notes var to tail id fresh leads)

-- How far the numbers along links were lowered: beside each id to which links lead, or links lead
-- to it from the last one.
pub record IsLowering (notes : List (ℕ × ℕ)) (from floor end : ℕ) (before floors : List ℕ) : Type 0
  where
    pub lowered : AreLowered before floors
    pub along : (id : ℕ) → Leads notes from id → (floor_of floors id ≤ floor) ⊎
        ((to : ℕ) × (link_of notes end ≡ Some to) × Leads notes to id)

pub lowering_starts : (notes : List (ℕ × ℕ)) (from floor : ℕ) (before floors : List ℕ) →
    AreLowered before floors → floor_of floors from ≤ floor →
    IsLowering notes from floor from before floors
lowering_starts notes from floor before floors lowered low = record {
  lowered = lowered;
  along = λ id leads. split id leads low;
}
  where
    split : (id : ℕ) → Leads notes from id → floor_of floors from ≤ floor →
        (floor_of floors id ≤ floor) ⊎
        ((to : ℕ) × (link_of notes from ≡ Some to) × Leads notes to id)
    split _ Leads.here here = inl here
    split id (Leads.next {to = to} first more) here = inr (to, first, more)

pub lowered_more : (notes : List (ℕ × ℕ)) (from floor end to : ℕ) (before floors after : List ℕ) →
    IsLowering notes from floor end before floors → link_of notes end ≡ Some to →
    AreLowered floors after → floor_of after to ≤ floor →
    IsLowering notes from floor to before after
lowered_more notes from floor end to before floors after so_far is lower low = record {
  lowered = record {
    each = lower.each ∙ so_far.lowered.each;
    lower = λ id. omega (arith, so_far.lowered.lower id, lower.lower id);
  };
  along = λ id leads. ⊎_elim
      (λ here. inl (omega (arith, here, lower.lower id)))
      (λ on.
      split id (subst (λ x. Leads notes x id) (same_Some on.0 to (sym on.1 ∙ is)) on.2) low)
      (so_far.along id leads);
}
  where
    split : (id : ℕ) → Leads notes to id → floor_of after to ≤ floor →
        (floor_of after id ≤ floor) ⊎
        ((next : ℕ) × (link_of notes to ≡ Some next) × Leads notes next id)
    split _ Leads.here here = inl here
    split id (Leads.next {to = next} first more) here = inr (next, first, more)
