-- Assignments with one more value at the end, and assignments that satisfy one more note.
use Rattle.std.proofs.Common.{◌≡◌, ⊎_elim, ◌<◌, ◌≤◌, ◌+◌, ℕ, List, [], ◌∷◌, ◌++◌, refl}
use Rattle.std.proofs.Common.{arith}
use Rattle.std.proofs.Common.{length, map, sym, ◌∙◌, ap, subst, get_or}
use Rattle.std.proofs.Common.{length-append}
use Rattle.std.specs.Prelude.{Option, Some, None, nat_eq, if◌then◌else◌, All, ◌↔◌}
use Rattle.std.proofs.lemmas.Bool.Decides.{eqb_tells}
use Rattle.std.proofs.lemmas.List.{get_or_append_left}
use Rattle.std.proofs.Math.Seq.{get_or-append_seam}
use Rattle.std.proofs.lemmas.List.Elements.{recursion_from_All}
use Rattle.std.specs.List.{AllByRecursion}
use Rattle.std.proofs.lemmas.Option.{same_Some}
use Rattle.rn_value.specs.declared.value.Value.{Value}
use Rattle.rn_value.specs.declared.value.Value.TheVariants as Value
use Rattle.rn_term.specs.declared.term.Term.{Term}
use Rattle.rn_term.specs.declared.term.Term.TheVariants as T
use Rattle.rn_term.specs.Stores.{State, term_at, link_of, IsBuiltBelow, with_term, with_note}
use Rattle.rn_term.specs.Assignments.{value_at, HasValue, Satisfies, HasListTail, Keeps}
use Rattle.rn_term.proofs.ListEnds.{at_end}
use Rattle.rn_term.proofs.LinkLemmas.{none_or_some, link-stays, link-new, link-here}
use Rattle.rn_term.proofs.LinkLemmas.{noted_link}

-- a value stays as others come after it
pub value_stays : (vs ws : List Value) (id : ℕ) → id < length vs →
    value_at (vs ++ ws) id ≡ value_at vs id
value_stays vs ws id within = get_or_append_left vs ws (Value.Tuple []) id within

same_parts : (f g : ℕ → Value) (n : ℕ) → ((id : ℕ) → id < n → f id ≡ g id) →
    (ids : List ℕ) → AllByRecursion (λ id. id < n) ids → map f ids ≡ map g ids
same_parts f g n alike [] below = refl
same_parts f g n alike (id ∷ ids) below =
    ap (λ v. v ∷ map f ids) (alike id below.0)
    ∙ ap (λ vs. g id ∷ vs) (same_parts f g n alike ids below.1)

-- and so do the values of parts
pub parts_stay : (vs ws : List Value) (n : ℕ) (ids : List ℕ) → n ≤ length vs →
    All (λ id. id < n) ids → map (value_at vs) ids ≡ map (value_at (vs ++ ws)) ids
parts_stay vs ws n ids room below =
    same_parts (value_at vs) (value_at (vs ++ ws)) n
    (λ id small. sym (value_stays vs ws id (omega (arith, small, room))))
    ids (recursion_from_All (λ id. id < n) ids below)

-- a term keeps its value as values of later ids come
pub has_stays : (vs ws : List Value) (n : ℕ) (t : Term) (v : Value) → n ≤ length vs →
    IsBuiltBelow n t → HasValue vs t v → HasValue (vs ++ ws) t v
has_stays vs ws n T.Free v room below has = tt
has_stays vs ws n (T.Atom w) v room below has = has
has_stays vs ws n (T.Tuple ids) v room below has =
    has ∙ ap (λ xs. Value.Tuple xs) (parts_stay vs ws n ids room below)
has_stays vs ws n (T.List ids) v room below has =
    has ∙ ap (λ xs. Value.List xs) (parts_stay vs ws n ids room below)
has_stays vs ws n (T.Cons ids tail) v room below has = (
  has.0,
  value_stays vs ws tail (omega (arith, below.2, room)) ∙ has.1,
  has.2 ∙ ap (λ xs. Value.List (xs ++ has.0)) (parts_stay vs ws n ids room below.0),
)

-- the ids of a link, and what stands there
pub link_within : (s : State) → Keeps s → (id to : ℕ) → link_of s.notes id ≡ Some to →
    (id < length s.terms) × (to < length s.terms) × (term_at s id ≡ T.Free)
link_within s keeps id to is =
    let found = noted_link s.notes id to is in
    let note = keeps.noted found.0 found.1 in (
      subst (λ n. n.0 < length s.terms) found.2 note.var,
      subst (λ n. n.1 < length s.terms) found.2 note.to,
      subst (λ n. get_or s.terms n.0 T.Free ≡ T.Free) found.2 note.free,
    )

-- an assignment goes on with a value of one more term
pub satisfies_term : (s : State) (t : Term) (vs : List Value) (v : Value) → Keeps s →
    IsBuiltBelow (length s.terms) t → Satisfies s vs → HasValue vs t v →
    Satisfies (with_term s t) (vs ++ v ∷ [])
satisfies_term s t vs v keeps built sat has = record {
  each = length-append vs (v ∷ []) ∙ ap (λ n. n + 1) sat.each
      ∙ sym (length-append s.terms (t ∷ []));
  terms = at_end T.Free (λ id u. HasValue (vs ++ v ∷ []) u (value_at (vs ++ v ∷ []) id)) s.terms t
      (λ id small. subst (λ x. HasValue (vs ++ v ∷ []) (term_at s id) x)
      (sym (value_stays vs (v ∷ []) id (rw sat.each small)))
      (has_stays vs (v ∷ []) id (term_at s id) (value_at vs id) (rw sat.each (omega (arith, small)))
      (keeps.built id small) (sat.terms id small)))
      (subst (λ x. HasValue (vs ++ v ∷ []) t x) (sym here)
      (has_stays vs (v ∷ []) (length s.terms) t v (rw sat.each (omega arith)) built has));
  links = λ id to is.
      let both = link_within s keeps id to is in
      value_stays vs (v ∷ []) id (rw sat.each both.0) ∙ sat.links id to is
      ∙ sym (value_stays vs (v ∷ []) to (rw sat.each both.1));
}
  where
    here : value_at (vs ++ v ∷ []) (length s.terms) ≡ v
    here = subst (λ n. value_at (vs ++ v ∷ []) n ≡ v) sat.each
        (get_or-append_seam vs v [] (Value.Tuple []))

-- an assignment and a value that a new term may have
pub new_value : (s : State) (t : Term) → Keeps s → HasListTail s t →
    (vs : List Value) × (v : Value) × Satisfies s vs × HasValue vs t v
new_value s T.Free keeps tail = (keeps.satisfied.0, Value.Tuple [], keeps.satisfied.1, tt)
new_value s (T.Atom w) keeps tail = (keeps.satisfied.0, w, keeps.satisfied.1, refl)
new_value s (T.Tuple ids) keeps tail =
    (keeps.satisfied.0, Value.Tuple (map (value_at keeps.satisfied.0) ids), keeps.satisfied.1, refl)
new_value s (T.List ids) keeps tail =
    (keeps.satisfied.0, Value.List (map (value_at keeps.satisfied.0) ids), keeps.satisfied.1, refl)
new_value s (T.Cons ids end) keeps tail =
    (tail.0, Value.List (map (value_at tail.0) ids ++ tail.1), tail.2, (tail.1, tail.3, refl))

-- an assignment satisfies one more note where it gives both of its ids one value
pub satisfies_note : (s : State) (var to : ℕ) (vs : List Value) →
    Satisfies s vs → value_at vs var ≡ value_at vs to → link_of s.notes var ≡ None →
    Satisfies (with_note s var to) vs
satisfies_note s var to vs sat alike none = record {
  each = sat.each;
  terms = sat.terms;
  links = λ id x is. split id x is (link_of s.notes id) refl;
}
  where
    last : (id x : ℕ) → (if nat_eq var id then Some to else None) ≡ Some x →
        value_at vs id ≡ value_at vs x
    last id x is = ⊎_elim
        (λ e. sym (ap (value_at vs) e.1) ∙ alike
        ∙ ap (value_at vs) (same_Some to x (sym (ap (λ b. if b then Some to else None) e.0) ∙ is)))
        (λ e. none_or_some x (sym (ap (λ b. if b then Some to else None) e.0) ∙ is))
        (eqb_tells var id)

    split : (id x : ℕ) → link_of (s.notes ++ (var, to) ∷ []) id ≡ Some x →
        (o : Option ℕ) → link_of s.notes id ≡ o → value_at vs id ≡ value_at vs x
    split id x is (Some y) was =
        sat.links id x (was ∙ sym (link-stays s.notes ((var, to) ∷ []) id y was) ∙ is)
    split id x is None was = last id x (sym (link-new s.notes var to id was) ∙ is)

-- what satisfies a store with one more note satisfies it before, and gives both ids one value
pub satisfied_before : (s : State) (var to : ℕ) (vs : List Value) → link_of s.notes var ≡ None →
    Satisfies (with_note s var to) vs →
    Satisfies s vs × (value_at vs var ≡ value_at vs to)
satisfied_before s var to vs none sat = (
  record {
    each = sat.each;
    terms = sat.terms;
    links = λ id x is. sat.links id x (link-stays s.notes ((var, to) ∷ []) id x is);
  },
  sat.links var to (link-here s.notes var to var none refl),
)

-- exactly the assignments from before that give both ids one value satisfy one more note
pub note_means : (s : State) (var to : ℕ) (vs : List Value) (new : List (ℕ × ℕ)) →
    link_of s.notes var ≡ None → new ≡ s.notes ++ (var, to) ∷ [] →
    Satisfies (record { terms = s.terms; notes = new }) vs
    ↔ (Satisfies s vs × (value_at vs var ≡ value_at vs to))
note_means s var to vs new none is = (
  λ sat. satisfied_before s var to vs none
      (subst (λ ns. Satisfies (record { terms = s.terms; notes = ns }) vs) is sat),
  λ both. subst (λ ns. Satisfies (record { terms = s.terms; notes = ns }) vs) (sym is)
      (satisfies_note s var to vs both.0 both.1 none),
)
