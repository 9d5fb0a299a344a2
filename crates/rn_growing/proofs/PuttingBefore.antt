-- A list that is put before a tail, over a new variable that is made one with the tail.
use Rattle.std.proofs.Common.{◌≡◌, ◌≤◌, ◌<◌, ◌+◌, ℕ, List, [], ◌∷◌, ◌++◌, length, take, map, refl}
use Rattle.std.proofs.Common.{sym, ap, ◌∙◌, subst, arith, length-append}
use Rattle.std.specs.Prelude.{Some, None, Contains, All}
use Rattle.std.proofs.lemmas.List.Elements.{All-contains}
use Rattle.std.proofs.lemmas.List.{get_or-take, take-take, take_all}
use Rattle.std.proofs.lemmas.Option.{same_Some}
use Rattle.std.proofs.Math.Seq.{get_or-append_seam}
use Rattle.rn_value.specs.declared.value.Value.{Value}
use Rattle.rn_value.specs.declared.value.Value.TheVariants as Value
use Rattle.rn_term.specs.declared.term.Term.TheVariants as T
use Rattle.rn_term.specs.Stores.{State, IsBuiltBelow, with_term}
use Rattle.rn_term.specs.Assignments.{Satisfies, Keeps, value_at, MayBeOne}
use Rattle.rn_term.specs.Undoing.{LeavesEarlier}
use Rattle.rn_term.proofs.AssignmentLemmas.{value_stays}
use Rattle.rn_unify.specs.Unifying.{SaysBoth, AreOne}
use Rattle.rn_unify.proofs.EarlierMarks.{grown}
use Rattle.rn_model.specs.Derivation.{Assignment}
use Rattle.rn_growing.specs.declared.slot.Slot.{Slot}
use Rattle.rn_growing.specs.link.Layouts.{id_of, IsLaidIn, AreRead}
use Rattle.rn_growing.specs.link.Laid.{LaidState}
use Rattle.rn_growing.specs.link.Building.{PutsBefore}
use Rattle.rn_growing.proofs.LaidSteps.{term_before, term_after, reads_before, reads_on}
use Rattle.rn_growing.proofs.LaidSteps.{laid_later, both_before}
use Rattle.rn_growing.proofs.BuildingSteps.{values_kept}

module _ (s : State) (slots : List Slot) (ids : List ℕ) (tail : ℕ) (keeps : Keeps s)
    (laid : IsLaidIn (id_of slots) s) (within : (k : ℕ) → Contains ids k → k < length s.terms)
    (tail_in : tail < length s.terms) where
  abbrev n : ℕ
  n = length s.terms

  abbrev with_rest : State
  with_rest = with_term s T.Free

  abbrev m : ℕ
  m = length with_rest.terms

  abbrev with_list : State
  with_list = with_term with_rest (T.Cons ids n)

  abbrev k : ℕ
  k = length with_list.terms

  one : m ≡ n + 1
  one = length-append s.terms (T.Free ∷ [])

  two : k ≡ m + 1
  two = length-append with_rest.terms (T.Cons ids n ∷ [])

  -- what the list and the new variable are
  abbrev IsList : List Value → Type 0
  IsList vs = (others : List Value) × (value_at vs n ≡ Value.List others) ×
      (value_at vs m ≡ Value.List (map (value_at vs) ids ++ others))

  module _ (sound : Keeps with_rest) (built : IsBuiltBelow m (T.Cons ids n)) where
    two_back : (vs : List Value) → Satisfies with_list vs → Satisfies s (take n vs) × IsList vs
    two_back vs sat =
        let late = term_before with_rest (T.Cons ids n) sound built vs sat in
        let early = term_before s T.Free keeps tt (take m vs) late.0 in
        let low : n ≤ m = omega (arith, one) in
        let below : n < m = omega (arith, one) in (
          subst (Satisfies s) (take-take n m vs low) early.0,
          (
            late.1.0,
            sym (get_or-take m vs n (Value.Tuple []) below) ∙ late.1.1,
            late.1.2
                ∙ ap (λ us. Value.List (us ++ late.1.0))
                (values_kept m vs ids (λ j there. let h = within j there in
                omega (arith, h, one))),
          ),
        )

    abbrev first : List Value → List Value → List Value
    first vs others = vs ++ Value.List others ∷ []

    abbrev both : List Value → List Value → List Value
    both vs others = first vs others ++ Value.List (map (value_at (first vs others)) ids ++ others)
        ∷ []

    last_is : (vs others : List Value) → length vs ≡ n →
        value_at (first vs others) n ≡ Value.List others
    last_is vs others each = subst (λ j. value_at (first vs others) j ≡ Value.List others) each
        (get_or-append_seam vs (Value.List others) [] (Value.Tuple []))

    two_on : (vs others : List Value) → Satisfies s vs → Satisfies with_list (both vs others)
    two_on vs others sat =
        term_after with_rest (T.Cons ids n) sound built (first vs others)
        (Value.List (map (value_at (first vs others)) ids ++ others))
        (term_after s T.Free keeps tt vs (Value.List others) sat tt)
        (others, last_is vs others sat.each, refl)

    are_one : (vs others : List Value) → Satisfies s vs → value_at vs tail ≡ Value.List others →
        AreOne n tail (both vs others)
    are_one vs others sat is =
        let long : length (first vs others) ≡ n + 1 = length-append vs (Value.List others ∷ [])
        ∙ ap (λ j. j + 1) sat.each in
        let rest = Value.List (map (value_at (first vs others)) ids ++ others) ∷ [] in
        let here : n < length (first vs others) = omega (arith, long) in
        let there : tail < length (first vs others) = omega (arith, long, tail_in) in
        let old : tail < length vs = omega (arith, tail_in, sat.each) in
        value_stays (first vs others) rest n here ∙ last_is vs others sat.each ∙ sym is
        ∙ sym (value_stays vs (Value.List others ∷ []) tail old)
        ∙ sym (value_stays (first vs others) rest tail there)

    abbrev was : LaidState
    was = record { store = s; slots = slots }

    module _ (new : State) (earlier : LeavesEarlier with_list new) where
      abbrev now_laid : LaidState
      now_laid = record { store = new; slots = slots }

      laid_list : IsLaidIn (id_of slots) with_list
      laid_list = laid_later slots s with_list (omega (arith, one, two)) laid

      longer : k ≤ length new.terms
      longer = (grown with_list new earlier).not_later.0

      pub never_put : ¬ MayBeOne with_list n tail → PutsBefore was ids tail now_laid None
      never_put never a rest is given others e =
          let there : value_at given.0 tail ≡ Value.List others =
          same_Some (value_at given.0 tail) (Value.List others)
          (sym (is a given.0 given.1 given.2) ∙ e) in
          never (
            both given.0 others,
            two_on given.0 others given.1,
            are_one given.0 others given.1
                there,
          )

      module _ (says : SaysBoth with_list new n tail) where
        n_in : n < k
        n_in = omega (arith, one, two)

        tail_within : tail < k
        tail_within = omega (arith, one, two, tail_in)

        back : (vs : List Value) → Satisfies new vs →
            Satisfies with_list (take k vs) × AreOne n tail (take k vs)
        back vs sat = both_before with_list new slots laid_list n tail earlier n_in tail_within
            says vs sat

        back_to_start : (vs : List Value) → Satisfies new vs → Satisfies s (take n vs)
        back_to_start vs sat =
            let low : n ≤ k = omega (arith, n_in) in
            subst (Satisfies s) (take-take n k vs low) (two_back (take k vs) (back vs sat).0).0

        value_is : (vs : List Value) → Satisfies new vs →
            (others : List Value) × (value_at vs tail ≡ Value.List others) ×
            (value_at vs m ≡ Value.List (map (value_at vs) ids ++ others))
        value_is vs sat =
            let before = back vs sat in
            let list = (two_back (take k vs) before.0).1 in
            let m_in : m < k = omega (arith, two) in (
              list.0,
              sym (get_or-take k vs tail (Value.Tuple []) tail_within) ∙ sym before.1 ∙ list.1,
              sym (get_or-take k vs m (Value.Tuple []) m_in) ∙ list.2
                  ∙ ap (λ us. Value.List (us ++ list.0))
                  (values_kept k vs ids (λ j there. let h = within j there in
                  omega (arith, h, one, two))),
            )

        reads_all : (a : Assignment) (vs others more : List Value) → Satisfies s vs →
            AreRead (id_of slots) a vs → AreRead (id_of slots) a (both vs others ++ more)
        reads_all a vs others more sat reads =
            let start = reads_on (id_of slots) s a vs (Value.List others ∷ []) laid sat.each
            reads in
            let sat1 = term_after s T.Free keeps tt vs (Value.List others) sat tt in
            let mid = reads_on (id_of slots) with_rest a (first vs others)
            (Value.List (map (value_at (first vs others)) ids ++ others) ∷ [])
            (laid_later slots s with_rest (omega (arith, one)) laid) sat1.each start in
            reads_on (id_of slots) with_list a (both vs others) more laid_list
            (two_on vs others sat).each mid

        pub put : PutsBefore was ids tail now_laid (Some m)
        put = record {
          within = omega (arith, two, longer);
          laid = laid_later slots s new (omega (arith, one, two, longer)) laid;
          value = value_is;
          back = back_to_start;
          exact = λ a rest is. (
            λ given.
                let vs = given.0 in
                let old = back_to_start vs given.1 in
                let reads = reads_before was now_laid a vs laid
                (take_all (length slots) slots (omega arith)) given.2 in
                let list = value_is vs given.1 in (
                  (take n vs, old, reads),
                  (
                    list.0,
                    is a (take n vs) old reads
                        ∙ ap Some (get_or-take n vs tail (Value.Tuple []) tail_in ∙ list.1),
                  ),
                ),
            λ given.
                let vs = given.0.0 in
                let sat = given.0.1 in
                let there : value_at vs tail ≡ Value.List given.1.0 =
                same_Some (value_at vs tail) (Value.List given.1.0)
                (sym (is a vs sat given.0.2) ∙ given.1.1) in
                let on = two_on vs given.1.0 sat in
                let goes = (says (both vs given.1.0) on.each).1
                (on, are_one vs given.1.0 sat there) in (
                  both vs given.1.0 ++ goes.0,
                  goes.1,
                  reads_all a vs given.1.0 goes.0 sat
                      given.0.2,
                ),
          );
        }

-- the new variable may be a list
pub may_be_list : (s new : State) (rest : ℕ) → Keeps s → new ≡ with_term s T.Free →
    rest ≡ length s.terms → (vs : List Value) × (others : List Value) × Satisfies new vs ×
    (value_at vs rest ≡ Value.List others)
may_be_list s new rest keeps stored is =
    let vs = keeps.satisfied.0 in
    let sat = keeps.satisfied.1 in
    let whole = vs ++ Value.List [] ∷ [] in (
      whole,
      [],
      subst (λ t. Satisfies t whole) (sym stored)
          (term_after s T.Free keeps tt vs (Value.List []) sat tt),
      subst (λ j. value_at whole j ≡ Value.List []) (sat.each ∙ sym is)
          (get_or-append_seam vs (Value.List []) [] (Value.Tuple [])),
    )

module _ (s s1 s2 new : State) (slots : List Slot) (ids : List ℕ) (tail rest id : ℕ)
    (before : LaidState) (seen : (record { store = s; slots = slots }) ≡ before) (keeps : Keeps s)
    (sound1 : Keeps s1) (laid : IsLaidIn (id_of slots) s)
    (within : All (λ j. j < length before.store.terms) ids) (some : 0 < length ids)
    (tail_in : tail < length before.store.terms) (rest_is : rest ≡ length s.terms)
    (stored : s1 ≡ with_term s T.Free) (id_is : id ≡ length s1.terms)
    (listed : s2 ≡ with_term s1 (T.Cons ids rest)) (earlier : LeavesEarlier s2 new) where
  inside : (j : ℕ) → Contains ids j → j < length s.terms
  inside j there = subst (λ old. j < length old.store.terms) (sym seen)
      (All-contains (λ i. i < length before.store.terms) ids j within there)

  tail_here : tail < length s.terms
  tail_here = subst (λ old. tail < length old.store.terms) (sym seen) tail_in

  sound : Keeps (with_term s T.Free)
  sound = subst Keeps stored sound1

  list_is : s2 ≡ with_term (with_term s T.Free) (T.Cons ids (length s.terms))
  list_is = listed ∙ ap (λ r. with_term s1 (T.Cons ids r)) rest_is
      ∙ ap (λ t. with_term t (T.Cons ids (length s.terms))) stored

  built_so : IsBuiltBelow (length (s.terms ++ T.Free ∷ [])) (T.Cons ids (length s.terms))
  built_so =
      let one : length (s.terms ++ T.Free ∷ []) ≡ length s.terms + 1 =
      length-append s.terms (T.Free ∷ []) in
      let all : All (λ j. j < length s.terms) ids =
      subst (λ old. All (λ j. j < length old.store.terms) ids) (sym seen) within in
      ((λ i d h. let w = all i d h in omega (arith, w, one)), some, omega (arith, one))

  grew : LeavesEarlier (with_term (with_term s T.Free) (T.Cons ids (length s.terms))) new
  grew = subst (λ t. LeavesEarlier t new) list_is earlier

  pub laid_so : IsLaidIn (id_of slots) new
  laid_so =
      let one : length (s.terms ++ T.Free ∷ []) ≡ length s.terms + 1 =
      length-append s.terms (T.Free ∷ []) in
      let two : length ((s.terms ++ T.Free ∷ []) ++ T.Cons ids (length s.terms) ∷ []) ≡ length
      (s.terms ++ T.Free ∷ []) + 1 =
      length-append (s.terms ++ T.Free ∷ []) (T.Cons ids (length s.terms) ∷ []) in
      let more =
      (grown (with_term (with_term s T.Free) (T.Cons ids (length s.terms))) new
      grew).not_later.0 in
      laid_later slots s new (omega (arith, one, two, more)) laid

  pub put_yes : SaysBoth s2 new rest tail →
      PutsBefore before ids tail (record { store = new; slots = slots }) (Some id)
  put_yes says =
      let here : SaysBoth (with_term (with_term s T.Free) (T.Cons ids (length s.terms))) new
      (length s.terms) tail =
      subst (λ r. SaysBoth (with_term (with_term s T.Free) (T.Cons ids (length s.terms))) new r
      tail) rest_is (subst (λ t. SaysBoth t new rest tail) list_is says) in
      subst (λ old. PutsBefore old ids tail (record { store = new; slots = slots }) (Some id)) seen
      (subst (λ j. PutsBefore (record { store = s; slots = slots }) ids tail
      (record { store = new; slots = slots }) (Some j))
      (sym (id_is ∙ ap (λ t. length t.terms) stored))
      (put s slots ids tail keeps laid inside tail_here sound built_so new grew here))

  pub put_no : ¬ MayBeOne s2 rest tail →
      PutsBefore before ids tail (record { store = new; slots = slots }) None
  put_no never =
      let here : ¬ MayBeOne (with_term (with_term s T.Free) (T.Cons ids (length s.terms)))
      (length s.terms) tail =
      subst (λ r. ¬ MayBeOne (with_term (with_term s T.Free) (T.Cons ids (length s.terms))) r
      tail) rest_is (subst (λ t. ¬ MayBeOne t rest tail) list_is never) in
      subst (λ old. PutsBefore old ids tail (record { store = new; slots = slots }) None) seen
      (never_put s slots ids tail keeps laid inside tail_here sound built_so new grew here)
