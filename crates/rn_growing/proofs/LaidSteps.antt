-- What a store with a layout says as terms and equations come in.
use Rattle.std.proofs.Common.{◌≡◌, ◌≤◌, ◌<◌, ◌+◌, ℕ, suc, Bool, true, false, ◌&&◌, List, [], ◌∷◌}
use Rattle.std.proofs.Common.{◌++◌, length, take, drop, refl, sym, ap, ◌∙◌, subst, arith}
use Rattle.std.proofs.Common.{length-append, length-take, ◌⊎◌, inl, inr}
use Rattle.std.specs.Prelude.{Option, Some, None, Result, Ok, Err, IfOk, OnOk, IsTrue, ◌↔◌}
use Rattle.std.specs.Prelude.{if◌then◌else◌, nat_eq}
use Rattle.std.specs.Cmp.Lexicographic.{pointwise}
use Rattle.std.proofs.lemmas.List.{take_all, get_or-take, length-take-le, take-take}
use Rattle.std.proofs.lemmas.List.{take-append-drop}
use Rattle.std.proofs.Math.Seq.{take-append_seam, get_or-append_seam, take-suc}
use Rattle.rn_value.specs.declared.value.Value.{Value}
use Rattle.rn_value.specs.declared.value.Value.TheVariants as Value
use Rattle.rn_term.specs.declared.term.Term.{Term}
use Rattle.rn_term.specs.declared.term.Term.TheVariants as T
use Rattle.rn_term.specs.Stores.{State, IsBuiltBelow, with_term}
use Rattle.rn_term.specs.Assignments.{Satisfies, HasValue, Keeps, value_at, MayBeOne}
use Rattle.rn_term.specs.Undoing.{LeavesEarlier}
use Rattle.rn_term.proofs.AssignmentLemmas.{value_stays}
use Rattle.rn_term.proofs.GrowingStores.{terms_extend}
use Rattle.rn_unify.specs.Unifying.{SaysBoth, AreOne}
use Rattle.rn_unify.proofs.EarlierMarks.{grown, grown_through}
use Rattle.rn_model.specs.Lists.{HaveOneValue}
use Rattle.rn_model.specs.Derivation.{Assignment}
use Rattle.rn_growing.specs.declared.slot.Slot.{Slot}
use Rattle.rn_growing.specs.declared.slot.Unknown.{Unknown}
use Rattle.rn_growing.specs.link.Layouts.{Layout, asked, id_of, same_unknown, IsLaidIn, AreRead, IsReadAs}
use Rattle.rn_growing.specs.link.Building.{IsMade}
use Rattle.std.specs.Prelude.{Contains, All, map}
use Rattle.std.proofs.lemmas.List.Elements.{All-contains}
use Rattle.std.proofs.lemmas.Option.{same_Some}
use Rattle.rn_growing.proofs.SameUnknowns.{unknown_itself}
use Rattle.rn_growing.proofs.SameUnknowns.{unknown_is}
use Rattle.rn_growing.specs.link.Grown.{BringsIn}
use Rattle.rn_growing.specs.link.Laid.{LaidState, GivesAssignment, Grows, GoesBack, Builds, Equates}
use Rattle.rn_items.proofs.Numbers.{same_numbers, numbers_themselves}
use Rattle.rn_items.proofs.Bools.{both_true}

kept_choice : (b : Bool) (o p q : Option ℕ) (id : ℕ) → (p ≡ Some id → q ≡ Some id) →
    (if b then o else p) ≡ Some id → (if b then o else q) ≡ Some id
kept_choice true o p q id more is = is
kept_choice false o p q id more is = more is

-- the ids of unknowns stay as slots come behind
pub id_of-stays : (xs ys : List Slot) (path : List ℕ) (u : Unknown) (id : ℕ) →
    id_of xs path u ≡ Some id → id_of (xs ++ ys) path u ≡ Some id
id_of-stays [] ys path u id is = absurd (let no : ⊥ = cc in no)
id_of-stays (slot ∷ xs) ys path u id is =
    kept_choice (same_unknown slot.unknown u && pointwise nat_eq slot.path path) (Some slot.id)
    (id_of xs path u) (id_of (xs ++ ys) path u) id (id_of-stays xs ys path u id) is

front_is : {A : Type 0} (xs ys : List A) → take (length xs) ys ≡ xs →
    ys ≡ xs ++ drop (length xs) ys
front_is xs ys is = sym (take-append-drop (length xs) ys) ∙ ap (λ zs. zs ++ drop (length xs) ys) is

-- what is laid keeps its ids as it grows
pub id_of-later : (xs ys : List Slot) → take (length xs) ys ≡ xs →
    (path : List ℕ) (u : Unknown) (id : ℕ) → id_of xs path u ≡ Some id → id_of ys path u ≡ Some id
id_of-later xs ys is path u id at = ap (λ zs. id_of zs path u) (front_is xs ys is)
    ∙ id_of-stays xs (drop (length xs) ys) path u id at

-- values of the unknowns are read before as they are later
pub reads_before : (old new : LaidState) (a : Assignment) (vs : List Value) →
    IsLaidIn (id_of old.slots) old.store → take (length old.slots) new.slots ≡ old.slots →
    AreRead (id_of new.slots) a vs → AreRead (id_of old.slots) a (take (length old.store.terms) vs)
reads_before old new a vs laid front reads path u id at =
    reads path u id (id_of-later old.slots new.slots front path u id at)
    ∙ sym (get_or-take (length old.store.terms) vs id (Value.Tuple []) (laid path u id at))

-- a term is read as before
pub read_later : (old new : LaidState) (term : Assignment → Option Value) (id : ℕ) →
    IsLaidIn (id_of old.slots) old.store → take (length old.slots) new.slots ≡ old.slots →
    GoesBack old new → id < length old.store.terms → IsReadAs old.store (id_of old.slots) term id →
    IsReadAs new.store (id_of new.slots) term id
read_later old new term id laid front back within is a vs sat reads =
    is a (take (length old.store.terms) vs) (back vs sat)
    (reads_before old new a vs laid front reads)
    ∙ ap Some (get_or-take (length old.store.terms) vs id (Value.Tuple []) within)

-- values are read on as others come behind them
pub reads_on : (l : Layout) (s : State) (a : Assignment) (vs ws : List Value) → IsLaidIn l s →
    length vs ≡ length s.terms → AreRead l a vs → AreRead l a (vs ++ ws)
reads_on l s a vs ws laid each reads path u id at =
    reads path u id at ∙ sym (value_stays vs ws id (rw each (laid path u id at)))

pub goes_back-same : (laid : LaidState) → GoesBack laid laid
goes_back-same laid vs sat = subst (Satisfies laid.store)
    (sym (take_all (length laid.store.terms) vs (omega (arith, sat.each)))) sat

-- an equation of two ids
module _ (s new : State) (slots : List Slot) (laid : IsLaidIn (id_of slots) s) (p q : ℕ) where
  abbrev before : LaidState
  before = record { store = s; slots = slots }

  abbrev after : LaidState
  after = record { store = new; slots = slots }

  abbrev n : ℕ
  n = length s.terms

  module _ (earlier : LeavesEarlier s new) (p_within : p < n) (q_within : q < n)
      (says : SaysBoth s new p q) where
    pub both_before : (vs : List Value) → Satisfies new vs →
        Satisfies s (take n vs) × AreOne p q (take n vs)
    both_before vs sat =
        let room : n ≤ length vs = omega (arith, (grown s new earlier).not_later.0, sat.each) in
        (says (take n vs) (length-take-le n vs room)).0
        (drop n vs, subst (Satisfies new) (sym (take-append-drop n vs)) sat)

    one_value : (first second : Assignment → Option Value) → IsReadAs s (id_of slots) first p →
        IsReadAs s (id_of slots) second q → (a : Assignment) (vs : List Value) → Satisfies s vs →
        AreRead (id_of slots) a vs → HaveOneValue (first a) (second a) → AreOne p q vs
    one_value first second is_p is_q a vs sat reads one =
        let left : Some (value_at vs p) ≡ Some one.0 = sym (is_p a vs sat reads) ∙ one.1 in
        let right : Some (value_at vs q) ≡ Some one.0 = sym (is_q a vs sat reads) ∙ one.2 in
        same_Some (value_at vs p) (value_at vs q) (left ∙ sym right)

    pub equated : Equates before p q after true
    equated first second is_p is_q = record {
      back = λ vs sat. (both_before vs sat).0;
      exact = λ a. (
        λ given.
            let both = both_before given.0 given.1 in
            let reads = reads_before before after a given.0 laid
            (take_all (length slots) slots (omega arith)) given.2 in (
              (take n given.0, both.0, reads),
              (
                value_at (take n given.0) p,
                is_p a (take n given.0) both.0 reads,
                is_q a
                    (take n given.0) both.0 reads ∙ ap Some (sym both.1),
              ),
            ),
        λ both.
            let vs = both.0.0 in
            let on = (says vs both.0.1.each).1
            (both.0.1, one_value first second is_p is_q a vs both.0.1 both.0.2 both.1) in
            (vs ++ on.0, on.1, reads_on (id_of slots) s a vs on.0 laid both.0.1.each both.0.2),
      );
    }

  pub not_equated : ¬ MayBeOne s p q → Equates before p q after false
  not_equated never first second is_p is_q a given one =
      let left : Some (value_at given.0 p) ≡ Some one.0 = sym (is_p a given.0 given.1 given.2)
      ∙ one.1 in
      let right : Some (value_at given.0 q) ≡ Some one.0 = sym (is_q a given.0 given.1 given.2)
      ∙ one.2 in
      never (
        given.0,
        given.1,
        same_Some (value_at given.0 p) (value_at given.0 q)
            (left ∙ sym right),
      )

-- one more term
last_of : (n : ℕ) (vs : List Value) → length vs ≡ n + 1 → vs ≡ take n vs ++ value_at vs n ∷ []
last_of n vs each =
    let one : suc n ≡ n + 1 = omega arith in
    sym (take_all (suc n) vs (omega (arith, each)))
    ∙ take-suc vs n (Value.Tuple []) (omega (arith, each))

module _ (s : State) (t : Term) (keeps : Keeps s) (built : IsBuiltBelow (length s.terms) t) where
  pub term_before : (vs : List Value) → Satisfies (with_term s t) vs →
      Satisfies s (take (length s.terms) vs) × HasValue (take (length s.terms) vs) t
      (value_at vs (length s.terms))
  term_before vs sat =
      let long : length vs ≡ length s.terms + 1 = sat.each ∙ length-append s.terms (t ∷ []) in
      let front : length (take (length s.terms) vs) ≡ length s.terms =
      length-take-le (length s.terms) vs (omega (arith, long)) in
      (terms_extend s t (take (length s.terms) vs) (value_at vs (length s.terms)) keeps built
      front).0
      (subst (Satisfies (with_term s t)) (last_of (length s.terms) vs long) sat)

  pub term_after : (vs : List Value) (v : Value) → Satisfies s vs → HasValue vs t v →
      Satisfies (with_term s t) (vs ++ v ∷ [])
  term_after vs v sat has = (terms_extend s t vs v keeps built sat.each).1 (sat, has)

pub laid_later : (slots : List Slot) (s new : State) → length s.terms ≤ length new.terms →
    IsLaidIn (id_of slots) s → IsLaidIn (id_of slots) new
laid_later slots s new more laid path u id at = let h = laid path u id at in omega (arith, h, more)

-- the id of a value
pub atom_built : (s : State) (slots : List Slot) (v : Value) → Keeps s → IsLaidIn (id_of slots) s →
    Builds (record { store = s; slots = slots }) (λ a. Some v)
    (record { store = with_term s (T.Atom v); slots = slots }) (length s.terms)
atom_built s slots v keeps laid = record {
  within = omega (arith, length-append s.terms (T.Atom v ∷ []));
  laid = laid_later slots s (with_term s (T.Atom v))
      (omega (arith, length-append s.terms (T.Atom v ∷ []))) laid;
  reads = λ a vs sat reads. ap Some (sym (term_before s (T.Atom v) keeps tt vs sat).1);
  adds = record {
    back = λ vs sat. (term_before s (T.Atom v) keeps tt vs sat).0;
    exact = λ a. (
      λ given. (
        (
          take (length s.terms) given.0,
          (term_before s (T.Atom v) keeps tt given.0 given.1).0,
          reads_before
              (record { store = s; slots = slots })
              (record { store = with_term s (T.Atom v); slots = slots }) a given.0 laid
              (take_all (length slots) slots (omega arith)) given.2,
        ),
        (v, refl),
      ),
      λ both. (
        both.0.0 ++ v ∷ [],
        term_after s (T.Atom v) keeps tt both.0.0 v both.0.1 refl,
        reads_on (id_of slots) s a both.0.0 (v ∷ []) laid both.0.1.each both.0.2,
      ),
    );
  };
}

-- the answers of the calls
pub atom_answer : {E : Type 0} (result : Result ℕ E) (s new : State) (slots : List Slot)
    (now : LaidState) (v : Value) → (record { store = s; slots = slots }) ≡ now → Keeps s →
    IsLaidIn (id_of slots) s → IfOk result (λ id. id ≡ length s.terms) →
    OnOk result (new ≡ with_term s (T.Atom v)) →
    IfOk result (λ id. Builds now (λ a. Some v) (record { store = new; slots = slots }) id)
atom_answer (Err e) s new slots now v seen keeps laid is added = tt
atom_answer (Ok id) s new slots now v seen keeps laid is added =
    subst (λ old. Builds old (λ a. Some v) (record { store = new; slots = slots }) id) seen
    (subst (λ k. Builds (record { store = s; slots = slots }) (λ a. Some v)
    (record { store = new; slots = slots }) k) (sym is)
    (subst (λ after. Builds (record { store = s; slots = slots }) (λ a. Some v)
    (record { store = after; slots = slots }) (length s.terms)) (sym added)
    (atom_built s slots v keeps laid)))

pub equal_answer : {E : Type 0} (result : Result Bool E) (s new : State) (slots : List Slot)
    (now : LaidState) (p q : ℕ) → (record { store = s; slots = slots }) ≡ now →
    IsLaidIn (id_of slots) s → LeavesEarlier s new → p < length now.store.terms →
    q < length now.store.terms → IfOk result (λ yes. IsTrue yes ↔ MayBeOne s p q) →
    IfOk result (λ yes. IsTrue yes → SaysBoth s new p q) →
    IfOk result (λ yes. Equates now p q (record { store = new; slots = slots }) yes)
equal_answer (Err e) s new slots now p q seen laid earlier hp hq exact means = tt
equal_answer (Ok true) s new slots now p q seen laid earlier hp hq exact means =
    let inside : (id : ℕ) → id < length now.store.terms → id < length s.terms =
    λ id h. subst (λ old. id < length old.store.terms) (sym seen) h in
    subst (λ old. Equates old p q (record { store = new; slots = slots }) true) seen
    (equated s new slots laid p q earlier (inside p hp) (inside q hq) (means refl))
equal_answer (Ok false) s new slots now p q seen laid earlier hp hq exact means =
    subst (λ old. Equates old p q (record { store = new; slots = slots }) false) seen
    (not_equated s new slots laid p q
    (λ may. let no : ⊥ = (let e : false ≡ true = exact.1 may in cc) in no))

-- an unknown that has its id
pub unknown_found : (laid : LaidState) (path : List ℕ) (u : Unknown) (id : ℕ) →
    IsLaidIn (id_of laid.slots) laid.store → id_of laid.slots path u ≡ Some id →
    Builds laid (λ a. Some (asked a path u)) laid id
unknown_found laid path u id is at = record {
  within = is path u id at;
  laid = is;
  reads = λ a vs sat reads. ap Some (reads path u id at);
  adds = record {
    back = goes_back-same laid;
    exact = λ a. (λ given. (given, (asked a path u, refl)), λ both. both.0);
  };
}

-- the slot of a new unknown
module _ (path : List ℕ) (u : Unknown) (n : ℕ) where
  abbrev pub new_slot : Slot
  new_slot = record { path = path; unknown = u; id = n }

  here_or_before : (b : Bool) (o p q : Option ℕ) (id : ℕ) (P : Type 0) →
      (q ≡ Some id → (p ≡ Some id) ⊎ P) → (if b then o else q) ≡ Some id →
      ((if b then o else p) ≡ Some id) ⊎ P
  here_or_before true o p q id P rest is = inl is
  here_or_before false o p q id P rest is = rest is

  of_test : (b : Bool) (id : ℕ) (P : Type 0) → (b ≡ true → n ≡ id → P) →
      (if b then Some n else None) ≡ Some id → P
  of_test true id P use_it is = use_it refl (let e : n ≡ id = cc in e)
  of_test false id P use_it is = absurd (let no : ⊥ = cc in no)

  -- an unknown had its id before, or is the new one
  abbrev pub IsBeforeOrNew : List Slot → List ℕ → Unknown → ℕ → Type 0
  IsBeforeOrNew slots p v id = (id_of slots p v ≡ Some id) ⊎ ((path ≡ p) × (u ≡ v) × (n ≡ id))

  pub id_of-last : (slots : List Slot) (p : List ℕ) (v : Unknown) (id : ℕ) →
      id_of (slots ++ new_slot ∷ []) p v ≡ Some id → IsBeforeOrNew slots p v id
  id_of-last [] p v id is =
      of_test (same_unknown u v && pointwise nat_eq path p) id (IsBeforeOrNew [] p v id)
      (λ yes same. let both = both_true (same_unknown u v) (pointwise nat_eq path p) yes in
      inr (same_numbers path p both.1, unknown_is u v both.0, same)) is
  id_of-last (other ∷ slots) p v id is =
      here_or_before (same_unknown other.unknown v && pointwise nat_eq other.path p)
      (Some other.id) (id_of slots p v) (id_of (slots ++ new_slot ∷ []) p v) id
      ((path ≡ p) × (u ≡ v) × (n ≡ id)) (id_of-last slots p v id) is

  none_behind : (b : Bool) (o q r : Option ℕ) → (q ≡ None → r ≡ Some n) →
      (if b then o else q) ≡ None → (o ≡ None → ⊥) → (if b then o else r) ≡ Some n
  none_behind true o q r rest is some = absurd (some is)
  none_behind false o q r rest is some = rest is

  pub id_of-new : (slots : List Slot) → id_of slots path u ≡ None →
      id_of (slots ++ new_slot ∷ []) path u ≡ Some n
  id_of-new [] none = rw (unknown_itself u, numbers_themselves path) refl
  id_of-new (other ∷ slots) none =
      none_behind (same_unknown other.unknown u && pointwise nat_eq other.path path)
      (Some other.id) (id_of slots path u) (id_of (slots ++ new_slot ∷ []) path u)
      (id_of-new slots) none (λ e. let no : ⊥ = cc in no)

module _ (s : State) (slots : List Slot) (path : List ℕ) (u : Unknown) (keeps : Keeps s)
    (laid : IsLaidIn (id_of slots) s) where
  abbrev size : ℕ
  size = length s.terms

  abbrev was : LaidState
  was = record { store = s; slots = slots }

  abbrev now : LaidState
  now = record { store = with_term s T.Free; slots = slots ++ new_slot path u size ∷ [] }

  longer : length (s.terms ++ T.Free ∷ []) ≡ size + 1
  longer = length-append s.terms (T.Free ∷ [])

  pub new_laid : IsLaidIn (id_of now.slots) now.store
  new_laid p v id at = elim (id_of-last path u size slots p v id at) [
    | inl before ↦ let h = laid p v id before in omega (arith, h, longer)
    | inr last ↦ let h = last.2 in omega (arith, h, longer)
  ]

  value_last : (vs : List Value) (v : Value) → length vs ≡ size → value_at (vs ++ v ∷ []) size ≡ v
  value_last vs v each = subst (λ k. value_at (vs ++ v ∷ []) k ≡ v) each
      (get_or-append_seam vs v [] (Value.Tuple []))

  reads_new : (a : Assignment) (vs : List Value) → length vs ≡ size → AreRead (id_of slots) a vs →
      AreRead (id_of now.slots) a (vs ++ asked a path u ∷ [])
  reads_new a vs each reads p v id at = elim (id_of-last path u size slots p v id at) [
    | inl before ↦ reads_on (id_of slots) s a vs (asked a path u ∷ []) laid each reads p v id
        before
    | inr last ↦
        subst (λ k. asked a p v ≡ value_at (vs ++ asked a path u ∷ []) k) last.2
        (subst (λ q. asked a q v ≡ value_at (vs ++ asked a path u ∷ []) size) last.0
        (subst (λ w. asked a path w ≡ value_at (vs ++ asked a path u ∷ []) size) last.1
        (sym (value_last vs (asked a path u) each))))
  ]

  pub unknown_new : id_of slots path u ≡ None → Builds was (λ a. Some (asked a path u)) now size
  unknown_new none = record {
    within = omega (arith, longer);
    laid = new_laid;
    reads = λ a vs sat reads. ap Some (reads path u size (id_of-new path u size slots none));
    adds = record {
      back = λ vs sat. (term_before s T.Free keeps tt vs sat).0;
      exact = λ a. (
        λ given. (
          (
            take size given.0,
            (term_before s T.Free keeps tt given.0 given.1).0,
            reads_before was now a given.0 laid
                (take-append_seam slots (new_slot path u size ∷ [])) given.2,
          ),
          (asked a path u, refl),
        ),
        λ both. (
          both.0.0 ++ asked a path u ∷ [],
          term_after s T.Free keeps tt both.0.0
              (asked a path u) both.0.1 tt,
          reads_new a both.0.0 both.0.1.each both.0.2,
        ),
      );
    };
  }

pub new_unknown_answer : (s new : State) (slots after : List Slot) (now : LaidState)
    (path : List ℕ) (u : Unknown) (id : ℕ) → (record { store = s; slots = slots }) ≡ now →
    Keeps s → IsLaidIn (id_of slots) s → id_of slots path u ≡ None → id ≡ length s.terms →
    new ≡ with_term s T.Free → after ≡ slots ++ new_slot path u id ∷ [] →
    IsLaidIn (id_of after) new × Builds now (λ a. Some (asked a path u))
    (record { store = new; slots = after }) id
new_unknown_answer s new slots after now path u id seen keeps laid none is stored slotted =
    let there : after ≡ slots ++ new_slot path u (length s.terms) ∷ [] = slotted
    ∙ ap (λ k. slots ++ new_slot path u k ∷ []) is in
    let whole :
    (record {
      store = with_term s T.Free;
      slots =
          slots ++ new_slot path u (length s.terms) ∷ [];
    }) ≡ (record { store = new; slots = after })
    =
    ap (λ t. record { store = t; slots = slots ++ new_slot path u (length s.terms) ∷ [] })
    (sym stored) ∙ ap (λ t. record { store = new; slots = t }) (sym there) in (
      subst (λ l. IsLaidIn (id_of l.slots) l.store) whole (new_laid s slots path u keeps laid),
      subst (λ k. Builds now (λ a. Some (asked a path u)) (record { store = new; slots = after })
          k) (sym is)
          (subst (λ old. Builds old (λ a. Some (asked a path u))
          (record { store = new; slots = after }) (length s.terms)) seen
          (subst (λ l. Builds (record { store = s; slots = slots }) (λ a. Some (asked a path u)) l
          (length s.terms)) whole
          (unknown_new s slots path u keeps laid none))),
    )

pub old_unknown_answer : (s : State) (slots : List Slot) (now : LaidState) (path : List ℕ)
    (u : Unknown) (id : ℕ) → (record { store = s; slots = slots }) ≡ now →
    IsLaidIn (id_of slots) s → id_of slots path u ≡ Some id →
    Builds now (λ a. Some (asked a path u)) now id
old_unknown_answer s slots before path u id seen laid at =
    subst (λ l. Builds l (λ a. Some (asked a path u)) l id) seen
    (unknown_found (record { store = s; slots = slots }) path u id laid at)

-- an equation of two terms that were built one after the other
module _ (start first second end : LaidState) (one other : Assignment → Option Value) (p q : ℕ)
  where
    abbrev equal_values : Assignment → Type 0
    equal_values a = HaveOneValue (one a) (other a)

    module _ (builds : Builds start one first p) (more : Grows start first)
        (then_builds : Builds first other second q) (still_more : Grows first second) where
      read_one : IsReadAs second.store (id_of second.slots) one p
      read_one = read_later first second one p builds.laid still_more.slots then_builds.adds.back
          builds.within builds.reads

      back_to_start : GoesBack second end → GoesBack start end
      back_to_start back vs sat =
          let n = length start.store.terms in
          let m = length first.store.terms in
          let k = length second.store.terms in
          let low : n ≤ m = (grown start.store first.store more.store).not_later.0 in
          let high : m ≤ k = (grown first.store second.store still_more.store).not_later.0 in
          subst (Satisfies start.store) (take-take n m vs low)
          (builds.adds.back (take m vs)
          (subst (Satisfies first.store) (take-take m k vs high)
          (then_builds.adds.back (take k vs) (back vs sat))))

      pub two_terms : (yes : Bool) → Equates second p q end yes →
          BringsIn start equal_values end yes
      two_terms true equates =
          let adds = equates one other read_one then_builds.reads in
          record {
            back = back_to_start adds.back;
            exact = λ a. (
              λ given.
                  let late = (adds.exact a).0 given in
                  let mid = (then_builds.adds.exact a).0 late.0 in
                  let early = (builds.adds.exact a).0 mid.0 in
                  (early.0, late.1),
              λ both.
                  let has = both.1 in
                  let mid : GivesAssignment first a = (builds.adds.exact a).1 (both.0, (has.0, has.1)) in
                  let late : GivesAssignment second a = (then_builds.adds.exact a).1 (mid, (has.0, has.2)) in
                  (adds.exact a).1 (late, has),
            );
          }
      two_terms false equates = λ a given has.
          let mid : GivesAssignment first a = (builds.adds.exact a).1 (given, (has.0, has.1)) in
          let late : GivesAssignment second a = (then_builds.adds.exact a).1 (mid, (has.0, has.2)) in
          equates one other read_one then_builds.reads a late has

-- equations that say the same
pub brings_alike : (old new : LaidState) (equation other : Assignment → Type 0) (yes : Bool) →
    ((a : Assignment) → equation a ↔ other a) → BringsIn old equation new yes →
    BringsIn old other new yes
brings_alike old new equation other true alike adds = record {
  back = adds.back;
  exact = λ a. (
    λ given. let both = (adds.exact a).0 given in (both.0, (alike a).0 both.1),
    λ both. (adds.exact a).1 (both.0, (alike a).1 both.1),
  );
}
brings_alike old new equation other false alike adds = λ a given is. adds a given ((alike a).1 is)

-- a term without a condition of its own, which is made of what ids name
pub made : (s : State) (slots : List Slot) (t : Term) (make : List Value → Value) (ids : List ℕ) →
    Keeps s → IsLaidIn (id_of slots) s → IsBuiltBelow (length s.terms) t →
    ((id : ℕ) → Contains ids id → id < length s.terms) →
    ((vs : List Value) (v : Value) → HasValue vs t v ↔ (v ≡ make (map (value_at vs) ids))) →
    IsMade (record { store = s; slots = slots }) make ids
    (record { store = with_term s t; slots = slots }) (length s.terms)
made s slots t make ids keeps laid built within is = record {
  within = omega (arith, length-append s.terms (t ∷ []));
  laid = laid_later slots s (with_term s t) (omega (arith, length-append s.terms (t ∷ []))) laid;
  value = λ vs sat.
      let before = term_before s t keeps built vs sat in
      let room : length s.terms ≤ length vs =
      omega (arith, sat.each, length-append s.terms (t ∷ [])) in
      let n = length s.terms in
      ((is (take n vs) (value_at vs n)).0 before.1)
      ∙ ap make
      (same_values (take n vs) vs ids
      (λ id there. get_or-take n vs id (Value.Tuple []) (within id there)));
  adds = record {
    back = λ vs sat. (term_before s t keeps built vs sat).0;
    exact = λ a. (
      λ given. (
        (
          take (length s.terms) given.0,
          (term_before s t keeps built given.0 given.1).0,
          reads_before (record { store = s; slots = slots })
              (record { store = with_term s t; slots = slots }) a given.0 laid
              (take_all (length slots) slots (omega arith)) given.2,
        ),
        tt,
      ),
      λ both.
          let v = make (map (value_at both.0.0) ids) in (
            both.0.0 ++ v ∷ [],
            term_after s t keeps built both.0.0 v both.0.1
                ((is both.0.0 v).1 refl),
            reads_on (id_of slots) s a both.0.0 (v ∷ []) laid
                both.0.1.each both.0.2,
          ),
    );
  };
}
  where
    same_values : (vs ws : List Value) (ids : List ℕ) →
        ((id : ℕ) → Contains ids id → value_at vs id ≡ value_at ws id) →
        map (value_at vs) ids ≡ map (value_at ws) ids
    same_values vs ws [] alike = refl
    same_values vs ws (id ∷ ids) alike =
        ap (λ v. v ∷ map (value_at vs) ids) (alike id (0, omega arith, refl))
        ∙ ap (λ us. value_at ws id ∷ us)
        (same_values vs ws ids
        (λ k there. alike k (suc there.0, omega (arith, there.1), there.2)))

pub made_answer : {E : Type 0} (result : Result ℕ E) (s new : State) (slots : List Slot)
    (now : LaidState) (t : Term) (make : List Value → Value) (ids : List ℕ) →
    (record { store = s; slots = slots }) ≡ now → Keeps s → IsLaidIn (id_of slots) s →
    IsBuiltBelow (length s.terms) t → All (λ id. id < length now.store.terms) ids →
    ((vs : List Value) (v : Value) → HasValue vs t v ↔ (v ≡ make (map (value_at vs) ids))) →
    IfOk result (λ id. id ≡ length s.terms) → OnOk result (new ≡ with_term s t) →
    IfOk result (λ id. IsMade now make ids (record { store = new; slots = slots }) id)
made_answer (Err e) s new slots now t make ids seen keeps laid built within means is added = tt
made_answer (Ok id) s new slots now t make ids seen keeps laid built within means is added =
    let inside : (k : ℕ) → Contains ids k → k < length s.terms =
    λ k there. subst (λ old. k < length old.store.terms) (sym seen)
    (All-contains (λ j. j < length now.store.terms) ids k within there) in
    subst (λ old. IsMade old make ids (record { store = new; slots = slots }) id) seen
    (subst (λ k. IsMade (record { store = s; slots = slots }) make ids
    (record { store = new; slots = slots }) k) (sym is)
    (subst (λ after. IsMade (record { store = s; slots = slots }) make ids
    (record { store = after; slots = slots }) (length s.terms)) (sym added)
    (made s slots t make ids keeps laid built inside means)))

-- what grew twice grew
pub grows_through : (old mid new : LaidState) → Grows old mid → Grows mid new → Grows old new
grows_through old mid new first last = record {
  store = (grown_through old.store mid.store new.store (grown old.store mid.store first.store)
      (grown mid.store new.store last.store)).earlier;
  slots =
      let few : length old.slots ≤ length mid.slots =
      omega (arith, ap length first.slots, length-take (length old.slots) mid.slots) in
      sym (take-take (length old.slots) (length mid.slots) new.slots few)
      ∙ ap (take (length old.slots)) last.slots ∙ first.slots;
}
