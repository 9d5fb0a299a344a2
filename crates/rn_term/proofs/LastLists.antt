-- The last list with a tail among the first terms.
use Rattle.std.proofs.Common.{◌≡◌, ⊎_elim, ◌<◌, ◌≤◌, ◌-◌, ℕ, zero, suc, List, arith, length}
use Rattle.std.proofs.Common.{refl, sym, ◌∙◌, ap, subst, get_or}
use Rattle.std.specs.Prelude.{Bool, Option, Some, None}
use Rattle.std.proofs.lemmas.Bool.{cases_lt}
use Rattle.std.proofs.lemmas.List.{get_or_read}
use Rattle.rn_term.specs.declared.term.Term.{Term}
use Rattle.rn_term.specs.declared.term.Term.TheVariants as T
use Rattle.rn_term.specs.Stores.{State, term_at}
use Rattle.rn_term.specs.link.Kept.{HasNoListBelow, KeepsAll, last_cons, or_cons}
use Rattle.rn_term.proofs.ReadingLemmas.{EndsElsewhere}
use Rattle.rn_term.proofs.FreeVariables.{cons_within}

-- the number past an id, and 0 without one
abbrev pub past : Option ℕ → ℕ
past None = 0
past (Some id) = suc id

-- an id is past all lists with a tail among the first terms, and is the least such
record IsPast (terms : List Term) (end id : ℕ) : Type 0 where
  within : id ≤ end
  none : (k : ℕ) (ids : List ℕ) (tail : ℕ) → id ≤ k → k < end →
      get_or terms k T.Free ≡ T.Cons ids tail → ⊥

-- a term that is no list with a tail leaves it as it was
one_more : (terms : List Term) (n id : ℕ) → IsPast terms n id →
    ((ids : List ℕ) (tail : ℕ) → get_or terms n T.Free ≡ T.Cons ids tail → ⊥) →
    IsPast terms (suc n) id
one_more terms n id before other = record {
  within = omega (arith, before.within);
  none = λ k ids tail low high is. ⊎_elim
      (λ small. before.none k ids tail low small is)
      (λ big.
      let here : k ≡ n = omega (arith, big, high) in
      other ids tail (subst (λ m. get_or terms m T.Free ≡ T.Cons ids tail) here is))
      (cases_lt k n);
}

last_step : (terms : List Term) (n : ℕ) (t : Term) → get_or terms n T.Free ≡ t →
    IsPast terms n (past (last_cons terms n)) →
    IsPast terms (suc n) (past (or_cons t n (last_cons terms n)))
last_step terms n T.Free is before =
    one_more terms n (past (last_cons terms n)) before
    (λ ids tail e. let no : ⊥ = cc in no)
last_step terms n (T.Atom v) is before =
    one_more terms n (past (last_cons terms n)) before
    (λ ids tail e. let no : ⊥ = cc in no)
last_step terms n (T.Tuple parts) is before =
    one_more terms n (past (last_cons terms n)) before
    (λ ids tail e. let no : ⊥ = cc in no)
last_step terms n (T.List parts) is before =
    one_more terms n (past (last_cons terms n)) before
    (λ ids tail e. let no : ⊥ = cc in no)
last_step terms n (T.Cons parts last) is before = record {
  within = omega arith;
  none = λ k ids tail low high e. absurd (let no : ⊥ = omega (arith, low, high) in no);
}

last_is_past : (terms : List Term) (end : ℕ) → IsPast terms end (past (last_cons terms end))
last_is_past terms zero = record {
  within = omega arith;
  none = λ k ids tail low high is. absurd (let no : ⊥ = omega (arith, high) in no);
}
last_is_past terms (suc n) =
    last_step terms n (get_or terms n T.Free) refl (last_is_past terms n)

-- what is kept beside a term is the last list up to it
pub kept_list : (terms : List Term) (links lists : List (Option ℕ)) (floors : List ℕ)
    (flags : List Bool) (levels : List ℕ) (notes : List (ℕ × ℕ))
    (end : ℕ) (read : Option ℕ) → KeepsAll terms links lists floors flags levels notes →
    end ≤ length terms →
    (end ≡ 0 → ⊥) → read ≡ get_or lists (end - 1) read → read ≡ last_cons terms end
kept_list terms links lists floors flags levels notes end read kept within some is =
    let small : end - 1 < length terms = omega (arith, within, some) in
    let here : suc (end - 1) ≡ end = omega (arith, some) in
    get_or_read lists (end - 1) read (rw kept.counted small) is None
    ∙ kept.last (end - 1) small ∙ ap (last_cons terms) here

-- Lists with a tail were looked through, the last one first: none from an id on ends in a variable,
-- and the next one is the last below that id.
pub record IsLookedThrough (s : State) (var : ℕ) (next : Option ℕ) : Type 0 where
  pub end : ℕ
  pub within : end ≤ length s.terms
  pub next_is : next ≡ last_cons s.terms end
  pub later : (k : ℕ) → end ≤ k → EndsElsewhere s var k

pub none_looked_at : (s : State) (var : ℕ) (next : Option ℕ) →
    next ≡ last_cons s.terms (length s.terms) → IsLookedThrough s var next
none_looked_at s var next is = record {
  end = length s.terms;
  within = omega arith;
  next_is = is;
  later = λ k big ids tail cons leads.
      absurd (let no : ⊥ = omega (arith, big, cons_within s k ids tail cons) in no);
}

-- none at or past the next one
past_next : (s : State) (var : ℕ) (next : Option ℕ) → IsLookedThrough s var next →
    (past next ≤ length s.terms) × ((k : ℕ) → past next ≤ k → EndsElsewhere s var k)
past_next s var next seen =
    let all = subst (λ o. IsPast s.terms seen.end (past o)) (sym seen.next_is)
    (last_is_past s.terms seen.end) in (
      omega (arith, all.within, seen.within),
      λ k low ids tail cons leads. ⊎_elim
          (λ small. all.none k ids tail low small cons)
          (λ big. seen.later k big ids tail cons leads)
          (cases_lt k seen.end),
    )

pub next_within : (s : State) (var id : ℕ) (next : Option ℕ) → IsLookedThrough s var next →
    next ≡ Some id → id < length s.terms
next_within s var id next seen is =
    let all = (past_next s var next seen).0 in
    let here : past next ≡ suc id = ap past is in omega (arith, all, here)

pub one_looked_at : (s : State) (var id : ℕ) (next after : Option ℕ) → IsLookedThrough s var next →
    next ≡ Some id → EndsElsewhere s var id → after ≡ last_cons s.terms id →
    IsLookedThrough s var after
one_looked_at s var id next after seen is elsewhere after_is = record {
  end = id;
  within = omega (arith, next_within s var id next seen is);
  next_is = after_is;
  later = λ k low ids tail cons leads. ⊎_elim
      (λ small. absurd (let no : ⊥ = omega (arith, small, low) in no))
      (λ big. ⊎_elim
      (λ less.
      let here : k ≡ id = omega (arith, big, less) in
      elsewhere ids tail (subst (λ n. term_at s n ≡ T.Cons ids tail) here cons) leads)
      (λ more.
      let here : past next ≡ suc id = ap past is in
      (past_next s var next seen).1 k (omega (arith, more, here)) ids tail cons leads)
      (cases_lt k (suc id)))
      (cases_lt k id);
}

-- the one before is at a smaller id
pub next_smaller : (s : State) (var id : ℕ) (next after : Option ℕ) → IsLookedThrough s var next →
    next ≡ Some id → after ≡ last_cons s.terms id → past after < past next
next_smaller s var id next after seen is after_is =
    let all = (last_is_past s.terms id).within in
    let here : past next ≡ suc id = ap past is in
    let there : past after ≡ past (last_cons s.terms id) = ap past after_is in
    omega (arith, all, here, there)

-- all were looked at
pub all_looked_at : (s : State) (var : ℕ) (next : Option ℕ) → IsLookedThrough s var next →
    ((id : ℕ) → next ≡ Some id → ⊥) → (k : ℕ) → EndsElsewhere s var k
all_looked_at s var next seen none k = (past_next s var next seen).1 k (low next none) where
  low : (o : Option ℕ) → ((id : ℕ) → o ≡ Some id → ⊥) → past o ≤ k
  low None none = omega arith
  low (Some id) none = absurd (none id refl)

-- where the next one is below a number below which no list ends in a variable, none does
pub none_below : (s : State) (var id floor : ℕ) (next : Option ℕ) → IsLookedThrough s var next →
    next ≡ Some id → HasNoListBelow s var floor → id < floor → (k : ℕ) → EndsElsewhere s var k
none_below s var id floor next seen is none less k ids tail cons leads = ⊎_elim
    (λ small. let no : ⊥ = omega (arith, none k ids tail cons leads, small, less) in no)
    (λ big.
    let here : past next ≡ suc id = ap past is in
    (past_next s var next seen).1 k (omega (arith, big, here)) ids tail cons leads)
    (cases_lt k (suc id))
