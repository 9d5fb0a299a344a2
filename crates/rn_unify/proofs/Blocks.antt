-- Long lists in blocks of their elements.
use Rattle.std.proofs.Common.{◌≡◌, ◌≢◌, ◌<◌, ℕ, List, [], ◌∷◌, ◌++◌, refl, arith}
use Rattle.std.proofs.Common.{length, map, sym, ◌∙◌, ap, subst, append_assoc, take, drop, reverse}
use Rattle.std.proofs.Common.{length-append, length-drop, length-take, take-append-drop}
use Rattle.std.specs.Prelude.{◌↔◌, All, Option, Some, None, Result, Ok, Err, IfOk, OnOk}
use Rattle.std.proofs.lemmas.List.{map-append, map_push, append-nil}
use Rattle.std.proofs.lemmas.List.{reverse-append}
use Rattle.std.proofs.lemmas.List.Elements.{All-take, All-drop, All-weaker, All-append}
use Rattle.std.proofs.lemmas.List.Elements.{All-from_recursion}
use Rattle.std.proofs.lemmas.Result.{IfOk-weaker}
use Rattle.std.proofs.Math.Seq.{get_or-append_seam}
use Rattle.rn_value.specs.declared.value.Value.{Value}
use Rattle.rn_value.specs.declared.value.Value.TheVariants as Value
use Rattle.rn_term.specs.declared.term.Term.{Term}
use Rattle.rn_term.specs.declared.term.Term.TheVariants as T
use Rattle.rn_term.specs.Stores.{State, term_at, with_term}
use Rattle.rn_term.specs.Assignments.{value_at, HasValue, HasListTail, Keeps}
use Rattle.rn_term.specs.Forcing.{IsList, items_of}
use Rattle.rn_term.proofs.AssignmentLemmas.{parts_stay}
use Rattle.rn_term.proofs.FillingSteps.{items_of-list}
use Rattle.rn_unify.specs.declared.equation.Other.TheVariants as O
use Rattle.rn_unify.specs.link.Equations.{IsOther}
use Rattle.rn_unify.specs.link.Adding.{IsOf, MayStand, Turns, list_of}
use Rattle.rn_unify.proofs.Turning.{Wish, turns_same, turns_through, turns_with, split_last}
use Rattle.rn_unify.proofs.AddedTerms.{list_tail}

-- a value is the list of some ids' values before the elements of another
abbrev pub IsBefore : List Value → List ℕ → Value → Value → Type 0
IsBefore vs first u v =
    (others : List Value) × (u ≡ Value.List others)
    × (v ≡ Value.List (map (value_at vs) first ++ others))

same_items : (u : Value) (xs ys : List Value) → u ≡ Value.List xs → u ≡ Value.List ys → xs ≡ ys
same_items u xs ys is also =
    sym (items_of-list xs) ∙ ap items_of (sym is ∙ also) ∙ items_of-list ys

-- a list has a value exactly where that is its first elements before the list of the others
has_in_blocks : (vs : List Value) (first block : List ℕ) (tail : Option ℕ) (v : Value) →
    HasValue vs (list_of (first ++ block) tail) v
    ↔ ((u : Value) × HasValue vs (list_of block tail) u × IsBefore vs first u v)
has_in_blocks vs first block None v =
    let f = value_at vs in
    let split : map f (first ++ block) ≡ map f first ++ map f block = map-append f first block in (
      λ has. (
        Value.List (map f block),
        refl,
        (map f block, refl, has ∙ ap (λ xs. Value.List xs) split),
      ),
      λ (u, is, (others, list, whole)).
          whole
          ∙ ap (λ xs. Value.List (map f first ++ xs)) (same_items u others (map f block) list is)
          ∙ ap (λ xs. Value.List xs) (sym split),
    )
has_in_blocks vs first block (Some tail) v =
    let f = value_at vs in
    let split : (more : List Value) →
    map f (first ++ block) ++ more ≡ map f first ++ (map f block ++ more) =
    λ more. ap (λ xs. xs ++ more) (map-append f first block)
    ∙ append_assoc (map f first) (map f block) more in (
      λ (more, tail_is, has). (
        Value.List (map f block ++ more),
        (more, tail_is, refl),
        (map f block ++ more, refl, has ∙ ap (λ xs. Value.List xs) (split more)),
      ),
      λ (u, (more, tail_is, is), (others, list, whole)). (
        more,
        tail_is,
        whole
            ∙ ap (λ xs. Value.List (map f first ++ xs))
            (same_items u others (map f block ++ more) list is)
            ∙ ap (λ xs. Value.List xs) (sym (split more)),
      ),
    )

-- a value of a list is one
list_has_list : (vs : List Value) (ids : List ℕ) (tail : Option ℕ) (v : Value) →
    HasValue vs (list_of ids tail) v → IsList v
list_has_list vs ids None v has = (map (value_at vs) ids, has)
list_has_list vs ids (Some tail) v (more, tail_is, has) = (map (value_at vs) ids ++ more, has)

not_variable : (ids : List ℕ) (tail : Option ℕ) → list_of ids tail ≢ T.Free
not_variable ids None = λ is. cc
not_variable ids (Some tail) = λ is. cc

-- what stands of a list stands of its last elements
block_stands : (s : State) (ids : List ℕ) (tail : Option ℕ) (n : ℕ) → n < length ids →
    MayStand s (list_of ids tail) → MayStand s (list_of (drop n ids) tail)
block_stands s ids None n few (built, list, is) =
    (All-drop (λ id. id < length s.terms) n ids built, tt, λ e. cc)
block_stands s ids (Some tail) n few ((each, some, within), list, is) = (
  (All-drop (λ id. id < length s.terms) n ids each, omega (arith, few, length-drop n ids), within),
  list,
  λ e. cc,
)

elements_within : (s : State) (ids : List ℕ) (tail : Option ℕ) →
    MayStand s (list_of ids tail) → All (λ id. id < length s.terms) ids
elements_within s ids None stands = stands.0
elements_within s ids (Some tail) stands = stands.0.0

-- a seam: a new id after an assignment's has its value
value_here : (vs : List Value) (u : Value) (n : ℕ) → length vs ≡ n → value_at (vs ++ u ∷ []) n ≡ u
value_here vs u n each =
    subst (λ k. value_at (vs ++ u ∷ []) k ≡ u) each (get_or-append_seam vs u [] (Value.Tuple []))

before_id : (vs : List Value) (first : List ℕ) (n : ℕ) (u v : Value) → length vs ≡ n →
    All (λ id. id < n) first →
    IsBefore vs first u v ↔ HasValue (vs ++ u ∷ []) (T.Cons first n) v
before_id vs first n u v each below =
    let here = value_here vs u n each in
    let same = parts_stay vs (u ∷ []) n first (omega (arith, each)) below in (
      λ (others, list, whole).
          (others, here ∙ list, whole ∙ ap (λ xs. Value.List (xs ++ others)) same),
      λ (others, list, whole).
          (others, sym here ∙ list, whole ∙ ap (λ xs. Value.List (xs ++ others)) (sym same)),
    )

-- Of a list the elements from one on are added as a block.
module _ (s : State) (ids : List ℕ) (tail : Option ℕ) (n : ℕ) (keeps : Keeps s)
    (stands : MayStand s (list_of ids tail)) (few : n < length ids) where
  pub block : MayStand s (list_of (drop n ids) tail)
  block = block_stands s ids tail n few stands

  pub block_tail : HasListTail s (list_of (drop n ids) tail)
  block_tail = list_tail s (list_of (drop n ids) tail) keeps block.1

  first_within : All (λ id. id < length s.terms) (take n ids)
  first_within =
      All-take (λ id. id < length s.terms) n ids (elements_within s ids tail stands)

  pub block_turns : Turns s (IsOf (list_of ids tail))
      (with_term s (list_of (drop n ids) tail)) (IsOf (T.Cons (take n ids) (length s.terms)))
  block_turns =
      turns_through s s (with_term s (list_of (drop n ids) tail))
      (IsOf (list_of ids tail))
      (λ vs v. (u : Value) × HasValue vs (list_of (drop n ids) tail) u
      × IsBefore vs (take n ids) u v)
      (IsOf (T.Cons (take n ids) (length s.terms)))
      (turns_same s (IsOf (list_of ids tail))
      (λ vs v. (u : Value) × HasValue vs (list_of (drop n ids) tail) u
      × IsBefore vs (take n ids) u v)
      keeps
      (λ vs v sat. subst (λ xs. HasValue vs (list_of xs tail) v
      ↔ ((u : Value) × HasValue vs (list_of (drop n ids) tail) u × IsBefore vs (take n ids) u v))
      (take-append-drop n ids) (has_in_blocks vs (take n ids) (drop n ids) tail v)))
      (turns_with s (list_of (drop n ids) tail) (λ vs u v. IsBefore vs (take n ids) u v)
      (IsOf (T.Cons (take n ids) (length s.terms))) keeps block.0
      (λ vs u v each. before_id vs (take n ids) (length s.terms) u v each first_within)
      (not_variable (drop n ids) tail) block_tail)

  pub first_stands : 0 < n → MayStand (with_term s (list_of (drop n ids) tail))
      (T.Cons (take n ids) (length s.terms))
  first_stands some =
      let long = length-append s.terms (list_of (drop n ids) tail ∷ []) in (
        (
          All-weaker (λ id. id < length s.terms)
              (λ id. id < length (s.terms ++ list_of (drop n ids) tail ∷ []))
              (λ id small. omega (arith, small, long)) (take n ids) first_within,
          omega (arith, length-take n ids, some, few),
          omega (arith, long),
        ),
        λ ws sat.
            let cut = split_last s (list_of (drop n ids) tail) ws keeps block.0 sat in
            list_has_list _ (drop n ids) tail _ cut.has,
        λ e. cc,
      )

-- A term is added whole.
pub whole_turns : (s : State) (t : Term) → Keeps s → MayStand s t →
    Turns s (IsOf t) (with_term s t) (IsOther (O.Here (length s.terms)))
whole_turns s t keeps stands =
    turns_through s s (with_term s t) (IsOf t)
    (λ vs v. (u : Value) × HasValue vs t u × (v ≡ u)) (IsOther (O.Here (length s.terms)))
    (turns_same s (IsOf t) (λ vs v. (u : Value) × HasValue vs t u × (v ≡ u)) keeps
    (λ vs v sat. (
      λ has. (v, has, refl),
      λ (u, has, is). subst (HasValue vs t) (sym is) has,
    )))
    (turns_with s t (λ vs u v. v ≡ u) (IsOther (O.Here (length s.terms))) keeps stands.0
    (λ vs u v each.
    let here = value_here vs u (length s.terms) each in
    (λ is. is ∙ sym here, λ is. is ∙ here))
    stands.2 (list_tail s t keeps stands.1))

-- A value is the list of some ids' values and then of others.
abbrev pub IsAll : List ℕ → List Value → List Value → Value → Type 0
IsAll ids left vs v = v ≡ Value.List (map (value_at vs) ids ++ left)

-- the next of these others is added
pub value_turns : (s : State) (ids : List ℕ) (next : Value) (left : List Value) → Keeps s →
    All (λ id. id < length s.terms) ids →
    Turns s (IsAll ids (next ∷ left)) (with_term s (T.Atom next))
    (IsAll (ids ++ length s.terms ∷ []) left)
value_turns s ids next left keeps within =
    turns_through s s (with_term s (T.Atom next)) (IsAll ids (next ∷ left))
    (λ vs v. (u : Value) × (u ≡ next) × IsAll ids (u ∷ left) vs v)
    (IsAll (ids ++ length s.terms ∷ []) left)
    (turns_same s (IsAll ids (next ∷ left))
    (λ vs v. (u : Value) × (u ≡ next) × IsAll ids (u ∷ left) vs v) keeps
    (λ vs v sat. (
      λ is. (next, refl, is),
      λ (u, next_is, is). subst (λ w. IsAll ids (w ∷ left) vs v) next_is is,
    )))
    (turns_with s (T.Atom next) (λ vs u v. IsAll ids (u ∷ left) vs v)
    (IsAll (ids ++ length s.terms ∷ []) left) keeps tt
    (λ vs u v each.
    let f = value_at (vs ++ u ∷ []) in
    let same : map (value_at vs) ids ++ u ∷ left ≡ map f (ids ++ length s.terms ∷ []) ++ left =
    ap (λ xs. xs ++ u ∷ left)
    (parts_stay vs (u ∷ []) (length s.terms) ids (omega (arith, each)) within)
    ∙ ap (λ w. map f ids ++ w ∷ left) (sym (value_here vs u (length s.terms) each))
    ∙ sym (append_assoc (map f ids) (f (length s.terms) ∷ []) left)
    ∙ ap (λ xs. xs ++ left) (sym (map_push f ids (length s.terms))) in (
      λ is. is ∙ ap (λ xs. Value.List xs) same,
      λ is. is ∙ ap (λ xs. Value.List xs) (sym same),
    ))
    (λ is. cc) tt)

pub ids_within : (s : State) (ids : List ℕ) (t : Term) → All (λ id. id < length s.terms) ids →
    All (λ id. id < length (with_term s t).terms) (ids ++ length s.terms ∷ [])
ids_within s ids t within =
    let long = length-append s.terms (t ∷ []) in
    All-append (λ id. id < length (s.terms ++ t ∷ [])) ids (length s.terms ∷ [])
    (All-weaker (λ id. id < length s.terms) (λ id. id < length (s.terms ++ t ∷ []))
    (λ id small. omega (arith, small, long)) ids within)
    (All-from_recursion (λ id. id < length (s.terms ++ t ∷ [])) (length s.terms ∷ [])
    (omega (arith, long), tt))

-- what was added of a list, whatever its parts are called
pub block_added : (s new : State) (ids first last : List ℕ) (tail : Option ℕ) (n id : ℕ) → Keeps s →
    MayStand s (list_of ids tail) → n < length ids → 0 < n → first ≡ take n ids →
    last ≡ drop n ids → new ≡ with_term s (list_of last tail) → id ≡ length s.terms →
    MayStand new (T.Cons first id)
    × Turns s (IsOf (list_of ids tail)) new (IsOf (T.Cons first id))
block_added s new ids first last tail n id keeps stands few some is_first is_last is_new is_id =
    subst (λ u. Both u first id)
    (sym (is_new ∙ ap (λ xs. with_term s (list_of xs tail)) is_last))
    (subst (λ xs. Both added xs id) (sym is_first)
    (subst (Both added (take n ids)) (sym is_id)
    (first_stands s ids tail n keeps stands few some, block_turns s ids tail n keeps stands few)))
  where
    added : State
    added = with_term s (list_of (drop n ids) tail)

    Both : State → List ℕ → ℕ → Type 0
    Both u xs i =
        MayStand u (T.Cons xs i)
        × Turns s (IsOf (list_of ids tail)) u (IsOf (T.Cons xs i))

-- a term that was added has an id of the store
pub whole_within : {E : Type 0} (s new : State) (t : Term) (r : Result ℕ E) →
    IfOk r (λ id. id ≡ length s.terms) → OnOk r (new ≡ with_term s t) →
    IfOk r (λ to. to < length new.terms)
whole_within s new t (Ok to) is_id is_new =
    omega (arith, is_id, ap (λ u. length u.terms) is_new, length-append s.terms (t ∷ []))
whole_within s new t (Err e) is_id is_new = tt

-- where it was added no variable stands
pub whole_placed : {E : Type 0} (s new : State) (t : Term) (r : Result ℕ E) → t ≢ T.Free →
    IfOk r (λ id. id ≡ length s.terms) → OnOk r (new ≡ with_term s t) →
    IfOk r (λ to. term_at new to ≢ T.Free)
whole_placed s new t (Ok to) other is_id is_new =
    λ free. other (sym (get_or-append_seam s.terms t [] T.Free)
    ∙ ap (term_at (with_term s t)) (sym is_id) ∙ ap (λ u. term_at u to) (sym is_new) ∙ free)
whole_placed s new t (Err e) other is_id is_new = tt

-- a wish that turned into the one of a term turns into that of its id
pub whole_added : {E : Type 0} (old s new : State) (wish : Wish) (t : Term) (r : Result ℕ E) →
    Turns old wish s (IsOf t) → MayStand s t →
    IfOk r (λ id. id ≡ length s.terms) → OnOk r (new ≡ with_term s t) →
    IfOk r (λ to. Turns old wish new (IsOther (O.Here to)))
whole_added old s new wish t (Ok to) turned stands is_id is_new =
    subst (λ u. Turns old wish u (IsOther (O.Here to))) (sym is_new)
    (subst (λ i. Turns old wish (with_term s t) (IsOther (O.Here i))) (sym is_id)
    (turns_through old s (with_term s t) wish (IsOf t)
    (IsOther (O.Here (length s.terms))) turned (whole_turns s t turned.keeps stands)))
whole_added old s new wish t (Err e) turned stands is_id is_new = tt

pub through_result : {E : Type 0} (old s new : State) (wish between : Wish) (r : Result ℕ E) →
    Turns old wish s between → IfOk r (λ to. Turns s between new (IsOther (O.Here to))) →
    IfOk r (λ to. Turns old wish new (IsOther (O.Here to)))
through_result old s new wish between r first =
    IfOk-weaker r (λ to. Turns s between new (IsOther (O.Here to)))
    (λ to. Turns old wish new (IsOther (O.Here to)))
    (λ to. turns_through old s new wish between (IsOther (O.Here to)) first)

pub value_added : (old s new : State) (wish : Wish) (ids more : List ℕ) (left rest : List Value)
    (next : Value) (id : ℕ) → Turns old wish s (IsAll ids (reverse left)) →
    All (λ i. i < length s.terms) ids → left ≡ rest ++ next ∷ [] →
    new ≡ with_term s (T.Atom next) → id ≡ length s.terms → more ≡ ids ++ id ∷ [] →
    All (λ i. i < length new.terms) more × Turns old wish new (IsAll more (reverse rest))
value_added old s new wish ids more left rest next id turned within is_left is_new is_id is_more =
    subst (λ u. Both u more) (sym is_new)
    (subst (Both (with_term s (T.Atom next)))
    (sym (is_more ∙ ap (λ i. ids ++ i ∷ []) is_id)) (
      ids_within s ids (T.Atom next) within,
      turns_through old s (with_term s (T.Atom next)) wish (IsAll ids (next ∷ reverse rest))
          (IsAll (ids ++ length s.terms ∷ []) (reverse rest))
          (subst (λ vs. Turns old wish s (IsAll ids vs))
          (ap reverse is_left ∙ reverse-append rest (next ∷ [])) turned)
          (value_turns s ids next (reverse rest) turned.keeps within),
    ))
  where
    Both : State → List ℕ → Type 0
    Both u xs = All (λ i. i < length u.terms) xs × Turns old wish u (IsAll xs (reverse rest))

-- once no value is left they are the values of ids
pub all_added : (old s : State) (wish : Wish) (ids : List ℕ) (left : List Value) → length left ≡ 0 →
    Turns old wish s (IsAll ids (reverse left)) → Turns old wish s (IsOf (T.List ids))
all_added old s wish ids [] none turned =
    turns_through old s s wish (IsAll ids []) (IsOf (T.List ids)) turned
    (turns_same s (IsAll ids []) (IsOf (T.List ids)) turned.keeps
    (λ vs v sat. (
      λ is. is ∙ ap (λ xs. Value.List xs) (append-nil (map (value_at vs) ids)),
      λ is. is ∙ ap (λ xs. Value.List xs) (sym (append-nil (map (value_at vs) ids))),
    )))
all_added old s wish ids (v ∷ left) none turned = absurd (omega (arith, none))
