-- The elements of a list from a position on, before its tail.
use Rattle.std.proofs.Common.{◌≡◌, ◌<◌, ◌≤◌, ◌-◌, ℕ, List, ◌++◌, length, map, take, drop, get_or}
use Rattle.std.proofs.Common.{sym, ◌∙◌, ap, subst, arith}
use Rattle.std.specs.Prelude.{◌↔◌, All}
use Rattle.std.proofs.lemmas.List.{length-map, length-drop, length-take, take-append-drop}
use Rattle.std.proofs.lemmas.List.{take_rest}
use Rattle.std.proofs.lemmas.List.Elements.{All-drop}
use Rattle.rn_value.specs.declared.value.Value.{Value}
use Rattle.rn_term.specs.declared.term.Term.{Term}
use Rattle.rn_term.specs.declared.term.Term.TheVariants as T
use Rattle.rn_term.specs.Stores.{State, term_at}
use Rattle.rn_term.specs.Assignments.{value_at, Satisfies, Keeps}
use Rattle.rn_unify.specs.declared.rests.Rest.{Rest}
use Rattle.rn_unify.specs.link.Rests.{IsRest, elements_of, rest_value}
use Rattle.rn_unify.proofs.ListPositions.{built_at, rest-prefix}

-- the elements of a slice from one on
abbrev pub from_on : ℕ → List ℕ → List ℕ
from_on n ids = take (length ids - n) (drop n ids)

pub from_on-drop : (n : ℕ) (read ids : List ℕ) → read ≡ ids → from_on n read ≡ drop n ids
from_on-drop n read ids same = take_rest read n ∙ ap (drop n) same

-- lists are one where their prefixes are, and what is after them
pub joined : (n : ℕ) (xs ys : List Value) → take n xs ≡ take n ys → drop n xs ≡ drop n ys → xs ≡ ys
joined n xs ys prefix back =
    sym (take-append-drop n xs) ∙ ap (λ part. part ++ drop n xs) prefix
    ∙ ap (λ part. take n ys ++ part) back ∙ take-append-drop n ys

-- the elements from a position on are ids of the store
pub drop_within : (s : State) (rest : Rest) (ids part : List ℕ) → rest.id < length s.terms →
    All (λ id. id < rest.id) ids → part ≡ drop rest.from ids →
    All (λ id. id < length s.terms) part
drop_within s rest ids part within below ahead =
    subst (λ xs. All (λ id. id < length s.terms) xs) (sym ahead)
    (λ k d small.
    let less : get_or (drop rest.from ids) k d < rest.id =
    All-drop (λ id. id < rest.id) rest.from ids below k d small in
    omega (arith, less, within))

-- the elements from a position on before a tail, and how many they are
pub record IsPrefix (s : State) (rest : Rest) (part : List ℕ) (count : ℕ) : Type 0 where
  pub position : IsRest s rest
  pub ids : List ℕ
  pub tail : ℕ
  pub is : term_at s rest.id ≡ T.Cons ids tail
  pub ahead : part ≡ drop rest.from ids
  pub counted : count ≡ length ids - rest.from

-- they are read from the term at the position
pub prefix_read : (s : State) (rest : Rest) (t : Term) (ids : List ℕ) (tail len : ℕ)
    (read : List ℕ) → IsRest s rest → t ≡ term_at s rest.id → t ≡ T.Cons ids tail →
    read ≡ ids → len ≡ length ids → IsPrefix s rest (from_on rest.from read) (len - rest.from)
prefix_read s rest t ids tail len read position at is same long = record {
  position = position;
  ids = ids;
  tail = tail;
  is = sym at ∙ is;
  ahead = from_on-drop rest.from read ids same;
  counted = ap (λ n. n - rest.from) long;
}

module _ {s : State} {rest : Rest} {part : List ℕ} {count : ℕ}
    (prefix : IsPrefix s rest part count) where
  -- there is one at least, and all are ids of the store
  pub some_ahead : 0 < count
  some_ahead = omega (arith, prefix.position.ahead prefix.ids prefix.tail prefix.is, prefix.counted)

  pub ahead_within : Keeps s → All (λ id. id < length s.terms) part
  ahead_within keeps =
      drop_within s rest prefix.ids part prefix.position.within
      (built_at s rest.id (T.Cons prefix.ids prefix.tail) keeps prefix.position.within prefix.is).0
      prefix.ahead

  -- they have the first of the values of what is left
  ahead_values : (vs : List Value) → Satisfies s vs →
      take count (rest_value vs rest) ≡ map (value_at vs) part
  ahead_values vs sat =
      ap (λ n. take n (rest_value vs rest)) prefix.counted
      ∙ rest-prefix s vs rest prefix.ids prefix.tail sat prefix.position.within prefix.is
      (subst (λ t. rest.from ≤ length (elements_of t)) prefix.is prefix.position.before)
      ∙ ap (map (value_at vs)) (sym prefix.ahead)

  pub ahead_wish : (vs values : List Value) → Satisfies s vs → rest_value vs rest ≡ values →
      map (value_at vs) part ≡ take count values
  ahead_wish vs values sat wish = sym (ahead_values vs sat) ∙ ap (take count) wish

  -- fewer values than those can't be all that is left
  pub enough_values : (vs values : List Value) → Satisfies s vs → rest_value vs rest ≡ values →
      count ≤ length values
  enough_values vs values sat wish =
      let all : length part ≡ count =
      ap length prefix.ahead ∙ length-drop rest.from prefix.ids ∙ sym prefix.counted in
      let long : length (map (value_at vs) part) ≡ length (take count values) =
      ap length (ahead_wish vs values sat wish) in
      omega (arith, all, long, length-map part (value_at vs), length-take count values)

  -- where they have the first of some values, what is after has the others where what is left
  -- has all
  pub wish_goes_on : (vs values : List Value) (next : Rest) → Satisfies s vs →
      map (value_at vs) part ≡ take count values →
      rest_value vs next ≡ drop count (rest_value vs rest) →
      (rest_value vs next ≡ drop count values) ↔ (rest_value vs rest ≡ values)
  wish_goes_on vs values next sat same passes = (
    λ wish. joined count (rest_value vs rest) values (ahead_values vs sat ∙ same)
        (sym passes ∙ wish),
    λ wish. passes ∙ ap (drop count) wish,
  )
