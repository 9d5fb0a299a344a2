-- A list is read along its tails.
use Rattle.std.proofs.Common.{◌≡◌, ◌<◌, ◌≤◌, ◌++◌, ℕ, List, [], length, map, arith, sym, ◌∙◌}
use Rattle.std.proofs.Common.{ap, subst, append_assoc}
use Rattle.std.specs.Prelude.{true}
use Rattle.std.specs.List.{Contains}
use Rattle.std.proofs.lemmas.List.Elements.{Contains-push}
use Rattle.rn_value.specs.declared.value.Value.{Value}
use Rattle.rn_value.specs.declared.value.Value.TheVariants as Value
use Rattle.rn_term.specs.declared.term.Term.TheVariants as T
use Rattle.rn_term.specs.Stores.{State, term_at, Leads}
use Rattle.rn_term.specs.Assignments.{value_at, Satisfies, Keeps}
use Rattle.rn_term.specs.Occurring.{parts_of, Occurs, HasFree}
use Rattle.rn_term.specs.Forcing.{IsForced, IsList, IsAlwaysList, AreAnswers}
use Rattle.rn_term.proofs.Extents.{extent, extent-tail}
use Rattle.rn_term.proofs.Following.{extent-leads}
use Rattle.rn_term.proofs.Occurrences.{occurs-through, leads_occurs, part_within}
use Rattle.rn_term.proofs.ReadingLemmas.{value_at_end, atom_is_list, tuple_is_not_list}
use Rattle.rn_value.proofs.Variants.{same_parts_of_lists}

-- a list is read up to a rest of it: its elements are these values and then those of the rest
pub record IsReadTo (s : State) (id rest : ℕ) (values : List Value) : Type 0 where
  pub within : rest < length s.terms
  pub no_larger : extent s rest ≤ extent s id
  pub occurs : Occurs s rest id
  pub answer : (vs : List Value) → Satisfies s vs →
      (others : List Value) × (value_at vs rest ≡ Value.List others) ×
      (value_at vs id ≡ Value.List (values ++ others))

-- at first, nothing is read
pub read_none : (s : State) (id : ℕ) (values : List Value) → id < length s.terms →
    IsAlwaysList s id → values ≡ [] → IsReadTo s id id values
read_none s id values within list none = record {
  within = within;
  no_larger = omega arith;
  occurs = Occurs.here;
  answer = λ vs sat.
      let here = list vs sat in (
        here.0,
        here.1,
        subst (λ xs. value_at vs id ≡ Value.List (xs ++ here.0)) (sym none) here.1,
      );
}

-- what is left of it is always a list
rest_is_list : (s : State) (id rest : ℕ) (values : List Value) → IsReadTo s id rest values →
    IsAlwaysList s rest
rest_is_list s id rest values read vs sat = let here = read.answer vs sat in (here.0, here.1)

-- a free variable that occurs in the rest occurs in the list
pub free_in_rest : (s : State) (id rest : ℕ) (values : List Value) → IsReadTo s id rest values →
    HasFree s rest → HasFree s id
free_in_rest s id rest values read (var, free, occurs) =
    (var, free, occurs-through s var rest id occurs read.occurs)

-- the elements at the start of a rest come after those that were read
prefix_of_rest : (values prefix more others : List Value) (whole : Value) → more ≡ values ++ prefix →
    whole ≡ Value.List (values ++ (prefix ++ others)) → whole ≡ Value.List (more ++ others)
prefix_of_rest values prefix more others whole are is =
    is ∙ ap (λ xs. Value.List xs) (sym (append_assoc values prefix others))
    ∙ ap (λ xs. Value.List (xs ++ others)) (sym are)

-- the elements of a list are those that were read and then those of its rest
rest_is : (s : State) (vs : List Value) (id rest : ℕ) (values others : List Value) →
    IsReadTo s id rest values → Satisfies s vs → value_at vs rest ≡ Value.List others →
    value_at vs id ≡ Value.List (values ++ others)
rest_is s vs id rest values others read sat is =
    let here = read.answer vs sat in
    here.2 ∙ ap (λ xs. Value.List (values ++ xs))
    (same_parts_of_lists here.0 others (sym here.1 ∙ is))

-- a list is read on to the tail of its rest
pub read_on : (s : State) (id rest end : ℕ) (values : List Value) (ids : List ℕ) (tail : ℕ)
    (more : List Value) → Keeps s → IsReadTo s id rest values → Leads s.notes rest end →
    end < length s.terms → T.Cons ids tail ≡ term_at s end → AreAnswers s ids values more true →
    IsReadTo s id tail more
read_on s id rest end values ids tail more keeps read leads within is answer = record {
  within = part_within s keeps end tail is_part;
  no_larger = omega (
    arith,
    read.no_larger,
    extent-leads s keeps rest end read.within leads,
    extent-tail s keeps end ids tail within (sym is),
  );
  occurs = occurs-through s tail rest id
      (occurs-through s tail end rest (Occurs.in_part is_part Occurs.here)
      (leads_occurs s rest end leads))
      read.occurs;
  answer = λ vs sat.
      let has = value_at_end s vs rest end (T.Cons ids tail) sat leads within is in (
        has.0,
        has.1,
        prefix_of_rest values (map (value_at vs) ids) more has.0 (value_at vs id) (answer vs sat)
            (rest_is s vs id rest values (map (value_at vs) ids ++ has.0) read sat has.2),
      );
}
  where
    is_part : Contains (parts_of (term_at s end)) tail
    is_part = subst (λ t. Contains (parts_of t) tail) is (Contains-push ids tail)

-- it is read on by less than the rest extends
pub read_less : (s : State) (rest end : ℕ) (ids : List ℕ) (tail : ℕ) → Keeps s →
    rest < length s.terms → Leads s.notes rest end → end < length s.terms →
    T.Cons ids tail ≡ term_at s end → extent s tail < extent s rest
read_less s rest end ids tail keeps start leads within is = omega (
  arith,
  extent-leads s keeps rest end start leads,
  extent-tail s keeps end ids tail within (sym is),
)

-- a list of terms ends a list, and gives the last elements
pub read_all : (s : State) (id rest end : ℕ) (values : List Value) (ids : List ℕ)
    (more : List Value) → IsReadTo s id rest values → Leads s.notes rest end →
    end < length s.terms → T.List ids ≡ term_at s end → AreAnswers s ids values more true →
    IsForced s id (Value.List more)
read_all s id rest end values ids more read leads within is answer vs sat =
    rest_is s vs id rest values (map (value_at vs) ids) read sat
    (value_at_end s vs rest end (T.List ids) sat leads within is)
    ∙ ap (λ xs. Value.List xs) (sym (answer vs sat))

-- so does a value, which is then a list
pub last_is_list : (s : State) (id rest end : ℕ) (values : List Value) (w : Value) → Keeps s →
    IsReadTo s id rest values → Leads s.notes rest end → end < length s.terms →
    T.Atom w ≡ term_at s end → IsList w
last_is_list s id rest end values w keeps read leads within is =
    (atom_is_list s rest end w keeps leads within is).1 (rest_is_list s id rest values read)

pub read_last : (s : State) (id rest end : ℕ) (values : List Value) (w v : Value) →
    IsReadTo s id rest values → Leads s.notes rest end → end < length s.terms →
    T.Atom w ≡ term_at s end →
    ((others : List Value) → w ≡ Value.List others → v ≡ Value.List (values ++ others)) →
    IsForced s id v
read_last s id rest end values w v read leads within is joined vs sat =
    let here = read.answer vs sat in
    here.2
    ∙ sym (joined here.0
    (sym (value_at_end s vs rest end (T.Atom w) sat leads within is) ∙ here.1))

-- no rest is a tuple
pub rest_is_no_tuple : (s : State) (id rest end : ℕ) (values : List Value) (ids : List ℕ) →
    Keeps s → IsReadTo s id rest values → Leads s.notes rest end → end < length s.terms →
    T.Tuple ids ≡ term_at s end → ⊥
rest_is_no_tuple s id rest end values ids keeps read leads within is =
    tuple_is_not_list s rest end ids keeps leads within is (rest_is_list s id rest values read)
