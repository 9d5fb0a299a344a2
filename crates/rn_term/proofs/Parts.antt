-- The parts of terms.
use Rattle.std.proofs.Common.{◌≡◌, ⊎_elim, ◌<◌, ℕ, suc, List, [], ◌∷◌, refl, arith, length, map}
use Rattle.std.proofs.Common.{◌∙◌, ap, subst, get_or}
use Rattle.std.specs.Prelude.{All}
use Rattle.std.specs.List.{Contains}
use Rattle.std.proofs.lemmas.Bool.{cases_lt}
use Rattle.std.proofs.lemmas.List.{get_or_past, get_or-map}
use Rattle.std.proofs.lemmas.List.Elements.{All-contains, All-nil, All-push}
use Rattle.rn_value.specs.declared.value.Value.{Value}
use Rattle.rn_term.specs.declared.term.Term.{Term}
use Rattle.rn_term.specs.declared.term.Term.TheVariants as T
use Rattle.rn_term.specs.Stores.{State, term_at, IsBuiltBelow}
use Rattle.rn_term.specs.Assignments.{Keeps}
use Rattle.rn_term.specs.Occurring.{parts_of}

-- a variable has no parts
pub no_parts : (s : State) (id part : ℕ) → term_at s id ≡ T.Free →
    Contains (parts_of (term_at s id)) part → ⊥
no_parts s id part free is =
    let none : Contains [] part = subst (λ t. Contains (parts_of t) part) free is in
    omega (arith, none.1)

-- what has parts is an id of the store
pub whole_within : (s : State) (id part : ℕ) → Contains (parts_of (term_at s id)) part →
    id < length s.terms
whole_within s id part is = ⊎_elim
    (λ small. small)
    (λ past. absurd (no_parts s id part (get_or_past s.terms id T.Free past) is))
    (cases_lt id (length s.terms))

-- a term that is built below an id has its parts there
pub parts_below : (n : ℕ) (t : Term) → IsBuiltBelow n t → All (λ p. p < n) (parts_of t)
parts_below n T.Free built = All-nil (λ p. p < n)
parts_below n (T.Atom v) built = All-nil (λ p. p < n)
parts_below n (T.Tuple ids) built = built
parts_below n (T.List ids) built = built
parts_below n (T.Cons ids tail) built = All-push (λ p. p < n) ids tail built.0 built.2

-- a part stands before the term
pub part_below : (s : State) → Keeps s → (id part : ℕ) →
    Contains (parts_of (term_at s id)) part → part < id
part_below s keeps id part is = All-contains (λ p. p < id) (parts_of (term_at s id)) part
    (parts_below id (term_at s id) (keeps.built id (whole_within s id part is))) is

-- the value of an element of a list is among the values of its elements
pub value_among : (f : ℕ → Value) (ids : List ℕ) (part : ℕ) (d : Value) →
    (is : Contains ids part) → get_or (map f ids) is.0 d ≡ f part
value_among f ids part d is = get_or-map f ids is.0 part d is.1 ∙ ap f is.2

-- functions that agree on the elements of a list give it one list of values
pub same_over : (f g : ℕ → Value) (ids : List ℕ) → ((p : ℕ) → Contains ids p → f p ≡ g p) →
    map f ids ≡ map g ids
same_over f g [] same = refl
same_over f g (id ∷ ids) same =
    ap (λ v. v ∷ map f ids) (same id (0, omega arith, refl))
    ∙ ap (λ vs. g id ∷ vs)
    (same_over f g ids (λ p is. same p (suc is.0, omega (arith, is.1), is.2)))
