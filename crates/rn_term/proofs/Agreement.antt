-- Where assignments agree.
use Rattle.std.proofs.Common.{◌≡◌, ⊎_elim, ◌<◌, ℕ, List, [], ◌∷◌, ◌++◌, refl, arith}
use Rattle.std.proofs.Common.{length, map, sym, ◌∙◌, ap, get_or, take, drop, take_at, drop_at}
use Rattle.std.specs.Prelude.{Option, Some, None}
use Rattle.std.specs.List.{Contains}
use Rattle.std.proofs.lemmas.List.{length-map}
use Rattle.std.proofs.lemmas.List.Elements.{Contains-append_left, Contains-push}
use Rattle.std.proofs.lemmas.List.Elements.{Contains-push_cases}
use Rattle.rn_value.specs.declared.value.Value.{Value}
use Rattle.rn_value.specs.declared.value.Value.TheVariants as Value
use Rattle.rn_term.specs.declared.term.Term.{Term}
use Rattle.rn_term.specs.declared.term.Term.TheVariants as T
use Rattle.rn_term.specs.Stores.{State, term_at, link_of, Leads}
use Rattle.rn_term.specs.Assignments.{value_at, HasValue, Satisfies, Keeps}
use Rattle.rn_term.specs.Occurring.{parts_of, Occurs, IsFree}
use Rattle.rn_value.proofs.Variants.{same_parts_of_tuples, same_parts_of_lists}
use Rattle.rn_term.proofs.AssignmentLemmas.{link_within}
use Rattle.rn_term.proofs.Parts.{same_over, value_among}
use Rattle.rn_term.proofs.Occurrences.{part_within, by_parts}

-- links lead to ids with the same value
pub leads-same : (s : State) (vs : List Value) (id end : ℕ) → Satisfies s vs →
    Leads s.notes id end → value_at vs id ≡ value_at vs end
leads-same s vs id _ sat Leads.here = refl
leads-same s vs id end sat (Leads.next {to = to} is rest) =
    sat.links id to is ∙ leads-same s vs to end sat rest

-- a term whose parts have one value each under both assignments has one value
same_built : (vs ws : List Value) (t : Term) (v w : Value) → (t ≡ T.Free → v ≡ w) →
    HasValue vs t v → HasValue ws t w →
    ((p : ℕ) → Contains (parts_of t) p → value_at vs p ≡ value_at ws p) → v ≡ w
same_built vs ws T.Free v w free has other same = free refl
same_built vs ws (T.Atom x) v w free has other same = has ∙ sym other
same_built vs ws (T.Tuple ids) v w free has other same =
    has ∙ ap (λ xs. Value.Tuple xs) (same_over (value_at vs) (value_at ws) ids same) ∙ sym other
same_built vs ws (T.List ids) v w free has other same =
    has ∙ ap (λ xs. Value.List xs) (same_over (value_at vs) (value_at ws) ids same) ∙ sym other
same_built vs ws (T.Cons ids tail) v w free has other same =
    has.2
    ∙ ap (λ xs. Value.List (xs ++ has.0)) (same_over (value_at vs) (value_at ws) ids
    (λ p is. same p (Contains-append_left ids (tail ∷ []) p is)))
    ∙ ap (λ rest. Value.List (map (value_at ws) ids ++ rest)) (same_parts_of_lists has.0 other.0
    (sym has.1 ∙ same tail (Contains-push ids tail) ∙ other.1))
    ∙ sym other.2

-- the same of an id, bound or not
same_at : (s : State) (vs ws : List Value) → Satisfies s vs → Satisfies s ws →
    (id : ℕ) → id < length s.terms → (o : Option ℕ) → link_of s.notes id ≡ o →
    (IsFree s id → value_at vs id ≡ value_at ws id) →
    ((p : ℕ) → Contains (parts_of (term_at s id)) p → value_at vs p ≡ value_at ws p) →
    ((to : ℕ) → link_of s.notes id ≡ Some to → value_at vs to ≡ value_at ws to) →
    value_at vs id ≡ value_at ws id
same_at s vs ws sat other id within None none free parts bound =
    same_built vs ws (term_at s id) (value_at vs id) (value_at ws id)
    (λ is. free (record { within = within; variable = is; unbound = none }))
    (sat.terms id within) (other.terms id within) parts
same_at s vs ws sat other id within (Some to) is free parts bound =
    sat.links id to is ∙ bound to is ∙ sym (other.links id to is)

-- assignments that give one value to each free variable that occurs in a term give it one value
pub agree : (s : State) (vs ws : List Value) → Keeps s → Satisfies s vs → Satisfies s ws →
    (id : ℕ) → id < length s.terms →
    ((var : ℕ) → IsFree s var → Occurs s var id → value_at vs var ≡ value_at ws var) →
    value_at vs id ≡ value_at ws id
agree s vs ws keeps sat other =
    by_parts s keeps
    (λ id. ((var : ℕ) → IsFree s var → Occurs s var id → value_at vs var ≡ value_at ws var) →
    value_at vs id ≡ value_at ws id)
    (λ id within parts bound same. same_at s vs ws sat other id within (link_of s.notes id) refl
    (λ free. same id free Occurs.here)
    (λ p is. parts p is (λ var free there. same var free (Occurs.in_part is there)))
    (λ to is. bound to is (λ var free there. same var free (Occurs.in_bound is there))))

-- prefixes of one length of two lists that are equal are equal, and so are the rests
same_prefixes : {A : Type 0} (xs ys us ws : List A) → length xs ≡ length us →
    xs ++ ys ≡ us ++ ws → xs ≡ us
same_prefixes xs ys us ws long is =
    sym (take_at xs ys (length xs) refl) ∙ ap (take (length xs)) is
    ∙ take_at us ws (length xs) (sym long)

same_rests : {A : Type 0} (xs ys us ws : List A) → length xs ≡ length us →
    xs ++ ys ≡ us ++ ws → ys ≡ ws
same_rests xs ys us ws long is =
    sym (drop_at xs ys (length xs) refl) ∙ ap (drop (length xs)) is
    ∙ drop_at us ws (length xs) (sym long)

-- functions that give a list one list of values give each element one value
same_element : (f g : ℕ → Value) (ids : List ℕ) (p : ℕ) → map f ids ≡ map g ids →
    Contains ids p → f p ≡ g p
same_element f g ids p same is =
    sym (value_among f ids p (f p) is) ∙ ap (λ xs. get_or xs is.0 (f p)) same
    ∙ value_among g ids p (f p) is

-- a term that has one value under both assignments has parts with one value each
same_part : (vs ws : List Value) (t : Term) (v w : Value) (p : ℕ) → HasValue vs t v →
    HasValue ws t w → v ≡ w → Contains (parts_of t) p → value_at vs p ≡ value_at ws p
same_part vs ws T.Free v w p has other same is = absurd (omega (arith, is.1))
same_part vs ws (T.Atom x) v w p has other same is = absurd (omega (arith, is.1))
same_part vs ws (T.Tuple ids) v w p has other same is =
    same_element (value_at vs) (value_at ws) ids p
    (same_parts_of_tuples (map (value_at vs) ids) (map (value_at ws) ids)
    (sym has ∙ same ∙ other)) is
same_part vs ws (T.List ids) v w p has other same is =
    same_element (value_at vs) (value_at ws) ids p
    (same_parts_of_lists (map (value_at vs) ids) (map (value_at ws) ids)
    (sym has ∙ same ∙ other)) is
same_part vs ws (T.Cons ids tail) v w p has other same is = ⊎_elim
    (λ prefix. same_element (value_at vs) (value_at ws) ids p
    (same_prefixes (map (value_at vs) ids) has.0 (map (value_at ws) ids) other.0 long joined) prefix)
    (λ end. sym (ap (value_at vs) end) ∙ has.1
    ∙ ap (λ xs. Value.List xs)
    (same_rests (map (value_at vs) ids) has.0 (map (value_at ws) ids) other.0 long joined)
    ∙ sym other.1 ∙ ap (value_at ws) end)
    (Contains-push_cases ids tail p is)
  where
    long : length (map (value_at vs) ids) ≡ length (map (value_at ws) ids)
    long = length-map ids (value_at vs) ∙ sym (length-map ids (value_at ws))

    joined : map (value_at vs) ids ++ has.0 ≡ map (value_at ws) ids ++ other.0
    joined = same_parts_of_lists (map (value_at vs) ids ++ has.0)
        (map (value_at ws) ids ++ other.0) (sym has.2 ∙ same ∙ other.2)

-- assignments that give a term one value give each part one value
pub equal_parts : (s : State) (vs ws : List Value) → Satisfies s vs → Satisfies s ws →
    (id part : ℕ) → id < length s.terms → value_at vs id ≡ value_at ws id →
    Contains (parts_of (term_at s id)) part → value_at vs part ≡ value_at ws part
equal_parts s vs ws sat other id part within same is =
    same_part vs ws (term_at s id) (value_at vs id) (value_at ws id) part (sat.terms id within)
    (other.terms id within) same is

-- and all that occurs in it
pub equal_occurring : (s : State) (vs ws : List Value) → Keeps s → Satisfies s vs →
    Satisfies s ws → (id whole : ℕ) → whole < length s.terms → Occurs s id whole →
    value_at vs whole ≡ value_at ws whole → value_at vs id ≡ value_at ws id
equal_occurring s vs ws keeps sat other id _ within Occurs.here same = same
equal_occurring s vs ws keeps sat other id whole within (Occurs.in_part {part = p} is rest) same =
    equal_occurring s vs ws keeps sat other id p (part_within s keeps whole p is) rest
    (equal_parts s vs ws sat other whole p within same is)
equal_occurring s vs ws keeps sat other id whole within (Occurs.in_bound {to = to} is rest) same =
    equal_occurring s vs ws keeps sat other id to (link_within s keeps whole to is).1 rest
    (sym (sat.links whole to is) ∙ same ∙ other.links whole to is)
