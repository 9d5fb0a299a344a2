-- What occurs in a term is no larger, so that no term is within itself.
use Rattle.std.proofs.Common.{◌≡◌, ◌⊎◌, ◌<◌, ◌≤◌, ℕ, zero, suc, List, refl, arith, length, sym}
use Rattle.std.proofs.Common.{◌∙◌, ap, subst}
use Rattle.std.specs.Prelude.{Some, None}
use Rattle.std.specs.List.{Contains}
use Rattle.std.proofs.lemmas.Option.{same_Some}
use Rattle.rn_value.specs.declared.value.Value.{Value}
use Rattle.rn_term.specs.Stores.{State, term_at, link_of, Leads}
use Rattle.rn_term.specs.Assignments.{value_at, Satisfies, Keeps}
use Rattle.rn_term.specs.Occurring.{parts_of, Occurs, HasFree}
use Rattle.rn_term.specs.GroundTerms.{IsGround}
use Rattle.rn_term.proofs.ValueSizes.{size_of}
use Rattle.rn_term.proofs.LinkLemmas.{none_or_some}
use Rattle.rn_term.proofs.AssignmentLemmas.{link_within}
use Rattle.rn_term.proofs.Ranks.{IsWithin, all_within}
use Rattle.rn_term.proofs.Parts.{no_parts, whole_within, part_below}
use Rattle.rn_term.proofs.PartSizes.{part_smaller}
use Rattle.rn_term.proofs.FreeOrGround.{free_or_ground_at}

-- what a store's ids are built of, and what they were bound to, are ids of it
pub part_within : (s : State) → Keeps s → (id part : ℕ) →
    Contains (parts_of (term_at s id)) part → part < length s.terms
part_within s keeps id part is =
    let small : id < length s.terms = whole_within s id part is in
    let below : part < id = part_below s keeps id part is in
    omega arith

pub occurring_within : (s : State) → Keeps s → (id whole : ℕ) → whole < length s.terms →
    Occurs s id whole → id < length s.terms
occurring_within s keeps id _ within Occurs.here = within
occurring_within s keeps id whole within (Occurs.in_part {part = part} is rest) =
    occurring_within s keeps id part (part_within s keeps whole part is) rest
occurring_within s keeps id whole within (Occurs.in_bound {to = to} is rest) =
    occurring_within s keeps id to (link_within s keeps whole to is).1 rest

pub occurs-through : (s : State) (a b c : ℕ) → Occurs s a b → Occurs s b c → Occurs s a c
occurs-through s a b _ low Occurs.here = low
occurs-through s a b c low (Occurs.in_part {part = part} is rest) =
    Occurs.in_part is (occurs-through s a b part low rest)
occurs-through s a b c low (Occurs.in_bound {to = to} is rest) =
    Occurs.in_bound is (occurs-through s a b to low rest)

-- an id to which links lead occurs in the one from which they do
pub leads_occurs : (s : State) (id end : ℕ) → Leads s.notes id end → Occurs s end id
leads_occurs s id _ Leads.here = Occurs.here
leads_occurs s id end (Leads.next {to = to} is rest) =
    Occurs.in_bound is (leads_occurs s to end rest)

-- no id is bound and unbound
unbound_is_not_bound : {B : Type 0} (s : State) (id to : ℕ) → link_of s.notes id ≡ None →
    link_of s.notes id ≡ Some to → B
unbound_is_not_bound s id to none is = none_or_some to (sym none ∙ is)

-- an id that was bound is bound to one id
one_link : (s : State) (id a b : ℕ) → link_of s.notes id ≡ Some a →
    link_of s.notes id ≡ Some b → a ≡ b
one_link s id a b first second = same_Some a b (sym first ∙ second)

-- what occurs in a variable that was bound occurs in what it was bound to, or is the variable
occurs_past : (s : State) (var id to : ℕ) → Keeps s → link_of s.notes var ≡ None →
    link_of s.notes id ≡ Some to → Occurs s var id → Occurs s var to
occurs_past s var _ to keeps unbound is Occurs.here = unbound_is_not_bound s var to unbound is
occurs_past s var id to keeps unbound is (Occurs.in_part {part = part} there rest) =
    absurd (no_parts s id part (link_within s keeps id to is).2 there)
occurs_past s var id to keeps unbound is (Occurs.in_bound {to = other} there rest) =
    subst (λ x. Occurs s var x) (one_link s id other to there is) rest

-- what occurs in a term that leads to another occurs there, where it isn't on the way
pub occurs_at_end : (s : State) → Keeps s → (var id end : ℕ) → link_of s.notes var ≡ None →
    Leads s.notes id end → Occurs s var id → Occurs s var end
occurs_at_end s keeps var id _ unbound Leads.here is = is
occurs_at_end s keeps var id end unbound (Leads.next {to = to} there rest) is =
    occurs_at_end s keeps var to end unbound rest (occurs_past s var id to keeps unbound there is)

-- what an unbound id leads to is that id
pub end_is_here : (s : State) (id end : ℕ) → link_of s.notes id ≡ None → Leads s.notes id end → id ≡ end
end_is_here s id _ none Leads.here = refl
end_is_here s id end none (Leads.next {to = to} is rest) = unbound_is_not_bound s id to none is

-- what a bound id leads to, if it isn't bound itself, is that to which the id was bound leads
pub leads_past : (s : State) (id to end : ℕ) → link_of s.notes end ≡ None →
    link_of s.notes id ≡ Some to → Leads s.notes id end → Leads s.notes to end
leads_past s id to _ none is Leads.here = unbound_is_not_bound s id to none is
leads_past s id to end none is (Leads.next {to = other} there rest) =
    subst (λ x. Leads s.notes x end) (one_link s id other to there is) rest

-- links lead to one end
pub one_end : (s : State) (id a b : ℕ) → Leads s.notes id a → Leads s.notes id b →
    link_of s.notes a ≡ None → link_of s.notes b ≡ None → a ≡ b
one_end s id _ b Leads.here second no_first no_second = end_is_here s id b no_first second
one_end s id a b (Leads.next {to = to} is rest) second no_first no_second =
    one_end s to a b rest (leads_past s id to b no_second is second) no_first no_second

pub occurring_smaller : (s : State) (vs : List Value) → Keeps s → Satisfies s vs →
    (id whole : ℕ) → Occurs s id whole → size_of (value_at vs id) ≤ size_of (value_at vs whole)
occurring_smaller s vs keeps sat id _ Occurs.here = omega arith
occurring_smaller s vs keeps sat id whole (Occurs.in_part {part = part} is rest) =
    let below : size_of (value_at vs part) < size_of (value_at vs whole) =
    part_smaller s vs keeps sat whole part is in
    omega (arith, occurring_smaller s vs keeps sat id part rest)
occurring_smaller s vs keeps sat id whole (Occurs.in_bound {to = to} is rest) =
    subst (λ v. size_of (value_at vs id) ≤ size_of v) (sym (sat.links whole to is))
    (occurring_smaller s vs keeps sat id to rest)

-- no assignment gives one value to a variable and to a term in which it occurs
pub no_circle : (s : State) (vs : List Value) → Keeps s → Satisfies s vs → (var to : ℕ) →
    (var ≡ to → ⊥) → link_of s.notes to ≡ None → Occurs s var to →
    value_at vs var ≡ value_at vs to → ⊥
no_circle s vs keeps sat var _ apart unbound Occurs.here same = apart refl
no_circle s vs keeps sat var to apart unbound (Occurs.in_part {part = part} is rest) same =
    let below : size_of (value_at vs part) < size_of (value_at vs to) =
    part_smaller s vs keeps sat to part is in
    omega (arith, occurring_smaller s vs keeps sat var part rest, ap size_of same)
no_circle s vs keeps sat var to apart unbound (Occurs.in_bound {to = next} is rest) same =
    unbound_is_not_bound s to next unbound is

-- a property that a term has if its parts and what it was bound to have it, all terms have
pub by_parts : (s : State) → Keeps s → (P : ℕ → Type 0) →
    ((id : ℕ) → id < length s.terms → ((p : ℕ) → Contains (parts_of (term_at s id)) p → P p) →
    ((to : ℕ) → link_of s.notes id ≡ Some to → P to) → P id) →
    (id : ℕ) → id < length s.terms → P id
by_parts s keeps P step id within =
    so_deep (length s.terms) id within (all_within s keeps id within)
  where
    so_deep : (n : ℕ) (id : ℕ) → id < length s.terms → IsWithin s n id → P id
    so_deep zero id within deep = absurd deep
    so_deep (suc n) id within deep = step id within
        (λ p is. so_deep n p (part_within s keeps id p is) (deep.0 p is))
        (λ to is. so_deep n to (link_within s keeps id to is).1 (deep.1 to is))

-- a term has a free variable, or is ground
pub free_or_ground : (s : State) → Keeps s → (id : ℕ) → id < length s.terms →
    HasFree s id ⊎ IsGround s id
free_or_ground s keeps id within =
    by_parts s keeps (λ x. HasFree s x ⊎ IsGround s x) (free_or_ground_at s) id within
