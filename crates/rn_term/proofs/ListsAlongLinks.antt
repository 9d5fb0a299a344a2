-- Ids whose values are lists, as links lead from one to another.
use Rattle.std.proofs.Common.{◌≡◌, ◌<◌, ℕ, zero, suc, List, ◌++◌, refl, length, map, sym, ◌∙◌}
use Rattle.std.specs.Prelude.{Option, Some, None, ⊤}
use Rattle.rn_value.specs.declared.value.Value.{Value}
use Rattle.rn_term.specs.declared.term.Term.{Term}
use Rattle.rn_term.specs.declared.term.Term.TheVariants as T
use Rattle.rn_term.specs.Stores.{State, term_at, link_of, Leads}
use Rattle.rn_term.specs.Assignments.{value_at, HasValue, Satisfies, Keeps}
use Rattle.rn_term.specs.Occurring.{IsFree}
use Rattle.rn_term.specs.Forcing.{IsList}
use Rattle.rn_term.proofs.AssignmentLemmas.{link_within}
use Rattle.rn_term.proofs.Ranks.{IsWithin}
use Rattle.rn_value.proofs.Variants.{tuple_is_no_list}

-- an atom has its value, and what names a list has a list
abbrev pub HasItsKind : Term → Value → Type 0
HasItsKind (T.Atom w) v = v ≡ w
HasItsKind (T.List ids) v = IsList v
HasItsKind (T.Cons ids tail) v = IsList v
HasItsKind _ v = ⊤

-- values that atoms, lists and links of a store allow
pub record FollowsKinds (s : State) (g : ℕ → Value) : Type 0 where
  pub kinds : (id : ℕ) → id < length s.terms → link_of s.notes id ≡ None →
      HasItsKind (term_at s id) (g id)
  pub links : (id to : ℕ) → link_of s.notes id ≡ Some to → g id ≡ g to

kind_of_value : (vs : List Value) (t : Term) (v : Value) → HasValue vs t v → HasItsKind t v
kind_of_value vs T.Free v has = tt
kind_of_value vs (T.Atom w) v has = has
kind_of_value vs (T.Tuple ids) v has = tt
kind_of_value vs (T.List ids) v has = (map (value_at vs) ids, has)
kind_of_value vs (T.Cons ids tail) v has = (map (value_at vs) ids ++ has.0, has.2)

pub satisfying_follows : (s : State) (vs : List Value) → Satisfies s vs →
    FollowsKinds s (value_at vs)
satisfying_follows s vs sat = record {
  kinds = λ id within unbound.
      kind_of_value vs (term_at s id) (value_at vs id) (sat.terms id within);
  links = sat.links;
}

-- a term that has a list under an assignment has its kind only by a list, a free variable aside
list_at_end : (ws : List Value) (t : Term) (v w : Value) → HasValue ws t w → IsList w →
    HasItsKind t v → (t ≡ T.Free → IsList v) → IsList v
list_at_end ws T.Free v w has is kind free = free refl
list_at_end ws (T.Atom x) v w has is kind free = (is.0, kind ∙ sym has ∙ is.1)
list_at_end ws (T.Tuple ids) v w has is kind free =
    absurd (tuple_is_no_list (map (value_at ws) ids) is.0 (sym has ∙ is.1))
list_at_end ws (T.List ids) v w has is kind free = kind
list_at_end ws (T.Cons ids tail) v w has is kind free = kind

-- An id to which an assignment gives a list has a list by other values too, where the free variable
-- to which its links lead, if any, has one.
pub list_along_links : (s : State) (g : ℕ → Value) (ws : List Value) (n id : ℕ) → Keeps s →
    FollowsKinds s g → Satisfies s ws → IsWithin s n id → id < length s.terms →
    IsList (value_at ws id) →
    ((var : ℕ) → Leads s.notes id var → IsFree s var → IsList (g var)) → IsList (g id)
list_along_links s g ws zero id keeps follows sat deep within is lists = absurd deep
list_along_links s g ws (suc n) id keeps follows sat deep within is lists =
    split (λ to linked. list_along_links s g ws n to keeps follows sat
    (deep.1 to linked) (link_within s keeps id to linked).1
    (is.0, sym (sat.links id to linked) ∙ is.1)
    (λ var leads free. lists var (Leads.next linked leads) free))
    (link_of s.notes id) refl
  where
    split : ((to : ℕ) → link_of s.notes id ≡ Some to → IsList (g to)) →
        (o : Option ℕ) → link_of s.notes id ≡ o → IsList (g id)
    split more (Some to) linked =
        let list = more to linked in (list.0, follows.links id to linked ∙ list.1)
    split more None unbound =
        list_at_end ws (term_at s id) (g id) (value_at ws id) (sat.terms id within) is
        (follows.kinds id within unbound)
        (λ free. lists id Leads.here
        (record { within = within; variable = free; unbound = unbound }))
