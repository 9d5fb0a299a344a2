-- How many steps a walk through a term takes at most, each shared term counted each time.
use Rattle.std.proofs.Common.{◌≡◌, ◌<◌, ◌≤◌, ◌+◌, ℕ, zero, suc, List, [], ◌∷◌, ◌++◌, refl, sym}
use Rattle.std.proofs.Common.{◌∙◌, ap, subst, arith, get_or, length}
use Rattle.std.specs.Prelude.{Option, Some, None, option_to_list}
use Rattle.std.proofs.lemmas.List.Elements.{Contains-get_or}
use Rattle.rn_term.specs.Stores.{State, term_at, link_of, Leads}
use Rattle.rn_term.specs.Assignments.{Keeps}
use Rattle.rn_term.specs.Occurring.{parts_of}
use Rattle.rn_term.proofs.AssignmentLemmas.{link_within}
use Rattle.rn_term.proofs.Ranks.{IsWithin, all_within}

-- the sum of the numbers that a function gives the elements of a list
abbrev pub total_of : (ℕ → ℕ) → List ℕ → ℕ
total_of f [] = 0
total_of f (id ∷ ids) = f id + total_of f ids

pub total_of-append : (f : ℕ → ℕ) (ids others : List ℕ) →
    total_of f (ids ++ others) ≡ total_of f ids + total_of f others
total_of-append f [] others = omega arith
total_of-append f (id ∷ ids) others = omega (arith, total_of-append f ids others)

same_total : (f g : ℕ → ℕ) (ids : List ℕ) →
    ((k : ℕ) → k < length ids → f (get_or ids k 0) ≡ g (get_or ids k 0)) →
    total_of f ids ≡ total_of g ids
same_total f g [] same = refl
same_total f g (id ∷ ids) same =
    ap (λ n. n + total_of f ids) (same 0 (omega arith))
    ∙ ap (λ n. g id + n)
    (same_total f g ids (λ k small. same (suc k) (omega (arith, small))))

-- the steps through a term, as far as so many levels lead
abbrev pub bulk_in : State → ℕ → ℕ → ℕ
bulk_in s zero id = 0
bulk_in s (suc n) id =
    suc (total_of (bulk_in s n) (parts_of (term_at s id))
    + total_of (bulk_in s n) (option_to_list (link_of s.notes id)))

-- the steps through a term of a store
abbrev pub bulk : State → ℕ → ℕ
bulk s id = bulk_in s (length s.terms) id

same_link_part : (f g : ℕ → ℕ) (link : Option ℕ) → ((to : ℕ) → link ≡ Some to → f to ≡ g to) →
    total_of f (option_to_list link) ≡ total_of g (option_to_list link)
same_link_part f g None same = refl
same_link_part f g (Some to) same = ap (λ n. n + 0) (same to refl)

-- more levels than a term is deep don't lead further
stays : (s : State) (n id : ℕ) → IsWithin s n id → bulk_in s (suc n) id ≡ bulk_in s n id
stays s zero id is = absurd is
stays s (suc n) id is =
    let parts : total_of (bulk_in s (suc n)) (parts_of (term_at s id))
    ≡ total_of (bulk_in s n) (parts_of (term_at s id)) =
    same_total (bulk_in s (suc n)) (bulk_in s n) (parts_of (term_at s id))
    (λ k small. stays s n (get_or (parts_of (term_at s id)) k 0)
    (is.0 (get_or (parts_of (term_at s id)) k 0)
    (Contains-get_or (parts_of (term_at s id)) k 0 small))) in
    let bound : total_of (bulk_in s (suc n)) (option_to_list (link_of s.notes id))
    ≡ total_of (bulk_in s n) (option_to_list (link_of s.notes id)) =
    same_link_part (bulk_in s (suc n)) (bulk_in s n) (link_of s.notes id)
    (λ to link. stays s n to (is.1 to link)) in
    omega (arith, parts, bound)

pub bulk-is : (s : State) → Keeps s → (id : ℕ) → id < length s.terms →
    bulk s id ≡ suc (total_of (bulk s) (parts_of (term_at s id))
    + total_of (bulk s) (option_to_list (link_of s.notes id)))
bulk-is s keeps id within = sym (stays s (length s.terms) id (all_within s keeps id within))

-- a term takes more steps than its parts together
pub bulk-parts : (s : State) → Keeps s → (id : ℕ) → id < length s.terms →
    total_of (bulk s) (parts_of (term_at s id)) < bulk s id
bulk-parts s keeps id within = omega (arith, bulk-is s keeps id within)

bulk-bound : (s : State) → Keeps s → (id to : ℕ) → id < length s.terms →
    link_of s.notes id ≡ Some to → bulk s to ≤ bulk s id
bulk-bound s keeps id to within is = omega (arith, bulk-is s keeps id within, there) where
  there : bulk s to ≤ total_of (bulk s) (option_to_list (link_of s.notes id))
  there = subst (λ o. bulk s to ≤ total_of (bulk s) (option_to_list o)) (sym is) (omega arith)

-- and no fewer than that to which links lead
pub bulk-leads : (s : State) → Keeps s → (id end : ℕ) → id < length s.terms →
    Leads s.notes id end → bulk s end ≤ bulk s id
bulk-leads s keeps id end within (Leads.here {id = _}) = omega arith
bulk-leads s keeps id end within (Leads.next {to = after} first more) =
    omega (
      arith,
      bulk-bound s keeps id after within first,
      bulk-leads s keeps after end (link_within s keeps id after first).1 more,
    )
