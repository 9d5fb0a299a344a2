-- How far a term extends: its length and its depth in one number, by which recursions end.
use Rattle.std.proofs.Common.{◌≡◌, ◌<◌, ◌≤◌, ◌+◌, ℕ, zero, suc, max, List, [], ◌∷◌, ◌++◌, length}
use Rattle.std.proofs.Common.{get_or, refl, sym, ◌∙◌, ap, subst, arith, length-append}
use Rattle.std.specs.Prelude.{Option, Some, None, option_to_list}
use Rattle.std.specs.List.{Contains}
use Rattle.std.proofs.lemmas.List.Elements.{Contains-get_or}
use Rattle.rn_term.specs.declared.term.Term.{Term}
use Rattle.rn_term.specs.declared.term.Term.TheVariants as T
use Rattle.rn_term.specs.Stores.{State, term_at, link_of}
use Rattle.rn_term.specs.Assignments.{Keeps}
use Rattle.rn_term.specs.Occurring.{parts_of}
use Rattle.rn_term.proofs.Ranks.{IsWithin, all_within}

-- the greatest of the numbers that a function gives the elements of a list
abbrev pub greatest : (ℕ → ℕ) → List ℕ → ℕ
greatest f [] = 0
greatest f (id ∷ ids) = max (f id) (greatest f ids)

-- no element's number is greater than the greatest
pub greatest-part : (f : ℕ → ℕ) (ids : List ℕ) (k d : ℕ) → k < length ids →
    f (get_or ids k d) ≤ greatest f ids
greatest-part f [] k d within = absurd (let no : ⊥ = omega (arith, within) in no)
greatest-part f (id ∷ ids) zero d within = omega arith
greatest-part f (id ∷ ids) (suc k) d within =
    omega (arith, greatest-part f ids k d (omega (arith, within)))

-- the greatest of joined lists is the greater of those of the two
pub greatest-append : (f : ℕ → ℕ) (ids others : List ℕ) →
    greatest f (ids ++ others) ≡ max (greatest f ids) (greatest f others)
greatest-append f [] others = omega arith
greatest-append f (id ∷ ids) others = omega (arith, greatest-append f ids others)

-- the greatest of two functions' numbers are one where all are
same_greatest : (f g : ℕ → ℕ) (ids : List ℕ) →
    ((k : ℕ) → k < length ids → f (get_or ids k 0) ≡ g (get_or ids k 0)) →
    greatest f ids ≡ greatest g ids
same_greatest f g [] same = refl
same_greatest f g (id ∷ ids) same =
    ap (λ n. max n (greatest f ids)) (same 0 (omega arith))
    ∙ ap (λ n. max (g id) n)
    (same_greatest f g ids (λ k small. same (suc k) (omega (arith, small))))

-- the extent of a term, as far as so many steps lead
abbrev pub extent_in : State → ℕ → ℕ → ℕ
extent_in s zero id = 0
extent_in s (suc n) id =
    suc (length (parts_of (term_at s id)) +
    greatest (extent_in s n) (parts_of (term_at s id) ++ option_to_list (link_of s.notes id)))

-- the extent of a term of a store
abbrev pub extent : State → ℕ → ℕ
extent s id = extent_in s (length s.terms) id

same_link_part : (f g : ℕ → ℕ) (link : Option ℕ) → ((to : ℕ) → link ≡ Some to → f to ≡ g to) →
    greatest f (option_to_list link) ≡ greatest g (option_to_list link)
same_link_part f g None same = refl
same_link_part f g (Some to) same = ap (λ n. max n 0) (same to refl)

same_steps : (f g : ℕ → ℕ) (ids : List ℕ) (link : Option ℕ) →
    ((p : ℕ) → Contains ids p → f p ≡ g p) → ((to : ℕ) → link ≡ Some to → f to ≡ g to) →
    greatest f (ids ++ option_to_list link) ≡ greatest g (ids ++ option_to_list link)
same_steps f g ids link parts bound = greatest-append f ids (option_to_list link)
    ∙ ap (λ n. max n (greatest f (option_to_list link)))
    (same_greatest f g ids (λ k small. parts (get_or ids k 0) (Contains-get_or ids k 0 small)))
    ∙ ap (λ n. max (greatest g ids) n) (same_link_part f g link bound)
    ∙ sym (greatest-append g ids (option_to_list link))

-- more steps than a term is deep don't lead further
stays : (s : State) (n id : ℕ) → IsWithin s n id → extent_in s (suc n) id ≡ extent_in s n id
stays s zero id is = absurd is
stays s (suc n) id is =
    ap (λ m. suc (length (parts_of (term_at s id)) + m))
    (same_steps (extent_in s (suc n)) (extent_in s n) (parts_of (term_at s id))
    (link_of s.notes id)
    (λ p has. stays s n p (is.0 p has)) (λ to link. stays s n to (is.1 to link)))

-- an extent by those of the parts and of what the id was bound to
pub extent-is : (s : State) → Keeps s → (id : ℕ) → id < length s.terms →
    extent s id ≡ suc (length (parts_of (term_at s id)) +
    greatest (extent s) (parts_of (term_at s id) ++ option_to_list (link_of s.notes id)))
extent-is s keeps id within =
    sym (stays s (length s.terms) id (all_within s keeps id within))

-- the number of a term's parts and the greatest of their extents are together below its own
pub extent-parts : (s : State) → Keeps s → (id : ℕ) → id < length s.terms →
    length (parts_of (term_at s id)) + greatest (extent s) (parts_of (term_at s id)) < extent s id
extent-parts s keeps id within = omega (
  arith,
  extent-is s keeps id within,
  greatest-append (extent s) (parts_of (term_at s id)) (option_to_list (link_of s.notes id)),
)

pub extent-bound : (s : State) → Keeps s → (id to : ℕ) → id < length s.terms →
    link_of s.notes id ≡ Some to → extent s to < extent s id
extent-bound s keeps id to within is = omega (
  arith,
  extent-is s keeps id within,
  greatest-append (extent s) (parts_of (term_at s id)) (option_to_list (link_of s.notes id)),
  there,
)
  where
    there : extent s to ≤ greatest (extent s) (option_to_list (link_of s.notes id))
    there = subst (λ o. extent s to ≤ greatest (extent s) (option_to_list o)) (sym is) (omega arith)

-- a tail extends less than the list less its elements
pub extent-tail : (s : State) → Keeps s → (id : ℕ) (ids : List ℕ) (tail : ℕ) →
    id < length s.terms →
    term_at s id ≡ T.Cons ids tail → length ids + extent s tail < extent s id
extent-tail s keeps id ids tail within is =
    omega (arith, whole, length-append ids (tail ∷ []), greatest-append (extent s) ids (tail ∷ []))
  where
    whole : length (ids ++ tail ∷ []) + greatest (extent s) (ids ++ tail ∷ []) < extent s id
    whole =
        let P : Term → Type 0 =
        λ t. length (parts_of t) + greatest (extent s) (parts_of t) < extent s id in
        subst P is (extent-parts s keeps id within)
