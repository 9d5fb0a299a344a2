-- The terms of a store have ranks: what occurs in a term has a lower one.
use Rattle.std.proofs.Common.{◌≡◌, ⊎_elim, ◌<◌, ◌≤◌, ◌+◌, ◌*◌, ◌-◌, min, ℕ, zero, suc, List}
use Rattle.std.proofs.Common.{length, arith, sym, subst, mul_comm}
use Rattle.std.specs.Prelude.{Some}
use Rattle.std.specs.List.{Contains}
use Rattle.std.proofs.lemmas.Bool.{cases_lt}
use Rattle.std.proofs.lemmas.Nat.{mul-add-lt}
use Rattle.rn_value.specs.declared.value.Value.{Value}
use Rattle.rn_term.specs.Stores.{State, term_at, link_of}
use Rattle.rn_term.specs.Assignments.{value_at, Keeps}
use Rattle.rn_term.specs.Occurring.{parts_of}
use Rattle.rn_term.proofs.ValueSizes.{size_of}
use Rattle.rn_term.proofs.AssignmentLemmas.{link_within}
use Rattle.rn_term.proofs.Parts.{part_below}
use Rattle.rn_term.proofs.PartSizes.{part_smaller}
use Rattle.rn_term.proofs.LinkRanks.{Rooting, link_ranks}

-- parts, and what a variable was bound to, have lower ranks
pub record IsRanked (s : State) (rank : ℕ → ℕ) : Type 0 where
  pub part : (id p : ℕ) → Contains (parts_of (term_at s id)) p → rank p < rank id
  pub bound : (id to : ℕ) → link_of s.notes id ≡ Some to → rank to < rank id

-- an index in an earlier row is before every index in a later one
earlier_row : (width row column later other : ℕ) → row < later → column < width →
    row * width + column < later * width + other
earlier_row width row column later other first fits =
    omega (arith, mul-add-lt row width column later first fits, mul_comm width later)

-- Ranks are by the sizes of the values, and where these are equal by how far links lead.
module _ (s : State) (keeps : Keeps s) where
  abbrev links : Rooting s.notes
  links = link_ranks s keeps

  abbrev vs : List Value
  vs = keeps.satisfied.0

  abbrev size : ℕ → ℕ
  size id = size_of (value_at vs id)

  abbrev rank : ℕ → ℕ
  rank id = size id * (links.most + 1) + links.rank id

  part : (id p : ℕ) → Contains (parts_of (term_at s id)) p → rank p < rank id
  part id p is = earlier_row (links.most + 1) (size p) (links.rank p) (size id) (links.rank id)
      (part_smaller s vs keeps keeps.satisfied.1 id p is) (omega (arith, links.bounded p))

  bound : (id to : ℕ) → link_of s.notes id ≡ Some to → rank to < rank id
  bound id to is =
      subst (λ v. size to * (links.most + 1) + links.rank to
      < size_of v * (links.most + 1) + links.rank id)
      (sym (keeps.satisfied.1.links id to is))
      (omega (arith, links.falls id to is))

  pub ranked : (rank : ℕ → ℕ) × IsRanked s rank
  ranked = (rank, record { part = part; bound = bound })

-- a term is no deeper than so many steps, to a part or along a link
abbrev pub IsWithin : State → ℕ → ℕ → Type 0
IsWithin s zero id = ⊥
IsWithin s (suc n) id =
    ((p : ℕ) → Contains (parts_of (term_at s id)) p → IsWithin s n p) ×
    ((to : ℕ) → link_of s.notes id ≡ Some to → IsWithin s n to)

-- how many of the first numbers a function gives less than a bound
abbrev below : (ℕ → ℕ) → ℕ → ℕ → ℕ
below f bound zero = 0
below f bound (suc n) = below f bound n + min 1 (bound - f n)

below-most : (f : ℕ → ℕ) (bound n : ℕ) → below f bound n ≤ n
below-most f bound zero = omega arith
below-most f bound (suc n) = omega (arith, below-most f bound n)

below-grows : (f : ℕ → ℕ) (low high n : ℕ) → low ≤ high → below f low n ≤ below f high n
below-grows f low high zero le = omega arith
below-grows f low high (suc n) le = omega (arith, le, below-grows f low high n le)

-- fewer are below a bound where one is below another bound only
below-fewer : (f : ℕ → ℕ) (low high p n : ℕ) → p < n → low ≤ f p → f p < high →
    below f low n < below f high n
below-fewer f low high p zero small out in_high = absurd (omega (arith, small))
below-fewer f low high p (suc n) small out in_high = ⊎_elim
    (λ before. omega (arith, out, in_high, below-fewer f low high p n before out in_high))
    (λ past. at_end (omega (arith, past, small)))
    (cases_lt p n)
  where
    at_end : p ≡ n → below f low (suc n) < below f high (suc n)
    at_end is =
        let low_here : low ≤ f n = subst (λ k. low ≤ f k) is out in
        let high_here : f n < high = subst (λ k. f k < high) is in_high in
        omega (arith, low_here, high_here, below-grows f low high n (omega (arith, out, in_high)))

-- not all are below a bound where one isn't
below-some : (f : ℕ → ℕ) (bound p n : ℕ) → p < n → bound ≤ f p → below f bound n < n
below-some f bound p zero small out = absurd (omega (arith, small))
below-some f bound p (suc n) small out = ⊎_elim
    (λ before. omega (arith, below-some f bound p n before out))
    (λ past. at_end (omega (arith, past, small)))
    (cases_lt p n)
  where
    at_end : p ≡ n → below f bound (suc n) < suc n
    at_end is =
        let here : bound ≤ f n = subst (λ k. bound ≤ f k) is out in
        omega (arith, here, below-most f bound n)

below-less : (f : ℕ → ℕ) (p id n size : ℕ) → p < size → f p < f id →
    below f (f id) size < suc n → below f (f p) size < n
below-less f p id n size small less deep =
    omega (arith, deep, below-fewer f (f p) (f id) p size small (omega arith) less)

-- a term is no deeper than there are terms of lower ranks
within_by_rank : (s : State) → Keeps s → (f : ℕ → ℕ) → IsRanked s f → (n id : ℕ) →
    id < length s.terms → below f (f id) (length s.terms) < n → IsWithin s n id
within_by_rank s keeps f is zero id within deep = absurd (omega (arith, deep))
within_by_rank s keeps f is (suc n) id within deep = (
  λ p has.
      let small : p < length s.terms = omega (arith, part_below s keeps id p has, within) in
      within_by_rank s keeps f is n p small
      (below-less f p id n (length s.terms) small (is.part id p has) deep),
  λ to link.
      let small : to < length s.terms = (link_within s keeps id to link).1 in
      within_by_rank s keeps f is n to small
      (below-less f to id n (length s.terms) small (is.bound id to link) deep),
)

-- no term is deeper than the store has terms
pub all_within : (s : State) → Keeps s → (id : ℕ) → id < length s.terms →
    IsWithin s (length s.terms) id
all_within s keeps id within =
    let ranks = ranked s keeps in
    within_by_rank s keeps ranks.0 ranks.1 (length s.terms) id within
    (below-some ranks.0 (ranks.0 id) id (length s.terms) within (omega arith))
