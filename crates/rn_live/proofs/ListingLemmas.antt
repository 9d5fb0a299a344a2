-- The lists of the marked numbers and of the others.
use Rattle.std.proofs.Common.{◌≡◌, ℕ, zero, suc, Bool, true, false, List, [], ◌∷◌, map, filter, refl, sym, ap, ◌∙◌, subst, inl, inr, arith}
use Rattle.std.specs.Prelude.{◌⊎◌, ◌↔◌, Result, Ok, Err, IfOk, Contains, cond, not}
use Rattle.rn_model.specs.declared.system.System.{System}
use Rattle.rn_model.specs.Liveness.{IsLive}
use Rattle.rn_model.specs.Markings.{Marking, IsThere, instance_at}
use Rattle.rn_model.proofs.AskedValues.{later}
use Rattle.rn_model.proofs.EnablingLemmas.{not_in_nil}
use Rattle.rn_model.proofs.LiveBindings.{live_is_there}
use Rattle.rn_live.specs.Rooms.{is_marked}
use Rattle.rn_live.specs.link.Marks.{Marked, is_unmarked}
use Rattle.rn_live.proofs.HolderLemmas.{numbered, there_numbered}
use Rattle.rn_live.proofs.LiveMarks.{net_there}

-- a value that there is passes on what holds of it
pub if_ok : {A E : Type 0} (P Q : A → Type 0) (r : Result A E) → ((a : A) → P a → Q a) → IfOk r P → IfOk r Q
if_ok P Q (Ok a) pass h = pass a h
if_ok P Q (Err e) pass h = h

pub first_or_later : (x : ℕ) (xs : List ℕ) (n : ℕ) → Contains (x ∷ xs) n → (x ≡ n) ⊎ Contains xs n
first_or_later x xs n (zero, h, is) = inl is
first_or_later x xs n (suc k, h, is) = inr (k, omega (arith, h), is)

chosen : (p : ℕ → Bool) (xs : List ℕ) (n : ℕ) → Contains (filter p xs) n → Contains xs n × (p n ≡ true)
chosen p [] n there = absurd (not_in_nil n there)
chosen p (x ∷ xs) n there = elim (p x) as (λ b. p x ≡ b → Contains (cond b (x ∷ filter p xs) (filter p xs)) n → Contains (x ∷ xs) n × (p n ≡ true)) [
  | true ↦ λ e inside. elim (first_or_later x (filter p xs) n inside) as (λ _. Contains (x ∷ xs) n × (p n ≡ true)) [
    | inl same ↦ ((0, omega arith, same), ap p (sym same) ∙ e)
    | inr rest ↦ let found = chosen p xs n rest in (later x n xs found.0, found.1)
  ]
  | false ↦ λ e inside. let found = chosen p xs n inside in (later x n xs found.0, found.1)
] refl there

chooses : (p : ℕ → Bool) (xs : List ℕ) (n : ℕ) → Contains xs n → p n ≡ true → Contains (filter p xs) n
chooses p [] n there e = absurd (not_in_nil n there)
chooses p (x ∷ xs) n there e = elim (p x) as (λ b. p x ≡ b → Contains (cond b (x ∷ filter p xs) (filter p xs)) n) [
  | true ↦ λ passes. elim (first_or_later x xs n there) as (λ _. Contains (x ∷ filter p xs) n) [
    | inl same ↦ (0, omega arith, same)
    | inr rest ↦ later x n (filter p xs) (chooses p xs n rest e)
  ]
  | false ↦ λ fails. elim (first_or_later x xs n there) as (λ _. Contains (filter p xs) n) [
    | inl same ↦ absurd (let there : p x ≡ p n = ap p same in let no : ⊥ = cc in no)
    | inr rest ↦ chooses p xs n rest e
  ]
] refl

not_both : (b : Bool) → not b ≡ true → b ≡ true → ⊥
not_both true e f = let none : ⊥ = cc in none
not_both false e f = let none : ⊥ = cc in none

module _ (system : System) (m : Marking) (marks : List Bool) (kept : List ℕ) (kept_are : kept ≡ map (λ i. i.number) m.instances) (are_live : (n : ℕ) → Marked marks n ↔ IsLive system m n) where
  there_kept : (n : ℕ) → IsThere m n → Contains kept n
  there_kept n there = subst (λ ks. Contains ks n) (sym kept_are) (numbered m.instances n there.0 there.1)

  live_kept : (n : ℕ) → IsLive system m n → Contains kept n
  live_kept n live = let net = live_is_there system m n live in there_kept n (net_there (instance_at m n) net.0 net.1)

  pub live_listed : (n : ℕ) → Contains (filter (is_marked marks) kept) n ↔ IsLive system m n
  live_listed n = (
    (λ there. (are_live n).0 (chosen (is_marked marks) kept n there).1),
    (λ live. chooses (is_marked marks) kept n (live_kept n live) ((are_live n).1 live)),
  )

  unmarked : (n : ℕ) (b : Bool) → is_marked marks n ≡ b → ¬ IsLive system m n → not b ≡ true
  unmarked n true e dead = absurd (dead ((are_live n).0 e))
  unmarked n false e dead = refl

  pub dead_listed : (n : ℕ) → Contains (filter (is_unmarked marks) kept) n ↔ (IsThere m n × ¬ IsLive system m n)
  dead_listed n = (
    (λ there.
        let found = chosen (is_unmarked marks) kept n there in
        (there_numbered m.instances n (subst (λ ks. Contains ks n) kept_are found.0), (λ live. not_both (is_marked marks n) found.1 ((are_live n).1 live)))),
    (λ dead. chooses (is_unmarked marks) kept n (there_kept n dead.0) (unmarked n (is_marked marks n) refl dead.1)),
  )
