-- An instance is live where a live one names it through another; two that name each other aren't.
-- net main { place p: net; trans t { } } net w { place q: net; trans u { :c(); } }
use Rattle.std.proofs.Common.{◌≡◌, ℕ, zero, suc, ◌⊎◌, Bool, true, false, List, [], ◌∷◌, refl, sym}
use Rattle.std.proofs.Common.{ap, ◌∙◌, subst, inl, inr, arith}
use Rattle.std.specs.Prelude.{Some, None, Contains, IsTrue, codes, nat_eq}
use Rattle.std.proofs.lemmas.Bool.{eqb-true}
use Rattle.std.proofs.lemmas.Option.{same_Some}
use Rattle.rn_value.specs.declared.value.InstRef.TheVariants.{Old}
use Rattle.rn_value.specs.declared.value.Kind.TheVariants as Kind
use Rattle.rn_value.specs.declared.value.Value.{Value, fold_out-Value}
use Rattle.rn_value.specs.declared.value.Value.TheVariants as Value
use Rattle.rn_model.specs.declared.system.System.{System}
use Rattle.rn_model.specs.Systems.{empty_transition, may_start}
use Rattle.rn_model.specs.Markings.{Marking, Instance, net_of, tokens_at}
use Rattle.rn_model.specs.Liveness.{IsLive, starts, held, mentions, mentions_step}
use Rattle.rn_model.proofs.Examples.ExampleSystems.{place_of}
use Rattle.rn_model.proofs.EnablingLemmas.{not_in_nil, the_one}

abbrev sys : System
sys = record {
  nets =
      record {
        name = codes "main";
        vars = [];
        places = place_of Kind.Net [] ∷ [];
        transitions = empty_transition ∷ [];
      }
      ∷ record {
        name = codes "w";
        vars = [];
        places = place_of Kind.Net [] ∷ [];
        transitions =
            record empty_transition { uplink = Some (record { channel = 0; args = [] }) } ∷ [];
      }
      ∷ [];
  channels = record { name = codes "c"; kinds = [] } ∷ [];
}

abbrev inst : ℕ → Value
inst n = Value.Inst (Old n)

-- an instance of a net whose place holds these tokens
abbrev holding : ℕ → ℕ → List Value → Instance
holding n net tokens = record { number = n; net = net; places = tokens ∷ [] }

-- 1 names 2, which names 3; and 4 and 5 name each other
abbrev m : Marking
m = record {
  next = 6;
  instances =
      holding 1 0 (inst 2 ∷ [])
      ∷ holding 2 1 (inst 3 ∷ [])
      ∷ holding 3 1 []
      ∷ holding 4 1 (inst 5 ∷ [])
      ∷ holding 5 1 (inst 4 ∷ [])
      ∷ [];
}

mentions-inst : (k n : ℕ) → mentions (inst k) n ≡ nat_eq k n
mentions-inst k n =
    ap (λ f. f n) (fold_out-Value (ℕ → Bool) mentions_step (inst k)) ∙ rw (Value.outs-Inst (Old k))

first_lives : IsLive sys m 1
first_lives = starts {net = 0} refl refl

second_lives : IsLive sys m 2
second_lives = held 0 first_lives (0, omega arith, refl) (mentions-inst 2 2) (_, refl)

-- live by a token of an instance that itself lives by a token
third_lives : IsLive sys m 3
third_lives = held 0 second_lives (0, omega arith, refl) (mentions-inst 3 3) (_, refl)

abbrev IsOneOfThree : ℕ → Type 0
IsOneOfThree n = (n ≡ 1) ⊎ (n ≡ 2) ⊎ (n ≡ 3)

-- only 1 is of a net that starts firings
by_net : (n net : ℕ) (a b c d e : Bool) → nat_eq 1 n ≡ a → nat_eq 2 n ≡ b → nat_eq 3 n ≡ c →
    nat_eq 4 n ≡ d → nat_eq 5 n ≡ e → net_of m n ≡ Some net → IsTrue (may_start sys net) →
    IsOneOfThree n
by_net n net true b c d e p q r s t there may = inl (sym (eqb-true 1 n p))
by_net n net false true c d e p q r s t there may = inr (inl (sym (eqb-true 2 n q)))
by_net n net false false true d e p q r s t there may = inr (inr (sym (eqb-true 3 n r)))
by_net n net false false false true e p q r s t there may =
    let is : Some 1 ≡ Some net = rw (p, q, r, s) at there in
    let waits : IsTrue (may_start sys 1) =
    subst (λ k. IsTrue (may_start sys k)) (sym (same_Some 1 net is)) may in
    let no : ⊥ = cc in absurd no
by_net n net false false false false true p q r s t there may =
    let is : Some 1 ≡ Some net = rw (p, q, r, s, t) at there in
    let waits : IsTrue (may_start sys 1) =
    subst (λ k. IsTrue (may_start sys k)) (sym (same_Some 1 net is)) may in
    let no : ⊥ = cc in absurd no
by_net n net false false false false false p q r s t there may =
    let none : None ≡ Some net = rw (p, q, r, s, t) at there in let no : ⊥ = cc in absurd no

-- what the only token of an instance names
one_named : (k n : ℕ) (token : Value) → Contains (inst k ∷ []) token → IsTrue (mentions token n) →
    n ≡ k
one_named k n token there names =
    let is : inst k ≡ token = the_one (inst k) token there in
    let equal : nat_eq k n ≡ true =
    sym (mentions-inst k n) ∙ subst (λ v. IsTrue (mentions v n)) (sym is) names in
    sym (eqb-true k n equal)

by_holder : (n holder place : ℕ) (token : Value) → IsOneOfThree holder →
    Contains (tokens_at m holder place) token → IsTrue (mentions token n) → IsOneOfThree n
by_holder n holder zero token (inl one) there names =
    let at = subst (λ h. Contains (tokens_at m h 0) token) one there in
    inr (inl (one_named 2 n token at names))
by_holder n holder zero token (inr (inl two)) there names =
    let at = subst (λ h. Contains (tokens_at m h 0) token) two there in
    inr (inr (one_named 3 n token at names))
by_holder n holder zero token (inr (inr three)) there names =
    let at = subst (λ h. Contains (tokens_at m h 0) token) three there in
    absurd (not_in_nil token at)
by_holder n holder (suc place) token (inl one) there names =
    absurd (not_in_nil token (subst (λ h. Contains (tokens_at m h (suc place)) token) one there))
by_holder n holder (suc place) token (inr (inl two)) there names =
    absurd (not_in_nil token (subst (λ h. Contains (tokens_at m h (suc place)) token) two there))
by_holder n holder (suc place) token (inr (inr three)) there names =
    absurd (not_in_nil token (subst (λ h. Contains (tokens_at m h (suc place)) token) three there))

only_three : (n : ℕ) → IsLive sys m n → IsOneOfThree n
only_three n (starts {net = net} there may) =
    by_net n net (nat_eq 1 n) (nat_eq 2 n) (nat_eq 3 n) (nat_eq 4 n) (nat_eq 5 n) refl refl refl
    refl refl there may
only_three n (held {holder = holder} {token = token} place live there names is) =
    by_holder n holder place token (only_three holder live) there names

not_one_of_three : (n : ℕ) → 4 ≡ n ⊎ 5 ≡ n → ¬ IsOneOfThree n
not_one_of_three n (inl four) (inl one) = let no : ⊥ = omega (arith, four, one) in no
not_one_of_three n (inl four) (inr (inl two)) = let no : ⊥ = omega (arith, four, two) in no
not_one_of_three n (inl four) (inr (inr three)) = let no : ⊥ = omega (arith, four, three) in no
not_one_of_three n (inr five) (inl one) = let no : ⊥ = omega (arith, five, one) in no
not_one_of_three n (inr five) (inr (inl two)) = let no : ⊥ = omega (arith, five, two) in no
not_one_of_three n (inr five) (inr (inr three)) = let no : ⊥ = omega (arith, five, three) in no

-- that two name each other makes neither live
fourth_is_dead : ¬ IsLive sys m 4
fourth_is_dead live = not_one_of_three 4 (inl refl) (only_three 4 live)

fifth_is_dead : ¬ IsLive sys m 5
fifth_is_dead live = not_one_of_three 5 (inr refl) (only_three 5 live)
