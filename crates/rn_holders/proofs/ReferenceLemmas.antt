-- What the tokens of an instance mention is what it refers to.
use Rattle.std.proofs.Common.{◌≡◌, ◌≤◌, ◌+◌, ◌^◌, ℕ, zero, suc, Bool, true, false, ◌||◌, List, [], ◌∷◌}
use Rattle.std.proofs.Common.{take, refl, sym, ap, ◌∙◌, subst, inl, inr, arith}
use Rattle.std.specs.Prelude.{◌↔◌, Contains, Some, slice_get, unwrap_or}
use Rattle.std.specs.List.{list_any}
use Rattle.rn_value.specs.declared.value.Value.{Value}
use Rattle.rn_model.specs.Liveness.{mentions}
use Rattle.rn_model.specs.Markings.{Marking, tokens_at}
use Rattle.rn_model.proofs.EnablingLemmas.{not_in_nil}
use Rattle.rn_model.proofs.LiveByRounds.{any_contained}
use Rattle.rn_live.specs.link.Marks.{holds, places_of}
use Rattle.rn_live.proofs.HolderLemmas.{any_mentions, held_by, holds_mentioned, place_at}
use Rattle.rn_reach.specs.Reach.{RefersTo}
use Rattle.rn_holders.specs.Holders.{MentionNear}
use Rattle.rn_holders.specs.link.Puts.{Puts}

pub just_referred : (m : Marking) (holder : ℕ) (before after : List ℕ) → before ≡ [] →
    Puts (holds m holder) before after → (n : ℕ) → Contains after n ↔ RefersTo m holder n
just_referred m holder before after none puts n = (
  λ has. elim (puts.came n has) as (λ _. RefersTo m holder n) [
    | inl earlier ↦ absurd (not_in_nil n (subst (λ xs. Contains xs n) none earlier))
    | inr held ↦ let by = held_by m holder n held in
        record { place = by.0; token = by.1; there = by.2; occurs = by.3 }
  ],
  λ refers. puts.all n
      (holds_mentioned m holder n refers.place refers.token refers.there refers.occurs),
)

-- where no element from an index on passes a test, those before it decide
rest_fails : {X : Type 0} (p : X → Bool) (xs : List X) (k : ℕ) →
    ((i : ℕ) (x : X) → k ≤ i → slice_get xs i ≡ Some x → p x ≡ false) →
    list_any p (take k xs) ≡ list_any p xs
rest_fails p [] zero none = refl
rest_fails p [] (suc k) none = refl
rest_fails p (x ∷ xs) zero none =
    let first : p x ≡ false = none 0 x (omega arith) refl in
    let rest : list_any p (take zero xs) ≡ list_any p xs =
    rest_fails p xs zero (λ i y low is. none (suc i) y (omega arith) is) in
    subst (λ b. false ≡ (b || list_any p xs)) (sym first) rest
rest_fails p (x ∷ xs) (suc k) none =
    ap (λ b. p x || b)
    (rest_fails p xs k (λ i y low is. none (suc i) y (omega (arith, low)) is))

none_mentions : (tokens : List Value) (n : ℕ) →
    ((v : Value) → Contains tokens v → mentions v n ≡ false) → any_mentions n tokens ≡ false
none_mentions tokens n none = by_test (any_mentions n tokens) refl
  where
    by_test : (any : Bool) → any_mentions n tokens ≡ any → any ≡ false
    by_test true e =
        let one = any_contained (λ v. mentions v n) tokens e in
        let not = none one.0 one.1 in
        let yes = one.2 in
        let no : ⊥ = cc in
        absurd no
    by_test false e = refl

-- the places before a far one list all that an instance holds
pub near_tell : (m : Marking) (number place n : ℕ) → MentionNear m → 2 ^ 32 ≤ place + 1 →
    list_any (any_mentions n) (take place (places_of m number)) ≡ holds m number n
near_tell m number place n near far =
    rest_fails (any_mentions n) (places_of m number) place
    (λ i tokens low is. none_mentions tokens n
    (λ v has.
    let at : tokens_at m number i ≡ tokens =
    ap (λ s. unwrap_or s []) (sym (place_at m number i) ∙ is) in
    near number n i v (omega (arith, low, far)) (subst (λ ts. Contains ts v) (sym at) has)))
