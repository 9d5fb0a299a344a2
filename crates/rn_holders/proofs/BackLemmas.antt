-- Going from some instances back over all that are listed as holders.
use Rattle.std.proofs.Common.{◌≡◌, ℕ, ◌<◌, ◌≤◌, ◌+◌, List, [], length, get_or, sym, ap, ◌∙◌, subst, inl, inr, arith}
use Rattle.std.proofs.Common.{length-append}
use Rattle.std.proofs.lemmas.List.{get_or_append_left}
use Rattle.std.proofs.lemmas.List.Elements.{Contains-append_left}
use Rattle.std.specs.Prelude.{Some, slice_get, Contains}
use Rattle.rn_live.proofs.TokenLemmas.{got}
use Rattle.rn_holders.specs.Holders.{HasItsHolders, held_by}
use Rattle.rn_holders.specs.link.Puts.{Joins}
use Rattle.rn_holders.proofs.ReachingLemmas.{get_or_is, less_or_same}

-- A list that has been gone through as far as an index: the holders of those before it are there.
pub record IsGoneBy (holders : List (List ℕ)) (those found : List ℕ) (at : ℕ) : Type 0 where
  pub within : at ≤ length found
  pub stay : (n : ℕ) → Contains those n → Contains found n
  pub back : (i n holder : ℕ) → i < at → get_or found i n ≡ n →
      Contains (held_by holders n) holder → Contains found holder

pub gone_by_none : (holders : List (List ℕ)) (those : List ℕ) → IsGoneBy holders those those 0
gone_by_none holders those = record {
  within = omega arith;
  stay = λ n has. has;
  back = λ i n holder low at has. absurd (let no : ⊥ = omega (arith, low) in no);
}

pub gone_by_one : (holders : List (List ℕ)) (those found new : List ℕ) (at number : ℕ) →
    IsGoneBy holders those found at → slice_get found at ≡ Some number →
    Joins (Contains (held_by holders number)) found new → IsGoneBy holders those new (at + 1)
gone_by_one holders those found new at number gone is joined =
    let here = got found at number is in
    let grown : (n : ℕ) → Contains found n → Contains new n =
    λ n has. subst (λ xs. Contains xs n) (sym joined.more.1)
    (Contains-append_left found joined.more.0 n has) in
    let longer : length new ≡ length found + length joined.more.0 = ap length joined.more.1 ∙
    length-append found joined.more.0 in
    let earlier : (i n : ℕ) → i < length found → get_or new i n ≡ get_or found i n =
    λ i n low. ap (λ xs. get_or xs i n) joined.more.1 ∙
    get_or_append_left found joined.more.0 n i low in
    record {
      within = omega (arith, here.0, longer);
      stay = λ n has. grown n (gone.stay n has);
      back = λ i n holder low stands has. elim
          (less_or_same i at low) as (λ _. Contains new holder) [
            | inl less ↦ grown holder (gone.back i n holder less
                (sym (earlier i n (omega (arith, less, here.0))) ∙ stands) has)
            | inr same ↦
                let number_is : number ≡ n = sym (get_or_is found at number n is) ∙
                sym (earlier at n here.0) ∙ subst (λ j. get_or new j n ≡ n) same stands in
                joined.all holder (subst (λ k. Contains (held_by holders k) holder)
                (sym number_is) has)
          ];
    }

pub gone_by_all : (holders : List (List ℕ)) (those found : List ℕ) (at : ℕ) →
    IsGoneBy holders those found at → length found ≤ at → HasItsHolders holders those found
gone_by_all holders those found at gone past = record {
  these = gone.stay;
  back = λ holder n there has. gone.back there.0 n holder (omega (arith, there.1, past)) there.2 has;
}

-- what is found from some that came to none
pub back_from : (holders : List (List ℕ)) (those joined found : List ℕ) →
    Joins (Contains those) [] joined → HasItsHolders holders joined found →
    HasItsHolders holders those found
back_from holders those joined found joins its = record {
  these = λ n has. its.these n (joins.all n has);
  back = its.back;
}
