-- Instances that are looked at in the order of their numbers.
use Rattle.std.proofs.Common.{◌≡◌, ◌≢◌, ◌<◌, ◌≤◌, ◌+◌, ℕ, zero, suc, List, [], ◌∷◌}
use Rattle.std.proofs.Common.{subst, ⊎_elim, arith}
use Rattle.std.specs.Prelude.{Some, None, Contains, find, nat_le, ⊤}
use Rattle.std.proofs.lemmas.List.Elements.{All-contains, All-nil, All-tail}
use Rattle.rn_model.specs.declared.binding.Binding.{Binding}
use Rattle.rn_model.specs.declared.system.System.{System}
use Rattle.rn_model.specs.Markings.{Marking}
use Rattle.rn_model.proofs.EnablingLemmas.{not_in_nil}
use Rattle.rn_channel.specs.declared.uplinks.Uplinks.{Uplinks}
use Rattle.rn_table.specs.Tables.{Kept}
use Rattle.rn_finder.specs.First.{IsFirstOf}
use Rattle.rn_finder.specs.Starting.{AreJust, HasStartIn, IsSearchable}
use Rattle.rn_finder.proofs.FirstBindings.{first_of_all, less_by_instance, none_first}
use Rattle.rn_finder.proofs.JustThese.{just_none}
use Rattle.rn_finder.proofs.Numbers.{less_or_not}
use Rattle.rn_finder.proofs.StartingBindings.{HasStartBefore, all_before, more_before, starts_in}
use Rattle.rn_firsts.specs.Known.{IsLookedAt}

-- a number that isn't the first and isn't among the others
not_there : (number n : ℕ) (rest : List ℕ) → number ≢ n → ¬ Contains rest n →
    ¬ Contains (number ∷ rest) n
not_there number n rest other not (zero, within, at) = other at
not_there number n rest other not (suc k, within, at) = not (k, omega (arith, within), at)

-- where nothing is known
pub looked_at_none : (system : System) (m : Marking) (depth : ℕ) → IsLookedAt system m depth 0 []
looked_at_none system m depth = record {
  none = λ n low. absurd (let no : ⊥ = omega (arith, low) in no);
  below = All-nil (λ n. n < 0);
}

module _ (system : System) (m : Marking) (depth until : ℕ) where
  -- the first with the least of those that are to be looked at again is the first of all
  pub first_with_least : (number : ℕ) (again : List ℕ) (b : Binding) →
      IsLookedAt system m depth until again → Contains again number →
      ((n : ℕ) → Contains again n → number ≤ n) →
      IsFirstOf system m depth (HasStartIn number) (Some b) →
      IsFirstOf system m depth (λ b. ⊤) (Some b)
  first_with_least number again b looked there up_from (enabled, starts, least) = (
    enabled,
    tt,
    λ c other any.
        let at = starts_in system m depth c other in
        ⊎_elim
        (λ (less : at.0 < number).
        let low = All-contains (λ n. n < until) again number looked.below there in
        absurd (looked.none at.0 (omega (arith, less, low))
        (λ has. let up = up_from at.0 has in let no : ⊥ = omega (arith, up, less) in no)
        c other at.1))
        (λ (from : number ≤ at.0). ⊎_elim
        (λ (more : number < at.0). less_by_instance system m depth b c number at.0 enabled
        other starts at.1 more)
        (λ (up_to : at.0 ≤ number).
        let same : at.0 ≡ number = omega (arith, from, up_to) in
        least c other (subst (λ n. HasStartIn n c) same at.1))
        (less_or_not number at.0))
        (less_or_not at.0 number),
  )

  -- where none starts with the first of them, it goes
  pub one_fewer : (number : ℕ) (rest : List ℕ) → IsLookedAt system m depth until (number ∷ rest) →
      IsFirstOf system m depth (HasStartIn number) None → IsLookedAt system m depth until rest
  one_fewer number rest looked first = record {
    none = λ n low out b enabled at. ⊎_elim
        (λ (less : n < number). looked.none n low (not_there number n rest
        (λ same. let no : ⊥ = omega (arith, same, less) in no) out) b enabled at)
        (λ (from : number ≤ n). ⊎_elim
        (λ (more : number < n). looked.none n low (not_there number n rest
        (λ same. let no : ⊥ = omega (arith, same, more) in no) out) b enabled at)
        (λ (up_to : n ≤ number).
        let same : n ≡ number = omega (arith, from, up_to) in
        first b enabled (subst (λ k. HasStartIn k b) same at))
        (less_or_not number n))
        (less_or_not n number);
    below = All-tail (λ n. n < until) number rest looked.below;
  }

  -- none starts before
  pub none_before : IsLookedAt system m depth until [] →
      AreJust system m depth (HasStartBefore until) []
  none_before looked = just_none system m depth (HasStartBefore until)
      (λ b enabled its. looked.none its.0 its.1 (not_in_nil its.0) b enabled its.2)

  pub looked_before : AreJust system m depth (HasStartBefore until) [] →
      IsLookedAt system m depth until []
  looked_before just = record {
    none = λ n low out b enabled at. not_in_nil b (just.all b enabled (n, low, at));
    below = All-nil (λ n. n < until);
  }

module _ (system : System) (uplinks : Uplinks) (table : Kept) (depth until : ℕ)
    (searched : IsSearchable system uplinks table)
    (looked : IsLookedAt system table.marking depth until []) where
  -- the first with the next one is the first of all
  pub first_with_next : (number : ℕ) (b : Binding) →
      find (λ n. nat_le until n) table.starting ≡ Some number →
      IsFirstOf system table.marking depth (HasStartIn number) (Some b) →
      IsFirstOf system table.marking depth (λ b. ⊤) (Some b)
  first_with_next number b next =
      first_of_all system uplinks table depth searched until number b next
      (none_before system table.marking depth until looked)

  -- where none starts with the next one, it is looked at
  pub one_more_looked : (number : ℕ) → find (λ n. nat_le until n) table.starting ≡ Some number →
      IsFirstOf system table.marking depth (HasStartIn number) None →
      IsLookedAt system table.marking depth (number + 1) []
  one_more_looked number next first =
      looked_before system table.marking depth (number + 1)
      (more_before system uplinks table depth searched until number [] [] next
      (none_before system table.marking depth until looked)
      (just_none system table.marking depth (HasStartIn number) first))

  -- where there is no next one, none starts
  pub none_at_all : find (λ n. nat_le until n) table.starting ≡ None →
      IsFirstOf system table.marking depth (λ b. ⊤) None
  none_at_all none =
      none_first system table.marking depth (λ b. ⊤)
      (all_before system uplinks table depth searched until [] none
      (none_before system table.marking depth until looked))
