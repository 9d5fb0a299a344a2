-- Lists and holders after a change.
use Rattle.std.proofs.Common.{◌≡◌, ℕ, List, [], map, refl, sym, ap, subst, ⊎_elim}
use Rattle.std.specs.Prelude.{◌⊎◌, ◌↔◌, Option, Some, None, nat_eq, Contains, slice_get, unwrap_or, option_and_then}
use Rattle.rn_model.specs.declared.binding.Binding.{Binding}
use Rattle.rn_model.specs.declared.system.System.{System}
use Rattle.rn_model.specs.Enabling.{Enabled}
use Rattle.rn_model.specs.Markings.{Marking, Instance, instance_at, tokens_at}
use Rattle.rn_model.proofs.AfterFiring.{found_number}
use Rattle.rn_model.proofs.AskedValues.{contained_mapped}
use Rattle.rn_model.proofs.EnablingLemmas.{not_in_nil}
use Rattle.rn_model.proofs.MarkingsOfRuns.{found_is_there}
use Rattle.rn_reach.specs.Reach.{RefersTo, ReachesOne, DifferAtMostIn}
use Rattle.rn_reach.proofs.ChangedInstances.{changes_are_reached_in_both, others_stay}
use Rattle.rn_holders.specs.Holders.{HaveHolders, KeepHolders, HaveTheseHolders}
use Rattle.rn_finder.specs.Starting.{HasStartIn}
use Rattle.rn_incr.specs.Lists.{IsListOf, IsNumberOf}
use Rattle.rn_incr.proofs.StartLemmas.{starts_in_it}
use Rattle.rn_items.proofs.Numbers.{in_or_not}

module _ (system : System) (m other : Marking) (changed : List ℕ) (depth : ℕ)
    (differ : DifferAtMostIn changed m other) where
  stays : (n : ℕ) (b : Binding) → ¬ ReachesOne other changed n → HasStartIn n b →
      Enabled system m b depth ↔ Enabled system other b depth
  stays n b none starts =
      others_stay system m other changed b depth n differ
      (λ reaches. none ((changes_are_reached_in_both m other changed differ n).0 reaches))
      (starts_in_it b n starts)

  -- the list of an instance that reaches no changed one stays
  pub list_stays : (n : ℕ) (bs : List Binding) → ¬ ReachesOne other changed n →
      IsListOf system m depth n bs → IsListOf system other depth n bs
  list_stays n bs none is = record {
    just = λ b. (
      λ has. let its = (is.just b).0 has in ((stays n b none its.1).0 its.0, its.1),
      λ its. (is.just b).1 ((stays n b none its.1).1 its.0, its.1),
    );
    ascending = is.ascending;
  }

  refers_before : (holder n : ℕ) → ¬ Contains changed holder → RefersTo other holder n →
      RefersTo m holder n
  refers_before holder n not refers =
      let tokens : tokens_at m holder refers.place ≡ tokens_at other holder refers.place =
      ap (λ o. unwrap_or (option_and_then (λ i. slice_get i.places refers.place) o) [])
      (sym (differ holder not)) in
      record {
        place = refers.place;
        token = refers.token;
        there = subst (λ vs. Contains vs refers.token) (sym tokens) refers.there;
        occurs = refers.occurs;
      }

  -- with those to which the changed ones refer, the holders are those of the other marking
  pub holders_after : (before after : List (List ℕ)) → HaveHolders m before →
      KeepHolders before after → HaveTheseHolders other changed after → HaveHolders other after
  holders_after before after have keep these holder n refers = ⊎_elim
      (λ (there : Contains changed holder). these holder n there refers)
      (λ (not : ¬ Contains changed holder).
      keep holder n (have holder n (refers_before holder n not refers)))
      (in_or_not changed holder)

-- so many have a property by another name
pub number_as : {A : Type 0} (P Q : A → Type 0) (n : ℕ) → ((x : A) → P x ↔ Q x) →
    IsNumberOf P n → IsNumberOf Q n
number_as P Q n same is = (
  is.0,
  λ x. (λ has. (same x).0 ((is.1 x).0 has), λ q. (is.1 x).1 ((same x).1 q)),
  is.2,
  is.3,
)

-- an instance that refers to another is there
pub holder_is_there : (m : Marking) (holder n : ℕ) → RefersTo m holder n →
    Contains (map (λ i. i.number) m.instances) holder
holder_is_there m holder n refers = by_there (instance_at m holder) refl
  where
    by_there : (o : Option Instance) → instance_at m holder ≡ o →
        Contains (map (λ i. i.number) m.instances) holder
    by_there None e = absurd (not_in_nil refers.token
        (subst (λ o. Contains (unwrap_or (option_and_then (λ i. slice_get i.places refers.place) o) [])
        refers.token) e refers.there))
    by_there (Some i) e =
        subst (Contains (map (λ (j : Instance). j.number) m.instances))
        (found_number m.instances holder i e)
        (contained_mapped (λ (j : Instance). j.number) m.instances i
        (found_is_there (λ (j : Instance). nat_eq j.number holder) m.instances i e))

-- with those to which each instance refers, the holders are all
pub all_held : (m : Marking) (numbers : List ℕ) (holders : List (List ℕ)) →
    numbers ≡ map (λ i. i.number) m.instances → HaveTheseHolders m numbers holders →
    HaveHolders m holders
all_held m numbers holders are these holder n refers =
    these holder n (subst (λ xs. Contains xs holder) (sym are) (holder_is_there m holder n refers))
    refers
