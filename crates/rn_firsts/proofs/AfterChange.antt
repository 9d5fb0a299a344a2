-- What is left at a later marking of what is known.
use Rattle.std.proofs.Common.{◌≡◌, ◌<◌, ℕ, false, List, [], map, refl, sym, ap, ◌∙◌, subst}
use Rattle.std.proofs.Common.{⊎_elim, arith}
use Rattle.std.specs.Prelude.{◌⊎◌, Option, Some, None, nat_eq, Contains, All, slice_get, unwrap_or, option_and_then}
use Rattle.std.proofs.lemmas.Option.{slice_get_past}
use Rattle.rn_model.specs.declared.system.System.{System}
use Rattle.rn_model.specs.declared.binding.Binding.{Binding}
use Rattle.rn_model.specs.Enabling.{Enabled}
use Rattle.rn_model.specs.Liveness.{IsLive, starts, held, mentions}
use Rattle.rn_model.specs.Markings.{Marking, Instance, instance_at, tokens_at}
use Rattle.rn_model.proofs.AfterFiring.{found_number}
use Rattle.rn_model.proofs.AskedValues.{contained_mapped}
use Rattle.rn_model.proofs.DeadInstances.{live_there}
use Rattle.rn_model.proofs.EnablingLemmas.{not_in_nil}
use Rattle.rn_model.proofs.MarkingsOfRuns.{found_is_there}
use Rattle.rn_reach.specs.Reach.{Reach, itself, further, RefersTo, StartsIn}
use Rattle.rn_reach.proofs.ReachLemmas.{reach_decides}
use Rattle.rn_holders.specs.Holders.{HasItsHolders, HaveTheseHolders, KeepHolders, MentionNear, held_by}
use Rattle.rn_finder.specs.Idle.{AreIdle, IsIn}
use Rattle.rn_finder.specs.Starting.{HasStartIn, start_of}
use Rattle.rn_finder.proofs.StartingBindings.{is_start_of, may_start_there, net_may_start}
use Rattle.rn_firsts.specs.Known.{ComesAfter, HasFewPlaces, HaveLiveHolders, IsLookedAt}
use Rattle.rn_items.proofs.Numbers.{in_or_not}

-- with an instance that is live an enabled binding starts
live_start : (system : System) (m : Marking) (depth n : ℕ) (b : Binding) →
    Enabled system m b depth → HasStartIn n b → IsLive system m n
live_start system m depth n b enabled (net, t, at) =
    let start = is_start_of system m n net t
    (may_start_there system m depth b (start_of n net t) enabled at) in
    starts {net = net} start.of_net (net_may_start system m n net t start)

-- it starts in it
starts_in_it : (b : Binding) (n : ℕ) → HasStartIn n b → StartsIn b n
starts_in_it b n (net, t, (node, at, is)) = (node, at, ap (λ h. h.inst) is)

-- one that refers to another does so in each marking where it is the same
refers_alike : (m other : Marking) (holder n : ℕ) →
    instance_at m holder ≡ instance_at other holder → RefersTo m holder n → RefersTo other holder n
refers_alike m other holder n same refers =
    let tokens : tokens_at m holder refers.place ≡ tokens_at other holder refers.place =
    ap (λ o. unwrap_or (option_and_then (λ i. slice_get i.places refers.place) o) []) same in
    record {
      place = refers.place;
      token = refers.token;
      there = subst (λ vs. Contains vs refers.token) tokens refers.there;
      occurs = refers.occurs;
    }

module _ (system : System) (changed : List ℕ) (before after : Marking)
    (comes : ComesAfter system changed before after) where
  -- what a live one reaches is live
  live_reach : (n k : ℕ) → IsLive system after n → Reach after n k → IsLive system after k
  live_reach n k live itself = live
  live_reach n k live (further {holder = h} reach refers) =
      let holder = live_reach n h live reach in
      held refers.place holder refers.there refers.occurs (comes.there h k holder refers)

  -- one that was found is found from each live one that reaches it
  found_back : (holders : List (List ℕ)) (found : List ℕ) → HaveLiveHolders system after holders →
      HasItsHolders holders changed found → (n k : ℕ) → IsLive system after n →
      Reach after n k → Contains found k → Contains found n
  found_back holders found have its n k live itself there = there
  found_back holders found have its n k live (further {holder = h} reach refers) there =
      found_back holders found have its n h live reach
      (its.back h k there (have h k (live_reach n h live reach) refers))

  -- with those to which the changed ones refer, the holders are those of the later marking
  pub holders_after : (old new : List (List ℕ)) → HaveLiveHolders system before old →
      KeepHolders old new → HaveTheseHolders after changed new → HaveLiveHolders system after new
  holders_after old new have keep these holder n live refers = ⊎_elim
      (λ (there : Contains changed holder). these holder n there refers)
      (λ (not : ¬ Contains changed holder).
      let same = comes.same holder live not in
      let was = refers_alike after before holder n same refers in
      ⊎_elim
      (λ (listed : Contains (held_by new n) holder). listed)
      (λ (unlisted : ¬ Contains (held_by new n) holder).
      let here = live_there system after holder live in
      absurd (comes.dead holder (here.0, sym same ∙ here.1)
      (λ lived. unlisted (keep holder n (have holder n lived was))) live))
      (in_or_not (held_by new n) holder))
      (in_or_not changed holder)

  -- where none started in an instance and it isn't found, none starts in it
  none_after : (depth n : ℕ) (found : List ℕ) (holders : List (List ℕ)) →
      HaveLiveHolders system after holders → HasItsHolders holders changed found →
      ¬ Contains found n →
      ((b : Binding) → Enabled system before b depth → ¬ HasStartIn n b) →
      (b : Binding) → Enabled system after b depth → ¬ HasStartIn n b
  none_after depth n found holders have its out none b enabled at =
      let live = live_start system after depth n b enabled at in
      let same : (k : ℕ) → Reach after n k → instance_at before k ≡ instance_at after k =
      λ k reach. sym (comes.same k (live_reach n k live reach)
      (λ one. out (found_back holders found have its n k live reach (its.these k one)))) in
      none b ((reach_decides system after before b depth n same (starts_in_it b n at)).0 enabled) at

  -- so what was looked at is looked at, but for those that are found
  pub looked_after : (depth until : ℕ) (old new found : List ℕ) (holders : List (List ℕ)) →
      IsLookedAt system before depth until old → HaveLiveHolders system after holders →
      HasItsHolders holders changed found → ((n : ℕ) → Contains old n → Contains new n) →
      ((n : ℕ) → Contains found n → n < until → Contains new n) →
      (All (λ n. n < until) old → All (λ n. n < until) new) →
      IsLookedAt system after depth until new
  looked_after depth until old new found holders looked have its stay come below = record {
    none = λ n low out. none_after depth n found holders have its
        (λ there. out (come n there low)) (looked.none n low (λ there. out (stay n there)));
    below = below looked.below;
  }

  -- and what is idle stays so, but for those that are found
  pub idle_after : (depth : ℕ) (old new found : List ℕ) (holders : List (List ℕ)) →
      AreIdle system before depth old → HaveLiveHolders system after holders →
      HasItsHolders holders changed found →
      ((n : ℕ) → IsIn new n → IsIn old n × ¬ Contains found n) → AreIdle system after depth new
  idle_after depth old new found holders idle have its out n has net t b enabled at =
      let both = out n has in
      none_after depth n found holders have its both.1
      (λ d enabled_there (its_net, u, there). idle n both.0 its_net u d enabled_there there)
      b enabled (net, t, at)

-- with those to which each instance refers, the holders are those of live ones
pub live_holders : (system : System) (m : Marking) (numbers : List ℕ) (holders : List (List ℕ)) →
    numbers ≡ map (λ i. i.number) m.instances → HaveTheseHolders m numbers holders →
    HaveLiveHolders system m holders
live_holders system m numbers holders are these holder n live refers =
    let there = live_there system m holder live in
    let number = found_number m.instances holder there.0 there.1 in
    let listed = contained_mapped (λ (i : Instance). i.number) m.instances there.0
    (found_is_there (λ (i : Instance). nat_eq i.number holder) m.instances there.0 there.1) in
    these holder n
    (subst (λ xs. Contains xs holder) (sym are)
    (subst (Contains (map (λ (i : Instance). i.number) m.instances)) number listed)) refers

-- past the places of an instance lies no token
pub few_are_near : (m : Marking) → HasFewPlaces m → MentionNear m
few_are_near m few holder n place v far has = by_there (instance_at m holder) refl
  where
    by_there : (o : Option Instance) → instance_at m holder ≡ o → mentions v n ≡ false
    by_there None e =
        absurd (not_in_nil v (subst (λ o. Contains (unwrap_or
        (option_and_then (λ i. slice_get i.places place) o) []) v) e has))
    by_there (Some i) e =
        let low = few holder i e in
        let none = slice_get_past i.places place (omega (arith, low, far)) in
        absurd (not_in_nil v (subst (λ o. Contains (unwrap_or o []) v) none
        (subst (λ o. Contains (unwrap_or (option_and_then (λ i. slice_get i.places place) o) []) v)
        e has)))
