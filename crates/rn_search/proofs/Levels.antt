-- Whether a number of levels of calls suffices, by the least one that does.
use Rattle.std.proofs.Common.{◌≡◌, ℕ, zero, suc, ◌+◌, ◌-◌, ◌<◌, ◌≤◌, true, false, length, refl, subst}
use Rattle.std.proofs.Common.{◌∙◌, ap, arith}
use Rattle.std.specs.Prelude.{Option, Some, None, IsTrue}
use Rattle.std.proofs.Math.Dec.{leb, ltb}
use Rattle.std.proofs.lemmas.Bool.{leb-false}
use Rattle.std.proofs.lemmas.Bool.Decides.{nat_tests}
use Rattle.rn_model.specs.declared.system.System.{System}
use Rattle.rn_model.specs.declared.system.Transition.{Transition}
use Rattle.rn_model.specs.Systems.{net_at}
use Rattle.rn_channel.specs.Heights.{IsLeastHeight, MoreLevelsSuffice, suffices}
use Rattle.rn_channel.specs.link.Uplinks.{AreUplinksOf}
use Rattle.rn_channel.specs.declared.uplinks.Uplinks.{Uplinks}
use Rattle.rn_growing.specs.declared.decision.Head.{Head}
use Rattle.rn_growing.specs.Decisions.{transition_in}

module _ (more : MoreLevelsSuffice) (system : System) (t : Transition) (least : ℕ)
    (enough : suffices system least t ≡ true) where
  so_many_more : (k left : ℕ) → left ≡ k + least → suffices system left t ≡ true
  so_many_more zero left is =
      let same : least ≡ left = omega (arith, is) in
      subst (λ n. suffices system n t ≡ true) same enough
  so_many_more (suc k) left is =
      let same : suc (k + least) ≡ left = omega (arith, is) in
      subst (λ n. suffices system n t ≡ true) same
      (more system (k + least) t (so_many_more k (k + least) refl))

  -- as many or more suffice
  as_many_suffice : (left : ℕ) → least ≤ left → suffices system left t ≡ true
  as_many_suffice left below = so_many_more (left - least) left (omega (arith, below))

-- what is said of the least height of a node's transition
abbrev pub Told : Uplinks → Head → Option ℕ → Type 0
Told uplinks head o = (system : System) → AreUplinksOf system uplinks →
    head.net < length system.nets →
    head.transition < length (net_at system head.net).transitions →
    IsLeastHeight system (transition_in system head) o

-- Of the system by itself, and as it is seen from outside.
module _ (inside system : System) (uplinks : Uplinks) (head : Head) (depth left long : ℕ)
    (same : inside ≡ system) (own : AreUplinksOf inside uplinks)
    (net : head.net < length system.nets)
    (transition : head.transition < length (net_at system head.net).transitions)
    (long_is : long ≡ length head.path) (left_is : left ≡ depth - long) where
  its_least : (o : Option ℕ) → Told uplinks head o →
      IsLeastHeight system (transition_in system head) o
  its_least o told =
      told system (subst (λ s. AreUplinksOf s uplinks) same own) net transition

  left_here : left ≡ depth - length head.path
  left_here = left_is ∙ ap (λ n. depth - n) long_is

  pub some_lack : (least : ℕ) → Told uplinks head (Some least) → leb least left ≡ false →
      suffices system (depth - length head.path) (transition_in system head) ≡ false
  some_lack least told few =
      subst (λ k. suffices system k (transition_in system head) ≡ false) left_here
      ((its_least (Some least) told).1 left (leb-false least left few))

  pub some_suffice : (least : ℕ) → MoreLevelsSuffice → Told uplinks head (Some least) → IsTrue (leb least left) →
      suffices system (depth - length head.path) (transition_in system head) ≡ true
  some_suffice least more told enough =
      let below : least ≤ left = grind (arith, nat_tests, enough) in
      subst (λ k. suffices system k (transition_in system head) ≡ true) left_here
      (as_many_suffice more system (transition_in system head) least
      (its_least (Some least) told).0 left below)

  pub none_lack : Told uplinks head None → ltb 16 left ≡ false →
      suffices system (depth - length head.path) (transition_in system head) ≡ false
  none_lack told few =
      let low : left < 17 = grind (arith, nat_tests, few) in
      subst (λ k. suffices system k (transition_in system head) ≡ false) left_here
      (its_least None told left low)
