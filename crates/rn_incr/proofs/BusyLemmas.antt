-- Sets of the numbers of lists that aren't empty.
use Rattle.std.proofs.Common.{◌≡◌, ◌<◌, ◌≤◌, ◌∙◌, ℕ, Bool, true, false, List, []}
use Rattle.std.proofs.Common.{get_or, refl, sym, subst, inl, inr, ⊎_elim}
use Rattle.std.specs.Prelude.{◌⊎◌, Contains, cond}
use Rattle.std.specs.BTreeSet.{BTreeSet, contains, Updates}
use Rattle.std.specs.BTreeMap.{is_at}
use Rattle.std.specs.Ordering.{nat_cmp}
use Rattle.std.specs.declared.cmp.Ordering.{Ordering}
use Rattle.std.specs.declared.cmp.Ordering.TheVariants.{Less, Equal, Greater}
use Rattle.std.proofs.lemmas.Cmp.{ranked}
use Rattle.rn_incr.specs.link.Kept.{some_in, AreBusy, AreNear, GrowsBy}

-- the first lists of some are seen in a set, and no others
pub record AreBusyBelow {X : Type 0} (i : ℕ) (lists : List (List X)) (busy : BTreeSet ℕ)
    : Type 0 where
  pub below : (n : ℕ) → n < i → contains nat_cmp busy n ≡ some_in (get_or lists n [])
  pub past : (n : ℕ) → i ≤ n → contains nat_cmp busy n ≡ false

pub not_both : (b : Bool) → b ≡ true → b ≡ false → ⊥
not_both b is not = let never : ⊥ = cc in never

true_or_false : (b : Bool) → (b ≡ true) ⊎ (b ≡ false)
true_or_false true = inl refl
true_or_false false = inr refl

-- keys that compare as equal are
at_same : (o : Ordering) (k q : ℕ) → o ≡ nat_cmp k q → is_at (λ (x : ℕ). o) q ≡ true → k ≡ q
at_same Less k q e at = absurd (not_both false at refl)
at_same Equal k q e at = ranked k q Equal e
at_same Greater k q e at = absurd (not_both false at refl)

-- a key that came
module _ (before after : BTreeSet ℕ) (k : ℕ) (came : Updates nat_cmp before after k true) where
  cond_true : (b c : Bool) → c ≡ true → cond b true c ≡ true
  cond_true true c e = refl
  cond_true false c e = e

  pub still_in : (n : ℕ) → contains nat_cmp before n ≡ true → contains nat_cmp after n ≡ true
  still_in n has = came.0 n ∙ cond_true (is_at (nat_cmp k) n) (contains nat_cmp before n) has

  pub now_in : contains nat_cmp after k ≡ true
  now_in = came.1

  was_in : (n : ℕ) → contains nat_cmp after n ≡ true → (contains nat_cmp before n ≡ true) ⊎ (k ≡ n)
  was_in n has = ⊎_elim
      (λ (at : is_at (nat_cmp k) n ≡ true). inr (at_same (nat_cmp k n) k n refl at))
      (λ (apart : is_at (nat_cmp k) n ≡ false). inl (sym (came.2 n apart) ∙ has))
      (true_or_false (is_at (nat_cmp k) n))

  pub grows_on : (those : List ℕ) (first : BTreeSet ℕ) → Contains those k →
      GrowsBy those first before → GrowsBy those first after
  grows_on those first has grows = record {
    stay = λ n its. still_in n (grows.stay n its);
    few = λ n its. ⊎_elim
        (λ (earlier : contains nat_cmp before n ≡ true). grows.few n earlier)
        (λ (same : k ≡ n). inr (subst (Contains those) same has))
        (was_in n its);
  }

-- a set that has grown by these
pub grown_near : {X : Type 0} (lists : List (List X)) (those : List ℕ) (before after : BTreeSet ℕ) →
    AreBusy lists before → GrowsBy those before after → AreNear lists those after
grown_near lists those before after busy grows = record {
  has = λ n some. grows.stay n (busy n ∙ some);
  few = λ n its. ⊎_elim
      (λ (earlier : contains nat_cmp before n ≡ true). inl (sym (busy n) ∙ earlier))
      (λ (one : Contains those n). inr one)
      (grows.few n its);
}
