-- How many of some instances may start a firing.
use Rattle.std.proofs.Common.{◌≡◌, ◌≢◌, ℕ, zero, suc, Bool, true, false, List, [], ◌∷◌, length, cond}
use Rattle.std.proofs.Common.{refl, ap, ◌∙◌, subst, arith}
use Rattle.std.specs.Prelude.{Contains, AllPairs, Option, Some, None, filter, option_map}
use Rattle.std.specs.Option.{option_map_or}
use Rattle.std.proofs.lemmas.List.Kept.{AllPairs-filter}
use Rattle.rn_model.specs.declared.system.System.{System}
use Rattle.rn_model.specs.Markings.{Marking, Instance, instance_at, net_of}
use Rattle.rn_model.specs.Systems.{may_start}
use Rattle.rn_model.proofs.EnablingLemmas.{not_in_nil}
use Rattle.rn_search.proofs.Items.{in_filter}
use Rattle.rn_incr.specs.Lists.{IsNumberOf, MayStartIn}

-- whether an instance is kept and may start
abbrev pub starts_at : System → Marking → ℕ → Bool
starts_at system m n = option_map_or (may_start system) (net_of m n) false

module _ (system : System) (m : Marking) (n : ℕ) where
  abbrev told : Option Instance → Bool
  told o = option_map_or (may_start system) (option_map (λ (i : Instance). i.net) o) false

  pub tells : starts_at system m n ≡ true → MayStartIn system m n
  tells = by_there (instance_at m n) refl
    where
      by_there : (o : Option Instance) → instance_at m n ≡ o → told o ≡ true → MayStartIn system m n
      by_there None e is = absurd (let no : ⊥ = cc in no)
      by_there (Some i) e is = (i, e, is)

  pub told_of : MayStartIn system m n → starts_at system m n ≡ true
  told_of may = ap told may.1 ∙ may.2

one_later : (p : ℕ → Bool) (y : ℕ) (xs : List ℕ) (x : ℕ) → Contains xs x × (p x ≡ true) →
    Contains (y ∷ xs) x × (p x ≡ true)
one_later p y xs x ((k, h, at), passes) = ((suc k, omega (arith, h), at), passes)

from_first : (p : ℕ → Bool) (y : ℕ) (xs : List ℕ) (x : ℕ) →
    (Contains (filter p xs) x → Contains xs x × (p x ≡ true)) → (b : Bool) → p y ≡ b →
    Contains (cond b (y ∷ filter p xs) (filter p xs)) x → Contains (y ∷ xs) x × (p x ≡ true)
from_first p y xs x from true e (zero, h, at) =
    let same : y ≡ x = at in ((0, omega arith, same), subst (λ z. p z ≡ true) same e)
from_first p y xs x from true e (suc k, h, at) =
    one_later p y xs x (from (k, omega (arith, h), at))
from_first p y xs x from false e there = one_later p y xs x (from there)

from_filter : (p : ℕ → Bool) (xs : List ℕ) (x : ℕ) → Contains (filter p xs) x →
    Contains xs x × (p x ≡ true)
from_filter p [] x has = absurd (not_in_nil x has)
from_filter p (y ∷ xs) x has = from_first p y xs x (from_filter p xs x) (p y) refl has

-- the number of those among distinct numbers
pub number_is : (system : System) (m : Marking) (xs : List ℕ) (count : ℕ) →
    AllPairs (λ a b. a ≢ b) xs → count ≡ length (filter (starts_at system m) xs) →
    IsNumberOf (λ n. MayStartIn system m n × Contains xs n) count
number_is system m xs count apart is = (
  filter (starts_at system m) xs,
  λ n. (
    λ has. let from = from_filter (starts_at system m) xs n has in
        (tells system m n from.1, from.0),
    λ its. in_filter (starts_at system m) xs n its.1 (told_of system m n its.0),
  ),
  AllPairs-filter (λ a b. a ≢ b) (starts_at system m) xs apart,
  is,
)
