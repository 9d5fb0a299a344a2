-- What is kept of each net, at its number.
use Rattle.std.proofs.Common.{ℕ, zero, suc, ◌≡◌, ◌<◌, ◌≤◌, List, [], ◌∷◌, ◌++◌, length, None}
use Rattle.std.proofs.Common.{refl, sym, ap, subst, arith, get_or}
use Rattle.std.specs.Prelude.{unwrap_or, slice_get}
use Rattle.rn_model.specs.declared.system.System.{System}
use Rattle.rn_model.specs.declared.system.Net.{Net}
use Rattle.rn_model.specs.Systems.{empty_net}
use Rattle.rn_channel.specs.declared.uplinks.NetUplinks.{NetUplinks}
use Rattle.rn_channel.specs.link.Uplinks.{AreOfNet, AreOfNets}

-- one more net
pub one_more_net : (system : System) (nets : List Net) (others : List NetUplinks) (net : Net)
    (kept : NetUplinks) → AreOfNets system nets others → AreOfNet system net kept →
    AreOfNets system (nets ++ net ∷ []) (others ++ kept ∷ [])
one_more_net system [] [] net kept are is = (is, tt)
one_more_net system (n ∷ nets) (k ∷ others) net kept are is =
    (are.0, one_more_net system nets others net kept are.1 is)
one_more_net system [] (k ∷ others) net kept are is = absurd are
one_more_net system (n ∷ nets) [] net kept are is = absurd are

-- what is kept at a number is of the net with that number
pub kept_is_of : (system : System) (nets : List Net) (all : List NetUplinks) (k : ℕ)
    (kept : NetUplinks) → AreOfNets system nets all → k < length all → kept ≡ get_or all k kept →
    AreOfNet system (unwrap_or (slice_get nets k) empty_net) kept
kept_is_of system [] [] k kept are below here = absurd (omega (arith, below))
kept_is_of system [] (x ∷ all) k kept are below here = absurd are
kept_is_of system (n ∷ nets) [] k kept are below here = absurd are
kept_is_of system (n ∷ nets) (x ∷ all) zero kept are below here =
    subst (λ y. AreOfNet system n y) (sym here) are.0
kept_is_of system (n ∷ nets) (x ∷ all) (suc k) kept are below here =
    kept_is_of system nets all k kept are.1 (omega (arith, below)) here

-- past what is kept there is no net
pub none_past : (system : System) (nets : List Net) (all : List NetUplinks) (k : ℕ) →
    AreOfNets system nets all → length all ≤ k → slice_get nets k ≡ None
none_past system [] [] k are past = refl
none_past system [] (x ∷ all) k are past = absurd are
none_past system (n ∷ nets) [] k are past = absurd are
none_past system (n ∷ nets) (x ∷ all) zero are past = absurd (omega (arith, past))
none_past system (n ∷ nets) (x ∷ all) (suc k) are past =
    none_past system nets all k are.1 (omega (arith, past))

-- there are as many as nets
pub as_many : (system : System) (nets : List Net) (all : List NetUplinks) →
    AreOfNets system nets all → length all ≡ length nets
as_many system [] [] are = refl
as_many system [] (x ∷ all) are = absurd are
as_many system (n ∷ nets) [] are = absurd are
as_many system (n ∷ nets) (x ∷ all) are = ap suc (as_many system nets all are.1)
