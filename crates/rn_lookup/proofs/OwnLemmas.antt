-- The tables of each net, at its number.
use Rattle.std.proofs.Common.{ℕ, zero, suc, ◌≡◌, ◌<◌, ◌≤◌, List, [], ◌∷◌, ◌++◌, length, None}
use Rattle.std.proofs.Common.{refl, sym, subst, arith, get_or}
use Rattle.std.specs.Prelude.{unwrap_or, slice_get}
use Rattle.rn_model.specs.declared.system.Net.{Net}
use Rattle.rn_model.specs.Systems.{empty_net}
use Rattle.rn_lookup.specs.declared.directory.OwnNames.{OwnNames}
use Rattle.rn_lookup.specs.link.Tables.{IsOwnOf, AreOwnOf}

-- one more net
pub one_more_net : (nets : List Net) (others : List OwnNames) (net : Net) (own : OwnNames) →
    AreOwnOf nets others → IsOwnOf net own → AreOwnOf (nets ++ net ∷ []) (others ++ own ∷ [])
one_more_net [] [] net own are is = (is, tt)
one_more_net (n ∷ nets) (o ∷ others) net own are is =
    (are.0, one_more_net nets others net own are.1 is)
one_more_net [] (o ∷ others) net own are is = absurd are
one_more_net (n ∷ nets) [] net own are is = absurd are

-- the tables at a number are those of the net with that number
pub own_is_of : (nets : List Net) (all : List OwnNames) (k : ℕ) (own : OwnNames) →
    AreOwnOf nets all → k < length all → own ≡ get_or all k own →
    IsOwnOf (unwrap_or (slice_get nets k) empty_net) own
own_is_of [] [] k own are below here = absurd (omega (arith, below))
own_is_of [] (x ∷ all) k own are below here = absurd are
own_is_of (n ∷ nets) [] k own are below here = absurd are
own_is_of (n ∷ nets) (x ∷ all) zero own are below here =
    subst (λ y. IsOwnOf n y) (sym here) are.0
own_is_of (n ∷ nets) (x ∷ all) (suc k) own are below here =
    own_is_of nets all k own are.1 (omega (arith, below)) here

-- past the tables there is no net
pub none_past : (nets : List Net) (all : List OwnNames) (k : ℕ) →
    AreOwnOf nets all → length all ≤ k → slice_get nets k ≡ None
none_past [] [] k are past = refl
none_past [] (x ∷ all) k are past = absurd are
none_past (n ∷ nets) [] k are past = absurd are
none_past (n ∷ nets) (x ∷ all) zero are past = absurd (omega (arith, past))
none_past (n ∷ nets) (x ∷ all) (suc k) are past = none_past nets all k are.1 (omega (arith, past))
