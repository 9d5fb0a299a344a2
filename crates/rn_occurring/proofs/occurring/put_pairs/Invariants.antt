-- What was put, and what is left to put, is all.
use Rattle.std.proofs.Common.{◌≡◌, ◌++◌, drop}
use Rattle.std.specs.Prelude.{flat_map}
use Rattle.rn_model.specs.Systems.{vars_in}
use Rattle.rn_occurring.proofs.occurring.put_pairs.Given as goal

abbrev pub invariant-loop-pair : goal.invariant-loop-pair
invariant-loop-pair l =
    l.vars.items ++ flat_map (λ e. vars_in e.0 ++ vars_in e.1) (drop l.pair-index l.pairs)
    ≡ l.initial.vars.items ++ flat_map (λ e. vars_in e.0 ++ vars_in e.1) l.pairs
