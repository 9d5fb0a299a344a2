-- What was put, and what is left to put, is all.
use Rattle.std.proofs.Common.{◌≡◌, ◌++◌, drop, map}
use Rattle.std.specs.Prelude.{flat_map}
use Rattle.std.specs.List.{concat}
use Rattle.rn_model.specs.Systems.{vars_in}
use Rattle.rn_occurring.proofs.occurring.put_downlinks.Given as goal

abbrev pub invariant-loop-downlink : goal.invariant-loop-downlink
invariant-loop-downlink l =
    l.vars.items ++ flat_map (λ d. vars_in d.target ++ concat (map vars_in d.args)) (drop l.downlink-index l.downlinks)
    ≡ l.initial.vars.items ++ flat_map (λ d. vars_in d.target ++ concat (map vars_in d.args)) l.downlinks
