use Rattle.std.proofs.Common.{ℕ, ◌<◌, [], get_or}
use Rattle.std.specs.Prelude.{unwrap_or}
use Rattle.std.specs.Option.{option_copied}
use Rattle.rn_value.specs.declared.value.Value.{Value}
use Rattle.rn_model.specs.Lists.{count_of}
use Rattle.rn_arcs.proofs.fitting.are_left.Given as goal

abbrev pub invariant-loop-value : goal.invariant-loop-value
invariant-loop-value l =
    (k : ℕ) (d : Value) → k < l.value-index →
    count_of (get_or l.tested k d) l.taken
    < count_of (get_or l.tested k d) (unwrap_or (option_copied l.bag) [])
