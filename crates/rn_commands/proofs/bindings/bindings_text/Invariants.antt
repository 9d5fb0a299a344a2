-- What is written so far and the bindings to come are all.
use Rattle.std.proofs.Common.{◌≡◌, ◌++◌, ◌+◌, drop}
use Rattle.rn_commands.specs.Bindings.{bindings_text}
use Rattle.rn_commands.proofs.bindings.bindings_text.Given as goal

abbrev pub invariant-loop-k : goal.invariant-loop-k
invariant-loop-k l =
    l.text.items ++ bindings_text l.system (l.k + 1) (drop l.k l.found)
    ≡ bindings_text l.system 1 l.found
