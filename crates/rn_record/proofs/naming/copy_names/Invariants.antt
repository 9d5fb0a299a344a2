use Rattle.std.proofs.Common.{◌≡◌, ◌++◌, drop}
use Rattle.rn_record.proofs.naming.copy_names.Given as goal

-- the names so far and those to come are all
abbrev pub invariant-loop-k : goal.invariant-loop-k
invariant-loop-k l = l.copied ++ drop l.k l.names ≡ l.names
