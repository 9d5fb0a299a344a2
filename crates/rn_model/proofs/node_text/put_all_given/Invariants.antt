use Rattle.std.proofs.Common.{◌≡◌, ◌++◌, drop}
use Rattle.rn_model.specs.NodeText.{all_given_text}
use Rattle.rn_model.proofs.node_text.put_all_given.Given as goal

-- what is written so far and the values to come are all
abbrev pub invariant-loop-i : goal.invariant-loop-i
invariant-loop-i l = l.out.items ++ all_given_text l.names l.net (drop l.i l.vars) (drop l.i l.values) ≡ l.initial.out.items ++ all_given_text l.names l.net l.vars l.values
