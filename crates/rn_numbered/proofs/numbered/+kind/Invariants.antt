-- The kinds are those of the kinds so far.
use Rattle.std.proofs.Common.{◌≡◌, map, take}
use Rattle.rn_numbered.specs.Numbered.{kind_of}
use Rattle.rn_numbered.proofs.numbered.+kind.Given as goal

abbrev pub invariant-kinds_of-loop-kind : goal.invariant-kinds_of-loop-kind
invariant-kinds_of-loop-kind l = l.made.items ≡ map kind_of (take l.kind-index l.kinds)
