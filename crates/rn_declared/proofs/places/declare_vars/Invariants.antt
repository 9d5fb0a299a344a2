-- The patterns, and what was reported, are those of the variables so far.
use Rattle.std.proofs.Common.{◌≡◌, map, take}
use Rattle.std.specs.Prelude.{flat_map, IfSome, option_copied}
use Rattle.rn_declared.specs.Faults.{first_from}
use Rattle.rn_declared.specs.Patterns.{pattern_of}
use Rattle.rn_declared.specs.Declarations.{kind_faults}
use Rattle.rn_declared.specs.link.SeenBefore.{WasSeen}
use Rattle.rn_declared.proofs.places.declare_vars.Given as goal

abbrev pub invariant-loop-var : goal.invariant-loop-var
invariant-loop-var l = record {
  patterns : l.patterns.items ≡ map (λ v. pattern_of v.kind) (take l.var-index l.vars);
  seen : IfSome (option_copied l.before) (WasSeen l.first.fault l.patterns.items);
  told : l.first.fault
      ≡ first_from l.initial.first.fault (flat_map (λ v. kind_faults v.kind) (take l.var-index l.vars));
}
