-- The variables are those of the declarations so far.
use Rattle.std.proofs.Common.{◌≡◌, map, take}
use Rattle.rn_numbered.specs.Numbered.{kind_of}
use Rattle.rn_numbering.proofs.declarations.vars_of.Given as goal

abbrev pub invariant-loop-var : goal.invariant-loop-var
invariant-loop-var l =
    l.made.items ≡ map (λ v. record { name = v.name.text; kind = kind_of v.kind }) (take l.var-index l.vars)
