-- Whether all constants fit is whether those from here on do.
use Rattle.std.proofs.Common.{◌≡◌, map, drop}
use Rattle.std.specs.List.{list_all}
use Rattle.rn_declared.specs.Declarations.{fits, all_fit}
use Rattle.rn_declared.proofs.kinds.+fits.Given as goal

abbrev pub invariant-all_fit-loop-i : goal.invariant-all_fit-loop-i
invariant-all_fit-loop-i l =
    all_fit (map fits (drop l.i l.parts)) (drop l.i l.patterns) ≡ all_fit (map fits l.parts) l.patterns

abbrev pub invariant-each_fits-loop-part : goal.invariant-each_fits-loop-part
invariant-each_fits-loop-part l =
    list_all (λ test. test l.pattern) (map fits (drop l.part-index l.parts))
    ≡ list_all (λ test. test l.pattern) (map fits l.parts)
