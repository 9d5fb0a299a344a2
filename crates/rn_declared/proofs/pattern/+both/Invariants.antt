-- The patterns so far, and those of what is left, are all.
use Rattle.std.proofs.Common.{◌≡◌, ◌++◌, map, drop}
use Rattle.rn_declared.specs.Patterns.{both_of, all_both}
use Rattle.rn_declared.specs.declared.pattern.Pattern.TheVariants as Form
use Rattle.rn_declared.proofs.pattern.+both.Given as goal

abbrev pub invariant-tuple_any-loop-part : goal.invariant-tuple_any-loop-part
invariant-tuple_any-loop-part l =
    l.patterns.items ++ map (λ both. both Form.Any) (map both_of (drop l.part-index l.parts))
    ≡ map (λ both. both Form.Any) (map both_of l.parts)

abbrev pub invariant-tuple_both-loop-i : goal.invariant-tuple_both-loop-i
invariant-tuple_both-loop-i l =
    l.patterns.items ++ all_both (map both_of (drop l.i l.parts)) (drop l.i l.others)
    ≡ all_both (map both_of l.parts) l.others
