-- None of the expressions so far holds one.
use Rattle.std.proofs.Common.{◌≡◌, drop, map}
use Rattle.std.specs.Prelude.{is_some}
use Rattle.std.specs.List.{list_any}
use Rattle.rn_declared.specs.link.Tables.{found_in}
use Rattle.rn_rules.specs.Counted.{holds_name}
use Rattle.rn_rules.proofs.counted.+holds.Given as goal

abbrev pub invariant-any_holds_set-loop-expr : goal.invariant-any_holds_set-loop-expr
invariant-any_holds_set-loop-expr l =
    list_any (λ holds. holds (λ name. is_some (found_in l.setters name)))
    (map holds_name (drop l.expr-index l.exprs))
    ≡ list_any (λ holds. holds (λ name. is_some (found_in l.setters name))) (map holds_name l.exprs)
