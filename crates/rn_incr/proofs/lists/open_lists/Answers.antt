use Rattle.std.proofs.Common.{ℕ, List, [], sym, subst}
use Rattle.std.specs.Prelude.{slice_index_or}
use Rattle.rn_model.specs.declared.binding.Binding.{Binding}
use Rattle.rn_table.specs.Tables.{Kept}
use Rattle.rn_incr.specs.Lists.{IsListOf}
use Rattle.rn_incr.proofs.lists.open_lists.Goals as goal

pub returns-clause-lists : goal.returns-clause-lists
returns-clause-lists c =
    subst
    (λ (t : Kept). (n : ℕ) → IsListOf c.args.system.now t.marking c.args.depth n
    (slice_index_or c.in_ok-kept.kept n []))
    (sym c.in_ok-table.ensures)
    (subst
    (λ (lists : List (List Binding)). (n : ℕ) →
    IsListOf c.args.system.now c.args.table.now.marking c.args.depth n (slice_index_or lists n []))
    (sym c.in_ok-kept.ensures) c.in_ok-lists.ensures)
