use Rattle.std.proofs.Common.{sym, ap, ◌∙◌, subst}
use Rattle.std.specs.Prelude.{filter}
use Rattle.rn_table.specs.link.Leaves.{Ascending, has_number}
use Rattle.rn_table.proofs.InstanceLemmas.{ascending_filtered}
use Rattle.rn_table.proofs.page.edit_page.Goals as goal

pub edit-requires-2 : goal.edit-requires-2
edit-requires-2 c = subst Ascending (sym (c.in_ok-copied.ensures ∙ ap (filter (has_number c.args.kept)) c.deref.ensures)) (ascending_filtered (has_number c.args.kept) c.args.page.now.value c.requires)
