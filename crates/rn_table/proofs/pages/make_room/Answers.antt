use Rattle.std.proofs.Common.{[], refl, sym, ap, ◌∙◌, subst, arith}
use Rattle.rn_table.specs.link.Leaves.{IsTable, instances_in, leaf_with, starting_from}
use Rattle.rn_table.proofs.TableLemmas.{page_more, one_page_more, one_start_more, empty_kept, empty_starts}
use Rattle.rn_table.proofs.pages.make_room.Goals as goal

pub returns-clause-table : goal.returns-clause-table
returns-clause-table c = subst (IsTable c.args.next) (sym c.in_ok-push.ensures) (page_more c.args.next c.args.leaves.now (leaf_with [] 0 0) c.requires refl refl refl (omega (arith, c.if-len-leaf_of.false, c.len.ensures, c.leaf_of.ensures)))

pub returns-clause-instances : goal.returns-clause-instances
returns-clause-instances c = ap instances_in c.in_ok-push.ensures ∙ one_page_more c.args.leaves.now (leaf_with [] 0 0) (empty_kept (leaf_with [] 0 0) refl)

pub returns-clause-starting : goal.returns-clause-starting
returns-clause-starting c = ap (starting_from 0) c.in_ok-push.ensures ∙ one_start_more 0 c.args.leaves.now (leaf_with [] 0 0) (λ j. empty_starts j (leaf_with [] 0 0) refl)
