use Rattle.std.proofs.Common.{sym, ap, ◌∙◌, subst, arith}
use Rattle.rn_table.specs.link.Leaves.{IsLeaf, IsTable, instances_in, page_of, starting_from}
use Rattle.rn_table.specs.link.Steps.{Step}
use Rattle.rn_table.proofs.TableLemmas.{leaf_here}
use Rattle.rn_table.proofs.EditedLemmas.{edited_in, edited_none, edited_zero, starts_stay, table_stays}
use Rattle.rn_table.proofs.pages.edit_one.Goals as goal

pub returns-then-at-len-clause-instances : goal.returns-then-at-len-clause-instances
returns-then-at-len-clause-instances c = edited_none c.args.edit.now c.args.leaves.now c.requires.1.leaves (omega (arith, c.if-at-len.true, c.len.ensures, c.leaf_of-at.ensures, ap (λ (s : Step). page_of s.inst) c.edit.view_is))

pub returns-then-edit-eq0-clause-instances : goal.returns-then-edit-eq0-clause-instances
returns-then-edit-eq0-clause-instances c = edited_zero c.args.edit.now c.args.leaves.now c.requires.1.leaves (omega (arith, c.if-edit-eq0.true, ap (λ (s : Step). s.inst) c.edit.view_is))

pub edit-requires-clause-leaf : goal.edit-requires-clause-leaf
edit-requires-clause-leaf c = λ leaf is.
    subst (λ j. IsLeaf j leaf) (c.leaf_of-at.ensures ∙ ap (λ (s : Step). page_of s.inst) c.edit.view_is)
    (leaf_here c.args.leaves.now c.leaf_of-at.result leaf c.requires.1.leaves (omega (arith, c.if-at-len.false, c.len.ensures)) is)

pub returns-clause-table : goal.returns-clause-table
returns-clause-table c = λ n is.
    let d = c.in_ok-edit.ensures in
    subst (IsTable n) (sym d.is)
    (table_stays n c.args.leaves.now c.leaf_of-at.result d.old d.new is (omega (arith, c.if-at-len.false, c.len.ensures)) d.was
    (subst (λ j. IsLeaf j d.new) (sym (c.leaf_of-at.ensures ∙ ap (λ (s : Step). page_of s.inst) c.edit.view_is)) d.so.leaf) d.so.below)

pub returns-clause-instances : goal.returns-clause-instances
returns-clause-instances c =
    let d = c.in_ok-edit.ensures in
    ap instances_in d.is
    ∙ edited_in c.args.edit.now 0 c.args.leaves.now c.leaf_of-at.result d.old d.new c.requires.1.leaves (omega (arith, c.if-at-len.false, c.len.ensures)) d.was
    (omega (arith, c.leaf_of-at.ensures, ap (λ (s : Step). page_of s.inst) c.edit.view_is)) d.so.instances

pub returns-clause-starting : goal.returns-clause-starting
returns-clause-starting c =
    let d = c.in_ok-edit.ensures in
    ap (starting_from 0) d.is ∙ starts_stay 0 c.args.leaves.now c.leaf_of-at.result d.old d.new (omega (arith, c.if-at-len.false, c.len.ensures)) d.was d.so.starting
