use Rattle.std.proofs.Common.{sym, ap, ◌∙◌, subst, arith}
use Rattle.std.specs.Prelude.{filter, not, nat_eq}
use Rattle.rn_table.specs.Tables.{Kept}
use Rattle.rn_table.specs.link.Leaves.{IsLeaf, IsTable, instances_in, starting_from}
use Rattle.rn_table.proofs.EditedLemmas.{table_stays}
use Rattle.rn_table.proofs.TableLemmas.{leaf_here, dropped_in, dropped_none, dropped_zero, starts_dropped, starts_none, starts_zero}
use Rattle.rn_table.proofs.RemovalLemmas.{left_of_system}
use Rattle.rn_table.proofs.table.Table.remove.Goals as goal

pub drop_one-requires-clause-leaf : goal.drop_one-requires-clause-leaf
drop_one-requires-clause-leaf c = λ leaf is.
    subst (λ j. IsLeaf j leaf) c.leaf_of-at.ensures (leaf_here c.self.inside.leaves c.leaf_of-at.result leaf c.self.invariant.leaves (omega (arith, c.if-at-len.false, c.len.ensures)) is)

pub invariant_of-self : goal.invariant_of-self
invariant_of-self c =
    let d = c.drop_one.ensures in
    subst (IsTable c.self.inside.next) (sym d.is)
    (table_stays c.self.inside.next c.self.inside.leaves c.leaf_of-at.result d.old d.new c.self.invariant (omega (arith, c.if-at-len.false, c.len.ensures)) d.was (subst (λ j. IsLeaf j d.new) (sym c.leaf_of-at.ensures) d.so.leaf) d.so.below)

pub returns-clause-instances : goal.returns-clause-instances
returns-clause-instances c =
    let d = c.drop_one.ensures in
    ap instances_in d.is
    ∙ dropped_in 0 c.args.number c.self.inside.leaves c.leaf_of-at.result d.old d.new c.self.invariant.leaves (omega (arith, c.if-at-len.false, c.len.ensures)) d.was (omega (arith, c.leaf_of-at.ensures)) d.so.instances
    ∙ ap (λ (t : Kept). filter (λ i. not (nat_eq i.number c.args.number)) t.marking.instances) c.self.view_is

pub returns-clause-starting : goal.returns-clause-starting
returns-clause-starting c =
    let d = c.drop_one.ensures in
    ap (starting_from 0) d.is
    ∙ starts_dropped 0 c.args.number c.self.inside.leaves c.leaf_of-at.result d.old d.new (omega (arith, c.if-at-len.false, c.len.ensures)) d.was (omega (arith, c.leaf_of-at.ensures)) d.so.starting
    ∙ ap (λ (t : Kept). filter (λ n. not (nat_eq n c.args.number)) t.starting) c.self.view_is

pub returns-then-at-len-clause-instances : goal.returns-then-at-len-clause-instances
returns-then-at-len-clause-instances c =
    ap (λ (t : Kept). t.marking.instances) (sym c.self.view_is) ∙ sym (dropped_none c.args.number c.self.inside.leaves c.self.invariant.leaves (omega (arith, c.if-at-len.true, c.len.ensures, c.leaf_of-at.ensures)))
    ∙ ap (λ (t : Kept). filter (λ i. not (nat_eq i.number c.args.number)) t.marking.instances) c.self.view_is

pub returns-then-at-len-clause-starting : goal.returns-then-at-len-clause-starting
returns-then-at-len-clause-starting c =
    ap (λ (t : Kept). t.starting) (sym c.self.view_is) ∙ sym (starts_none c.args.number c.self.inside.leaves (omega (arith, c.if-at-len.true, c.len.ensures, c.leaf_of-at.ensures)))
    ∙ ap (λ (t : Kept). filter (λ n. not (nat_eq n c.args.number)) t.starting) c.self.view_is

pub returns-then-number-eq0-clause-instances : goal.returns-then-number-eq0-clause-instances
returns-then-number-eq0-clause-instances c =
    ap (λ (t : Kept). t.marking.instances) (sym c.self.view_is) ∙ sym (dropped_zero c.self.inside.leaves c.self.invariant.leaves) ∙ ap (λ n. filter (λ i. not (nat_eq i.number n)) (instances_in c.self.inside.leaves)) (sym c.if-number-eq0.true)
    ∙ ap (λ (t : Kept). filter (λ i. not (nat_eq i.number c.args.number)) t.marking.instances) c.self.view_is

pub returns-then-number-eq0-clause-starting : goal.returns-then-number-eq0-clause-starting
returns-then-number-eq0-clause-starting c =
    ap (λ (t : Kept). t.starting) (sym c.self.view_is) ∙ sym (starts_zero c.self.inside.leaves) ∙ ap (λ n. filter (λ m. not (nat_eq m n)) (starting_from 0 c.self.inside.leaves)) (sym c.if-number-eq0.true)
    ∙ ap (λ (t : Kept). filter (λ n. not (nat_eq n c.args.number)) t.starting) c.self.view_is

pub returns-clause-of_system : goal.returns-clause-of_system
returns-clause-of_system c = λ system of.
    left_of_system system (λ n. not (nat_eq n c.args.number)) _ _ _ _ (returns-clause-instances c) (returns-clause-starting c) of
