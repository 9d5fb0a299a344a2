use Rattle.std.proofs.Common.{sym, ap, ◌∙◌, arith}
use Rattle.rn_model.specs.Markings.{instance_at}
use Rattle.rn_table.specs.Tables.{Kept}
use Rattle.rn_table.proofs.TableLemmas.{leaf_here, found_in, found_none}
use Rattle.rn_table.proofs.table.Table.find.Goals as goal

pub get-requires : goal.get-requires
get-requires c = (leaf_here c.self.inside.leaves c.leaf_of-at.result c.leaf.result c.self.invariant.leaves (omega (arith, c.if-at-len.false, c.len.ensures)) c.leaf.ensures).ascending

pub returns : goal.returns
returns c =
    c.get.ensures ∙ sym (found_in 0 c.args.number c.self.inside.leaves c.leaf_of-at.result c.leaf.result c.self.invariant.leaves (omega (arith, c.if-at-len.false, c.len.ensures)) c.leaf.ensures (omega (arith, c.leaf_of-at.ensures)))
    ∙ ap (λ (t : Kept). instance_at t.marking c.args.number) c.self.view_is

pub returns-then-at-len : goal.returns-then-at-len
returns-then-at-len c =
    sym (found_none c.args.number c.self.inside.leaves c.self.invariant.leaves (omega (arith, c.if-at-len.true, c.len.ensures, c.leaf_of-at.ensures))) ∙ ap (λ (t : Kept). instance_at t.marking c.args.number) c.self.view_is
