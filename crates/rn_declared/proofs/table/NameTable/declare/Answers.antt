-- A new name finds its number, one that is declared again its first, and every other what it found.
use Rattle.std.proofs.Common.{◌∙◌, ap, sym}
use Rattle.std.specs.Prelude.{is_some}
use Rattle.rn_declared.specs.link.Tables.{found_in}
use Rattle.rn_declared.proofs.TableLemmas.{declared_found, declared_again}
use Rattle.rn_declared.proofs.table.NameTable.declare.Goals as goal

pub returns-in-None-clause-found : goal.returns-in-None-clause-found
returns-in-None-clause-found c =
    let copied = c.in_ok-copy_text.ensures in
    declared_found (found_in c.args.self.now) (found_in record { numbers = c.insert.new.self })
    c.args.name.now c.in_ok-copy_text.field-0 c.args.number copied
    (ap is_some (ap (found_in c.args.self.now) (sym copied) ∙ sym c.in_ok-insert.ensures.old ∙ c.in-None.is))
    c.in_ok-insert.ensures.updates.0

pub returns-in_ok-insert-in-Some-clause-found : goal.returns-in_ok-insert-in-Some-clause-found
returns-in_ok-insert-in-Some-clause-found c =
    declared_again (found_in c.args.self.now) (found_in record { numbers = c.insert.new.self })
    (found_in record { numbers = c.insert-in-Some.new.self }) c.args.name.now
    c.in_ok-copy_text.field-0 c.in_ok-copy_text-in-Some.field-0 c.args.number c.in-Some.first
    c.in_ok-copy_text.ensures c.in_ok-copy_text-in-Some.ensures
    (sym c.in-Some.is ∙ c.in_ok-insert.ensures.old)
    c.in_ok-insert.ensures.updates.0 c.in_ok-insert-in-Some.ensures.updates.0
