use Rattle.std.proofs.Common.{take, sym, ap, ◌∙◌}
use Rattle.std.specs.Prelude.{codes}
use Rattle.rn_window.specs.Windows.{after}
use Rattle.rn_window.proofs.Windows.{chained}
use Rattle.rn_record.specs.RecordText.{binding_text, fault_line, end_text}
use Rattle.rn_record.proofs.entry_text.put_end.Goals as goal

pub returns-in-Fault : goal.returns-in-Fault
returns-in-Fault g c =
    let system = c.args.system.now in
    let names = take c.args.before (g.N.Naming.names c.args.names.now) in
    let lines = binding_text system names (codes "! ") c.in-Fault.binding in
    c.put_lines.ensures ∙ ap (λ w. after w lines) c.put_fault_line.ensures
    ∙ chained c.args.window.now (fault_line c.in-Fault.cause) lines
    ∙ ap (λ reason. after c.args.window.now (end_text system names reason)) (sym c.in-Fault.is)
