use Rattle.std.proofs.Common.{◌≡◌, ◌++◌, ℕ, List, take, sym, ap, ◌∙◌}
use Rattle.std.specs.Prelude.{flat_map}
use Rattle.rn_value.specs.declared.value.Value.{Value}
use Rattle.rn_window.specs.Windows.{after}
use Rattle.rn_window.proofs.Windows.{chained}
use Rattle.rn_record.specs.RecordText.{names_after, binding_text, firing_lead, printed_line, entry_text}
use Rattle.rn_record.specs.Named.{names_with}
use Rattle.rn_record.proofs.entry_text.EntryTextText.put.Goals as goal

pub returns-in-Fire : goal.returns-in-Fire
returns-in-Fire g c =
    let t = c.args.self.now in
    let system = t.system.now in
    let all = g.N.Naming.names t.names.now in
    let names = take t.before all in
    let b = c.in-Fire.binding in
    let lead = firing_lead t.step c.in-Fire.worker in
    let lines = binding_text system names lead b in
    let named : all ≡ names_after system names b = t.named ∙ ap (names_with system names) c.in-Fire.is in
    let printed : List (List ℕ) → List Value → List ℕ = λ ns outs. flat_map (printed_line ns lead) outs in
    let outs : printed all c.as_slice.result.now ≡ printed (names_after system names b) c.in-Fire.outs =
    λ i. printed (named i) (c.as_slice.ensures i) in
    c.put_printed.ensures ∙ ap (λ w. after w (printed all c.as_slice.result.now)) c.put_lines.ensures
    ∙ chained c.args.window.now lines (printed all c.as_slice.result.now)
    ∙ ap (λ text. after c.args.window.now (lines ++ text)) outs
    ∙ ap (λ entry. after c.args.window.now (entry_text system names t.step entry)) (sym c.in-Fire.is)
