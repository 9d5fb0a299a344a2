use Rattle.std.proofs.Common.{ℕ, List, ◌-◌, length, take, drop, ap, ◌∙◌, arith}
use Rattle.std.specs.List.{flat_map}
use Rattle.rn_value.specs.Text.{inst_text}
use Rattle.rn_value.specs.declared.value.InstRef.{InstRef}
use Rattle.rn_value.specs.declared.value.Value.{Value}
use Rattle.rn_window.specs.Windows.{after}
use Rattle.rn_window.proofs.Windows.{byte_then}
use Rattle.rn_spell.specs.Spelling.{spelled}
use Rattle.rn_spell.proofs.Pieces.{one_more, all_written, comma_and, row_written, no_row}
use Rattle.rn_spell.proofs.values.+text.Goals as goal

pub put_all-loop-value-preserved : goal.put_all-loop-value-preserved
put_all-loop-value-preserved g t c =
    let inst : InstRef → List ℕ = λ i. inst_text (g.N.Naming.names c.args.naming.now) (g.N.Naming.renamed c.args.naming.now i) in
    let others : List Value = take (length c.args.values.now - 1) (drop 1 c.args.values.now) in
    let value = c.value-item.result in
    one_more (comma_and inst) others c.loop-value.value-index value
    c.loop-value.window c.put_value-in-loop-value.new.window
    (after c.put_value.new.window (flat_map (comma_and inst) others)) c.loop-value-test.true c.value-item.is c.loop-value.invariant
    (c.put_value-in-loop-value.ensures
    ∙ ap (λ w. after w (spelled value inst)) c.put_byte.ensures
    ∙ byte_then c.loop-value.window 44 (spelled value inst))

pub put_all-returns-in-empty : goal.put_all-returns-in-empty
put_all-returns-in-empty g t c =
    no_row (λ i. inst_text (g.N.Naming.names c.args.naming.now) (g.N.Naming.renamed c.args.naming.now i))
    c.args.values.now c.args.window.now c.in-empty.len_below

pub put_all-returns-after-loop-value : goal.put_all-returns-after-loop-value
put_all-returns-after-loop-value g t c =
    let inst : InstRef → List ℕ = λ i. inst_text (g.N.Naming.names c.args.naming.now) (g.N.Naming.renamed c.args.naming.now i) in
    let others : List Value = take (length c.args.values.now - 1) (drop 1 c.args.values.now) in
    row_written inst c.args.values.now c.first-item.result c.args.window.now c.put_value.new.window c.loop-value.window
    c.in-len1-up.len_at_least c.first-item.is c.put_value.ensures
    (all_written (comma_and inst) others c.loop-value.value-index c.loop-value.window
    (after c.put_value.new.window (flat_map (comma_and inst) others))
    (omega (arith, c.loop-value-test.false)) c.loop-value.invariant)
