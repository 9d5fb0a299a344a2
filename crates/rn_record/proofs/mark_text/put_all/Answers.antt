use Rattle.rn_model.specs.declared.repeats.Repeat.{Repeat}
use Rattle.std.specs.Prelude.{ℕ, List}
use Rattle.rn_model.specs.Repeats.{times}
use Rattle.rn_record.specs.RecordText.{token_text}
use Rattle.std.specs.List.{flat_map}
use Rattle.rn_record.proofs.RepeatedTexts.{nested}
use Rattle.std.proofs.Common.{ap, sym, ◌∙◌}
use Rattle.rn_window.specs.Windows.{after}
use Rattle.rn_spell.proofs.Pieces.{one_more, all_written}
use Rattle.rn_record.proofs.mark_text.put_all.Goals as goal

pub loop-repeat-preserved : goal.loop-repeat-preserved
loop-repeat-preserved g c =
    let text : Repeat → List ℕ = λ r. flat_map (token_text (g.N.Naming.names c.args.names.now)) (times r) in
    one_more text c.args.repeats.now c.loop-repeat.repeat-index c.repeat-item.result c.loop-repeat.window c.put_each.new.window (after c.args.window.now (flat_map text c.args.repeats.now)) c.loop-repeat-test.true c.repeat-item.is c.loop-repeat.invariant c.put_each.ensures

pub returns : goal.returns
returns g c =
    let text : Repeat → List ℕ = λ r. flat_map (token_text (g.N.Naming.names c.args.names.now)) (times r) in
    all_written text c.args.repeats.now c.loop-repeat.repeat-index c.loop-repeat.window (after c.args.window.now (flat_map text c.args.repeats.now)) c.loop-repeat-test.false c.loop-repeat.invariant
    ∙ ap (after c.args.window.now) (sym (nested (token_text (g.N.Naming.names c.args.names.now)) times c.args.repeats.now))
