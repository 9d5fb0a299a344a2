use Rattle.std.proofs.Common.{arith}
use Rattle.rn_reading.proofs.Uncounted.{started, goes, stops, so_fails, itself}
use Rattle.rn_pt.specs.Grammar.{IsPtNet}
use Rattle.rn_pt.proofs.Phrases.{a_pt, open_brace, net, net_open, parts_up_to}
use Rattle.rn_pt.proofs.net_reader.net.Goals as goal

pub returns-in_err-after_word : goal.returns-in_err-after_word
returns-in_err-after_word c = so_fails IsPtNet c.args.tokens.now 0 c.from_residual.result c.in_err-after_word.field-0.0 c.from_residual.ensures.1
    (stops a_pt (λ s. net_open) c.args.tokens.now 0 c.in_err-after_word.field-0.0 (started net c.args.tokens.now 0) (omega arith) c.in_err-after_word.ensures)

pub returns-in_err-inside : goal.returns-in_err-inside
returns-in_err-inside c = so_fails IsPtNet c.args.tokens.now 0 c.from_residual-in_err-inside.result c.in_err-inside.field-0.0 c.from_residual-in_err-inside.ensures.1
    (stops open_brace (λ s. parts_up_to) c.args.tokens.now c.in_ok-after_word.after_word c.in_err-inside.field-0.0 (goes a_pt (λ s. net_open) c.args.tokens.now 0 c.in_ok-after_word.after_word (started net c.args.tokens.now 0) c.in_ok-after_word.ensures) (omega (arith, c.in_ok-after_word.ensures.1, c.in_ok-after_word.ensures.0.1.1)) c.in_err-inside.ensures)

pub returns : goal.returns
returns c = itself parts_up_to IsPtNet c.args.tokens.now 0 c.in_ok-inside.inside c.parts_up_to.result (goes open_brace (λ s. parts_up_to) c.args.tokens.now c.in_ok-after_word.after_word c.in_ok-inside.inside (goes a_pt (λ s. net_open) c.args.tokens.now 0 c.in_ok-after_word.after_word (started net c.args.tokens.now 0) c.in_ok-after_word.ensures) c.in_ok-inside.ensures) c.parts_up_to.ensures.reads
