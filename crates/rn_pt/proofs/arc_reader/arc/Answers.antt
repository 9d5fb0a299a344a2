use Rattle.std.proofs.Common.{subst, arith}
use Rattle.rn_reading.specs.link.Stages.{done}
use Rattle.rn_reading.proofs.Sorts.{a_name}
use Rattle.rn_reading.proofs.Uncounted.{started, goes, stops, reads, fails, so_fails}
use Rattle.std.specs.Prelude.{Ok, Err}
use Rattle.rn_reading.specs.link.Stages.{ReadsUncounted}
use Rattle.rn_pt.specs.Grammar.{IsPtArc, arc_of, inhibits, WeightUpTo}
use Rattle.rn_pt.proofs.Phrases.{an_arc_word, arc, arc_place, arc_end, weight_up_to}
use Rattle.rn_pt.proofs.arc_reader.arc.Goals as goal

pub returns-in_err-word-clause-reads : goal.returns-in_err-word-clause-reads
returns-in_err-word-clause-reads c = so_fails IsPtArc c.args.tokens.now c.args.at c.from_residual.result c.in_err-word.field-0.0 c.from_residual.ensures.1
    (stops an_arc_word arc_place c.args.tokens.now c.args.at c.in_err-word.field-0.0 (started arc c.args.tokens.now c.args.at) c.requires c.in_err-word.ensures)

pub returns-in_err-place-clause-reads : goal.returns-in_err-place-clause-reads
returns-in_err-place-clause-reads c = so_fails IsPtArc c.args.tokens.now c.args.at c.from_residual-in_err-place.result c.in_err-place.field-0.0 c.from_residual-in_err-place.ensures.1
    (stops a_name (arc_end c.in_ok-word.word) c.args.tokens.now c.in_ok-word.after_word c.in_err-place.field-0.0 (goes an_arc_word arc_place c.args.tokens.now c.args.at c.in_ok-word.after_word (started arc c.args.tokens.now c.args.at) c.in_ok-word.ensures) (omega (arith, c.in_ok-word.ensures.1, c.in_ok-word.ensures.0.1.1)) c.in_err-place.ensures)

pub returns-in_err-weight-clause-reads : goal.returns-in_err-weight-clause-reads
returns-in_err-weight-clause-reads c = so_fails IsPtArc c.args.tokens.now c.args.at c.from_residual-in_err-weight.result c.in_err-weight.field-0.0 c.from_residual-in_err-weight.ensures.1
    (fails (weight_up_to (inhibits c.in_ok-word.word.kind)) (λ weight. done (arc_of c.in_ok-word.word c.in_ok-place.place weight)) c.args.tokens.now c.in_ok-place.after_place c.in_err-weight.field-0.0 (goes a_name (arc_end c.in_ok-word.word) c.args.tokens.now c.in_ok-word.after_word c.in_ok-place.after_place (goes an_arc_word arc_place c.args.tokens.now c.args.at c.in_ok-word.after_word (started arc c.args.tokens.now c.args.at) c.in_ok-word.ensures) c.in_ok-place.ensures) (subst (λ b. ReadsUncounted (WeightUpTo b) c.args.tokens.now c.in_ok-place.after_place (Err c.in_err-weight.field-0.0)) c.inhibits.ensures c.in_err-weight.ensures.reads))

pub returns-clause-reads : goal.returns-clause-reads
returns-clause-reads c = reads (weight_up_to (inhibits c.in_ok-word.word.kind)) (λ weight. done (arc_of c.in_ok-word.word c.in_ok-place.place weight)) c.args.tokens.now c.in_ok-place.after_place c.in_ok-weight.end (goes a_name (arc_end c.in_ok-word.word) c.args.tokens.now c.in_ok-word.after_word c.in_ok-place.after_place (goes an_arc_word arc_place c.args.tokens.now c.args.at c.in_ok-word.after_word (started arc c.args.tokens.now c.args.at) c.in_ok-word.ensures) c.in_ok-place.ensures) (subst (λ b. ReadsUncounted (WeightUpTo b) c.args.tokens.now c.in_ok-place.after_place (Ok (c.in_ok-weight.weight, c.in_ok-weight.end))) c.inhibits.ensures c.in_ok-weight.ensures.reads)
