use Rattle.std.proofs.Common.{sym, subst, None, true}
use Rattle.std.specs.Prelude.{Ok}
use Rattle.rn_reading.specs.link.Stages.{ReadsUncounted, done}
use Rattle.rn_reading.proofs.Uncounted.{started, goes, stops, so_fails}
use Rattle.rn_pt.specs.Grammar.{WeightUpTo}
use Rattle.rn_pt.proofs.Phrases.{semicolon, number_end}
use Rattle.rn_pt.proofs.arc_reader.weight_up_to.Goals as goal

pub returns-in_err-end-clause-reads : goal.returns-in_err-end-clause-reads
returns-in_err-end-clause-reads c = subst (λ b. ReadsUncounted (WeightUpTo b) c.args.tokens.now c.args.at c.from_residual.result) (sym c.if-inhibits.true)
    (so_fails (WeightUpTo true) c.args.tokens.now c.args.at c.from_residual.result c.in_err-end.field-0.0 c.from_residual.ensures.1
    (stops semicolon (λ s. done None) c.args.tokens.now c.args.at c.in_err-end.field-0.0 (started (number_end None) c.args.tokens.now c.args.at) c.requires.inside c.in_err-end.ensures))

pub returns-then-inhibits-clause-reads : goal.returns-then-inhibits-clause-reads
returns-then-inhibits-clause-reads c = subst (λ b. ReadsUncounted (WeightUpTo b) c.args.tokens.now c.args.at (Ok (None, c.in_ok-end.end))) (sym c.if-inhibits.true)
    (goes semicolon (λ s. done None) c.args.tokens.now c.args.at c.in_ok-end.end (started (number_end None) c.args.tokens.now c.args.at) c.in_ok-end.ensures)

pub returns-clause-reads : goal.returns-clause-reads
returns-clause-reads c = subst (λ b. ReadsUncounted (WeightUpTo b) c.args.tokens.now c.args.at c.number_up_to.result) (sym c.if-inhibits.false) c.number_up_to.ensures.reads
