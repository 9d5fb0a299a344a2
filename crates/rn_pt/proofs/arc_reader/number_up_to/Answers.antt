use Rattle.std.proofs.Common.{arith, Some, None}
use Rattle.rn_reading.specs.link.Stages.{done}
use Rattle.rn_reading.proofs.Sorts.{one, and_then, sign_of, a_number}
use Rattle.rn_reading.proofs.Uncounted.{started, goes, stops, opens, skips, so_fails}
use Rattle.rn_pt.specs.Grammar.{NumberUpTo}
use Rattle.rn_pt.proofs.Phrases.{semicolon, number_end, number_up_to, no_number}
use Rattle.rn_pt.proofs.arc_reader.number_up_to.Goals as goal

pub returns-in_err-number-clause-reads : goal.returns-in_err-number-clause-reads
returns-in_err-number-clause-reads c = so_fails (NumberUpTo c.args.opens) c.args.tokens.now c.args.at c.from_residual.result c.in_err-number.field-0.0 c.from_residual.ensures.1
    (stops a_number (λ a. number_end (Some a)) c.args.tokens.now c.in-Some.start c.in_err-number.field-0.0 (goes (sign_of c.args.opens) (λ b. and_then (one a_number) (λ a. number_end (Some a))) c.args.tokens.now c.args.at c.in-Some.start (opens (sign_of c.args.opens) (one a_number) number_end c.args.tokens.now c.args.at (no_number c.args.opens c.requires.apart) (started (number_up_to c.args.opens) c.args.tokens.now c.args.at) c.in-Some.ensures.0) c.in-Some.ensures) (omega (arith, c.in-Some.ensures.1, c.in-Some.ensures.0.1.1)) c.in_err-number.ensures)

pub returns-in_err-end-clause-reads : goal.returns-in_err-end-clause-reads
returns-in_err-end-clause-reads c = so_fails (NumberUpTo c.args.opens) c.args.tokens.now c.args.at c.from_residual-in_err-end.result c.in_err-end.field-0.0 c.from_residual-in_err-end.ensures.1
    (stops semicolon (λ s. done (Some c.in_ok-number.number)) c.args.tokens.now c.in_ok-number.after c.in_err-end.field-0.0 (goes a_number (λ a. number_end (Some a)) c.args.tokens.now c.in-Some.start c.in_ok-number.after (goes (sign_of c.args.opens) (λ b. and_then (one a_number) (λ a. number_end (Some a))) c.args.tokens.now c.args.at c.in-Some.start (opens (sign_of c.args.opens) (one a_number) number_end c.args.tokens.now c.args.at (no_number c.args.opens c.requires.apart) (started (number_up_to c.args.opens) c.args.tokens.now c.args.at) c.in-Some.ensures.0) c.in-Some.ensures) c.in_ok-number.ensures) (omega (arith, c.in_ok-number.ensures.1, c.in_ok-number.ensures.0.1.1)) c.in_err-end.ensures)

pub returns-in-Some-clause-reads : goal.returns-in-Some-clause-reads
returns-in-Some-clause-reads c = goes semicolon (λ s. done (Some c.in_ok-number.number)) c.args.tokens.now c.in_ok-number.after c.in_ok-end.end (goes a_number (λ a. number_end (Some a)) c.args.tokens.now c.in-Some.start c.in_ok-number.after (goes (sign_of c.args.opens) (λ b. and_then (one a_number) (λ a. number_end (Some a))) c.args.tokens.now c.args.at c.in-Some.start (opens (sign_of c.args.opens) (one a_number) number_end c.args.tokens.now c.args.at (no_number c.args.opens c.requires.apart) (started (number_up_to c.args.opens) c.args.tokens.now c.args.at) c.in-Some.ensures.0) c.in-Some.ensures) c.in_ok-number.ensures) c.in_ok-end.ensures

pub returns-in_err-end-2-clause-reads : goal.returns-in_err-end-2-clause-reads
returns-in_err-end-2-clause-reads c = so_fails (NumberUpTo c.args.opens) c.args.tokens.now c.args.at c.from_residual-in_err-end-2.result c.in_err-end-2.field-0.0 c.from_residual-in_err-end-2.ensures.1
    (stops semicolon (λ s. done None) c.args.tokens.now c.args.at c.in_err-end-2.field-0.0 (skips (sign_of c.args.opens) (one a_number) number_end c.args.tokens.now c.args.at (started (number_up_to c.args.opens) c.args.tokens.now c.args.at) c.in_default.ensures) c.requires.inside c.in_err-end-2.ensures)

pub returns-clause-reads : goal.returns-clause-reads
returns-clause-reads c = goes semicolon (λ s. done None) c.args.tokens.now c.args.at c.in_ok-end-2.end (skips (sign_of c.args.opens) (one a_number) number_end c.args.tokens.now c.args.at (started (number_up_to c.args.opens) c.args.tokens.now c.args.at) c.in_default.ensures) c.in_ok-end-2.ensures
