use Rattle.rn_net.proofs.Names.{rules, length, done, between, declaring, max_of, IsPlaceEnd, end_of}
use Rattle.std.proofs.Common.{Some, None}
use Rattle.rn_reading.specs.declared.fault.ReadFault.TheVariants as Fault
use Rattle.rn_net.proofs.Steps.{failed, failed_as, same_end, then_read, then_fails}
use Rattle.rn_net.proofs.DeclarationPhrases.{initials, max_given, max_stuck, max_none}
use Rattle.rn_net.proofs.declaration_reader.place_end.Goals as goal

pub returns-in_err-spot-clause-reads : goal.returns-in_err-spot-clause-reads
returns-in_err-spot-clause-reads c =
    failed_as IsPlaceEnd c.args.tokens.now c.args.at (declaring 0) between c.from_residual.result
    c.in_err-spot.field-0.0 (Fault.Stopped c.in-Some.after_word) c.from_residual.ensures.1
    c.in_err-spot.ensures.1
    (max_stuck c.args.tokens.now c.args.at c.in-Some.after_word c.in-Some.ensures.0
    c.in-Some.ensures.1 c.in_err-spot.ensures.0)

pub returns-in_err-initial-clause-reads : goal.returns-in_err-initial-clause-reads
returns-in_err-initial-clause-reads c =
    let max = max_of c.in_ok-spot.number c.in_ok-spot.spot in
    failed IsPlaceEnd c.args.tokens.now c.args.at (declaring 0) between
    c.from_residual-in_err-initial.result c.in_err-initial.field-0.0
    c.from_residual-in_err-initial.ensures.1
    (then_fails initials (λ initial. done (end_of (Some max) initial)) (length c.args.tokens.now)
    c.in_err-initial.field-0.0
    (max_given c.args.tokens.now c.args.at c.in-Some.after_word c.in_ok-spot.after_number
    c.in-Some.ensures.0 c.in-Some.ensures.1 c.in_ok-spot.ensures.0 c.in_ok-spot.ensures.1)
    c.in_err-initial.ensures.reads)

pub returns-in-Some-clause-reads : goal.returns-in-Some-clause-reads
returns-in-Some-clause-reads c =
    let max = max_of c.in_ok-spot.number c.in_ok-spot.spot in
    same_end (search rules)
    (then_read initials (λ initial. done (end_of (Some max) initial))
    (max_given c.args.tokens.now c.args.at c.in-Some.after_word c.in_ok-spot.after_number
    c.in-Some.ensures.0 c.in-Some.ensures.1 c.in_ok-spot.ensures.0 c.in_ok-spot.ensures.1)
    c.in_ok-initial.ensures.reads)

pub returns-in_err-initial-2-clause-reads : goal.returns-in_err-initial-2-clause-reads
returns-in_err-initial-2-clause-reads c =
    failed IsPlaceEnd c.args.tokens.now c.args.at (declaring 0) between
    c.from_residual-in_err-initial-2.result c.in_err-initial-2.field-0.0
    c.from_residual-in_err-initial-2.ensures.1
    (then_fails initials (λ initial. done (end_of None initial)) (length c.args.tokens.now)
    c.in_err-initial-2.field-0.0 (max_none c.args.tokens.now c.args.at c.in_default.ensures)
    c.in_err-initial-2.ensures.reads)

pub returns-clause-reads : goal.returns-clause-reads
returns-clause-reads c =
    then_read initials (λ initial. done (end_of None initial))
    (max_none c.args.tokens.now c.args.at c.in_default.ensures) c.in_ok-initial-2.ensures.reads
