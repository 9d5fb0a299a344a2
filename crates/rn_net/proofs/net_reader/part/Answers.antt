use Rattle.rn_net.proofs.Names.{length, done, between, Part, IsNetPart}
use Rattle.rn_net.proofs.Steps.{failed, then_read, then_fails}
use Rattle.rn_net.proofs.NetPhrases.{many_vars, one_place, one_transition, part_vars, part_place, part_transition, part_none}
use Rattle.rn_net.proofs.net_reader.part.Goals as goal

pub returns-in_err-more-clause-reads : goal.returns-in_err-more-clause-reads
returns-in_err-more-clause-reads c = failed (IsNetPart c.args.notation) c.args.tokens.now c.args.at between between c.from_residual.result c.in_err-more.field-0.0 c.from_residual.ensures.1
    (then_fails many_vars (λ a. done (Part.Vars a)) (length c.args.tokens.now) c.in_err-more.field-0.0 (part_vars c.args.notation c.args.tokens.now c.args.at c.in-Some.ensures.0) c.in_err-more.ensures.reads)

pub returns-in-Some-clause-reads : goal.returns-in-Some-clause-reads
returns-in-Some-clause-reads c = then_read many_vars (λ a. done (Part.Vars a)) (part_vars c.args.notation c.args.tokens.now c.args.at c.in-Some.ensures.0) c.in_ok-more.ensures.reads

pub returns-in_err-more-2-clause-reads : goal.returns-in_err-more-2-clause-reads
returns-in_err-more-2-clause-reads c = failed (IsNetPart c.args.notation) c.args.tokens.now c.args.at between between c.from_residual-in_err-more-2.result c.in_err-more-2.field-0.0 c.from_residual-in_err-more-2.ensures.1
    (then_fails one_place (λ a. done (Part.Place a)) (length c.args.tokens.now) c.in_err-more-2.field-0.0 (part_place c.args.notation c.args.tokens.now c.args.at c.in-Some-past_word.ensures.0) c.in_err-more-2.ensures.reads)

pub returns-in-Some-past_word-clause-reads : goal.returns-in-Some-past_word-clause-reads
returns-in-Some-past_word-clause-reads c = then_read one_place (λ a. done (Part.Place a)) (part_place c.args.notation c.args.tokens.now c.args.at c.in-Some-past_word.ensures.0) c.in_ok-more-2.ensures.reads

pub returns-in_err-more-3-clause-reads : goal.returns-in_err-more-3-clause-reads
returns-in_err-more-3-clause-reads c = failed (IsNetPart c.args.notation) c.args.tokens.now c.args.at between between c.from_residual-in_err-more-3.result c.in_err-more-3.field-0.0 c.from_residual-in_err-more-3.ensures.1
    (then_fails (one_transition c.args.notation) (λ a. done (Part.Transition a)) (length c.args.tokens.now) c.in_err-more-3.field-0.0 (part_transition c.args.notation c.args.tokens.now c.args.at c.in-Some-past_word-2.ensures.0) c.in_err-more-3.ensures.reads)

pub returns-in-Some-past_word-2-clause-reads : goal.returns-in-Some-past_word-2-clause-reads
returns-in-Some-past_word-2-clause-reads c = then_read (one_transition c.args.notation) (λ a. done (Part.Transition a)) (part_transition c.args.notation c.args.tokens.now c.args.at c.in-Some-past_word-2.ensures.0) c.in_ok-more-3.ensures.reads

pub returns-clause-reads : goal.returns-clause-reads
returns-clause-reads c = part_none c.args.notation c.args.tokens.now c.args.at c.requires.inside c.in_default.ensures c.in_default-past_word.ensures c.in_default-past_word-2.ensures
