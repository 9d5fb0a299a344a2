use Rattle.rn_inscript.proofs.ConditionPhrases.{left_fails, left_read, bare_read, compare_far, right_fails, right_read}
use Rattle.rn_inscript.proofs.ReaderExits.{err-of}
use Rattle.rn_inscript.proofs.conditions.comparison.Goals as goal

pub returns-in_err-left-clause-reads : goal.returns-in_err-left-clause-reads
returns-in_err-left-clause-reads c = λ around base fits. rw (err-of c.from_residual.ensures.1) (left_fails c.args.tokens.now c.args.seen around _ c.requires.other (c.in_err-left.ensures.reads around base fits))

pub returns-in_err-operand-in-Some-clause-reads : goal.returns-in_err-operand-in-Some-clause-reads
returns-in_err-operand-in-Some-clause-reads c = λ around base fits. rw (err-of c.from_residual-in_err-operand-in-Some.ensures.1, c.in_err-operand-in-Some.ensures.1) (compare_far _ _ _ _ _ _ (left_read _ _ _ _ _ c.requires.other (c.in_ok-left.ensures.reads around base fits)) c.in-Some.ensures c.in_err-operand-in-Some.ensures.0)

pub returns-in_err-right-in-Some-clause-reads : goal.returns-in_err-right-in-Some-clause-reads
returns-in_err-right-in-Some-clause-reads c = λ around base fits. rw (err-of c.from_residual-in_err-right-in-Some.ensures.1) (right_fails _ _ _ _ _ _ _ _ (left_read _ _ _ _ _ c.requires.other (c.in_ok-left.ensures.reads around base fits)) base c.in-Some.ensures c.in_ok-operand-in-Some.ensures.0 c.in_ok-operand-in-Some.ensures.1 (c.in_err-right-in-Some.ensures.reads around base fits))

pub returns-in_ok-right-in-Some-clause-reads : goal.returns-in_ok-right-in-Some-clause-reads
returns-in_ok-right-in-Some-clause-reads c = λ around base fits. right_read _ _ _ _ _ _ _ _ _ (left_read _ _ _ _ _ c.requires.other (c.in_ok-left.ensures.reads around base fits)) base c.in-Some.ensures c.in_ok-operand-in-Some.ensures.0 c.in_ok-operand-in-Some.ensures.1 (c.in_ok-right-in-Some.ensures.reads around base fits)

pub returns-in-None-clause-reads : goal.returns-in-None-clause-reads
returns-in-None-clause-reads c = λ around base fits. bare_read _ _ _ _ _ (left_read _ _ _ _ _ c.requires.other (c.in_ok-left.ensures.reads around base fits)) c.in-None.ensures
