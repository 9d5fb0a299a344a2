use Rattle.rn_inscript.proofs.Names.{[], refl, arith}
use Rattle.rn_inscript.proofs.LinkReading.{equality_begins, equals-follow, equals-end-ends, left_side, equals_read}
use Rattle.rn_inscript.proofs.WithTokens.{with_kind_stuck}
use Rattle.rn_inscript.proofs.BracketSteps.{done_fails, done_read}
use Rattle.rn_inscript.proofs.StageLemmas.{inner_fails}
use Rattle.rn_inscript.proofs.ReaderExits.{err-of}
use Rattle.rn_inscript.proofs.forms.equality.Goals as goal

pub returns-in_err-left-clause-reads : goal.returns-in_err-left-clause-reads
returns-in_err-left-clause-reads c = rw (err-of c.from_residual.ensures.1) (inner_fails _ _ (equality_begins _ _) equals-follow equals-end-ends (c.in_err-left.ensures.reads [] refl refl))

pub returns-in_err-start-clause-reads : goal.returns-in_err-start-clause-reads
returns-in_err-start-clause-reads c = rw (err-of c.from_residual-in_err-start.ensures.1, c.in_err-start.ensures.1) (with_kind_stuck _ _ (left_side (c.in_ok-left.ensures.reads [] refl refl)).stage c.in_ok-left.ensures.moved.1 (equals-end-ends _) c.in_err-start.ensures.0)

pub returns-in_err-right-clause-reads : goal.returns-in_err-right-clause-reads
returns-in_err-right-clause-reads c = rw (err-of c.from_residual-in_err-right.ensures.1) (done_fails _ _ (omega arith) (equals_read (left_side (c.in_ok-left.ensures.reads [] refl refl)) c.in_ok-start.ensures.0 c.in_ok-start.ensures.1) (c.in_err-right.ensures.reads [] refl refl))

pub returns-clause-reads : goal.returns-clause-reads
returns-clause-reads c = done_read (omega arith) (equals_read (left_side (c.in_ok-left.ensures.reads [] refl refl)) c.in_ok-start.ensures.0 c.in_ok-start.ensures.1) (c.in_ok-right.ensures.reads [] refl refl)
