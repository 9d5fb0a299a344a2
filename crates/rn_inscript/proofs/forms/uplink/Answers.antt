use Rattle.rn_inscript.proofs.Names.{arith}
use Rattle.rn_inscript.proofs.LinkReading.{uplink_stage}
use Rattle.rn_inscript.proofs.BracketSteps.{done_fails, done_read}
use Rattle.rn_inscript.proofs.ReaderExits.{err-of}
use Rattle.rn_inscript.proofs.forms.uplink.Goals as goal

pub returns-in_err-channel-clause-reads : goal.returns-in_err-channel-clause-reads
returns-in_err-channel-clause-reads c = rw (err-of c.from_residual.ensures.1) (done_fails _ _ (omega arith) (uplink_stage _ _ _ c.requires.next c.requires.kind c.past.ensures) c.in_err-channel.ensures.reads)

pub returns-clause-reads : goal.returns-clause-reads
returns-clause-reads c = done_read (omega arith) (uplink_stage _ _ _ c.requires.next c.requires.kind c.past.ensures) c.in_ok-channel.ensures.reads
