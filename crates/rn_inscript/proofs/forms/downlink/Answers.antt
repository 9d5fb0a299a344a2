use Rattle.rn_inscript.proofs.Names.{◌∙◌, ap, arith, past}
use Rattle.rn_inscript.proofs.LinkReading.{down-stage}
use Rattle.rn_inscript.proofs.BracketSteps.{done_fails, done_read}
use Rattle.rn_inscript.proofs.ReaderExits.{err-of}
use Rattle.rn_inscript.proofs.forms.downlink.Goals as goal

pub returns-in_err-channel-clause-reads : goal.returns-in_err-channel-clause-reads
returns-in_err-channel-clause-reads c = rw (err-of c.from_residual.ensures.1) (done_fails _ _ (omega arith) (down-stage _ _ _ _ c.requires.next c.requires.kind c.requires.follows c.requires.other (c.past-2.ensures ∙ ap past c.past.ensures)) c.in_err-channel.ensures.reads)

pub returns-clause-reads : goal.returns-clause-reads
returns-clause-reads c = done_read (omega arith) (down-stage _ _ _ _ c.requires.next c.requires.kind c.requires.follows c.requires.other (c.past-2.ensures ∙ ap past c.past.ensures)) c.in_ok-channel.ensures.reads
