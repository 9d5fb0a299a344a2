use Rattle.rn_inscript.proofs.Names.{[], refl, ap, arith}
use Rattle.rn_inscript.proofs.LinkReading.{call_begins, call-end-ends}
use Rattle.rn_inscript.proofs.WithTokens.{with_kind_read, with_kind_stuck, with_name_read, with_name_fails}
use Rattle.rn_inscript.proofs.BracketSteps.{done_fails, done_read}
use Rattle.rn_inscript.proofs.InscriptionPhrases.{CallEnd}
use Rattle.rn_inscript.proofs.ReaderExits.{err-of}
use Rattle.rn_inscript.proofs.forms.call.Goals as goal

pub returns-in_err-channel-clause-reads : goal.returns-in_err-channel-clause-reads
returns-in_err-channel-clause-reads c = rw (err-of c.from_residual.ensures.1) (with_name_fails CallEnd _ _ _ (call_begins _ _) c.requires call-end-ends c.in_err-channel.ensures)

pub returns-in_err-inside-clause-reads : goal.returns-in_err-inside-clause-reads
returns-in_err-inside-clause-reads c = rw (err-of c.from_residual-in_err-inside.ensures.1, c.in_err-inside.ensures.1) (with_kind_stuck _ _ (with_name_read CallEnd _ _ _ _ (call_begins _ _) c.in_ok-channel.ensures.0 c.in_ok-channel.ensures.1) (let h = c.in_ok-channel.ensures.0 in omega (arith, h.2.1, ap (λ s. s.at) c.in_ok-channel.ensures.1)) (call-end-ends _) c.in_err-inside.ensures.0)

pub returns-in_err-args-clause-reads : goal.returns-in_err-args-clause-reads
returns-in_err-args-clause-reads c = rw (err-of c.from_residual-in_err-args.ensures.1) (done_fails _ _ (omega arith) (with_kind_read _ _ _ (with_name_read CallEnd _ _ _ _ (call_begins _ _) c.in_ok-channel.ensures.0 c.in_ok-channel.ensures.1) c.in_ok-inside.ensures.0 c.in_ok-inside.ensures.1 refl refl) (c.in_err-args.ensures.reads [] refl))

pub returns-clause-reads : goal.returns-clause-reads
returns-clause-reads c = done_read (omega arith) (with_kind_read _ _ _ (with_name_read CallEnd _ _ _ _ (call_begins _ _) c.in_ok-channel.ensures.0 c.in_ok-channel.ensures.1) c.in_ok-inside.ensures.0 c.in_ok-inside.ensures.1 refl refl) (c.in_ok-args.ensures.reads [] refl)
