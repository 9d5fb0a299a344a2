use Rattle.rn_inscript.proofs.Names.{ap, target_of}
use Rattle.rn_inscript.specs.declared.exprs.PForm.TheVariants as F
use Rattle.rn_inscript.proofs.LinkReading.{target_reads}
use Rattle.rn_inscript.proofs.forms.by_name.Goals as goal

pub returns-in-None-clause-reads : goal.returns-in-None-clause-reads
returns-in-None-clause-reads c = target_reads _ _ (F.Name c.args.name.now) _ c.requires.next (ap target_of c.requires.kind) (rw c.past.ensures at c.in-None.ensures) c.equality.ensures.reads
