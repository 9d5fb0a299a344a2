use Rattle.rn_growing.proofs.LaidSteps.{atom_answer}
use Rattle.rn_growing.proofs.laid.Laid.atom.Goals as goal

pub returns-clause-built : goal.returns-clause-built
returns-clause-built c =
    atom_answer c.add.result c.self.inside.store c.add.new.self c.self.inside.slots
    c.args.self.now c.args.value c.self.view_is c.mark-kept.ensures.kept c.self.invariant
    c.add.ensures.id c.add.ensures.added
