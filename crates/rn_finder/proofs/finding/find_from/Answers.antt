use Rattle.std.specs.Prelude.{IsTrue}
use Rattle.rn_finder.proofs.KeptStarts.{none_unless_may}
use Rattle.rn_finder.proofs.finding.find_from.Goals as goal

pub returns-then-not-may_start-clause-none : goal.returns-then-not-may_start-clause-none
returns-then-not-may_start-clause-none g c =
    none_unless_may c.args.marked.system.now c.args.marked.table.now.marking c.args.marked.depth
    c.args.start.inst.now c.args.start.transition c.requires.kept
    (λ may. let starts : IsTrue c.may_start.result = c.may_start.ensures.1 may in
    let no : ⊥ = cc in no)

pub search_from-requires-clause-uplink : goal.search_from-requires-clause-uplink
search_from-requires-clause-uplink g c = (c.may_start.ensures.0 c.if-not-may_start.false).0
