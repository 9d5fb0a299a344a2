use Rattle.std.proofs.Common.{ap, sym, ◌∙◌}
use Rattle.std.specs.Option.{option_copied}
use Rattle.rn_finder.proofs.KeptStarts.{found_kept}
use Rattle.rn_finder.proofs.exploring.visit.Goals as goal

pub find_within-requires-clause-kept : goal.find_within-requires-clause-kept
find_within-requires-clause-kept g c =
    found_kept c.args.marked.table.now.marking c.in-Some.guest.hint.number c.in-Some-find.inst.now
    (sym c.find.ensures ∙ ap option_copied c.in-Some-find.is)
