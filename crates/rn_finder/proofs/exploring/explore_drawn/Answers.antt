use Rattle.std.proofs.Common.{ap, sym, ◌∙◌}
use Rattle.std.specs.Option.{option_copied}
use Rattle.rn_finder.proofs.KeptStarts.{found_kept}
use Rattle.rn_finder.proofs.exploring.explore_drawn.Goals as goal

pub explore_start-requires-clause-kept : goal.explore_start-requires-clause-kept
explore_start-requires-clause-kept g c =
    found_kept c.args.marked.table.now.marking c.in-Some.number c.in-Some-find.inst.now
    (sym c.find.ensures ∙ ap option_copied c.in-Some-find.is)
