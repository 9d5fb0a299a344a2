-- The lines of the live instances are the live part.
use Rattle.std.proofs.Common.{ap, sym, subst, ◌∙◌}
use Rattle.std.specs.Prelude.{flat_map}
use Rattle.rn_model.specs.Liveness.{LivePart}
use Rattle.rn_end_marking.specs.link.Lines.{lines_at}
use Rattle.rn_end_marking.proofs.LinesInOrder.{few_places, lines_of_live}
use Rattle.rn_end_marking.proofs.listing.live_part.Goals as goal

pub lines_of-requires : goal.lines_of-requires
lines_of-requires c = few_places c.args.table.now.marking c.requires

pub returns : goal.returns
returns c =
    let system = c.args.system.now in
    let m = c.args.table.now.marking in
    let is = c.from_vec.ensures ∙ c.in_ok-lines.ensures ∙ ap (flat_map (lines_at m)) c.as_slice.ensures.value in
    subst (LivePart system m) (sym is)
    (lines_of_live system m c.in_ok-numbers.numbers.items c.in_ok-numbers.ensures.ascending c.in_ok-numbers.ensures.live)
