use Rattle.std.proofs.Common.{◌≡◌, sym, ◌∙◌}
use Rattle.std.specs.Prelude.{Some, None}
use Rattle.std.proofs.lemmas.List.{get_or_read}
use Rattle.rn_term.specs.Stores.{link_of}
use Rattle.rn_term.proofs.AssignmentLemmas.{link_within}
use Rattle.rn_term.proofs.Extents.{extent-bound}
use Rattle.rn_term.proofs.Floors.{lowering_starts, lowered_more}
use Rattle.rn_term.proofs.store.lower_along.Goals as goal
use Rattle.rn_term.proofs.store.lower_along.Goals.{After-lower-in-Some}

pub loop-to-init : goal.loop-to-init
loop-to-init c = record {
  within = c.requires.within;
  lowering = lowering_starts c.args.notes.now.items c.args.from c.args.floor
      c.args.floors.now.items c.lower.new.floors.items c.lower.ensures.lowered c.lower.ensures.low;
}

bound : (c : After-lower-in-Some) → link_of c.args.notes.now.items c.loop-to.end ≡ Some c.in-Some.to
bound c =
    sym (c.requires.linked c.loop-to.end)
    ∙ sym (get_or_read c.args.links.now.items c.loop-to.end _
    (rw c.requires.each c.loop-to.invariant.within) c.index.ensures None)
    ∙ c.in-Some.is

pub loop-to-smaller : goal.loop-to-smaller
loop-to-smaller c =
    extent-bound _ c.requires.kept _ _ c.loop-to.invariant.within (bound c)

pub loop-to-preserved : goal.loop-to-preserved
loop-to-preserved c = record {
  within = (link_within _ c.requires.kept _ _ (bound c)).1;
  lowering = lowered_more c.args.notes.now.items c.args.from c.args.floor c.loop-to.end
      c.in-Some.to c.args.floors.now.items c.loop-to.floors.items c.lower-in-Some.new.floors.items
      c.loop-to.invariant.lowering (bound c) c.lower-in-Some.ensures.lowered
      c.lower-in-Some.ensures.low;
}
