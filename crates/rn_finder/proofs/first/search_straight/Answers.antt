use Rattle.std.proofs.Common.{ap}
use Rattle.rn_growing.specs.Grown.{Grown}
use Rattle.rn_finder.proofs.Branches.{opened_at}
use Rattle.rn_finder.proofs.first.search_straight.Goals as goal

pub go_straight-end-requires-clause-branch : goal.go_straight-end-requires-clause-branch
go_straight-end-requires-clause-branch c =
    opened_at c.args.sought.now c.args.system.now c.open-branch.result c.requires
    c.open-branch.ensures

pub go_straight-end-requires-clause-none : goal.go_straight-end-requires-clause-none
go_straight-end-requires-clause-none c = ap (λ (g : Grown). g.decisions) c.open-branch.ensures
