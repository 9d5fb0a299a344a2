use Rattle.rn_choices.specs.Waiting.{Stand, load}
use Rattle.rn_choices.proofs.Gathering.{Gathered}
use Rattle.rn_choices.proofs.searching.all.Given as goal
use Rattle.std.proofs.Common.{true}

abbrev pub invariant-solutions : goal.invariant-solutions
invariant-solutions g l =
    let grows = g.G.Grows in
    record {
      stands : grows.stands l.problem l.state;
      set : Stand (grows.offers l.problem) (grows.allows l.problem)
          (grows.decisions l.problem l.state) l.choices;
      gathered : Gathered (grows.leads l.problem) (grows.offers l.problem) true
          (grows.decisions l.problem l.state) l.choices
          l.found.items;
    }

abbrev pub decreases-solutions : goal.decreases-solutions
decreases-solutions g l = load (g.G.Grows.room l.problem)
    (g.G.Grows.decisions l.problem l.state) l.choices
