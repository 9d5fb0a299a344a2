use Rattle.std.proofs.Common.{◌≤◌, ◌↔◌, length}
use Rattle.rn_choices.specs.Waiting.{Waits, StandBelow, weight}
use Rattle.rn_choices.proofs.searching.go_back.Given as goal

-- what waited when it began still waits, and nothing else
abbrev pub invariant-loop-choice : goal.invariant-loop-choice
invariant-loop-choice g l =
    let grows = g.G.Grows in
    let leads = grows.leads l.problem in
    let offers = grows.offers l.problem in
    let room = grows.room l.problem in
    record {
      stands : grows.stands l.problem l.state;
      set : StandBelow offers (grows.allows l.problem)
          (grows.decisions l.problem l.state) l.choices;
      left : (s : _) → Waits leads offers
          (grows.decisions l.problem l.initial.state) l.initial.choices s
          ↔ Waits leads offers (grows.decisions l.problem l.state) l.choices s;
      weight : weight room (grows.decisions l.problem l.state) l.choices
          ≤ weight room (grows.decisions l.problem l.initial.state) l.initial.choices;
    }

abbrev pub decreases-loop-choice : goal.decreases-loop-choice
decreases-loop-choice g l = length l.choices
