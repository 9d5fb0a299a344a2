use Rattle.std.proofs.Common.{◌≤◌, ◌↔◌, true}
use Rattle.rn_choices.specs.Waiting.{IsLeft, Stand, load}
use Rattle.rn_choices.proofs.searching.next_found.Given as goal

-- what was left when it began is left, and nothing else
abbrev pub invariant-steps : goal.invariant-steps
invariant-steps g l =
    let grows = g.G.Grows in
    let leads = grows.leads l.problem in
    let offers = grows.offers l.problem in
    let room = grows.room l.problem in
    record {
      stands : grows.stands l.problem l.state;
      set : Stand offers (grows.allows l.problem) (grows.decisions l.problem l.state) l.choices;
      left : (s : _) → IsLeft leads offers true
          (grows.decisions l.problem l.initial.state) l.initial.choices s
          ↔ IsLeft leads offers true (grows.decisions l.problem l.state) l.choices s;
      load : load room (grows.decisions l.problem l.state) l.choices
          ≤ load room (grows.decisions l.problem l.initial.state) l.initial.choices;
    }

abbrev pub decreases-steps : goal.decreases-steps
decreases-steps g l = load (g.G.Grows.room l.problem)
    (g.G.Grows.decisions l.problem l.state) l.choices
