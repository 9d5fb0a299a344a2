use Rattle.std.proofs.Common.{◌≡◌, ◌≤◌, ◌-◌, length, take}
use Rattle.rn_choices.specs.Waiting.{WaitsAt}
use Rattle.rn_choices.proofs.searching.try_choice.Given as goal

-- the turns so far lead to no solution, and the decisions before the choice stand
abbrev pub invariant-loop-turn : goal.invariant-loop-turn
invariant-loop-turn g l =
    let grows = g.G.Grows in
    let before = take l.fn.choice.mark (grows.decisions l.problem l.initial.state) in
    record {
      begun : l.fn.choice.tried ≤ l.turn;
      stands : grows.stands l.problem l.state;
      within : l.fn.choice.mark ≤ length (grows.decisions l.problem l.state);
      kept : take l.fn.choice.mark (grows.decisions l.problem l.state) ≡ before;
      left : (s : _) → WaitsAt (grows.leads l.problem) (grows.offers l.problem) before l.fn.choice s
          → WaitsAt (grows.leads l.problem) (grows.offers l.problem) before
          (record l.fn.choice { tried = l.turn }) s;
    }

-- each step goes on with a later turn
abbrev pub decreases-loop-turn : goal.decreases-loop-turn
decreases-loop-turn g l = l.fn.choice.of - l.turn
