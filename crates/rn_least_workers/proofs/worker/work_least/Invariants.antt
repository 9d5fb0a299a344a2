-- Each round sees an entry more.
use Rattle.std.proofs.Common.{◌≡◌, ◌+◌, ◌-◌, ◌≤◌, length}
use Rattle.std.specs.Prelude.{IfNone, IfSome}
use Rattle.rn_desk.specs.Passes.{HasNoTurn, IsOf, fixed_of, mine, number, seen}
use Rattle.rn_worker.specs.link.Seen.{HasEnded}
use Rattle.rn_worker.specs.link.Views.{ShowsView}
use Rattle.rn_least_workers.specs.link.Following.{FollowsKnown}
use Rattle.rn_least_workers.proofs.worker.work_least.Given as goal

abbrev pub invariant-loop-view : goal.invariant-loop-view
invariant-loop-view g l = record {
  here : IsOf (λ s. s.setup) l.team.desk.now l.pass;
  free : HasNoTurn l.pass;
  number : number l.pass ≡ number l.fn.pass;
  worker : l.tally.worker ≡ l.fn.tally.worker;
  fired : l.tally.fired ≡ length (mine l.pass);
  within : length (mine l.pass) ≤ length (seen l.pass);
  swept : l.team.task.options.now.sweep_every ≡ 0 → l.tally.swept ≡ 0;
  some : IfSome l.view (ShowsView (fixed_of (λ s. s.setup) l.team.desk.now) (seen l.pass));
  follows : IfSome l.view (FollowsKnown (fixed_of (λ s. s.setup) l.team.desk.now) l.firsts);
  none : IfNone l.view (HasEnded (seen l.pass));
}

abbrev pub decreases-loop-view : goal.decreases-loop-view
decreases-loop-view g l = (l.team.task.options.now.steps + 2) - length (seen l.pass)
