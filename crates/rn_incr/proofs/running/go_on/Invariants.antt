use Rattle.std.proofs.Common.{◌≡◌, length}
use Rattle.std.specs.Prelude.{None}
use Rattle.rn_incr.specs.Counts.{AreCounts}
use Rattle.rn_incr.specs.link.Following.{IsFollowed}
use Rattle.rn_incr.proofs.running.go_on.Given as goal

abbrev pub invariant-loop : goal.invariant-loop
invariant-loop l = record {
  setup : l.state.setup ≡ l.initial.state.setup;
  going : l.state.ended ≡ None;
  count : length l.state.fired ≡ l.counter;
  followed : IsFollowed l.state l.lists;
  counts : AreCounts l.state.setup.system l.state.setup.options.depth l.state.fired l.counts.items;
}
