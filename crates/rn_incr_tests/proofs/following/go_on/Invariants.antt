use Rattle.std.proofs.Common.{◌≡◌, length}
use Rattle.std.specs.Prelude.{None}
use Rattle.rn_incr.specs.link.Following.{IsFollowed}
use Rattle.rn_incr_tests.proofs.following.go_on.Given as goal

abbrev pub invariant-loop-k : goal.invariant-loop-k
invariant-loop-k l = record {
  setup : l.state.setup ≡ l.initial.state.setup;
  going : l.state.ended ≡ None;
  count : length l.state.fired ≡ l.k;
  followed : IsFollowed l.state l.lists;
}
