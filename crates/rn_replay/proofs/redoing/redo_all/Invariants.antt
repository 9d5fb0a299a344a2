use Rattle.std.proofs.Common.{◌≡◌, take}
use Rattle.std.specs.Prelude.{None}
use Rattle.rn_fire.specs.link.States.{firings_in}
use Rattle.rn_replay.proofs.redoing.redo_all.Given as goal

abbrev pub invariant-loop-entry : goal.invariant-loop-entry
invariant-loop-entry l =
    (l.state.setup ≡ l.initial.state.setup) × (l.state.ended ≡ None)
    × (l.state.fired ≡ take l.entry-index (firings_in l.entries))
