-- A run for which its memory was taken.
use Rattle.std.specs.Prelude.{ℕ, Option, Some, None}
use Rattle.rn_fire.specs.declared.setup.Setup.{Setup}
use Rattle.rn_commands.specs.declared.jobs.Pick.{Pick}
use Rattle.rn_commands.specs.declared.jobs.Pick.TheVariants as pick
use Rattle.rn_commands.specs.declared.readying.ReadyRun.{ReadyRun}
use Rattle.rn_commands.specs.declared.readying.ReadyRun.TheVariants.{Any, Least}

-- its system and options
abbrev pub setup_of : ReadyRun → Setup
setup_of (Any ready seed) = ready
setup_of (Least ready) = ready

-- what fires where any may, drawn from a seed or not
abbrev pub seeded_by : Option ℕ → Pick
seeded_by None = pick.Any
seeded_by (Some seed) = pick.Seeded seed

-- which of the enabled bindings fire
abbrev pub pick_of : ReadyRun → Pick
pick_of (Any ready seed) = seeded_by seed
pick_of (Least ready) = pick.Least
