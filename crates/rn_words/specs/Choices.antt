-- The options that are given, and the command that they make.
use Rattle.std.specs.Prelude.{ℕ, Bool, true, false, Option, Some, None, unwrap_or, is_some, not}
use Rattle.rn_model.specs.declared.log.Options.{Options}
use Rattle.rn_words.specs.declared.table.Verb.{Verb}
use Rattle.rn_words.specs.declared.table.Verb.TheVariants as verb
use Rattle.rn_words.specs.declared.table.Setting.{Setting}
use Rattle.rn_words.specs.declared.table.Setting.TheVariants.{Workers, Steps, Depth, Sweep, Pick, Seed}
use Rattle.rn_words.specs.declared.table.Picked.{Picked}
use Rattle.rn_words.specs.declared.table.Picked.TheVariants.{Least}
use Rattle.rn_words.specs.declared.chosen.OptionValue.{OptionValue}
use Rattle.rn_words.specs.declared.chosen.OptionValue.TheVariants.{Number, Picks}
use Rattle.rn_words.specs.declared.chosen.Chosen.{Chosen}
use Rattle.rn_words.specs.declared.command.Command.{Command}
use Rattle.rn_words.specs.declared.command.Command.TheVariants as command

-- no option is given
abbrev pub nothing : Chosen
nothing = record {
  workers = None;
  steps = None;
  depth = None;
  sweep = None;
  pick = None;
  seed = None;
}

-- whether an option is given
abbrev pub is_given : Chosen → Setting → Bool
is_given chosen Workers = is_some chosen.workers
is_given chosen Steps = is_some chosen.steps
is_given chosen Depth = is_some chosen.depth
is_given chosen Sweep = is_some chosen.sweep
is_given chosen Pick = is_some chosen.pick
is_given chosen Seed = is_some chosen.seed

-- whether the first binding in their order is asked for
abbrev pub is_least : Option Picked → Bool
is_least (Some Least) = true
is_least _ = false

-- Whether an option may be given beside the others: a seed can't stand beside `--pick least`.
abbrev pub goes_with : Chosen → Setting → Bool
goes_with chosen Seed = not (is_least chosen.pick)
goes_with chosen _ = true

-- Whether a value may be given beside the others: `least` can't stand beside a seed.
abbrev pub fits : Chosen → OptionValue → Bool
fits chosen (Picks Least) = not (is_some chosen.seed)
fits chosen _ = true

-- the same with one more option given, whose value is a number
abbrev pub with_number_given : Chosen → Setting → ℕ → Chosen
with_number_given chosen Workers n = record chosen { workers = Some n }
with_number_given chosen Steps n = record chosen { steps = Some n }
with_number_given chosen Depth n = record chosen { depth = Some n }
with_number_given chosen Sweep n = record chosen { sweep = Some n }
with_number_given chosen Seed n = record chosen { seed = Some n }
with_number_given chosen Pick n = chosen

-- the same with one more option given
abbrev pub with_given : Chosen → Setting → OptionValue → Chosen
with_given chosen s (Number n) = with_number_given chosen s n
with_given chosen s (Picks picked) = record chosen { pick = Some picked }

-- each option with the value that is given, and else with its default; that of the steps depends
-- on the command
abbrev pub options_of : ℕ → Chosen → Options
options_of steps chosen = record {
  workers = unwrap_or chosen.workers 4;
  steps = unwrap_or chosen.steps steps;
  depth = unwrap_or chosen.depth 4;
  sweep_every = unwrap_or chosen.sweep 64;
}

-- the command `run`: of any bindings, of the first ones, or with a seed
abbrev pub run_of : Options → Option Picked → Option ℕ → Command
run_of options (Some Least) seed = command.RunLeast options
run_of options _ (Some seed) = command.RunSeeded options seed
run_of options _ None = command.Run options

-- the command `gen`, without a seed or with one
abbrev pub gen_of : ℕ → Options → Option ℕ → Command
gen_of n options None = command.Gen n options
gen_of n options (Some seed) = command.GenSeeded n options seed

-- the command of its word, the number after it, which `gen` alone has, and the options
abbrev pub command_of : Verb → ℕ → Chosen → Command
command_of verb.Run n chosen = run_of (options_of 1000 chosen) chosen.pick chosen.seed
command_of verb.Check n chosen = command.Check
command_of verb.Print n chosen = command.Print
command_of verb.Enabled n chosen = command.Enabled (unwrap_or chosen.depth 4)
command_of verb.Replay n chosen = command.Replay (options_of 1000 chosen)
command_of verb.Gen n chosen = gen_of n (options_of 200000 chosen) chosen.seed
command_of verb.Session n chosen = command.Session (options_of 1000 chosen)
command_of verb.Counts n chosen = command.Counts (options_of 1000 chosen)
command_of verb.Moves n chosen = command.Moves (options_of 1000 chosen)
command_of verb.Pt n chosen = command.Pt
command_of verb.Migrate n chosen = command.Migrate
