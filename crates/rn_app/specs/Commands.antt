-- What each command comes to on its input.
use Rattle.std.specs.Prelude.{ℕ, ◌≡◌, ◌⊎◌, List}
use Rattle.rn_words.specs.declared.command.Command.{Command}
use Rattle.rn_words.specs.declared.command.Command.TheVariants as command
use Rattle.rn_answering.specs.declared.answer.Answer.{Answer}
use Rattle.rn_answering.specs.NetTexts.{RefusesNet}
use Rattle.rn_answering.specs.TextCommands.{ChecksTo, PrintsTo}
use Rattle.rn_commands.specs.Runs.{RunsTo}
use Rattle.rn_commands.specs.LeastRuns.{RunsLeastTo}
use Rattle.rn_commands.specs.Parts.{HasParts}
use Rattle.rn_commands.specs.NetCommands.{EnabledTo, ReplayComesTo}
use Rattle.rn_commands.specs.Workloads.{GensTo}
use Rattle.rn_commands.specs.Moves.{MovesComeTo}
use Rattle.rn_commands.specs.Migrating.{MigrateComesTo}
use Rattle.rn_commands.specs.Stepping.{SessionComesTo}
use Rattle.rn_commands.specs.Counting.{CountsTo}
use Rattle.rn_commands.specs.Translating.{RefusesWeighted, TranslatesTo}

-- the net text of a command's input, which stands before a line `---` where more comes after it; `gen`
-- and `pt` have none
abbrev pub HasNetText : Command → List ℕ → List ℕ → Type 0
HasNetText (command.Replay options) bytes net = (rest : List ℕ) × HasParts bytes net rest
HasNetText (command.Session options) bytes net = (rest : List ℕ) × HasParts bytes net rest
HasNetText (command.Moves options) bytes net = (rest : List ℕ) × HasParts bytes net rest
HasNetText command.Migrate bytes net = (rest : List ℕ) × HasParts bytes net rest
HasNetText (command.Gen copies options) bytes net = ⊥
HasNetText (command.GenSeeded copies options seed) bytes net = ⊥
HasNetText command.Pt bytes net = ⊥
HasNetText _ bytes net = net ≡ bytes

-- What a command comes to on the bytes of its input, unless memory runs out.
abbrev pub ComesTo : Command → List ℕ → Answer → Type 0
ComesTo (command.Run options) bytes a = RefusesNet bytes a ⊎ RunsTo options bytes a
ComesTo (command.RunLeast options) bytes a = RefusesNet bytes a ⊎ RunsLeastTo options bytes a
ComesTo (command.RunSeeded options seed) bytes a = RefusesNet bytes a ⊎ RunsTo options bytes a
ComesTo command.Check bytes a = RefusesNet bytes a ⊎ ChecksTo bytes a
ComesTo command.Print bytes a = RefusesNet bytes a ⊎ PrintsTo bytes a
ComesTo (command.Enabled depth) bytes a = RefusesNet bytes a ⊎ EnabledTo depth bytes a
ComesTo (command.Replay options) bytes a = ReplayComesTo options bytes a
ComesTo (command.Gen copies options) bytes a = GensTo copies options a
ComesTo (command.GenSeeded copies options seed) bytes a = GensTo copies options a
ComesTo (command.Session options) bytes a = SessionComesTo options bytes a
ComesTo (command.Counts options) bytes a = RefusesNet bytes a ⊎ CountsTo options bytes a
ComesTo (command.Moves options) bytes a = MovesComeTo options bytes a
ComesTo command.Pt bytes a = RefusesWeighted bytes a ⊎ TranslatesTo bytes a
ComesTo command.Migrate bytes a = MigrateComesTo bytes a
