-- What `enabled` and `replay` come to on their input.
use Rattle.std.specs.Prelude.{ℕ, ◌≡◌, ◌⊎◌, List}
use Rattle.rn_model.specs.declared.system.System.{System}
use Rattle.rn_model.specs.declared.binding.Binding.{Binding}
use Rattle.rn_model.specs.declared.log.Options.{Options}
use Rattle.rn_answering.specs.declared.answer.Answer.{Answer}
use Rattle.rn_answering.specs.Refusing.{done}
use Rattle.rn_answering.specs.NetTexts.{Accepted, RefusesNet}
use Rattle.rn_commands.specs.Bindings.{AreEnabledFirst, bindings_text}
use Rattle.rn_commands.specs.Parts.{HasParts}
use Rattle.rn_commands.specs.Replaying.{RecordTo}

-- the bindings that are enabled at the start of an accepted net text
abbrev pub EnabledTo : ℕ → List ℕ → Answer → Type 0
EnabledTo depth bytes a = (system : System) × (found : List Binding) × Accepted bytes system
    × AreEnabledFirst system depth found × (a ≡ done (bindings_text system 1 found))

-- the record after an accepted net text, whose notation is its format
abbrev pub ReplaysTo : Options → List ℕ → List ℕ → Answer → Type 0
ReplaysTo options net rest a = (system : System) × (accepted : Accepted net system)
    × RecordTo accepted.plain.notation system options rest a

-- what `replay` comes to on its input
abbrev pub ReplayComesTo : Options → List ℕ → Answer → Type 0
ReplayComesTo options bytes a = (net : List ℕ) × (rest : List ℕ) × HasParts bytes net rest
    × (RefusesNet net a ⊎ ReplaysTo options net rest a)
