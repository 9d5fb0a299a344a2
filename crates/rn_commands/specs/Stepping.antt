-- What `session` comes to on its input.
use Rattle.std.specs.Prelude.{ℕ, ◌≡◌, ◌⊎◌, List}
use Rattle.rn_model.specs.declared.system.System.{System}
use Rattle.rn_model.specs.declared.log.Options.{Options}
use Rattle.rn_served.specs.Entries.{nothing}
use Rattle.rn_served.specs.Lines.{lines_of}
use Rattle.rn_served.specs.Served.{Served}
use Rattle.rn_answering.specs.declared.answer.Answer.{Answer}
use Rattle.rn_answering.specs.Refusing.{done}
use Rattle.rn_answering.specs.NetTexts.{Accepted, RefusesNet}
use Rattle.rn_commands.specs.Parts.{HasParts}

-- The lines after an accepted net text: all that a session answers to them, from no entries on.
abbrev pub SessionTo : Options → List ℕ → List ℕ → Answer → Type 0
SessionTo options net rest a = (system : System) × Accepted net system
    × ((text : List ℕ) × Served system options (lines_of rest) nothing text × (a ≡ done text))

-- What `session` comes to on its input, which has the form of that of `replay`, with lines in place of
-- the record.
abbrev pub SessionComesTo : Options → List ℕ → Answer → Type 0
SessionComesTo options bytes a = (net : List ℕ) × (rest : List ℕ) × HasParts bytes net rest
    × (RefusesNet net a ⊎ SessionTo options net rest a)
