-- What `check` and `print` come to on a net text.
use Rattle.std.specs.Prelude.{ℕ, ◌≡◌, List, codes}
use Rattle.rn_model.specs.declared.system.System.{System}
use Rattle.rn_net.specs.declared.plain.Plain.{Plain}
use Rattle.rn_net.specs.Texts.{Spells}
use Rattle.rn_check.specs.Checked.{Checked}
use Rattle.rn_print.specs.Nets.{canonical_text}
use Rattle.rn_answering.specs.declared.answer.Answer.{Answer}
use Rattle.rn_answering.specs.Refusing.{done}
use Rattle.rn_answering.specs.NetTexts.{Accepted}

-- an accepted net text is reported to be one
abbrev pub ChecksTo : List ℕ → Answer → Type 0
ChecksTo bytes a = (system : System) × Accepted bytes system × (a ≡ done (codes "ok\n"))

-- the canonical text of an accepted net text
abbrev pub PrintsTo : List ℕ → Answer → Type 0
PrintsTo bytes a = (plain : Plain) × (system : System) × Spells bytes plain × Checked plain system
    × (a ≡ done (canonical_text plain))
