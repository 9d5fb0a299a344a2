-- What each request is answered.
use Rattle.std.proofs.Common.{◌≡◌, ℕ, ◌-◌, List, length, ap, ◌∙◌, subst}
use Rattle.std.specs.Prelude.{All, None, Ok, true}
use Rattle.rn_value.specs.Names.{AreNamed}
use Rattle.rn_model.specs.declared.log.MarkLine.{MarkLine}
use Rattle.rn_model.specs.declared.system.System.{System}
use Rattle.rn_model.specs.Liveness.{LivePart}
use Rattle.rn_table.specs.Tables.{Kept}
use Rattle.rn_fire.specs.States.{State, end_marking, logged}
use Rattle.rn_state_record.proofs.TextsOfLogs.{logs_have_text}
use Rattle.rn_session.specs.link.Serving.{AreNamesBefore, names_at}
use Rattle.rn_session.specs.Sessions.{IsSession, UndoesBy}
use Rattle.rn_session.proofs.NamesSoFar.{names_before}

-- the marks
module _ (s : State) (is : IsSession s) (system : System) (t : Kept) (own : system ≡ s.setup.system)
    (table : t ≡ s.table) (marks : List MarkLine) (part : LivePart system t.marking marks) where
  live : LivePart s.setup.system (end_marking s) marks
  live = subst (λ m. LivePart s.setup.system m marks) (ap (λ (x : Kept). x.marking) table ∙ is.all)
      (subst (λ x. LivePart x t.marking marks) own part)

  pub marks_named : All (λ line. All (AreNamed (names_at s)) line.values) marks
  marks_named =
      (logs_have_text s.setup.system s.setup.options s.fired None marks is.state.good
      (record { run = is.state.log.run; steps = is.state.log.steps; ends = tt }) live).marks

-- the names after an undo
pub names_left : (old new : State) (k : ℕ) → UndoesBy old k (Ok true) new →
    AreNamesBefore new (names_at old)
names_left old new k (takes, setup) = names_before old new (length (logged old) - k) setup takes.left
