-- A state has a text, with the live part of its table.
use Rattle.std.proofs.Common.{◌≡◌, List, sym, subst}
use Rattle.rn_model.specs.declared.log.Entry.{Entry}
use Rattle.rn_model.specs.declared.log.MarkLine.{MarkLine}
use Rattle.rn_model.specs.declared.system.System.{System}
use Rattle.rn_model.specs.Good.{Good}
use Rattle.rn_model.specs.Liveness.{LivePart, Stands}
use Rattle.rn_model.specs.Markings.{IsMarking, Marking}
use Rattle.rn_model.specs.Runs.{Log}
use Rattle.rn_model.proofs.OneLivePart.{tables_have_the_same_part}
use Rattle.rn_record.specs.Writable.{HasText}
use Rattle.rn_fire.specs.States.{State, end_marking, logged}
use Rattle.rn_state_record.proofs.TextsOfLogs.{logs_have_text}

module _ (s : State) (system : System) (table : Marking) (is : system ≡ s.setup.system)
    (good : Good system) (stands : Stands s.setup.system table (end_marking s)) where
  pub is_marking : IsMarking system table
  is_marking = subst (λ x. IsMarking x table) (sym is) stands.form

  module _ (marks : List MarkLine) (live : LivePart system table marks) where
    pub live_at_end : LivePart s.setup.system (end_marking s) marks
    live_at_end =
        (tables_have_the_same_part s.setup.system table (end_marking s) marks stands).0
        (subst (λ x. LivePart x table marks) is live)

    pub has_text : (entries : List Entry) → entries ≡ logged s →
        Log s.setup.system s.setup.options s.fired s.ended →
        HasText system (record { entries = entries; marks = marks })
    has_text entries are log =
        subst (λ x. HasText x (record { entries = entries; marks = marks })) (sym is)
        (subst (λ es. HasText s.setup.system (record { entries = es; marks = marks })) (sym are)
        (logs_have_text s.setup.system s.setup.options s.fired s.ended marks (subst Good is good) log live_at_end))
