-- What the moves of a record come to.
use Rattle.std.proofs.Common.{◌≡◌, ◌∙◌, ℕ, List, refl, sym, ap, subst, inl, inr}
use Rattle.std.specs.Prelude.{length}
use Rattle.rn_model.specs.declared.system.System.{System}
use Rattle.rn_model.specs.declared.log.Options.{Options}
use Rattle.rn_model.specs.declared.log.Told.{Told}
use Rattle.rn_model.specs.Liveness.{LivePart}
use Rattle.rn_model.specs.Runs.{Log, end_of, entries_of}
use Rattle.rn_fire.specs.States.{State, IsState, logged}
use Rattle.rn_moves.specs.MovesText.{MovesText}
use Rattle.rn_record.specs.RecordText.{record_text}
use Rattle.rn_record_reader.specs.Runs.{Verdict, TellsRecord}
use Rattle.rn_replay.specs.Replays.{IsReplayed, IsWhole}
use Rattle.rn_answering.specs.declared.answer.Answer.{Answer}
use Rattle.rn_answering.specs.declared.stopped.Stopped.{Stopped}
use Rattle.rn_answering.specs.declared.stopped.Stopped.TheVariants.{Refused, ReadFault, NoMemory}
use Rattle.rn_answering.specs.Refusing.{Stops, done, refusal}
use Rattle.rn_answering.specs.NetTexts.{AcceptedIn, RefusesNet}
use Rattle.rn_answering.specs.declared.status.TheConstants.{RECORD_REFUSED}
use Rattle.rn_commands.specs.Laws.{MovesGoWithReplay}
use Rattle.rn_commands.specs.Moves.{MovesComeTo, RecordMovesTo}
use Rattle.rn_commands.specs.Parts.{HasParts}
use Rattle.rn_commands.specs.Replaying.{IsRecordOfRun, RecordTo, replayed_text}
use Rattle.rn_commands.specs.link.Replaying.{RefusesRecord}
use Rattle.rn_commands.proofs.ReplayLemmas.{entries_are, replayed_ended}

module _ (options : Options) (bytes net rest : List ℕ) (parts : HasParts bytes net rest) where
  -- a refusal of the net text
  pub net_stops_moves : (s : Stopped) → Stops (RefusesNet net) s →
      Stops (MovesComeTo options bytes) s
  net_stops_moves (Refused a) refuses = (net, rest, parts, inl refuses)
  net_stops_moves ReadFault refuses = refuses
  net_stops_moves (NoMemory _) refuses = tt

  module _ (system : System) (format : ℕ) (accepted : AcceptedIn format net system) where
    moves_to : (a : Answer) → RecordMovesTo format system options rest a → MovesComeTo options bytes a
    moves_to a to =
        (net, rest, parts, inr (system, accepted.0, subst (λ f. RecordMovesTo f system options rest a) (sym accepted.1) to))

    -- a refusal of the record
    pub record_stops_moves : (s : Stopped) → Stops (RefusesRecord format system options rest) s →
        Stops (MovesComeTo options bytes) s
    record_stops_moves (Refused a) (line, why, is) =
        moves_to a (subst (RecordMovesTo format system options rest) (sym is) (RecordMovesTo.refused line why))
    record_stops_moves ReadFault refuses = refuses
    record_stops_moves (NoMemory _) refuses = tt

    -- a record that is accepted
    pub moves_done : (told : Told) (s : State) (whole : IsWhole told.entries)
        (replayed : IsReplayed system options told s) (text : List ℕ) →
        TellsRecord system format rest (Verdict.tells told.entries told.marks) →
        rest ≡ record_text format system told → IsState s →
        MovesText s.setup.system (logged s) text → MovesComeTo options bytes (done text)
    moves_done told s whole replayed text tells spelled state moved =
        let ended = replayed_ended options bytes net rest parts system format accepted told s whole replayed in
        let entries = entries_are options bytes net rest parts system format accepted told s whole replayed in
        let run : IsRecordOfRun format system options rest (length s.fired) whole.reason = record {
          firings = s.fired;
          counted = refl;
          log = subst (λ e. Log system options s.fired e) ended
              (subst (λ u. Log u.system u.options s.fired s.ended) replayed.setup state.log);
          marks = told.marks;
          live = subst (λ u. LivePart system (end_of u.system s.fired) told.marks) replayed.setup replayed.marks;
          told = spelled ∙ ap (λ es. record_text format system (record { entries = es; marks = told.marks })) entries;
        } in
        moves_to (done text)
        (RecordMovesTo.moved (length s.fired) whole.reason run
        (subst (λ es. TellsRecord system format rest (Verdict.tells es told.marks)) entries tells) text
        (subst (λ e. MovesText system (entries_of s.fired e) text) ended
        (subst (λ u. MovesText u.system (logged s) text) replayed.setup moved)))

-- an answer of `replay` with the status and the line of this one
record_alike : (format : ℕ) (system : System) (options : Options) (bytes : List ℕ) (a : Answer) →
    RecordMovesTo format system options bytes a →
    (b : Answer) × RecordTo format system options bytes b × (a.status ≡ b.status) × (a.line ≡ b.line)
record_alike format system options bytes a (RecordMovesTo.refused line why) =
    (refusal RECORD_REFUSED line, RecordTo.refused line why, refl, refl)
record_alike format system options bytes a (RecordMovesTo.moved count reason run tells text is) =
    (done (replayed_text count reason), RecordTo.replayed count reason run tells, refl, refl)

pub moves_go_with_replay : MovesGoWithReplay
moves_go_with_replay options bytes a (net, rest, parts, inl refuses) =
    (a, (net, rest, parts, inl refuses), refl, refl)
moves_go_with_replay options bytes a (net, rest, parts, inr (system, accepted, to)) =
    let b = record_alike accepted.plain.notation system options rest a to in
    (b.0, (net, rest, parts, inr (system, accepted, b.1)), b.2, b.3)
