-- What a replay comes to.
use Rattle.std.proofs.Common.{◌≡◌, ◌≢◌, ◌∙◌, ℕ, List, refl, sym, ap, subst, inl, inr}
use Rattle.std.specs.Prelude.{None, Some, IfSome, length}
use Rattle.rn_items.specs.Memory.{no_memory}
use Rattle.rn_model.specs.declared.system.System.{System}
use Rattle.rn_model.specs.declared.log.Options.{Options}
use Rattle.rn_model.specs.declared.log.Told.{Told}
use Rattle.rn_model.specs.Liveness.{LivePart}
use Rattle.rn_model.specs.Runs.{Log, end_of, entries_of}
use Rattle.rn_lookup.specs.declared.refusal.Refusal.TheVariants.{Form, Name, Step, Many}
use Rattle.rn_fire.specs.States.{State, IsState}
use Rattle.rn_fire.specs.link.States.{end_in}
use Rattle.rn_fire.proofs.EntryLemmas.{end_of_entries}
use Rattle.rn_record.specs.RecordText.{IsFormat, record_text}
use Rattle.rn_record_reader.specs.Laws.{TellsWholeRuns}
use Rattle.rn_record_reader.specs.Runs.{Verdict, TellsRecord}
use Rattle.rn_record_reader.specs.link.RunsAhead.{FaultTells}
use Rattle.rn_record_reader.specs.declared.fault.RecordFault.{RecordFault}
use Rattle.rn_record_reader.specs.declared.fault.RecordFault.TheVariants.{Q1, Q2, Q3, Q4}
use Rattle.rn_record_reader.specs.declared.fault.RecordFault.TheVariants as Q
use Rattle.rn_replay.specs.declared.fault.ReplayFault.{ReplayFault}
use Rattle.rn_replay.specs.declared.fault.ReplayFault.TheVariants.{V1, V2, V3, V4, V5}
use Rattle.rn_replay.specs.declared.fault.ReplayFault.TheVariants as R
use Rattle.rn_replay.specs.Replays.{IsReplayed, IsWhole, Refuses}
use Rattle.rn_answering.specs.declared.answer.Answer.{Answer}
use Rattle.rn_answering.specs.declared.stopped.Stopped.{Stopped}
use Rattle.rn_answering.specs.declared.stopped.Stopped.TheVariants.{Refused, ReadFault, NoMemory}
use Rattle.rn_answering.specs.declared.status.TheConstants.{RECORD_REFUSED}
use Rattle.rn_answering.specs.Refusing.{Stops, done, refusal}
use Rattle.rn_answering.specs.NetTexts.{AcceptedIn, RefusesNet}
use Rattle.rn_commands.specs.NetCommands.{ReplayComesTo}
use Rattle.rn_commands.specs.Parts.{HasParts}
use Rattle.rn_commands.specs.Replaying.{IsNoRunBy, IsRecordOfRun, RecordTo}
use Rattle.rn_commands.specs.link.Replaying.{RefusesRecord}
use Rattle.rn_commands.specs.Replaying.{entry_line, replayed_text}
use Rattle.rn_commands.specs.link.Replaying.{record_line}

-- a record that tells no run is refused by the line of its first bad line
pub record_refused : (format : ℕ) (system : System) (options : Options) (bytes : List ℕ) (fault : RecordFault) (s : Stopped) →
    FaultTells (TellsRecord system format bytes) fault → (fault ≡ Q.NoMemory no_memory → s ≡ NoMemory no_memory) →
    Stops (λ a. a ≡ refusal RECORD_REFUSED (record_line fault)) s → Stops (RefusesRecord format system options bytes) s
record_refused format system options bytes (Q1 n) (Refused a) tells memory is = (record_line (Q1 n), IsNoRunBy.unread n Form tells, is)
record_refused format system options bytes (Q2 n) (Refused a) tells memory is = (record_line (Q2 n), IsNoRunBy.unread n Name tells, is)
record_refused format system options bytes (Q3 n) (Refused a) tells memory is = (record_line (Q3 n), IsNoRunBy.unread n Step tells, is)
record_refused format system options bytes (Q4 n) (Refused a) tells memory is = (record_line (Q4 n), IsNoRunBy.unread n Many tells, is)
record_refused format system options bytes (Q.NoMemory _) (Refused a) tells memory is =
    let never : Refused a ≡ NoMemory no_memory = memory refl in absurd cc
record_refused format system options bytes fault ReadFault tells memory is = is
record_refused format system options bytes fault (NoMemory _) tells memory is = tt

-- a record that tells what isn't true is refused by the line of its first entry that isn't
pub replay_refused : (format : ℕ) (system : System) (options : Options) (bytes : List ℕ) (told : Told) (fault : ReplayFault) (s : Stopped) →
    TellsRecord system format bytes (Verdict.tells told.entries told.marks) → Refuses system options told fault →
    (fault ≡ R.NoMemory no_memory → s ≡ NoMemory no_memory) →
    Stops (λ a. a ≡ refusal RECORD_REFUSED (entry_line fault)) s → Stops (RefusesRecord format system options bytes) s
replay_refused format system options bytes told (V1 n) (Refused a) tells why memory is = (entry_line (V1 n), IsNoRunBy.untrue told (V1 n) tells tt why, is)
replay_refused format system options bytes told (V2 n) (Refused a) tells why memory is = (entry_line (V2 n), IsNoRunBy.untrue told (V2 n) tells tt why, is)
replay_refused format system options bytes told (V3 n) (Refused a) tells why memory is = (entry_line (V3 n), IsNoRunBy.untrue told (V3 n) tells tt why, is)
replay_refused format system options bytes told (V4 n) (Refused a) tells why memory is = (entry_line (V4 n), IsNoRunBy.untrue told (V4 n) tells tt why, is)
replay_refused format system options bytes told (V5 n) (Refused a) tells why memory is = (entry_line (V5 n), IsNoRunBy.untrue told (V5 n) tells tt why, is)
replay_refused format system options bytes told (R.NoMemory _) (Refused a) tells why memory is =
    let never : Refused a ≡ NoMemory no_memory = memory refl in absurd cc
replay_refused format system options bytes told fault ReadFault tells why memory is = is
replay_refused format system options bytes told fault (NoMemory _) tells why memory is = tt

-- what is told ends, and its workers have numbers
pub whole_told : TellsWholeRuns → (format : ℕ) (system : System) (bytes : List ℕ) (told : Told) → IsFormat format →
    TellsRecord system format bytes (Verdict.tells told.entries told.marks) → IsWhole told.entries
whole_told whole format system bytes told is tells =
    let run = whole system format bytes told.entries told.marks is tells in
    record { fired = run.0; reason = run.1; are = run.2; workers = run.3 }

-- A refusal of the net text, or of the record, is what a replay comes to.
module _ (options : Options) (bytes net rest : List ℕ) (parts : HasParts bytes net rest) where
  pub net_stops : (s : Stopped) → Stops (RefusesNet net) s → Stops (ReplayComesTo options bytes) s
  net_stops (Refused a) refuses = (net, rest, parts, inl refuses)
  net_stops ReadFault refuses = refuses
  net_stops (NoMemory _) refuses = tt

  module _ (system : System) (format : ℕ) (accepted : AcceptedIn format net system) where
    comes_to : (a : Answer) → RecordTo format system options rest a → ReplayComesTo options bytes a
    comes_to a to =
        (net, rest, parts, inr (system, accepted.0, subst (λ f. RecordTo f system options rest a) (sym accepted.1) to))

    pub record_stops : (s : Stopped) → Stops (RefusesRecord format system options rest) s → Stops (ReplayComesTo options bytes) s
    record_stops (Refused a) (line, why, is) =
        comes_to a (subst (RecordTo format system options rest) (sym is) (RecordTo.refused line why))
    record_stops ReadFault refuses = refuses
    record_stops (NoMemory _) refuses = tt

    -- a record that is accepted
    module _ (told : Told) (s : State) (whole : IsWhole told.entries) (replayed : IsReplayed system options told s) where
      pub replayed_ended : s.ended ≡ Some whole.reason
      replayed_ended =
          sym (end_of_entries s.fired s.ended) ∙ ap end_in (replayed.entries ∙ whole.are)
          ∙ end_of_entries whole.fired (Some whole.reason)

      pub replayed_ends : s.ended ≢ None
      replayed_ends going = let ended = replayed_ended in let never : ⊥ = cc in never

      pub entries_are : told.entries ≡ entries_of s.fired (Some whole.reason)
      entries_are = sym replayed.entries ∙ ap (entries_of s.fired) replayed_ended

      record_of_run : rest ≡ record_text format system told → IsState s →
          IsRecordOfRun format system options rest (length s.fired) whole.reason
      record_of_run spelled state = record {
        firings = s.fired;
        counted = refl;
        log = subst (λ e. Log system options s.fired e) replayed_ended
            (subst (λ u. Log u.system u.options s.fired s.ended) replayed.setup state.log);
        marks = told.marks;
        live = subst (λ u. LivePart system (end_of u.system s.fired) told.marks) replayed.setup replayed.marks;
        told = spelled ∙ ap (λ es. record_text format system (record { entries = es; marks = told.marks })) entries_are;
      }

      pub replay_done : (text : List ℕ) → TellsRecord system format rest (Verdict.tells told.entries told.marks) →
          rest ≡ record_text format system told → IsState s →
          IfSome s.ended (λ reason. text ≡ replayed_text (length s.fired) reason) →
          ReplayComesTo options bytes (done text)
      unfolding record_of_run
      replay_done text tells spelled state written =
          let is : text ≡ replayed_text (length s.fired) whole.reason =
          subst (λ e. IfSome e (λ reason. text ≡ replayed_text (length s.fired) reason)) replayed_ended written in
          comes_to (done text) (subst (λ t. RecordTo format system options rest (done t)) (sym is)
          (RecordTo.replayed (length s.fired) whole.reason (record_of_run spelled state)
          (subst (λ es. TellsRecord system format rest (Verdict.tells es told.marks)) entries_are tells)))
