-- A record has one answer.
use Rattle.std.proofs.Common.{◌≡◌, ◌≢◌, ◌∙◌, ℕ, List, sym, ap, subst, length}
use Rattle.std.specs.Prelude.{Some}
use Rattle.rn_items.specs.Memory.{no_memory}
use Rattle.rn_model.specs.declared.system.System.{System}
use Rattle.rn_model.specs.declared.log.Entry.{Entry}
use Rattle.rn_model.specs.declared.log.MarkLine.{MarkLine}
use Rattle.rn_model.specs.declared.log.Options.{Options}
use Rattle.rn_model.specs.declared.log.Reason.{Reason}
use Rattle.rn_model.specs.declared.log.Told.{Told}
use Rattle.rn_model.specs.Liveness.{LivePart}
use Rattle.rn_model.specs.Runs.{Firing, end_of, entries_of}
use Rattle.rn_lookup.specs.declared.refusal.Refusal.{Refusal}
use Rattle.rn_fire.specs.link.States.{end_in, firings_in}
use Rattle.rn_fire.proofs.EntryLemmas.{end_of_entries, firings_of}
use Rattle.rn_record.specs.RecordText.{IsFormat}
use Rattle.rn_record_reader.specs.Laws.{OneReading}
use Rattle.rn_record_reader.specs.Runs.{Verdict, TellsRecord}
use Rattle.rn_replay.specs.declared.fault.ReplayFault.{ReplayFault}
use Rattle.rn_replay.specs.declared.fault.ReplayFault.TheVariants.{V1, V2, V3, V4, V5, NoMemory}
use Rattle.rn_replay.specs.Laws.{RefusedAreUntrue, RefusedForOneCause}
use Rattle.rn_replay.specs.Replays.{Refused}
use Rattle.rn_answering.specs.declared.answer.Answer.{Answer}
use Rattle.rn_answering.specs.declared.status.TheConstants.{RECORD_REFUSED}
use Rattle.rn_answering.specs.Lines.{number_line}
use Rattle.rn_answering.specs.Refusing.{done, refusal}
use Rattle.rn_commands.specs.Laws.{OneAnswerToRecord}
use Rattle.rn_commands.specs.Replaying.{HasCause, IsNoRunBy, IsRecordOfRun, RecordTo}
use Rattle.rn_commands.specs.Replaying.{entry_line, line_code, replayed_text}

caused : (fault : ReplayFault) → HasCause fault → fault ≢ NoMemory no_memory
caused (V1 n) has = λ is. let never : ⊥ = cc in never
caused (V2 n) has = λ is. let never : ⊥ = cc in never
caused (V3 n) has = λ is. let never : ⊥ = cc in never
caused (V4 n) has = λ is. let never : ⊥ = cc in never
caused (V5 n) has = λ is. let never : ⊥ = cc in never
caused (NoMemory _) has = absurd has

-- what is reported of a verdict
same_told : (told other : Told) →
    Verdict.tells told.entries told.marks ≡ Verdict.tells other.entries other.marks → told ≡ other
same_told told other is =
    let entries : told.entries ≡ other.entries = cc in
    let marks : told.marks ≡ other.marks = cc in
    let with_entries : List Entry → Told = λ es. record { entries = es; marks = told.marks } in
    let with_marks : List MarkLine → Told = λ ms. record { entries = other.entries; marks = ms } in
    ap with_entries entries ∙ ap with_marks marks

same_line : (n m : ℕ) (r q : Refusal) → Verdict.bad n r ≡ Verdict.bad m q →
    number_line (line_code r) n ≡ number_line (line_code q) m
same_line n m r q is =
    let line : n ≡ m = cc in
    let why : r ≡ q = cc in
    ap (λ x. number_line (line_code x) n) why ∙ ap (λ k. number_line (line_code q) k) line

-- the firings and the end of entries
same_run : (fs gs : List Firing) (reason other : Reason) →
    entries_of fs (Some reason) ≡ entries_of gs (Some other) →
    replayed_text (length fs) reason ≡ replayed_text (length gs) other
same_run fs gs reason other are =
    let firings : fs ≡ gs =
    sym (firings_of fs (Some reason)) ∙ ap firings_in are ∙ firings_of gs (Some other) in
    let ends : Some reason ≡ Some other =
    sym (end_of_entries fs (Some reason)) ∙ ap end_in are ∙ end_of_entries gs (Some other) in
    let end : reason ≡ other = cc in
    ap (λ xs. replayed_text (length xs) reason) firings ∙ ap (λ x. replayed_text (length gs) x) end

module _ (one : OneReading) (untrue : RefusedAreUntrue) (cause : RefusedForOneCause)
    (format : ℕ) (system : System) (options : Options) (bytes : List ℕ) (is_format : IsFormat format) where
  lines_alike : (l m : List ℕ) → IsNoRunBy format system options bytes l →
      IsNoRunBy format system options bytes m → l ≡ m
  lines_alike l m (IsNoRunBy.unread n r tells) (IsNoRunBy.unread k q also) =
      same_line n k r q (one system format bytes (Verdict.bad n r) (Verdict.bad k q) is_format tells also)
  lines_alike l m (IsNoRunBy.unread n r tells) (IsNoRunBy.untrue told fault also has why) =
      let is = one system format bytes (Verdict.bad n r) (Verdict.tells told.entries told.marks) is_format tells also in
      absurd (let never : ⊥ = cc in never)
  lines_alike l m (IsNoRunBy.untrue told fault tells has why) (IsNoRunBy.unread k q also) =
      let is = one system format bytes (Verdict.tells told.entries told.marks) (Verdict.bad k q) is_format tells also in
      absurd (let never : ⊥ = cc in never)
  lines_alike l m (IsNoRunBy.untrue told fault tells has why) (IsNoRunBy.untrue other same also some because) =
      let is = same_told told other (one system format bytes (Verdict.tells told.entries told.marks)
      (Verdict.tells other.entries other.marks) is_format tells also) in
      ap entry_line (cause system options other fault same
      (subst (λ t. Refused system options t fault) is why) because (caused fault has) (caused same some))

  not_both : (l : List ℕ) (count : ℕ) (reason : Reason) → IsNoRunBy format system options bytes l →
      (run : IsRecordOfRun format system options bytes count reason) →
      TellsRecord system format bytes (Verdict.tells (entries_of run.firings (Some reason)) run.marks) → ⊥
  not_both l count reason (IsNoRunBy.unread n r tells) run also =
      let is = one system format bytes (Verdict.bad n r)
      (Verdict.tells (entries_of run.firings (Some reason)) run.marks) is_format tells also in
      let never : ⊥ = cc in never
  not_both l count reason (IsNoRunBy.untrue told fault tells has why) run also =
      let is = one system format bytes (Verdict.tells told.entries told.marks)
      (Verdict.tells (entries_of run.firings (Some reason)) run.marks) is_format tells also in
      let entries : told.entries ≡ entries_of run.firings (Some reason) = cc in
      let marks : told.marks ≡ run.marks = cc in
      untrue system options told fault why (caused fault has) (record {
        fired = run.firings;
        reason = reason;
        entries = entries;
        log = run.log;
        marks = subst (LivePart system (end_of system run.firings)) (sym marks) run.live;
      })

  texts_alike : (count other : ℕ) (reason end : Reason)
      (run : IsRecordOfRun format system options bytes count reason)
      (again : IsRecordOfRun format system options bytes other end) →
      TellsRecord system format bytes (Verdict.tells (entries_of run.firings (Some reason)) run.marks) →
      TellsRecord system format bytes (Verdict.tells (entries_of again.firings (Some end)) again.marks) →
      replayed_text count reason ≡ replayed_text other end
  texts_alike count other reason end run again tells also =
      let is = one system format bytes (Verdict.tells (entries_of run.firings (Some reason)) run.marks)
      (Verdict.tells (entries_of again.firings (Some end)) again.marks) is_format tells also in
      let entries : entries_of run.firings (Some reason) ≡ entries_of again.firings (Some end) = cc in
      ap (λ n. replayed_text n reason) (sym run.counted)
      ∙ same_run run.firings again.firings reason end entries
      ∙ ap (λ n. replayed_text n end) again.counted

  answers_alike : (a b : Answer) → RecordTo format system options bytes a →
      RecordTo format system options bytes b → a ≡ b
  answers_alike a b (RecordTo.refused l why) (RecordTo.refused m because) =
      ap (refusal RECORD_REFUSED) (lines_alike l m why because)
  answers_alike a b (RecordTo.refused l why) (RecordTo.replayed count reason run tells) =
      absurd (not_both l count reason why run tells)
  answers_alike a b (RecordTo.replayed count reason run tells) (RecordTo.refused l why) =
      absurd (not_both l count reason why run tells)
  answers_alike a b (RecordTo.replayed count reason run tells) (RecordTo.replayed other end again also) =
      ap done (texts_alike count other reason end run again tells also)

pub one_answer : OneReading → RefusedAreUntrue → RefusedForOneCause → OneAnswerToRecord
one_answer one untrue cause format system options bytes a b is =
    answers_alike one untrue cause format system options bytes is a b
