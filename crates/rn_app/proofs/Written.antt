-- What the sinks took where words and input come to an answer.
use Rattle.std.proofs.Common.{◌≡◌, ◌≢◌, ◌∙◌, ◌⊎◌, ℕ, List, [], Option, inl, inr, codes, sym, subst, arith}
use Rattle.rn_model.specs.declared.binding.Binding.{Binding}
use Rattle.rn_model.specs.declared.log.FaultKind.{FaultKind}
use Rattle.rn_model.specs.declared.log.Options.{Options}
use Rattle.rn_model.specs.declared.log.Reason.{Reason}
use Rattle.rn_model.specs.declared.log.Reason.TheVariants as End
use Rattle.rn_outside.specs.Bytes.{Appends, AppendsPrefix}
use Rattle.rn_outside.specs.Faults.{Rose, risen}
use Rattle.rn_outside.proofs.FaultLemmas.{Rose-risen}
use Rattle.rn_words.specs.declared.command.Command.{Command}
use Rattle.rn_words.specs.declared.command.Command.TheVariants as command
use Rattle.rn_words.specs.Commands.{WordsOk}
use Rattle.rn_answering.specs.declared.answer.Answer.{Answer}
use Rattle.rn_answering.specs.declared.status.TheConstants.{DONE, FAULTED, NO_MEMORY, READ_FAULT, WRITE_FAULT}
use Rattle.rn_answering.specs.Writing.{TakesLine}
use Rattle.rn_app.specs.TopCall.{Comes, FailsToTell, FailsToWrite, IsOwnStatus, IsStatus, RoseOnceAtMost, Writes, WritesLeastRun, WritesRun, WritesUnfinished}
use Rattle.rn_commands.specs.Runs.{RunsTo}
use Rattle.rn_app.proofs.Causes.{Laws}
use Rattle.rn_app.proofs.Statuses.{IsAnswered, RunsNet, any_runs, least_runs, seeded_runs, answered, no_line, run_done, run_faulted, least_done, least_faulted}
use Rattle.rn_app.proofs.Statuses.{says_memory, told}

-- what a call had and left
pub record Call (E : Type 0) : Type 0 where
  pub words : List (List ℕ)
  pub left : Option (List ℕ)
  pub left_after : Option (List ℕ)
  pub result : ℕ
  pub out : Option (List ℕ)
  pub out_after : Option (List ℕ)
  pub out_faults : ℕ
  pub out_faults_after : ℕ
  pub sink : E
  pub sink_after : E
  pub err : Option (List ℕ)
  pub err_after : Option (List ℕ)
  pub err_faults : ℕ
  pub err_faults_after : ℕ

-- an answer that was written in it
pub record IsWritten {E : Type 0} (k : Call E) (a : Answer) : Type 0 where
  pub comes : Comes k.words k.left k.left_after a
  pub written : k.result ≢ WRITE_FAULT → (k.result ≡ a.status) × Appends k.out a.text k.out_after × (k.out_faults_after ≡ k.out_faults)
  pub told : k.result ≢ WRITE_FAULT → k.result ≢ NO_MEMORY → Appends k.err a.line k.err_after × (k.err_faults_after ≡ k.err_faults)
  pub memory : k.result ≡ NO_MEMORY → TakesLine k.err k.err_after k.err_faults k.err_faults_after a.line
  pub nothing : a.line ≡ [] → k.sink_after ≡ k.sink
  pub failed : k.result ≡ WRITE_FAULT → a.status ≢ WRITE_FAULT →
      (AppendsPrefix k.out a.text k.out_after × (k.out_faults_after ≡ risen k.out_faults) × (k.sink_after ≡ k.sink))
      ⊎ ((a.status ≢ NO_MEMORY) × Appends k.out a.text k.out_after × (k.out_faults_after ≡ k.out_faults) × AppendsPrefix k.err a.line k.err_after × (k.err_faults_after ≡ risen k.err_faults))
  pub same : k.sink_after ≡ k.sink → k.err_faults_after ≡ k.err_faults

-- a number is another, or isn't
pub same_or_other : (n m : ℕ) → (n ≡ m) ⊎ (n ≢ m)
same_or_other n m = grind arith

-- the status of an answer isn't that of a failed read or write
answer_status : (status : ℕ) → IsAnswered status → IsStatus status × (status ≢ READ_FAULT) × (status ≢ WRITE_FAULT)
answer_status status (inl own) = (own.0, own.1, own.2)
answer_status status (inr is) = grind (arith, is)

-- a line meets one fault at most
pub line_faults : (held held_after : Option (List ℕ)) (faults faults_after : ℕ) (line : List ℕ) → TakesLine held held_after faults faults_after line → RoseOnceAtMost faults faults_after
line_faults held held_after faults faults_after line (inl (taken, still)) = inl still
line_faults held held_after faults faults_after line (inr (prefix, rose)) = inr rose

module _ {E : Type 0} (k : Call E) (a : Answer) (w : IsWritten k a) where
  -- the status of the answer
  its_status : IsStatus a.status × (a.status ≢ READ_FAULT) × (a.status ≢ WRITE_FAULT)
  its_status = answer_status a.status (answered a (told k.words k.left k.left_after a w.comes))

  -- a status that isn't that of a failed write is the answer's
  own : (n : ℕ) → n ≢ WRITE_FAULT → k.result ≡ n → k.result ≢ WRITE_FAULT
  own n other is = λ failed. other (sym is ∙ failed)

  -- the clauses of runs
  run_is_done : Laws → k.result ≡ DONE → (options : Options) (run : Command) → RunsNet (RunsTo options) run → WordsOk k.words run →
      (reason : Reason) × ((reason ≡ End.Dead) ⊎ (reason ≡ End.Steps)) × WritesRun options k.left k.left_after k.out k.out_after reason
  run_is_done laws is options run net accepted =
      let wrote = w.written (own DONE (λ e. absurd cc) is) in
      run_done laws.words k.words k.left k.left_after k.out k.out_after options run a net accepted (sym wrote.0 ∙ is) w.comes wrote.1

  run_is_faulted : Laws → k.result ≡ FAULTED → (options : Options) (run : Command) → RunsNet (RunsTo options) run → WordsOk k.words run →
      (cause : FaultKind) × (b : Binding) × WritesRun options k.left k.left_after k.out k.out_after (End.Fault cause b)
  run_is_faulted laws is options run net accepted =
      let wrote = w.written (own FAULTED (λ e. absurd cc) is) in
      run_faulted laws.words k.words k.left k.left_after k.out k.out_after options run a net accepted (sym wrote.0 ∙ is) w.comes wrote.1

  pub run_clause : Laws → k.result ≡ DONE → (options : Options) → WordsOk k.words (command.Run options) →
      (reason : Reason) × ((reason ≡ End.Dead) ⊎ (reason ≡ End.Steps)) × WritesRun options k.left k.left_after k.out k.out_after reason
  run_clause laws is options accepted = run_is_done laws is options (command.Run options) (any_runs options) accepted

  pub faulted_clause : Laws → k.result ≡ FAULTED → (options : Options) → WordsOk k.words (command.Run options) →
      (cause : FaultKind) × (b : Binding) × WritesRun options k.left k.left_after k.out k.out_after (End.Fault cause b)
  faulted_clause laws is options accepted = run_is_faulted laws is options (command.Run options) (any_runs options) accepted

  pub seeded_clause : Laws → k.result ≡ DONE → (options : Options) (seed : ℕ) → WordsOk k.words (command.RunSeeded options seed) →
      (reason : Reason) × ((reason ≡ End.Dead) ⊎ (reason ≡ End.Steps)) × WritesRun options k.left k.left_after k.out k.out_after reason
  seeded_clause laws is options seed accepted = run_is_done laws is options (command.RunSeeded options seed) (seeded_runs options seed) accepted

  pub seeded_faulted_clause : Laws → k.result ≡ FAULTED → (options : Options) (seed : ℕ) → WordsOk k.words (command.RunSeeded options seed) →
      (cause : FaultKind) × (b : Binding) × WritesRun options k.left k.left_after k.out k.out_after (End.Fault cause b)
  seeded_faulted_clause laws is options seed accepted = run_is_faulted laws is options (command.RunSeeded options seed) (seeded_runs options seed) accepted

  -- the clauses of least runs
  pub least_clause : Laws → k.result ≡ DONE → (options : Options) → WordsOk k.words (command.RunLeast options) →
      (reason : Reason) × ((reason ≡ End.Dead) ⊎ (reason ≡ End.Steps)) × WritesLeastRun options k.left k.left_after k.out k.out_after reason
  least_clause laws is options accepted =
      let wrote = w.written (own DONE (λ e. absurd cc) is) in
      least_done laws.words k.words k.left k.left_after k.out k.out_after options (command.RunLeast options) a (least_runs options) accepted (sym wrote.0 ∙ is) w.comes wrote.1

  pub least_faulted_clause : Laws → k.result ≡ FAULTED → (options : Options) → WordsOk k.words (command.RunLeast options) →
      (cause : FaultKind) × (b : Binding) × WritesLeastRun options k.left k.left_after k.out k.out_after (End.Fault cause b)
  least_faulted_clause laws is options accepted =
      let wrote = w.written (own FAULTED (λ e. absurd cc) is) in
      least_faulted laws.words k.words k.left k.left_after k.out k.out_after options (command.RunLeast options) a (least_runs options) accepted (sym wrote.0 ∙ is) w.comes wrote.1

  -- the clauses of statuses
  pub writes_clause : IsOwnStatus k.result → Writes k.words k.left k.left_after k.result k.out k.out_after k.err k.err_after
  writes_clause mine =
      let wrote = w.written mine.2 in
      record { a = a; comes = w.comes; own = wrote.0; text = wrote.1; line = (w.told mine.2 mine.3).0 }

  pub quiet_clause : k.result ≡ DONE → k.sink_after ≡ k.sink
  quiet_clause is =
      let wrote = w.written (own DONE (λ e. absurd cc) is) in
      w.nothing (no_line a (told k.words k.left k.left_after a w.comes) (sym wrote.0 ∙ is))

  pub only_clause : IsStatus k.result
  only_clause = by_cases (same_or_other k.result WRITE_FAULT)
    where
      by_cases : (k.result ≡ WRITE_FAULT) ⊎ (k.result ≢ WRITE_FAULT) → IsStatus k.result
      by_cases (inl failed) = omega (arith, failed)
      by_cases (inr other) = subst IsStatus (sym (w.written other).0) its_status.0

  pub never_read : k.result ≢ READ_FAULT
  never_read is =
      let wrote = w.written (own READ_FAULT (λ e. absurd cc) is) in
      its_status.1 (sym wrote.0 ∙ is)

  -- the clauses of faults and of memory
  pub write_fault_clause : k.result ≡ WRITE_FAULT →
      (Rose k.out_faults k.out_faults_after × (k.sink_after ≡ k.sink) × FailsToWrite k.words k.left k.left_after k.out k.out_after)
      ⊎ (Rose k.err_faults k.err_faults_after × FailsToTell k.words k.left k.left_after k.out k.out_after k.err k.err_after)
  write_fault_clause is = by_cases (w.failed is its_status.2)
    where
      by_cases : (AppendsPrefix k.out a.text k.out_after × (k.out_faults_after ≡ risen k.out_faults) × (k.sink_after ≡ k.sink))
          ⊎ ((a.status ≢ NO_MEMORY) × Appends k.out a.text k.out_after × (k.out_faults_after ≡ k.out_faults) × AppendsPrefix k.err a.line k.err_after × (k.err_faults_after ≡ risen k.err_faults)) →
          (Rose k.out_faults k.out_faults_after × (k.sink_after ≡ k.sink) × FailsToWrite k.words k.left k.left_after k.out k.out_after)
          ⊎ (Rose k.err_faults k.err_faults_after × FailsToTell k.words k.left k.left_after k.out k.out_after k.err k.err_after)
      by_cases (inl (prefix, rose, same)) =
          inl (subst (Rose k.out_faults) (sym rose) (Rose-risen k.out_faults), same, record { a = a; comes = w.comes; written = prefix })
      by_cases (inr (other, text, still, prefix, rose)) =
          inr (subst (Rose k.err_faults) (sym rose) (Rose-risen k.err_faults), record { a = a; comes = w.comes; own = other; text = text; line = prefix })

  pub memory_clause : k.result ≡ NO_MEMORY → TakesLine k.err k.err_after k.err_faults k.err_faults_after (codes "memory\n") × WritesUnfinished k.words k.left k.left_after k.out k.out_after
  memory_clause is =
      let wrote = w.written (own NO_MEMORY (λ e. absurd cc) is) in
      let status = sym wrote.0 ∙ is in (
        subst (TakesLine k.err k.err_after k.err_faults k.err_faults_after) (says_memory a (told k.words k.left k.left_after a w.comes) status) (w.memory is),
        record { a = a; comes = w.comes; memory = status; text = wrote.1 },
      )

  pub err_faults_clause : IsOwnStatus k.result → k.err_faults_after ≡ k.err_faults
  err_faults_clause mine = (w.told mine.2 mine.3).1

  pub few_faults_clause : RoseOnceAtMost k.out_faults k.out_faults_after × RoseOnceAtMost k.err_faults k.err_faults_after
  few_faults_clause = by_cases (same_or_other k.result WRITE_FAULT) (same_or_other k.result NO_MEMORY)
    where
      by_failure : (AppendsPrefix k.out a.text k.out_after × (k.out_faults_after ≡ risen k.out_faults) × (k.sink_after ≡ k.sink))
          ⊎ ((a.status ≢ NO_MEMORY) × Appends k.out a.text k.out_after × (k.out_faults_after ≡ k.out_faults) × AppendsPrefix k.err a.line k.err_after × (k.err_faults_after ≡ risen k.err_faults)) →
          RoseOnceAtMost k.out_faults k.out_faults_after × RoseOnceAtMost k.err_faults k.err_faults_after
      by_failure (inl (prefix, rose, same)) = (inr rose, inl (w.same same))
      by_failure (inr (other, text, still, prefix, rose)) = (inl still, inr rose)

      by_cases : (k.result ≡ WRITE_FAULT) ⊎ (k.result ≢ WRITE_FAULT) → (k.result ≡ NO_MEMORY) ⊎ (k.result ≢ NO_MEMORY) → RoseOnceAtMost k.out_faults k.out_faults_after × RoseOnceAtMost k.err_faults k.err_faults_after
      by_cases (inl failed) memory = by_failure (w.failed failed its_status.2)
      by_cases (inr other) (inl memory) = (inl (w.written other).2, line_faults k.err k.err_after k.err_faults k.err_faults_after a.line (w.memory memory))
      by_cases (inr other) (inr enough) = (inl (w.written other).2, inl (w.told other enough).1)

  -- a status of the answer is returned, unless a write fails
  pub status_or_fault : (n : ℕ) → a.status ≡ n → (k.result ≡ n) ⊎ (k.result ≡ WRITE_FAULT)
  status_or_fault n is = by_cases (same_or_other k.result WRITE_FAULT)
    where
      by_cases : (k.result ≡ WRITE_FAULT) ⊎ (k.result ≢ WRITE_FAULT) → (k.result ≡ n) ⊎ (k.result ≡ WRITE_FAULT)
      by_cases (inl failed) = inr failed
      by_cases (inr other) = inl ((w.written other).0 ∙ is)
