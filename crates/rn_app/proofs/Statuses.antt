-- What the sinks take of what words and input come to, and with which status.
use Rattle.std.proofs.Common.{◌≡◌, ◌∙◌, ◌⊎◌, ℕ, suc, List, [], Option, Some, None, inl, inr, length, refl, sym, ap, subst, arith}
use Rattle.rn_model.specs.declared.binding.Binding.{Binding}
use Rattle.rn_model.specs.declared.log.FaultKind.{FaultKind}
use Rattle.rn_model.specs.declared.log.Options.{Options}
use Rattle.rn_model.specs.declared.log.Reason.{Reason}
use Rattle.rn_model.specs.declared.log.Reason.TheVariants as End
use Rattle.rn_model.specs.declared.system.System.{System}
use Rattle.rn_notation.specs.Limits.{longest_net_text}
use Rattle.rn_outside.specs.Bytes.{GivesAll, Appends}
use Rattle.rn_words.specs.declared.command.Command.{Command}
use Rattle.rn_words.specs.declared.command.Command.TheVariants as command
use Rattle.rn_words.specs.Commands.{WordsOk}
use Rattle.rn_words.specs.Laws.{ReadsWhatIsAccepted}
use Rattle.rn_answering.specs.declared.answer.Answer.{Answer}
use Rattle.rn_answering.specs.declared.status.TheConstants.{DONE, NET_REFUSED, WORDS_REFUSED, FAULTED, NO_MEMORY, RECORD_REFUSED}
use Rattle.rn_answering.specs.Input.{longest_input}
use Rattle.rn_answering.specs.NetTexts.{RefusesNet}
use Rattle.rn_commands.specs.Ends.{end_status, end_message}
use Rattle.rn_commands.specs.Replaying.{RecordTo}
use Rattle.rn_commands.specs.Moves.{RecordMovesTo}
use Rattle.rn_commands.specs.Migrating.{NetMigratesTo}
use Rattle.rn_net.specs.declared.plain.Plain.{Plain}
use Rattle.rn_commands.specs.Runs.{RunsTo}
use Rattle.rn_commands.specs.LeastRuns.{RunsLeastTo}
use Rattle.rn_app.specs.Commands.{ComesTo}
use Rattle.rn_app.specs.TopCall.{Comes, IsOwnStatus, WritesRun, WritesLeastRun}
use Rattle.rn_app.proofs.WordsAndInput.{one_command, not_faulty}

-- the statuses of what words and input come to
abbrev pub IsAnswered : ℕ → Type 0
IsAnswered status = IsOwnStatus status ⊎ (status ≡ NO_MEMORY)

-- the end of a run that is done
pub done_end : (reason : Reason) → end_status reason ≡ DONE → (reason ≡ End.Dead) ⊎ (reason ≡ End.Steps)
done_end End.Dead is = inl refl
done_end End.Steps is = inr refl
done_end End.Memory is = absurd cc
done_end (End.Fault cause b) is = absurd cc

-- the end of a run that ended in a fault
pub fault_end : (reason : Reason) → end_status reason ≡ FAULTED → (cause : FaultKind) × (b : Binding) × (reason ≡ End.Fault cause b)
fault_end End.Dead is = absurd cc
fault_end End.Steps is = absurd cc
fault_end End.Memory is = absurd cc
fault_end (End.Fault cause b) is = (cause, b, refl)

-- a run that is done has nothing to say besides
pub done_line : (reason : Reason) (step : ℕ) → end_status reason ≡ DONE → end_message reason step ≡ []
done_line End.Dead step is = refl
done_line End.Steps step is = refl
done_line End.Memory step is = absurd cc
done_line (End.Fault cause b) step is = absurd cc

-- the line of a run that ended for want of memory
pub memory_line : (reason : Reason) (step : ℕ) → end_status reason ≡ NO_MEMORY → end_message reason step ≡ end_message End.Memory step
memory_line End.Dead step is = absurd cc
memory_line End.Steps step is = absurd cc
memory_line End.Memory step is = refl
memory_line (End.Fault cause b) step is = absurd cc

-- What a command comes to, by its end: it is refused, it is done without a line, or it is a run.
pub data IsToldBy (a : Answer) : Type 0 where
  refused : (a.status ≡ NET_REFUSED) ⊎ ((a.status ≡ WORDS_REFUSED) ⊎ (a.status ≡ RECORD_REFUSED)) → IsToldBy a
  quiet : a.status ≡ DONE → a.line ≡ [] → IsToldBy a
  ended : (reason : Reason) (step : ℕ) → a.status ≡ end_status reason → a.line ≡ end_message reason step → IsToldBy a

replay_told : (format : ℕ) (system : System) (options : Options) (bytes : List ℕ) (a : Answer) → RecordTo format system options bytes a → IsToldBy a
replay_told format system options bytes a (RecordTo.refused line no_run) = IsToldBy.refused (inr (inr refl))
replay_told format system options bytes a (RecordTo.replayed count reason run read) = IsToldBy.quiet refl refl

moves_told : (format : ℕ) (system : System) (options : Options) (bytes : List ℕ) (a : Answer) → RecordMovesTo format system options bytes a → IsToldBy a
moves_told format system options bytes a (RecordMovesTo.refused line no_run) = IsToldBy.refused (inr (inr refl))
moves_told format system options bytes a (RecordMovesTo.moved count reason run read text moves) = IsToldBy.quiet refl refl

migrate_told : (plain : Plain) (system : System) (bytes net rest : List ℕ) (a : Answer) → NetMigratesTo plain system bytes net rest a → IsToldBy a
migrate_told plain system bytes net rest a (NetMigratesTo.already second) = IsToldBy.refused (inl refl)
migrate_told plain system bytes net rest a (NetMigratesTo.alone first all) = IsToldBy.quiet refl refl
migrate_told plain system bytes net rest a (NetMigratesTo.unread first more line why bad) = IsToldBy.refused (inr (inr refl))
migrate_told plain system bytes net rest a (NetMigratesTo.both first more told tells) = IsToldBy.quiet refl refl

-- each thing that a command comes to is reported so
pub command_told : (c : Command) (bytes : List ℕ) (a : Answer) → ComesTo c bytes a → IsToldBy a
command_told (command.Run options) bytes a (inl (line, why, is)) = IsToldBy.refused (inl (ap (λ x. x.status) is))
command_told (command.Run options) bytes a (inr runs) = IsToldBy.ended runs.reason (suc (length runs.run.firings)) runs.status runs.line
command_told (command.RunLeast options) bytes a (inl (line, why, is)) = IsToldBy.refused (inl (ap (λ x. x.status) is))
command_told (command.RunLeast options) bytes a (inr least) = IsToldBy.ended least.runs.reason (suc (length least.runs.run.firings)) least.runs.status least.runs.line
command_told (command.RunSeeded options seed) bytes a (inl (line, why, is)) = IsToldBy.refused (inl (ap (λ x. x.status) is))
command_told (command.RunSeeded options seed) bytes a (inr runs) = IsToldBy.ended runs.reason (suc (length runs.run.firings)) runs.status runs.line
command_told command.Check bytes a (inl (line, why, is)) = IsToldBy.refused (inl (ap (λ x. x.status) is))
command_told command.Check bytes a (inr (system, accepted, is)) = IsToldBy.quiet (ap (λ x. x.status) is) (ap (λ x. x.line) is)
command_told command.Print bytes a (inl (line, why, is)) = IsToldBy.refused (inl (ap (λ x. x.status) is))
command_told command.Print bytes a (inr (plain, system, spells, checked, is)) = IsToldBy.quiet (ap (λ x. x.status) is) (ap (λ x. x.line) is)
command_told (command.Enabled depth) bytes a (inl (line, why, is)) = IsToldBy.refused (inl (ap (λ x. x.status) is))
command_told (command.Enabled depth) bytes a (inr (system, found, accepted, just, is)) = IsToldBy.quiet (ap (λ x. x.status) is) (ap (λ x. x.line) is)
command_told (command.Replay options) bytes a (net, rest, parts, inl (line, why, is)) = IsToldBy.refused (inl (ap (λ x. x.status) is))
command_told (command.Replay options) bytes a (net, rest, parts, inr (system, accepted, told)) = replay_told accepted.plain.notation system options rest a told
command_told (command.Session options) bytes a (net, rest, parts, inl (line, why, is)) = IsToldBy.refused (inl (ap (λ x. x.status) is))
command_told (command.Session options) bytes a (net, rest, parts, inr (system, accepted, (text, served, is))) = IsToldBy.quiet (ap (λ x. x.status) is) (ap (λ x. x.line) is)
command_told (command.Counts options) bytes a (inl (line, why, is)) = IsToldBy.refused (inl (ap (λ x. x.status) is))
command_told (command.Counts options) bytes a (inr counted) = IsToldBy.ended counted.reason (suc (length counted.counts.firings)) counted.status counted.line
command_told (command.Moves options) bytes a (net, rest, parts, inl (line, why, is)) = IsToldBy.refused (inl (ap (λ x. x.status) is))
command_told (command.Moves options) bytes a (net, rest, parts, inr (system, accepted, told)) = moves_told accepted.plain.notation system options rest a told
command_told command.Migrate bytes a (net, rest, parts, inl (line, why, is)) = IsToldBy.refused (inl (ap (λ x. x.status) is))
command_told command.Migrate bytes a (net, rest, parts, inr (system, accepted, to)) = migrate_told accepted.plain system bytes net rest a to
command_told command.Pt bytes a (inl refuses) = IsToldBy.refused (inl (ap (λ x. x.status) refuses.is))
command_told command.Pt bytes a (inr translates) = IsToldBy.quiet (ap (λ x. x.status) translates.is) (ap (λ x. x.line) translates.is)
command_told (command.Gen copies options) bytes a gens = IsToldBy.ended gens.reason (suc (length gens.firings)) gens.status gens.line
command_told (command.GenSeeded copies options seed) bytes a gens = IsToldBy.ended gens.reason (suc (length gens.firings)) gens.status gens.line

-- and so is each thing that words and input come to
pub told : (words : List (List ℕ)) (left left_after : Option (List ℕ)) (a : Answer) → Comes words left left_after a → IsToldBy a
told words left left_after a (Comes.wordless fault faulty same) = IsToldBy.refused (inr (inl refl))
told words left left_after a (Comes.longer c limit accepted is long gives) = IsToldBy.refused (inl refl)
told words left left_after a (Comes.inputless _ c accepted none comes same) = command_told c [] a comes
told words left left_after a (Comes.whole _ c limit bytes accepted is all few comes) = command_told c bytes a comes

own_status : (n status : ℕ) → status ≡ n → (n ≡ 0) ⊎ ((n ≡ 1) ⊎ ((n ≡ 2) ⊎ ((n ≡ 3) ⊎ (n ≡ 7)))) → IsOwnStatus status
own_status n status is which = grind (arith, is, which)

-- the statuses of what words and input come to: those of words and input, and that of memory
pub answered : (a : Answer) → IsToldBy a → IsAnswered a.status
answered a (IsToldBy.refused (inl is)) = inl (own_status NET_REFUSED a.status is (inr (inl refl)))
answered a (IsToldBy.refused (inr (inl is))) = inl (own_status WORDS_REFUSED a.status is (inr (inr (inl refl))))
answered a (IsToldBy.refused (inr (inr is))) = inl (own_status RECORD_REFUSED a.status is (inr (inr (inr (inr refl)))))
answered a (IsToldBy.quiet is line) = inl (own_status DONE a.status is (inl refl))
answered a (IsToldBy.ended End.Dead step is line) = inl (own_status DONE a.status is (inl refl))
answered a (IsToldBy.ended End.Steps step is line) = inl (own_status DONE a.status is (inl refl))
answered a (IsToldBy.ended End.Memory step is line) = inr is
answered a (IsToldBy.ended (End.Fault cause b) step is line) = inl (own_status FAULTED a.status is (inr (inr (inr (inl refl)))))

-- where it is done there is no line
pub no_line : (a : Answer) → IsToldBy a → a.status ≡ DONE → a.line ≡ []
no_line a (IsToldBy.refused (inl is)) done = absurd cc
no_line a (IsToldBy.refused (inr (inl is))) done = absurd cc
no_line a (IsToldBy.refused (inr (inr is))) done = absurd cc
no_line a (IsToldBy.quiet is line) done = line
no_line a (IsToldBy.ended reason step is line) done = line ∙ done_line reason step (sym is ∙ done)

-- where memory ran out the line says so
pub says_memory : (a : Answer) → IsToldBy a → a.status ≡ NO_MEMORY → a.line ≡ end_message End.Memory 0
says_memory a (IsToldBy.refused (inl is)) memory = absurd cc
says_memory a (IsToldBy.refused (inr (inl is))) memory = absurd cc
says_memory a (IsToldBy.refused (inr (inr is))) memory = absurd cc
says_memory a (IsToldBy.quiet is line) memory = absurd cc
says_memory a (IsToldBy.ended reason step is line) memory = line ∙ memory_line reason step (sym is ∙ memory)

-- a command that runs a net text, and what its run comes to
pub record RunsNet (T : List ℕ → Answer → Type 0) (c : Command) : Type 0 where
  pub reads : longest_input c ≡ Some longest_net_text
  pub runs : (bytes : List ℕ) (a : Answer) → ComesTo c bytes a → RefusesNet bytes a ⊎ T bytes a

pub any_runs : (options : Options) → RunsNet (RunsTo options) (command.Run options)
any_runs options = record { reads = refl; runs = λ bytes a comes. comes }

pub seeded_runs : (options : Options) (seed : ℕ) → RunsNet (RunsTo options) (command.RunSeeded options seed)
seeded_runs options seed = record { reads = refl; runs = λ bytes a comes. comes }

pub least_runs : (options : Options) → RunsNet (RunsLeastTo options) (command.RunLeast options)
least_runs options = record { reads = refl; runs = λ bytes a comes. comes }

-- where the words are those of a run, and it is done or faulted, a run of the input is reported
run_told : ReadsWhatIsAccepted → (words : List (List ℕ)) (left left_after : Option (List ℕ)) (T : List ℕ → Answer → Type 0) (run : Command) (a : Answer) → RunsNet T run → WordsOk words run → (a.status ≡ DONE) ⊎ (a.status ≡ FAULTED) →
    Comes words left left_after a → (bytes : List ℕ) × GivesAll left bytes left_after × T bytes a
run_told law words left left_after T run a net accepted which (Comes.wordless fault faulty same) = absurd (not_faulty law words run fault accepted faulty)
run_told law words left left_after T run a net accepted (inl is) (Comes.longer c limit given most long gives) = absurd cc
run_told law words left left_after T run a net accepted (inr is) (Comes.longer c limit given most long gives) = absurd cc
run_told law words left left_after T run a net accepted which (Comes.inputless _ c given none comes same) =
    let one : c ≡ run = one_command law words c run given accepted in
    absurd (let no : Some longest_net_text ≡ None = sym net.reads ∙ subst (λ k. longest_input k ≡ None) one none in cc)
run_told law words left left_after T run a net accepted which (Comes.whole _ c limit bytes given most all few comes) =
    (bytes, all, ran which (net.runs bytes a (subst (λ k. ComesTo k bytes a) (one_command law words c run given accepted) comes)))
  where
    ran : (a.status ≡ DONE) ⊎ (a.status ≡ FAULTED) → RefusesNet bytes a ⊎ T bytes a → T bytes a
    ran (inl done) (inl (line, why, is)) = absurd (let status = ap (λ x. x.status) is in cc)
    ran (inr faulted) (inl (line, why, is)) = absurd (let status = ap (λ x. x.status) is in cc)
    ran which (inr runs) = runs

-- What a sink took of a run of the input, and of a least one.
module _ (options : Options) (left left_after held held_after : Option (List ℕ)) (a : Answer) (bytes : List ℕ) (all : GivesAll left bytes left_after) (written : Appends held a.text held_after) where
  abbrev writes_run : (runs : RunsTo options bytes a) → WritesRun options left left_after held held_after runs.reason
  writes_run runs = record { bytes = bytes; read = all; text = a.text; is_run = runs.run; written = written }

  writes_least : (least : RunsLeastTo options bytes a) → WritesLeastRun options left left_after held held_after least.runs.reason
  writes_least least = record { writes = writes_run least.runs; least = least.least }

-- the clauses of runs that are done, and that ended in a fault
pub run_done : ReadsWhatIsAccepted → (words : List (List ℕ)) (left left_after held held_after : Option (List ℕ)) (options : Options) (run : Command) (a : Answer) → RunsNet (RunsTo options) run → WordsOk words run → a.status ≡ DONE → Comes words left left_after a → Appends held a.text held_after →
    (reason : Reason) × ((reason ≡ End.Dead) ⊎ (reason ≡ End.Steps)) × WritesRun options left left_after held held_after reason
run_done law words left left_after held held_after options run a net accepted is comes written =
    let (bytes, all, runs) = run_told law words left left_after (RunsTo options) run a net accepted (inl is) comes in
    (runs.reason, done_end runs.reason (sym runs.status ∙ is), writes_run options left left_after held held_after a bytes all written runs)

pub run_faulted : ReadsWhatIsAccepted → (words : List (List ℕ)) (left left_after held held_after : Option (List ℕ)) (options : Options) (run : Command) (a : Answer) → RunsNet (RunsTo options) run → WordsOk words run → a.status ≡ FAULTED → Comes words left left_after a → Appends held a.text held_after →
    (cause : FaultKind) × (b : Binding) × WritesRun options left left_after held held_after (End.Fault cause b)
run_faulted law words left left_after held held_after options run a net accepted is comes written =
    let (bytes, all, runs) = run_told law words left left_after (RunsTo options) run a net accepted (inr is) comes in
    let (cause, b, faulted) = fault_end runs.reason (sym runs.status ∙ is) in
    (cause, b, subst (WritesRun options left left_after held held_after) faulted (writes_run options left left_after held held_after a bytes all written runs))

-- the same of least runs
pub least_done : ReadsWhatIsAccepted → (words : List (List ℕ)) (left left_after held held_after : Option (List ℕ)) (options : Options) (run : Command) (a : Answer) → RunsNet (RunsLeastTo options) run → WordsOk words run → a.status ≡ DONE → Comes words left left_after a → Appends held a.text held_after →
    (reason : Reason) × ((reason ≡ End.Dead) ⊎ (reason ≡ End.Steps)) × WritesLeastRun options left left_after held held_after reason
least_done law words left left_after held held_after options run a net accepted is comes written =
    let (bytes, all, least) = run_told law words left left_after (RunsLeastTo options) run a net accepted (inl is) comes in
    (least.runs.reason, done_end least.runs.reason (sym least.runs.status ∙ is), writes_least options left left_after held held_after a bytes all written least)

pub least_faulted : ReadsWhatIsAccepted → (words : List (List ℕ)) (left left_after held held_after : Option (List ℕ)) (options : Options) (run : Command) (a : Answer) → RunsNet (RunsLeastTo options) run → WordsOk words run → a.status ≡ FAULTED → Comes words left left_after a → Appends held a.text held_after →
    (cause : FaultKind) × (b : Binding) × WritesLeastRun options left left_after held held_after (End.Fault cause b)
least_faulted law words left left_after held held_after options run a net accepted is comes written =
    let (bytes, all, least) = run_told law words left left_after (RunsLeastTo options) run a net accepted (inr is) comes in
    let (cause, b, faulted) = fault_end least.runs.reason (sym least.runs.status ∙ is) in
    (cause, b, subst (WritesLeastRun options left left_after held held_after) faulted (writes_least options left left_after held held_after a bytes all written least))
