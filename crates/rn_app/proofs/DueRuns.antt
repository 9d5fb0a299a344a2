-- Runs that are due.
use Rattle.std.proofs.Common.{◌≡◌, ℕ, List, Option, Ok, Err, Result, inr, refl, sym, subst}
use Rattle.rn_model.specs.declared.log.Options.{Options}
use Rattle.rn_model.specs.Good.{Good, IsInLimits}
use Rattle.rn_record.specs.RecordText.{IsFormat}
use Rattle.rn_words.specs.declared.command.Command.{Command}
use Rattle.rn_words.specs.declared.command.Command.TheVariants as command
use Rattle.rn_words.specs.Commands.{WordsOk}
use Rattle.rn_words.specs.Laws.{ReadsWhatIsAccepted}
use Rattle.rn_answering.specs.declared.answer.Answer.{Answer}
use Rattle.rn_answering.specs.declared.stopped.Stopped.{Stopped}
use Rattle.rn_answering.specs.declared.stopped.Stopped.TheVariants.{NoMemory, ReadFault, Refused}
use Rattle.rn_answering.specs.Input.{longest_input}
use Rattle.rn_commands.specs.declared.jobs.Job.{Job}
use Rattle.rn_commands.specs.Jobs.{JobComesTo}
use Rattle.rn_commands.specs.LeastRuns.{RunsLeastTo}
use Rattle.rn_commands.specs.Runs.{RunsTo}
use Rattle.rn_commands.specs.Workloads.{GensTo}
use Rattle.rn_app.specs.declared.preparing.Prepared.{Prepared}
use Rattle.rn_app.specs.declared.preparing.Prepared.TheVariants.{Answered, Due}
use Rattle.rn_app.specs.Begun.{AsksFor, CanRun, IsDue, NeedsThreads}
use Rattle.rn_app.specs.link.Begun.{IsPrepared, IsReadied, PreparesOrStops}
use Rattle.rn_app.specs.Commands.{ComesTo}
use Rattle.rn_app.specs.TopCall.{Comes}
use Rattle.rn_app.proofs.WordsAndInput.{done_on, one_command}

-- a run of a command can be done where its system is good, the command's options are in their limits,
-- and there is its format
pub run_due : (k c : Command) (bytes : List ℕ) (job : Job) (options : Options) → c ≡ k →
    AsksFor k bytes job → Good job.system → job.options ≡ options → IsInLimits options →
    IsFormat job.format →
    AsksFor c bytes job × (Good job.system × IsInLimits job.options × IsFormat job.format)
run_due k c bytes job options is asked good same limits format = (
  subst (λ x. AsksFor x bytes job) (sym is) asked,
  (good, subst IsInLimits (sym same) limits, format),
)

-- and once its memory is taken the command comes to it
pub readied : (c : Command) (bytes : List ℕ) (job : Job) (r : Result Prepared Stopped) → AsksFor c bytes job × CanRun job → IsReadied job r → IsPrepared c bytes r
readied c bytes job (Ok (Answered a)) can ready = absurd ready
readied c bytes job (Ok (Due found)) can same = subst (λ x. AsksFor c bytes x × CanRun x) (sym same) can
readied c bytes job (Err (Refused a)) can ready = absurd ready
readied c bytes job (Err ReadFault) can ready = absurd ready
readied c bytes job (Err (NoMemory _)) can ready = tt

-- where a run is due the words and the input ask for it
pub was_due : (words : List (List ℕ)) (left left_after : Option (List ℕ)) (faults faults_after : ℕ) (r : Result Prepared Stopped) (job : Job) → r ≡ Ok (Due job) → PreparesOrStops words left left_after faults faults_after r → IsDue words left left_after job
was_due words left left_after faults faults_after r job is comes = subst (PreparesOrStops words left left_after faults faults_after) is comes

-- and only a command that needs threads does
asked_needs : (c : Command) (bytes : List ℕ) (job : Job) → AsksFor c bytes job → NeedsThreads c
asked_needs (command.Run options) bytes job asked = tt
asked_needs (command.RunLeast options) bytes job asked = tt
asked_needs (command.RunSeeded options seed) bytes job asked = tt
asked_needs (command.Gen copies options) bytes job asked = tt
asked_needs (command.GenSeeded copies options seed) bytes job asked = tt
asked_needs command.Check bytes job asked = absurd asked
asked_needs command.Print bytes job asked = absurd asked
asked_needs (command.Enabled depth) bytes job asked = absurd asked
asked_needs (command.Replay options) bytes job asked = absurd asked
asked_needs (command.Session options) bytes job asked = absurd asked
asked_needs (command.Counts options) bytes job asked = absurd asked
asked_needs (command.Moves options) bytes job asked = absurd asked
asked_needs command.Pt bytes job asked = absurd asked
asked_needs command.Migrate bytes job asked = absurd asked

pub due_needs : ReadsWhatIsAccepted → (words : List (List ℕ)) (left left_after : Option (List ℕ)) (job : Job) (c : Command) → IsDue words left left_after job → WordsOk words c → NeedsThreads c
due_needs law words left left_after job c due accepted =
    subst NeedsThreads (one_command law words due.chosen c due.given accepted) (asked_needs due.chosen due.bytes job due.asked)

-- what a run that is due comes to is what the words and the input come to
asked_comes : (c : Command) (bytes : List ℕ) (job : Job) (a : Answer) → AsksFor c bytes job → JobComesTo job a → ComesTo c bytes a
asked_comes (command.Run options) bytes job a (accepted, asked) comes =
    inr (subst (λ o. RunsTo o bytes a) asked.0 (comes.recorded asked.2 bytes accepted))
asked_comes (command.RunLeast options) bytes job a (accepted, asked) comes =
    inr (subst (λ o. RunsLeastTo o bytes a) asked.0 (comes.least asked.2 asked.1 bytes accepted))
asked_comes (command.RunSeeded options seed) bytes job a (accepted, asked) comes =
    inr (subst (λ o. RunsTo o bytes a) asked.0 (comes.recorded asked.2 bytes accepted))
asked_comes (command.Gen copies options) bytes job a (accepted, asked) comes =
    subst (λ o. GensTo copies o a) asked.0 (comes.tallied asked.2 copies accepted)
asked_comes (command.GenSeeded copies options seed) bytes job a (accepted, asked) comes =
    subst (λ o. GensTo copies o a) asked.0 (comes.tallied asked.2 copies accepted)
asked_comes command.Check bytes job a asked comes = absurd asked
asked_comes command.Print bytes job a asked comes = absurd asked
asked_comes (command.Enabled depth) bytes job a asked comes = absurd asked
asked_comes (command.Replay options) bytes job a asked comes = absurd asked
asked_comes (command.Session options) bytes job a asked comes = absurd asked
asked_comes (command.Counts options) bytes job a asked comes = absurd asked
asked_comes (command.Moves options) bytes job a asked comes = absurd asked
asked_comes command.Pt bytes job a asked comes = absurd asked
asked_comes command.Migrate bytes job a asked comes = absurd asked

pub due_comes : (words : List (List ℕ)) (left left_after : Option (List ℕ)) (job : Job) (a : Answer) → IsDue words left left_after job → JobComesTo job a → Comes words left left_after a
due_comes words left left_after job a due comes =
    done_on words left left_after due.chosen due.bytes a (longest_input due.chosen) refl due.given due.inputless due.whole (asked_comes due.chosen due.bytes job a due.asked comes)
