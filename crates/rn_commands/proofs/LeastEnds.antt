-- States whose least run has ended.
use Rattle.std.proofs.Common.{◌≡◌, List, ℕ, subst}
use Rattle.std.specs.Prelude.{All, Some}
use Rattle.rn_model.specs.declared.system.System.{System}
use Rattle.rn_model.specs.declared.log.Options.{Options}
use Rattle.rn_least.specs.LeastRuns.{LeastLog}
use Rattle.rn_fire.specs.declared.setup.Setup.{Setup}
use Rattle.rn_fire.specs.States.{State}
use Rattle.rn_answering.specs.declared.answer.Answer.{Answer}
use Rattle.rn_answering.specs.NetTexts.{AcceptedIn}
use Rattle.rn_least_state.specs.LeastStates.{HasLeastLog}
use Rattle.rn_commands.specs.link.Ends.{IsWrittenBy}
use Rattle.rn_commands.specs.LeastRuns.{RunsLeastTo}
use Rattle.rn_commands.specs.Runs.{IsOfWorkers}
use Rattle.rn_commands.proofs.EndedRuns.{runs_to}

-- what is written of such a state is its least run
pub runs_least_to : (system : System) (options : Options) (s : State) (a : Answer) →
    s.setup ≡ record { system = system; options = options } →
    All (IsOfWorkers options.workers) s.fired → HasLeastLog s → (bytes : List ℕ) (format : ℕ) →
    AcceptedIn format bytes system → IsWrittenBy format s a → RunsLeastTo options bytes a
runs_least_to system options s a setup own least bytes format accepted written = record {
  runs = runs_to system options s a setup own bytes format accepted written;
  least = subst (λ (x : Setup). LeastLog x.system x.options s.fired (Some written.1.0)) setup
      (subst (λ e. LeastLog s.setup.system s.setup.options s.fired e) written.1.1 least);
}
