-- The states of sessions: how many entries they have, and what may be searched there.
use Rattle.std.proofs.Common.{◌≡◌, ℕ, ◌+◌, ◌≤◌, List, length, sym, ap, ◌∙◌, subst, arith}
use Rattle.std.specs.Prelude.{Option, Some, None, take}
use Rattle.std.proofs.Math.Seq.{take-length}
use Rattle.rn_model.specs.declared.binding.Binding.{Binding}
use Rattle.rn_model.specs.declared.log.Reason.{Reason}
use Rattle.rn_model.specs.Enabling.{Enabled}
use Rattle.rn_model.specs.Runs.{Firing, end_of, entries_of}
use Rattle.rn_model.proofs.SoundRuns.{runs_end_sound}
use Rattle.rn_search.specs.Problems.{HasFitTokens}
use Rattle.rn_finder.proofs.FitTokens.{standing_tokens_fit}
use Rattle.rn_fire.specs.Commits.{IsEnabledNow, WasEnabled}
use Rattle.rn_fire.specs.States.{State, IsState, end_marking, logged}
use Rattle.rn_fire.proofs.EntryLemmas.{count_ended, count_going, going_count}

pub most_entries : (fs : List Firing) (ended : Option Reason) →
    (length fs ≤ length (entries_of fs ended)) × (length (entries_of fs ended) ≤ length fs + 1)
most_entries fs None = let is = count_going fs in (omega (arith, is), omega (arith, is))
most_entries fs (Some reason) = let is = count_ended fs reason in (omega (arith, is), omega (arith, is))

-- the tokens at the table of a state may be searched
pub fit_tokens : (s : State) → IsState s → HasFitTokens s.setup.system s.table.marking
fit_tokens s is =
    standing_tokens_fit s.setup.system s.table.marking (end_marking s)
    (runs_end_sound s.setup.system s.setup.options.depth s.fired is.good is.log.run) is.stands

-- what is enabled at the end of a log was so after all its entries
pub was_enabled : (s : State) (b : Binding) (seen : ℕ) → s.ended ≡ None → seen ≡ length (logged s) →
    IsEnabledNow s b → WasEnabled s b seen
was_enabled s b seen going count now =
    let all : seen ≡ length s.fired = count ∙ going_count s going in
    record {
      firings = omega (arith, all);
      enabled = subst (λ fs. Enabled s.setup.system (end_of s.setup.system fs) b s.setup.options.depth)
          (sym (ap (λ n. take n s.fired) all ∙ take-length s.fired)) now;
    }
