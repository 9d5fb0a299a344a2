-- What may be searched at the table of a state, and what a search there says of it.
use Rattle.std.proofs.Common.{◌≡◌, ℕ, Bool, true, false, refl, subst}
use Rattle.std.specs.Prelude.{◌↔◌, Option, IsNone, IsTrue, is_some, not}
use Rattle.rn_model.specs.declared.system.System.{System}
use Rattle.rn_model.specs.Enabling.{DeadAt}
use Rattle.rn_model.proofs.SoundRuns.{runs_end_sound}
use Rattle.rn_fire.specs.States.{State, IsState, end_marking}
use Rattle.rn_table.specs.Tables.{Kept}
use Rattle.rn_search.specs.Problems.{HasFitTokens}
use Rattle.rn_finder.proofs.FitTokens.{standing_tokens_fit}

-- the tokens of a state's table fit
pub tokens_of_state : (s : State) → IsState s → HasFitTokens s.setup.system s.table.marking
tokens_of_state s is =
    standing_tokens_fit s.setup.system s.table.marking (end_marking s)
    (runs_end_sound s.setup.system s.setup.options.depth s.fired is.good is.log.run) is.stands

none_told : {A : Type 0} (found : Option A) (b : Bool) → is_some found ≡ not b →
    IsTrue b ↔ IsNone found
none_told found true is = (λ _. is, λ _. refl)
none_told found false is = (
  λ b. absurd (let never : ⊥ = cc in never),
  λ none. absurd (let never : ⊥ = cc in never),
)

-- whether a binding was found decides whether one is enabled
pub dead_there : {A : Type 0} (s : State) (system : System) (t : Kept) (depth : ℕ) (found : Option A) (b : Bool) →
    system ≡ s.setup.system → t ≡ s.table → is_some found ≡ not b →
    IsNone found ↔ DeadAt system t.marking depth → IsTrue b ↔ DeadAt s.setup.system s.table.marking depth
dead_there s system t depth found b own table none dead =
    let told = none_told found b none in
    let here =
    subst (λ x. IsNone found ↔ DeadAt x s.table.marking depth) own
    (subst (λ x. IsNone found ↔ DeadAt system x.marking depth) table dead) in
    (λ is. here.0 (told.0 is), λ dead. told.1 (here.1 dead))
