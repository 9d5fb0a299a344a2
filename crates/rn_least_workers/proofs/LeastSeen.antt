-- The least binding of a snapshot, after the entries that were seen and in a later state.
use Rattle.std.proofs.Common.{◌≡◌, ◌≢◌, ℕ, ◌+◌, ◌-◌, ◌<◌, ◌≤◌, List, length, refl, sym, subst, arith}
use Rattle.std.specs.Prelude.{Option, Some, None, Result, Ok, Err, IfOk, IfSome, IsNone, ◌↔◌}
use Rattle.std.specs.declared.cmp.Ordering.TheVariants.{Greater}
use Rattle.rn_items.specs.declared.memory.NoMemory.{NoMemory}
use Rattle.rn_model.specs.declared.binding.Binding.{Binding}
use Rattle.rn_model.specs.declared.log.Entry.{Entry}
use Rattle.rn_model.specs.declared.log.Options.{Options}
use Rattle.rn_model.specs.declared.system.System.{System}
use Rattle.rn_model.specs.Enabling.{DeadAt, Enabled}
use Rattle.rn_model.specs.Markings.{Marking}
use Rattle.rn_model.specs.Order.{binding_cmp}
use Rattle.rn_model.specs.Runs.{end_of}
use Rattle.rn_model.specs.SoundTokens.{HasSoundTokens}
use Rattle.rn_model.proofs.SoundRuns.{runs_end_sound}
use Rattle.rn_model.proofs.StandingTables.{tables_enable_the_same}
use Rattle.rn_least.specs.LeastRuns.{IsLeast, LeastLog}
use Rattle.rn_desk.specs.Entries.{StartsWith}
use Rattle.rn_fire.specs.declared.setup.Setup.{Setup}
use Rattle.rn_fire.specs.States.{State, IsState, logged}
use Rattle.rn_fire.specs.link.States.{firings_in}
use Rattle.rn_worker.specs.declared.looking.Sight.{Sight}
use Rattle.rn_worker.specs.link.Seen.{IsUnended, KeepsLog, Shows, marking_after}
use Rattle.rn_worker.proofs.SeenEntries.{had_seen, taken}
use Rattle.rn_worker.specs.link.Plans.{IsFoundAt, WasFound as PlanFound}
use Rattle.rn_worker.proofs.SeenStates.{knows as plan_known, fits_in as plan_fits}
use Rattle.rn_least_state.specs.LeastStates.{HasLeastLog}
use Rattle.rn_least_workers.specs.declared.considering.LeastPlan.{LeastPlan}
use Rattle.rn_least_workers.specs.link.LeastPlans.{FitsIn, IsLeastAt, IsPlanAt, Knows, WasFound}

-- what the search for the least binding says
least_at : (system : System) (depth : ℕ) (m : Marking) (found : Option Binding) →
    IfSome found (λ b. Enabled system m b depth
    × ((c : Binding) → Enabled system m c depth → binding_cmp b c ≢ Greater)) →
    (IsNone found ↔ DeadAt system m depth) → IsLeastAt system depth m found
least_at system depth m (Some b) some none = record { enabled = some.0; first = some.1 }
least_at system depth m None some none = none.0 refl

-- the same of a search that may have ended out of memory
pub least_both : (system : System) (depth : ℕ) (m : Marking)
    (r : Result (Option Binding) NoMemory) →
    IfOk r (λ found. IfSome found (λ b. Enabled system m b depth
    × ((c : Binding) → Enabled system m c depth → binding_cmp b c ≢ Greater))) →
    IfOk r (λ found. IsNone found ↔ DeadAt system m depth) → IfOk r (IsLeastAt system depth m)
least_both system depth m (Ok found) some none = least_at system depth m found some none
least_both system depth m (Err refused) some none = tt

-- what is found of any binding
found_at : (system : System) (depth : ℕ) (m : Marking) (found : Option Binding) →
    IsLeastAt system depth m found → IsFoundAt system depth m found
found_at system depth m (Some b) least = least.enabled
found_at system depth m None dead = dead

-- What a snapshot shows.
module _ (setup : Setup) (es : List Entry) (v : Sight) (shown : Shows setup es v) where
  abbrev m : Marking
  m = marking_after setup es

  abbrev table : Marking
  table = v.table.marking

  sound : HasSoundTokens setup.system m
  sound =
      runs_end_sound setup.system setup.options.depth (firings_in es) shown.good shown.log.run

  -- the same is enabled at the table and after the entries
  same : (b : Binding) → Enabled setup.system table b setup.options.depth
      ↔ Enabled setup.system m b setup.options.depth
  same b = tables_enable_the_same setup.system table m b setup.options.depth sound shown.stands

  found_after : (found : Option Binding) → IsLeastAt setup.system setup.options.depth table found →
      IsLeastAt setup.system setup.options.depth m found
  found_after (Some b) least = record {
    enabled = (same b).0 least.enabled;
    first = λ c enabled. least.first c ((same c).1 enabled);
  }
  found_after None dead = λ b enabled. dead b ((same b).1 enabled)

  pub knows : (p : LeastPlan) → IsPlanAt setup.system setup.options.depth v.table p →
      Knows setup es p
  knows p plan =
      let known = plan_known setup es v shown (record { found = p.found; dead = p.dead; live = p.live })
      (found_at setup.system setup.options.depth table p.found plan.0, plan.1) in
      (found_after p.found plan.0, known.1)

-- The same of a system and its options.
module _ (setup : Setup) (system : System) (options : Options)
    (same : setup ≡ record { system = system; options = options }) (es : List Entry) (v : Sight)
    (shown : Shows setup es v) where
  abbrev own : Setup
  own = record { system = system; options = options }

  pub known_by : (r : Result LeastPlan NoMemory) →
      IfOk r (IsPlanAt system options.depth v.table) → IfOk r (Knows setup es)
  known_by (Ok p) plan =
      subst (λ x. Knows x es p) (sym same)
      (knows own es v (subst (λ x. Shows x es v) same shown) p plan)
  known_by (Err refused) plan = tt

-- A later state.
module _ (t : State) (is : IsState t) (es : List Entry) (begins : StartsWith (logged t) es)
    (going : IsUnended es) where
  still_least : (b : Binding) →
      IsLeast t.setup.system (marking_after t.setup es) t.setup.options.depth b →
      WasFound t (length es) (Some b)
  still_least b least = (
    record {
      shape = least.enabled.shape;
      agrees = least.enabled.agrees;
      derived = least.enabled.derived;
    },
    record {
      firings = had_seen t es begins going;
      least =
          subst (λ fs. IsLeast t.setup.system (end_of t.setup.system fs) t.setup.options.depth b)
          (sym (taken t es begins going)) least;
    },
  )

  still : (found : Option Binding) →
      IsLeastAt t.setup.system t.setup.options.depth (marking_after t.setup es) found →
      PlanFound t (length es) found → WasFound t (length es) found
  still (Some b) least was = still_least b least
  still None dead was = was

  fits_in : (setup : Setup) → t.setup ≡ setup → (p : LeastPlan) → Knows setup es p →
      FitsIn t (length es) p
  fits_in setup same p known =
      let own = subst (λ x. Knows x es p) (sym same) known in
      let was = plan_fits t is es begins going t.setup refl (record { found = p.found; dead = p.dead; live = p.live })
      (found_at t.setup.system t.setup.options.depth (marking_after t.setup es) p.found own.0, own.1) in
      (still p.found own.0 was.0, was.1)

  pub fits : (setup : Setup) → t.setup ≡ setup → (seen : ℕ) → seen ≡ length es →
      (r : Result LeastPlan NoMemory) → IfOk r (Knows setup es) → IfOk r (FitsIn t seen)
  fits setup same seen count (Ok p) known =
      subst (λ k. FitsIn t k p) (sym count) (fits_in setup same p known)
  fits setup same seen count (Err refused) known = tt

-- where the log stays, it stays a least log
pub kept_least : (old new : State) → KeepsLog old new → HasLeastLog old → HasLeastLog new
kept_least old new kept least =
    subst (λ x. LeastLog x.system x.options new.fired new.ended) (sym kept.0)
    (subst (λ fs. LeastLog old.setup.system old.setup.options fs new.ended) (sym kept.1)
    (subst (λ e. LeastLog old.setup.system old.setup.options old.fired e) (sym kept.2) least))

-- each round sees an entry more
pub rounds_end : (steps old turned new : ℕ) → old ≤ steps → old < turned → turned ≤ new →
    (steps + 2) - new < (steps + 2) - old
rounds_end steps old turned new few later then = omega (arith, few, later, then)
