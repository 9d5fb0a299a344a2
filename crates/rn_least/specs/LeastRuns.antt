-- The first of the bindings that are enabled, and runs and logs in which each firing is that.
use Rattle.std.specs.Prelude.{ℕ, suc, ◌≡◌, ◌≢◌, List, [], ◌∷◌, Option, Some, ⊤}
use Rattle.std.specs.declared.cmp.Ordering.TheVariants.{Greater}
use Rattle.rn_model.specs.declared.system.System.{System}
use Rattle.rn_model.specs.declared.binding.Binding.{Binding}
use Rattle.rn_model.specs.declared.log.FaultKind.{FaultKind}
use Rattle.rn_model.specs.declared.log.Options.{Options}
use Rattle.rn_model.specs.declared.log.Reason.{Reason}
use Rattle.rn_model.specs.declared.log.Reason.TheVariants.{Fault}
use Rattle.rn_model.specs.Enabling.{Enabled}
use Rattle.rn_model.specs.Markings.{Marking, initial_marking}
use Rattle.rn_model.specs.Order.{binding_cmp}
use Rattle.rn_model.specs.Runs.{Firing, Run, Log, after_firing, end_of}

-- The binding is enabled within the depth, and none that is enabled comes before it in the order of
-- bindings.
pub record IsLeast (system : System) (m : Marking) (depth : ℕ) (b : Binding) : Type 0 where
  pub enabled : Enabled system m b depth
  pub first : (c : Binding) → Enabled system m c depth → binding_cmp b c ≢ Greater

-- the binding of each firing is the least at the marking before it; the first has this number
abbrev pub AreLeastFrom : System → ℕ → ℕ → Marking → List Firing → Type 0
AreLeastFrom system depth step m [] = ⊤
AreLeastFrom system depth step m (f ∷ fs) =
    IsLeast system m depth f.binding
    × AreLeastFrom system depth (suc step) (after_firing system step m f) fs

-- A run in which the binding of each firing is the least where it fires.
pub record LeastRun (system : System) (depth : ℕ) (fs : List Firing) : Type 0 where
  pub run : Run system depth fs
  pub least : AreLeastFrom system depth 1 (initial_marking system) fs

-- A log whose firings are a least run. Where it ends by a fault, it is that of the binding that is the
-- least at the end of the run.
pub record LeastLog (system : System) (options : Options) (fs : List Firing)
    (ended : Option Reason) : Type 0 where
  pub log : Log system options fs ended
  pub run : LeastRun system options.depth fs
  pub fault : (cause : FaultKind) (b : Binding) → ended ≡ Some (Fault cause b) →
      IsLeast system (end_of system fs) options.depth b
