-- Laws over least runs and least logs. Each is the contract of a function that does nothing.
use Rattle.std.specs.Prelude.{ℕ, suc, ◌≡◌, ◌≢◌, ◌⊎◌, ◌↔◌, List, [], ◌∷◌, ◌++◌, Some, length, map}
use Rattle.rn_value.specs.declared.value.Value.{Value}
use Rattle.rn_model.specs.declared.system.System.{System}
use Rattle.rn_model.specs.declared.binding.Binding.{Binding}
use Rattle.rn_model.specs.declared.log.MarkLine.{MarkLine}
use Rattle.rn_model.specs.declared.log.Options.{Options}
use Rattle.rn_model.specs.declared.log.Reason.{Reason}
use Rattle.rn_model.specs.declared.log.Reason.TheVariants.{Memory}
use Rattle.rn_model.specs.Liveness.{LivePart}
use Rattle.rn_model.specs.Markings.{Marking}
use Rattle.rn_model.specs.Runs.{Firing, Fires, end_of}
use Rattle.rn_least.specs.LeastRuns.{IsLeast, LeastLog, LeastRun}

-- one list begins the other
abbrev pub IsPrefix : {A : Type 0} → List A → List A → Type 0
IsPrefix {A} xs ys = (rest : List A) × (ys ≡ xs ++ rest)

-- the bindings of firings
abbrev pub bindings_of : List Firing → List Binding
bindings_of = map (λ f. f.binding)

-- what firings print
abbrev pub printed_by : List Firing → List (List Value)
printed_by = map (λ f. f.outs)

-- at a marking at most one binding is the least
abbrev pub LeastBindingsAreOne : Type 0
LeastBindingsAreOne = (system : System) (m : Marking) (depth : ℕ) (b c : Binding) →
    IsLeast system m depth b → IsLeast system m depth c → b ≡ c

-- firings with one more are a least run where they are one and the last one fires at their end by the
-- least binding there
abbrev pub LeastRunsGrow : Type 0
LeastRunsGrow = (system : System) (depth : ℕ) (fs : List Firing) (f : Firing) →
    LeastRun system depth (fs ++ f ∷ [])
    ↔ (LeastRun system depth fs × Fires system depth (suc (length fs)) (end_of system fs) f
    × IsLeast system (end_of system fs) depth f.binding)

-- a prefix of a least run is a least run
abbrev pub PrefixesAreLeastRuns : Type 0
PrefixesAreLeastRuns = (system : System) (depth : ℕ) (fs gs : List Firing) →
    LeastRun system depth (fs ++ gs) → LeastRun system depth fs

-- Two logs have the same bindings, print the same, end by the same reason, and have the same tokens
-- left: one marking at their ends, and so one live part.
pub record AreAlike (system : System) (fs gs : List Firing) (reason end : Reason) : Type 0 where
  pub bindings : bindings_of fs ≡ bindings_of gs
  pub printed : printed_by fs ≡ printed_by gs
  pub reasons : reason ≡ end
  pub marking : end_of system fs ≡ end_of system gs
  pub marks : (lines others : List MarkLine) → LivePart system (end_of system fs) lines →
      LivePart system (end_of system gs) others → lines ≡ others

-- the options have the same depth and step limit; workers and drops may differ
abbrev pub HaveTheSameLimits : Options → Options → Type 0
HaveTheSameLimits options others = (options.depth ≡ others.depth) × (options.steps ≡ others.steps)

-- two least logs of one system, depth and step limit that don't end for want of memory are alike
abbrev pub LeastLogsAreAlike : Type 0
LeastLogsAreAlike = (system : System) (options others : Options) (fs gs : List Firing)
    (reason end : Reason) → HaveTheSameLimits options others →
    LeastLog system options fs (Some reason) → LeastLog system others gs (Some end) →
    reason ≢ Memory → end ≢ Memory → AreAlike system fs gs reason end

-- where one of two ends for want of memory, its bindings are a prefix of the other's
abbrev pub MemoryEndsEarlier : Type 0
MemoryEndsEarlier = (system : System) (options others : Options) (fs gs : List Firing)
    (end : Reason) → HaveTheSameLimits options others →
    LeastLog system options fs (Some Memory) → LeastLog system others gs (Some end) →
    end ≢ Memory → IsPrefix (bindings_of fs) (bindings_of gs)

-- where both do, the bindings of one are a prefix of the other's
abbrev pub MemoryEndsInLine : Type 0
MemoryEndsInLine = (system : System) (options others : Options) (fs gs : List Firing) →
    HaveTheSameLimits options others →
    LeastLog system options fs (Some Memory) → LeastLog system others gs (Some Memory) →
    IsPrefix (bindings_of fs) (bindings_of gs) ⊎ IsPrefix (bindings_of gs) (bindings_of fs)
