-- The text of a run of the system that stands for a weighted net, and the run of the net that it
-- tells.
use Rattle.std.specs.Prelude.{ℕ, zero, suc, ◌+◌, ◌≡◌, ◌<◌, ◌≤◌, ◌↔◌, List, [], ◌∷◌, ◌++◌, length, map}
use Rattle.std.specs.Prelude.{codes, flat_map, Some, All, ⊤}
use Rattle.std.specs.List.{enumerate_from}
use Rattle.rn_value.specs.Text.{numeral}
use Rattle.rn_model.specs.declared.log.Options.{Options}
use Rattle.rn_model.specs.declared.log.MarkLine.{MarkLine}
use Rattle.rn_model.specs.declared.log.Reason.{Reason}
use Rattle.rn_model.specs.declared.log.Reason.TheVariants.{Dead, Steps, Fault, Memory}
use Rattle.rn_model.specs.Limits.{most_workers}
use Rattle.rn_model.specs.Liveness.{LivePart}
use Rattle.rn_model.specs.Runs.{Firing, Log, end_of, entries_of}
use Rattle.rn_record.specs.RecordText.{record_text}
use Rattle.rn_weighted.specs.declared.weighted.Weighted.{Weighted}
use Rattle.rn_weighted.specs.declared.weighted.WTransition.{WTransition}
use Rattle.rn_weighted.specs.Weighted.{IsWeighted}
use Rattle.rn_translated.specs.Translation.{place_name}
use Rattle.rn_translated.specs.WeightedRuns.{WEnabled, WRun, WEnd, w_transition}
use Rattle.rn_translated.specs.TranslatedSystem.{translated_system, occurrence, blacks}

-- a firing of a weighted net: the worker that did it, and the number of the transition
pub record WFiring : Type 0 where
  pub worker : ℕ
  pub transition : ℕ

-- the transitions of firings
abbrev pub transitions_of : List WFiring → List ℕ
transitions_of ws = map (λ w. w.transition) ws

-- the line of a firing, as `3 w1 main[1].t`
abbrev pub w_firing_line : Weighted → ℕ → WFiring → List ℕ
w_firing_line net step w =
    numeral step ++ codes " w" ++ numeral w.worker ++ codes " main[1]."
    ++ (w_transition net w.transition).name ++ codes "\n"

-- the lines of firings, the first with this number
abbrev pub w_firing_lines : Weighted → ℕ → List WFiring → List ℕ
w_firing_lines net step [] = []
w_firing_lines net step (w ∷ ws) = w_firing_line net step w ++ w_firing_lines net (step + 1) ws

-- the line of the end of a run; no run of a weighted net ends in a fault
abbrev pub w_end_line : Reason → List ℕ
w_end_line Dead = codes "end dead\n"
w_end_line Steps = codes "end steps\n"
w_end_line Memory = codes "end memory\n"
w_end_line (Fault cause b) = []

-- the line of a place with so many tokens, as `main[1].a [] []`; without tokens it has none
abbrev pub w_mark_line : List ℕ → ℕ → List ℕ
w_mark_line name zero = []
w_mark_line name (suc n) =
    codes "main[1]." ++ name ++ flat_map (λ token. codes " []") (blacks (suc n)) ++ codes "\n"

-- these lines, where there is a transition, and else none
abbrev pub where_any : List WTransition → List ℕ → List ℕ
where_any [] lines = []
where_any (t ∷ ts) lines = lines

-- The lines of a marking's places, in their order. Those of a net without a transition aren't
-- written: nothing starts in it, so its instance isn't live.
abbrev pub w_mark_lines : Weighted → List ℕ → List ℕ
w_mark_lines net m =
    where_any net.transitions
    (flat_map (λ e. w_mark_line (place_name net.places e.0) e.1) (enumerate_from 0 m))

-- The text of a run of a weighted net: its firings, its end, and the marking there.
abbrev pub w_record_text : Weighted → List WFiring → Reason → List ℕ
w_record_text net ws reason =
    w_firing_lines net 1 ws ++ w_end_line reason
    ++ w_mark_lines net (WEnd net (transitions_of ws))

-- no transition is enabled
abbrev pub WDead : Weighted → List ℕ → Type 0
WDead net m = (t : ℕ) → t < length net.transitions → ¬ WEnabled (w_transition net t) m

-- The end of a run of a weighted net is true.
abbrev pub IsTrueWEnd : Weighted → Options → List ℕ → Reason → Type 0
IsTrueWEnd net options ts Dead = WDead net (WEnd net ts) × (length ts < options.steps)
IsTrueWEnd net options ts Steps = length ts ≡ options.steps
IsTrueWEnd net options ts (Fault cause b) = ⊥
IsTrueWEnd net options ts Memory = ⊤

-- A run of a weighted net within the step limit, by workers that can be, and its end.
pub record WLog (net : Weighted) (options : Options) (ws : List WFiring) (reason : Reason)
    : Type 0 where
  pub run : WRun net (transitions_of ws)
  pub workers : All (λ w. (1 ≤ w.worker) × (w.worker ≤ most_workers)) ws
  pub steps : length ws ≤ options.steps
  pub ends : IsTrueWEnd net options (transitions_of ws) reason

-- these bytes are the text of a run of the system, with the live part of its end
pub record IsTextOfLog (net : Weighted) (options : Options) (fs : List Firing) (reason : Reason)
    (bytes : List ℕ) : Type 0 where
  pub log : Log (translated_system net) options fs (Some reason)
  pub marks : List MarkLine
  pub live : LivePart (translated_system net) (end_of (translated_system net) fs) marks
  pub text : bytes ≡ record_text 1 (translated_system net)
      (record { entries = entries_of fs (Some reason); marks = marks })

-- the firing of the system that stands for one of the net
abbrev pub firing_by : WFiring → Firing
firing_by w = record { worker = w.worker; binding = occurrence w.transition; outs = [] }

-- Bytes are the text of a run of the system exactly where they are that of a run of the net. Then
-- the firings are those of the net's transitions, in the same order and by the same workers.
abbrev pub RecordsAreOfRuns : Type 0
RecordsAreOfRuns = (net : Weighted) (options : Options) (fs : List Firing) (reason : Reason)
    (bytes : List ℕ) → IsWeighted net →
    IsTextOfLog net options fs reason bytes
    ↔ ((ws : List WFiring) × (fs ≡ map firing_by ws) × WLog net options ws reason
    × (bytes ≡ w_record_text net ws reason))
