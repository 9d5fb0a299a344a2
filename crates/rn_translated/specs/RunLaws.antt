-- The laws of the translation: a weighted net and the system that stands for it have the same runs.
use Rattle.std.specs.Prelude.{ℕ, ◌≡◌, ◌↔◌, ◌<◌, List, [], length, map, slice_index, All}
use Rattle.rn_model.specs.Runs.{Firing, Run, end_of}
use Rattle.rn_model.specs.Markings.{tokens_at}
use Rattle.rn_weighted.specs.declared.weighted.Weighted.{Weighted}
use Rattle.rn_weighted.specs.Weighted.{IsWeighted}
use Rattle.rn_translated.specs.WeightedRuns.{WRun, WEnd}
use Rattle.rn_translated.specs.TranslatedSystem.{translated_system, occurrence, firing_of}
use Rattle.rn_translated.specs.TranslatedSystem.{marking_of, blacks}

-- Transitions are a run of the net exactly where their occurrences are one of the system, by worker
-- 1 and with nothing printed, at whatever depth.
abbrev pub RunsCorrespond : Type 0
RunsCorrespond = (net : Weighted) (depth : ℕ) (ts : List ℕ) → IsWeighted net →
    WRun net ts ↔ Run (translated_system net) depth (map firing_of ts)

-- Then each place of instance 1 holds just so many black tokens as the net's marking says.
abbrev pub EndsCorrespond : Type 0
EndsCorrespond = (net : Weighted) (ts : List ℕ) → IsWeighted net → WRun net ts →
    (place : ℕ) → tokens_at (end_of (translated_system net) (map firing_of ts)) 1 place
    ≡ blacks (slice_index (WEnd net ts) place)

-- and there is no other instance
abbrev pub OneInstanceAlone : Type 0
OneInstanceAlone = (net : Weighted) (ts : List ℕ) → IsWeighted net → WRun net ts →
    end_of (translated_system net) (map firing_of ts) ≡ marking_of (WEnd net ts)

-- a firing of an occurrence of a transition of the net, which prints nothing
abbrev pub IsOccurrence : Weighted → Firing → Type 0
IsOccurrence net f =
    (t : ℕ) × (t < length net.transitions) × (f.binding ≡ occurrence t) × (f.outs ≡ [])

-- Each firing of a run of the system is one of an occurrence.
abbrev pub RunsHaveOccurrences : Type 0
RunsHaveOccurrences = (net : Weighted) (depth : ℕ) (fs : List Firing) → IsWeighted net →
    Run (translated_system net) depth fs → All (IsOccurrence net) fs

-- And so each run of the system, by whatever workers, is one of the net.
abbrev pub EachRunIsWeighted : Type 0
EachRunIsWeighted = (net : Weighted) (depth : ℕ) (fs : List Firing) → IsWeighted net →
    Run (translated_system net) depth fs →
    (ts : List ℕ) × (map (λ f. f.binding) fs ≡ map occurrence ts) × WRun net ts
    × (end_of (translated_system net) fs ≡ marking_of (WEnd net ts))
