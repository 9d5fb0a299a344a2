-- The workload text is no reason to stop.
use Rattle.std.proofs.Common.{◌≡◌, ℕ, ◌≤◌, List, refl}
use Rattle.rn_items.specs.Memory.{no_memory}
use Rattle.rn_gen.specs.Workload.{workload}
use Rattle.rn_gen.specs.Laws.{WorkloadIsNotRefused}
use Rattle.rn_answering.specs.declared.stopped.Stopped.{Stopped}
use Rattle.rn_answering.specs.declared.stopped.Stopped.TheVariants.{Refused, ReadFault, NoMemory}
use Rattle.rn_answering.specs.NetTexts.{IsRefusedBy, RefusesNet}
use Rattle.rn_answering.specs.Refusing.{Stops}

module _ (law : WorkloadIsNotRefused) (copies : ℕ) (few : copies ≤ 10000) where
  not_refused : (line : List ℕ) → IsRefusedBy (workload copies) line → ⊥
  not_refused line (IsRefusedBy.unspelled why is) = (law copies few).0 why is
  not_refused line (IsRefusedBy.broken plain rule spot spells breaks) =
      (law copies few).1 plain rule spot spells breaks

  pub stops_by_memory : (stopped : Stopped) → Stops (RefusesNet (workload copies)) stopped →
      stopped ≡ NoMemory no_memory
  stops_by_memory (Refused a) (line, is, same) = absurd (not_refused line is)
  stops_by_memory ReadFault stops = absurd stops
  stops_by_memory (NoMemory _) stops = refl
