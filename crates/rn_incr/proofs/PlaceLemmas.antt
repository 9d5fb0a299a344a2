-- Instances past the last.
use Rattle.std.proofs.Common.{◌≡◌, ◌<◌, ◌≤◌, ℕ, []}
use Rattle.std.proofs.Common.{arith}
use Rattle.std.specs.Prelude.{All, nat_eq}
use Rattle.std.proofs.lemmas.List.Elements.{All-contains}
use Rattle.rn_model.specs.declared.binding.Binding.{Binding}
use Rattle.rn_model.specs.declared.system.System.{System}
use Rattle.rn_model.specs.Enabling.{Enabled}
use Rattle.rn_model.specs.Markings.{Marking, Instance, instance_at}
use Rattle.rn_model.proofs.AfterFiring.{found_number}
use Rattle.rn_model.proofs.EnablingLemmas.{not_in_nil}
use Rattle.rn_model.proofs.MarkingsOfRuns.{found_is_there}
use Rattle.rn_search.proofs.Alternatives.{from_map}
use Rattle.rn_finder.specs.Starting.{HasStartIn, start_of}
use Rattle.rn_finder.proofs.StartingBindings.{is_start_of, may_start_there}
use Rattle.rn_incr.specs.Lists.{IsListOf}

-- an instance past the last starts nothing
pub none_past : (system : System) (m : Marking) (depth next n : ℕ) →
    All (λ i. (0 < i.number) × (i.number < next)) m.instances → next ≤ n →
    IsListOf system m depth n []
none_past system m depth next n below past = record {
  just = λ b. (λ has. absurd (not_in_nil b has), λ its. absurd (none b its.0 its.1));
  ascending = λ k d h. absurd (let no : ⊥ = omega (arith, h) in no);
}
  where
    none : (b : Binding) → Enabled system m b depth → HasStartIn n b → ⊥
    none b enabled (net, t, starts) =
        let start = is_start_of system m n net t
        (may_start_there system m depth b (start_of n net t) enabled starts) in
        let found = from_map (λ (i : Instance). i.net) (instance_at m n) net start.of_net in
        let there = found_is_there (λ (j : Instance). nat_eq j.number n) m.instances found.0 found.1 in
        let low = All-contains (λ (i : Instance). (0 < i.number) × (i.number < next)) m.instances
        found.0 below there in
        let same : found.0.number ≡ n = found_number m.instances n found.0 found.1 in
        omega (arith, low.1, same, past)
