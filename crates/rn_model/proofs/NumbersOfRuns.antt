-- At the end of a run each number that was given is there.
use Rattle.std.proofs.Common.{◌≡◌, ℕ, suc, ◌+◌, ◌-◌, ◌<◌, ◌≤◌, ◌⊎◌, List, [], ◌∷◌, length, get_or, Bool, true, false}
use Rattle.std.proofs.Common.{refl}
use Rattle.std.proofs.Common.{ap, subst, inl, inr, arith}
use Rattle.std.specs.Prelude.{Some, Ok, option_map, slice_get, ◌&&◌, Contains, None, Option, nat_lt, option_and_then, unwrap_or}
use Rattle.std.proofs.lemmas.List.Elements.{All-contains}
use Rattle.std.proofs.lemmas.Option.{slice_get-get_or}
use Rattle.std.proofs.lemmas.Bool.Decides.{nat_tests}
use Rattle.rn_model.specs.declared.system.System.{System}
use Rattle.rn_model.specs.declared.binding.Binding.{Binding}
use Rattle.rn_model.specs.Good.{Good}
use Rattle.rn_model.specs.Markings.{Marking, IsMarking, IsThere, net_of, Instance, instance_at, tokens_at}
use Rattle.rn_model.specs.Markings.{initial_marking}
use Rattle.rn_model.specs.Firing.{Fired, fire, creations_of, too_many}
use Rattle.rn_model.specs.Runs.{Firing, RunFrom, after_firing, end_from, end_of}
use Rattle.rn_model.specs.FiringLaws.{EachNumberIsThere}
use Rattle.rn_model.proofs.AfterFiring.{found_number}
use Rattle.rn_model.proofs.CountsAfterFiring.{next_after_firing, instances_after_firing}
use Rattle.rn_model.proofs.DeadInstances.{there_of_net}
use Rattle.rn_model.proofs.MarkingsOfRuns.{firings_keep_markings, initial_is_marking}
use Rattle.rn_model.proofs.MarkingsOfRuns.{found_is_there}
use Rattle.rn_model.proofs.MarkingsOfRuns.{runs_end_in_markings}
use Rattle.rn_model.proofs.EnablingLemmas.{not_in_nil}
use Rattle.rn_value.specs.declared.value.Value.{Value}

-- each number that was given is there
abbrev AllThere : Marking → Type 0
AllThere m = (n : ℕ) → 0 < n → n < m.next → IsThere m n

there_by_net : (m : Marking) (n net : ℕ) → net_of m n ≡ Some net → IsThere m n
there_by_net m n net e = let found = there_of_net m n net e in (found.0, found.1)

old_or_new : (n next : ℕ) → (n < next) ⊎ (next ≤ n)
old_or_new n next = grind arith

-- an element that a list has at an index
got : {X : Type 0} (xs : List X) (k : ℕ) → k < length xs → (x : X) × (slice_get xs k ≡ Some x)
got [] k h = absurd (let no : ⊥ = omega (arith, h) in no)
got (x ∷ xs) k h = (get_or (x ∷ xs) k x, slice_get-get_or (x ∷ xs) k x h)

all_after : (system : System) (m : Marking) (b : Binding) (step : ℕ) (f : Fired) →
    IsMarking system m → fire system m b step ≡ Ok f → AllThere m → AllThere f.marking
all_after system m b step f is fires all n low high =
    let next = next_after_firing system m b step f fires in
    let comes = λ (net : ℕ). (instances_after_firing system m b step f is fires n net).1 in
    elim (old_or_new n m.next) as (λ _. IsThere f.marking n) [
      | inl before ↦
          let there = all n low before in
          there_by_net f.marking n there.0.net
          (comes there.0.net (inl (ap (option_map (λ i. i.net)) there.1)))
      | inr after ↦
          let k = n - m.next in
          let made = got (creations_of system b) k (omega (arith, after, high, next)) in
          let number : m.next + k ≡ n = omega (arith, after) in
          there_by_net f.marking n made.0.net
          (comes made.0.net (inr (k, made.0, made.1, number, refl)))
    ]

all_from : (system : System) (depth step : ℕ) (m : Marking) (fs : List Firing) → Good system →
    IsMarking system m → AllThere m → RunFrom system depth step m fs →
    AllThere (end_from system step m fs)
all_from system depth step m [] good is all run = all
all_from system depth step m (f ∷ fs) good is all (fires, run) =
    let next = after_firing system step m f in
    let given : Fired = record { marking = next; outs = f.outs } in
    all_from system depth (suc step) next fs good
    (firings_keep_markings system m f.binding depth step given good is fires.enabled fires.fired)
    (all_after system m f.binding step given is fires.fired all) run

all_at_first : (system : System) → AllThere (initial_marking system)
all_at_first system n low high =
    let one : 1 ≡ n = omega (arith, low, high) in
    subst (IsThere (initial_marking system)) one (_, refl)

-- what is there has a number that was given
pub is_given : (system : System) (m : Marking) (n : ℕ) → IsMarking system m → IsThere m n →
    (0 < n) × (n < m.next)
is_given system m n is (i, e) =
    let numbered = All-contains (λ i. (0 < i.number) × (i.number < m.next)) m.instances i
    is.numbered (found_is_there _ m.instances i e) in
    let number = found_number m.instances n i e in
    (omega (arith, numbered.0, number), omega (arith, numbered.1, number))

-- an instance that holds tokens is there
pub holder_there : (m : Marking) (n place : ℕ) (v : Value) → Contains (tokens_at m n place) v →
    IsThere m n
holder_there m n place v = by (instance_at m n) refl
  where
    by : (o : Option Instance) → instance_at m n ≡ o →
        Contains (unwrap_or (option_and_then (λ i. slice_get i.places place) o) []) v → IsThere m n
    by None e h = absurd (not_in_nil v h)
    by (Some i) e h = (i, e)

-- a firing that doesn't make too many stays within the numbers
pub stays_within : (next made : ℕ) → next ≤ 1000001 → too_many next made ≡ false → next + made ≤ 1000001
stays_within next made low few = by_some (nat_lt 0 made) (nat_lt 1000001 (next + made)) refl refl few
  where
    by_some : (some over : Bool) → nat_lt 0 made ≡ some → nat_lt 1000001 (next + made) ≡ over →
        some && over ≡ false → next + made ≤ 1000001
    by_some true true s o e = absurd (let no : ⊥ = cc in no)
    by_some true false s o e = grind (arith, nat_tests)
    by_some false over s o e = let none : made ≤ 0 = grind (arith, nat_tests) in omega (arith, low, none)

pub each_number_is_there : EachNumberIsThere
each_number_is_there system depth fs n good run = (
  is_given system (end_of system fs) n (runs_end_in_markings system depth fs good run),
  λ (low, high).
      all_from system depth 1 (initial_marking system) fs good (initial_is_marking system good)
      (all_at_first system) run n low high,
)
