-- The least binding is one; least runs grow, and their prefixes are least runs.
use Rattle.std.proofs.Common.{◌≡◌, ℕ, suc, ◌+◌, List, [], ◌∷◌, ◌++◌, length, refl, subst, arith}
use Rattle.std.specs.Prelude.{◌≢◌}
use Rattle.std.specs.Ordering.{ordering_reverse}
use Rattle.std.specs.declared.cmp.Ordering.{Ordering}
use Rattle.std.specs.declared.cmp.Ordering.TheVariants.{Less, Equal, Greater}
use Rattle.rn_model.specs.declared.system.System.{System}
use Rattle.rn_model.specs.Markings.{Marking, initial_marking}
use Rattle.rn_model.specs.Order.{binding_cmp}
use Rattle.rn_model.specs.link.OrderLaws.{binding_cmp-total}
use Rattle.rn_model.specs.Runs.{Firing, after_firing, end_from}
use Rattle.rn_model.proofs.BindingOrder.{binding_cmp-apart}
use Rattle.rn_model.proofs.RunLemmas.{prefixes_are_runs, runs_grow}
use Rattle.rn_least.specs.LeastRuns.{AreLeastFrom}
use Rattle.rn_least.specs.Laws.{LeastBindingsAreOne, LeastRunsGrow, PrefixesAreLeastRuns}

-- neither comes after the other
equal_by : (r s : Ordering) → r ≡ ordering_reverse s → r ≢ Greater → s ≢ Greater → r ≡ Equal
equal_by Less s reversed first second = absurd (less_by s reversed second)
  where
    less_by : (s : Ordering) → Less ≡ ordering_reverse s → s ≢ Greater → ⊥
    less_by Less e never = cc
    less_by Equal e never = cc
    less_by Greater e never = never refl
equal_by Equal s reversed first second = refl
equal_by Greater s reversed first second = absurd (first refl)

pub least_is_one : LeastBindingsAreOne
least_is_one system m depth b c left right =
    binding_cmp-apart b c
    (equal_by (binding_cmp b c) (binding_cmp c b) (binding_cmp-total.antisymm b c)
    (left.first c right.enabled) (right.first b left.enabled))

least_prefix : (system : System) (depth step : ℕ) (m : Marking) (fs gs : List Firing) →
    AreLeastFrom system depth step m (fs ++ gs) → AreLeastFrom system depth step m fs
least_prefix system depth step m [] gs least = tt
least_prefix system depth step m (f ∷ fs) gs (first, rest) =
    (first, least_prefix system depth (suc step) (after_firing system step m f) fs gs rest)

-- those after a prefix are the least from its end
pub least_rest : (system : System) (depth step : ℕ) (m : Marking) (fs gs : List Firing) →
    AreLeastFrom system depth step m (fs ++ gs) →
    AreLeastFrom system depth (step + length fs) (end_from system step m fs) gs
least_rest system depth step m [] gs least =
    let here : step ≡ step + length {A = Firing} [] = omega arith in
    subst (λ k. AreLeastFrom system depth k m gs) here least
least_rest system depth step m (f ∷ fs) gs (first, rest) =
    let same : suc step + length fs ≡ step + length (f ∷ fs) = omega arith in
    subst (λ k. AreLeastFrom system depth k (end_from system step m (f ∷ fs)) gs) same
    (least_rest system depth (suc step) (after_firing system step m f) fs gs rest)

least_joined : (system : System) (depth step : ℕ) (m : Marking) (fs gs : List Firing) →
    AreLeastFrom system depth step m fs →
    AreLeastFrom system depth (step + length fs) (end_from system step m fs) gs →
    AreLeastFrom system depth step m (fs ++ gs)
least_joined system depth step m [] gs least rest =
    let here : step + length {A = Firing} [] ≡ step = omega arith in
    subst (λ k. AreLeastFrom system depth k m gs) here rest
least_joined system depth step m (f ∷ fs) gs (first, least) rest =
    let same : step + length (f ∷ fs) ≡ suc step + length fs = omega arith in (
      first,
      least_joined system depth (suc step) (after_firing system step m f) fs gs least
          (subst (λ k. AreLeastFrom system depth k (end_from system step m (f ∷ fs)) gs) same rest),
    )

pub prefixes_are_least_runs : PrefixesAreLeastRuns
prefixes_are_least_runs system depth fs gs least = record {
  run = prefixes_are_runs system depth fs gs least.run;
  least = least_prefix system depth 1 (initial_marking system) fs gs least.least;
}

-- one firing more goes on with a least run just where it fires by the least binding at its end
pub least_runs_grow : LeastRunsGrow
least_runs_grow system depth fs f =
    let m = initial_marking system in (
      λ all.
          let last = (runs_grow system depth fs f).0 all.run in (
            prefixes_are_least_runs system depth fs (f ∷ []) all,
            last.1,
            (least_rest system depth 1 m fs (f ∷ []) all.least).0,
          ),
      λ parts. record {
        run = (runs_grow system depth fs f).1 (parts.0.run, parts.1);
        least = least_joined system depth 1 m fs (f ∷ []) parts.0.least (parts.2, tt);
      },
    )
