-- What is reported of conditions.
use Rattle.std.proofs.Common.{◌≡◌, List, [], ◌∷◌, ◌++◌, map, refl, sym, ap, ◌∙◌, Option}
use Rattle.std.proofs.lemmas.List.Folds.{flat_map-map}
use Rattle.std.specs.Prelude.{flat_map}
use Rattle.rn_inscript.specs.declared.conds.PCond.{PCond, fold_out-PCond}
use Rattle.rn_declared.specs.declared.fault.Fault.{Fault}
use Rattle.rn_declared.specs.declared.fault.Rule.TheVariants as Rule
use Rattle.rn_declared.specs.Faults.{first_from, first_with, broken, broken_if}
use Rattle.rn_rules.specs.Expressions.{Where, Seen, apart}
use Rattle.rn_rules.specs.link.Sights.{sight_of, are_apart}
use Rattle.rn_rules.specs.Conditions.{sides_faults, bare_faults, simple_faults, simple_seen, condition_faults}
use Rattle.rn_declared.proofs.ToldLemmas.{first_from-append}

-- two sides
pub sides_told : (N : Type 0) (known : Option Fault) (a b : Seen) →
    first_from (first_from (first_from known a.faults) b.faults)
    (broken_if (are_apart (sight_of {N = N} a) (sight_of {N = N} b)) Rule.Kinds a.spot)
    ≡ first_from known (sides_faults a b)
unfolding sides_faults
sides_told N known a b =
    sym
    (first_from-append (a.faults ++ b.faults) (apart a b a.spot) known
    ∙ ap (λ k. first_from k (apart a b a.spot)) (first_from-append a.faults b.faults known))

pub bare_told : (known : Option Fault) (e : Seen) →
    first_with (first_from known e.faults) (broken Rule.Comparison e.spot) ≡ first_from known (bare_faults e)
unfolding bare_faults
bare_told known e = sym (first_from-append e.faults (broken Rule.Comparison e.spot ∷ []) known)

-- the lists of a condition
pub lists_seen : {X : Type 0} (seen : X → Where → List Fault) (place : Where) (lists : List (List X)) →
    flat_map (λ xs. flat_map (λ s. s place) xs) (map (map seen) lists)
    ≡ flat_map (λ xs. flat_map (λ x. seen x place) xs) lists
lists_seen seen place [] = refl
lists_seen seen place (xs ∷ lists) =
    ap (λ faults. faults ++ flat_map (λ ys. flat_map (λ s. s place) ys) (map (map seen) lists)) (flat_map-map (λ s. s place) seen xs)
    ∙ ap (λ faults. flat_map (λ x. seen x place) xs ++ faults) (lists_seen seen place lists)

pub condition_seen : (cond : PCond) (place : Where) →
    condition_faults cond place
    ≡ flat_map (λ simples. flat_map (λ simple. simple_seen simple place) simples) cond.any
condition_seen cond place =
    ap (λ f. f place)
    (fold_out-PCond (Where → List Fault) (Where → List Fault) simple_faults
    (λ cond place. flat_map (λ simples. flat_map (λ simple. simple place) simples) cond.any) cond)
    ∙ lists_seen simple_seen place cond.any
