-- What is reported of arcs, calls, creations and actions.
use Rattle.std.proofs.Common.{◌≡◌, ℕ, suc, ◌+◌, min, List, [], ◌∷◌, ◌++◌, length, map, drop}
use Rattle.std.proofs.Common.{refl, sym, ap, ◌∙◌, Option, Some, None, ◌&&◌, not, arith}
use Rattle.std.specs.Prelude.{flat_map}
use Rattle.std.specs.Option.{option_map, option_map_or}
use Rattle.rn_model.specs.declared.system.ArcKind.{ArcKind}
use Rattle.rn_inscript.specs.declared.exprs.PExpr.{PExpr}
use Rattle.rn_inscript.specs.declared.inscriptions.PName.{PName}
use Rattle.rn_declared.specs.declared.fault.Rule.TheVariants as Rule
use Rattle.rn_declared.specs.declared.fault.Fault.{Fault}
use Rattle.rn_declared.specs.declared.pattern.Pattern.{Pattern}
use Rattle.rn_rules.specs.declared.sight.SeenExpr.{SeenExpr}
use Rattle.rn_declared.specs.Faults.{first_from, broken_if}
use Rattle.rn_rules.specs.Expressions.{Where, Seen, seen_of, misfit}
use Rattle.rn_rules.specs.Arcs.{inscribed_faults, asked_of, is_clear, is_variable}
use Rattle.rn_rules.specs.Calls.{misfits, call_faults, target_faults, channel_call_faults}
use Rattle.rn_rules.specs.Actions.{value_faults}
use Rattle.rn_rules.specs.link.Sights.{sight_of, misfit_of, misfit_if, misfits_of, call_of}
use Rattle.rn_declared.proofs.ToldLemmas.{first_from-append, told_of_three}

asked_misfit : (N : Type 0) (s : Seen) (kind : ArcKind) (place : Option Pattern) →
    misfit_if (sight_of {N = N} s) (option_map (asked_of kind) place)
    ≡ option_map_or (λ pattern. misfit s (asked_of kind pattern)) place []
asked_misfit N s kind None = refl
asked_misfit N s kind (Some p) = refl

pub inscribed_told : (N : Type 0) (known : Option Fault) (kind : ArcKind) (place : Option Pattern) (e : PExpr)
    (at : Where) →
    first_from
    (first_from (first_from known (seen_of e at).faults)
    (misfit_if (sight_of {N = N} (seen_of e at)) (option_map (asked_of kind) place)))
    (broken_if (is_clear kind && not (is_variable e)) Rule.Inscription (seen_of e at).spot)
    ≡ first_from known (inscribed_faults kind place e at)
unfolding inscribed_faults
inscribed_told N known kind place e at =
    let last : List Fault = broken_if (is_clear kind && not (is_variable e)) Rule.Inscription (seen_of e at).spot in
    ap (λ faults. first_from (first_from (first_from known (seen_of e at).faults) faults) last)
    (asked_misfit N (seen_of e at) kind place)
    ∙ told_of_three (seen_of e at).faults
    (option_map_or (λ pattern. misfit (seen_of e at) (asked_of kind pattern)) place []) last known

value_misfit : (N : Type 0) (s : Seen) (pattern : Option Pattern) →
    misfit_if (sight_of {N = N} s) pattern ≡ option_map_or (λ p. misfit s p) pattern []
value_misfit N s None = refl
value_misfit N s (Some p) = refl

pub value_told : (N : Type 0) (known : Option Fault) (pattern : Option Pattern) (s : Seen) →
    first_from (first_from known s.faults) (misfit_if (sight_of {N = N} s) pattern)
    ≡ first_from known (value_faults pattern s)
unfolding value_faults
value_told N known pattern s =
    ap (first_from (first_from known s.faults)) (value_misfit N s pattern)
    ∙ sym (first_from-append s.faults (option_map_or (λ p. misfit s p) pattern []) known)

pub target_told : (N : Type 0) (known : Option Fault) (s : Seen) →
    first_from (first_from known s.faults) (misfit_of (sight_of {N = N} s) Pattern.Net)
    ≡ first_from known (target_faults s)
unfolding target_faults
target_told N known s = sym (first_from-append s.faults (misfit s Pattern.Net) known)

misfits_are : (N : Type 0) (seen : List Seen) (patterns : List Pattern) →
    misfits_of (map (sight_of {N = N}) seen) patterns ≡ misfits seen patterns
misfits_are N [] patterns = refl
misfits_are N (s ∷ seen) [] = refl
misfits_are N (s ∷ seen) (p ∷ ps) = ap (λ faults. misfit s p ++ faults) (misfits_are N seen ps)

call_is : (N : Type 0) (patterns : Option (List Pattern)) (name : PName) (seen : List Seen) →
    call_of patterns name.spot (map (sight_of {N = N}) seen) ≡ channel_call_faults patterns name seen
call_is N None name seen = refl
call_is N (Some patterns) name seen = misfits_are N seen patterns

pub call_told : (N : Type 0) (known : Option Fault) (patterns : Option (List Pattern)) (name : PName) (seen : List Seen) →
    first_from (first_from known (flat_map (λ e. e.faults) seen)) (call_of patterns name.spot (map (sight_of {N = N}) seen))
    ≡ first_from known (call_faults patterns name seen)
unfolding call_faults
call_told N known patterns name seen =
    ap (first_from (first_from known (flat_map (λ e. e.faults) seen))) (call_is N patterns name seen)
    ∙ sym (first_from-append (flat_map (λ e. e.faults) seen) (channel_call_faults patterns name seen) known)

-- past the end of one of two lists there are no more
pub misfits_past : {N : Type 0} → (sights : List (SeenExpr N)) (patterns : List Pattern) (n : ℕ) →
    n ≡ min (length sights) (length patterns) → misfits_of (drop n sights) (drop n patterns) ≡ []
misfits_past {N = N} [] patterns n e = let z : n ≡ 0 = omega arith in rw z refl
misfits_past {N = N} (s ∷ ss) [] n e = let z : n ≡ 0 = omega arith in rw z refl
misfits_past {N = N} (s ∷ ss) (p ∷ ps) n e =
    let next : n ≡ suc (min (length ss) (length ps)) = omega arith in
    rw next (misfits_past ss ps (min (length ss) (length ps)) refl)
