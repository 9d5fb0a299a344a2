-- What is reported of the elements of a list, one after another.
use Rattle.std.proofs.Common.{◌≡◌, ℕ, ◌+◌, ◌<◌, List, [], ◌∷◌, ◌++◌, length, map, take, get_or, sym, ap, ◌∙◌, Option}
use Rattle.std.proofs.Common.{append-nil, refl}
use Rattle.std.proofs.lemmas.List.{take_more}
use Rattle.std.proofs.lemmas.Grind.{flat_map-append}
use Rattle.std.specs.Prelude.{flat_map}
use Rattle.std.proofs.lemmas.List.Folds.{flat_map-map}
use Rattle.rn_notation.specs.declared.token.Spot.{Spot}
use Rattle.rn_model.specs.Limits.{most_parts}
use Rattle.rn_net.specs.declared.kinds.PKind.{PKind, fold_out-PKind}
use Rattle.rn_net.specs.declared.constants.PConst.{PConst, fold_out-PConst}
use Rattle.rn_declared.specs.declared.fault.Fault.{Fault}
use Rattle.rn_declared.specs.Faults.{first_from, first_with, past_limit}
use Rattle.rn_declared.specs.Declarations.{Part, parts_faults, kind_part, kind_form_faults, const_part, const_form_faults}

-- the first of joined faults is that of the later ones where that of the earlier ones is known
pub first_from-append : (xs ys : List Fault) (known : Option Fault) →
    first_from known (xs ++ ys) ≡ first_from (first_from known xs) ys
first_from-append [] ys known = refl
first_from-append (x ∷ xs) ys known = first_from-append xs ys (first_with known x)

-- and so it is where three lists are joined
pub told_of_three : (a b c : List Fault) (known : Option Fault) →
    first_from (first_from (first_from known a) b) c ≡ first_from known (a ++ b ++ c)
told_of_three a b c known =
    sym (first_from-append (a ++ b) c known ∙ ap (λ k. first_from k c) (first_from-append a b known))

-- what is reported of one more
pub told_more : {X : Type 0} (faults : X → List Fault) (xs : List X) (i : ℕ) (x : X)
    (known : Option Fault) → i < length xs → x ≡ get_or xs i x →
    first_from (first_from known (flat_map faults (take i xs))) (faults x)
    ≡ first_from known (flat_map faults (take (i + 1) xs))
told_more faults xs i x known h is =
    sym
    (ap (λ ys. first_from known (flat_map faults ys))
    (take_more xs i x h ∙ ap (λ y. take i xs ++ y ∷ []) (sym is))
    ∙ ap (first_from known) (flat_map-append faults (take i xs) (x ∷ []))
    ∙ ap (λ more. first_from known (flat_map faults (take i xs) ++ more)) (append-nil (faults x))
    ∙ first_from-append (flat_map faults (take i xs)) (faults x) known)

-- what is reported of the parts of a tuple, which stand at these spots
pub parts_told : {X : Type 0} (part : X → Part) (spot : X → Spot) → ((x : X) → (part x).spot ≡ spot x) →
    (xs : List X) (known : Option Fault) →
    first_from (first_from known (flat_map (λ x. (part x).faults) xs)) (past_limit most_parts (map spot xs))
    ≡ first_from known (parts_faults (map part xs))
parts_told {X} part spot at xs known =
    ap (λ spots. first_from (first_from known (flat_map (λ x. (part x).faults) xs)) (past_limit most_parts spots)) (spots_are xs)
    ∙ ap (λ faults. first_from (first_from known faults) (past_limit most_parts (map (λ p. p.spot) (map part xs))))
    (sym (flat_map-map (λ p. p.faults) part xs))
    ∙ sym (first_from-append (flat_map (λ p. p.faults) (map part xs)) (past_limit most_parts (map (λ p. p.spot) (map part xs))) known)
  where
    spots_are : (ys : List X) → map spot ys ≡ map (λ p. p.spot) (map part ys)
    spots_are [] = refl
    spots_are (y ∷ ys) = ap (λ s. s ∷ map spot ys) (sym (at y)) ∙ ap (λ ss. (part y).spot ∷ ss) (spots_are ys)

pub kind_spot : (kind : PKind) → (kind_part kind).spot ≡ kind.spot
kind_spot kind =
    ap (λ p. p.spot)
    (fold_out-PKind (List Fault) Part kind_form_faults (λ kind. record { spot = kind.spot; faults = kind.form }) kind)

pub const_spot : (const : PConst) → (const_part const).spot ≡ const.spot
const_spot const =
    ap (λ p. p.spot)
    (fold_out-PConst (List Fault) Part const_form_faults (λ const. record { spot = const.spot; faults = const.form }) const)
