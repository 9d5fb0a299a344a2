-- The operator applications of lists with a tail, and the ways to operator applications.
use Rattle.std.proofs.Common.{◌≡◌, ℕ, ◌+◌, ◌<◌, List, [], ◌∷◌, ◌++◌, map, length, drop, get_or}
use Rattle.std.proofs.Common.{refl, sym, ap, ◌∙◌, append_assoc, append-nil, arith}
use Rattle.std.proofs.lemmas.List.{map-append, at_drop_more}
use Rattle.rn_model.specs.declared.expr.Expr.{Expr, para-roll-Expr}
use Rattle.rn_model.specs.declared.expr.Expr.TheOpen as O
use Rattle.rn_model.specs.declared.expr.Expr.TheVariants as E
use Rattle.rn_model.specs.Derivation.{Site, Hole, holes_in, holes_step}
use Rattle.rn_model.specs.Derivation.{holes_of_parts}
use Rattle.rn_model.specs.Derivation.{within_part}
use Rattle.rn_model.proofs.DerivationLemmas.{holes_in-Int, holes_in-Text, holes_in-Var, holes_in-This}
use Rattle.rn_model.proofs.DerivationLemmas.{holes_in-Tuple, holes_in-List, holes_in-Cons, holes_in-Neg}
use Rattle.rn_model.proofs.DerivationLemmas.{holes_in-Op}
use Rattle.rn_binding.specs.link.Applications.{with_holes, hole_within}
use Rattle.rn_binding.proofs.PuttingParts.{moved}

with_last : (parts : List Expr) (tail : Expr) (i : ℕ) →
    holes_of_parts i (map with_holes parts ++ with_holes tail ∷ [])
    ≡ holes_of_parts i (map with_holes parts) ++ map (within_part (i + length parts)) (holes_in tail)
with_last [] tail i =
    let place : i ≡ i + 0 = omega arith in
    ap (λ j. map (within_part j) (holes_in tail) ++ []) place ∙ no_more (map (within_part (i + 0)) (holes_in tail))
  where
    no_more : (hs : List Hole) → hs ++ [] ≡ hs
    no_more [] = refl
    no_more (h ∷ hs) = ap (λ xs. h ∷ xs) (no_more hs)
with_last (part ∷ parts) tail i =
    let place : (i + 1) + length parts ≡ i + length (part ∷ parts) = omega arith in
    ap (λ hs. map (within_part i) (holes_in part) ++ hs) (with_last parts tail (i + 1))
    ∙ sym (append_assoc (map (within_part i) (holes_in part)) (holes_of_parts (i + 1) (map with_holes parts)) (map (within_part ((i + 1) + length parts)) (holes_in tail)))
    ∙ ap (λ j. (map (within_part i) (holes_in part) ++ holes_of_parts (i + 1) (map with_holes parts)) ++ map (within_part j) (holes_in tail)) place

-- the holes of a list with a tail are those of its parts, and then those of the tail
pub holes-Cons : (parts : List Expr) (tail : Expr) →
    holes_in (E.Cons parts tail) ≡ holes_of_parts 0 (map with_holes parts) ++ map (within_part (length parts)) (holes_in tail)
holes-Cons parts tail = holes_in-Cons parts tail ∙ with_last parts tail 0 ∙ from_zero
  where
    from_zero : holes_of_parts 0 (map with_holes parts) ++ map (within_part (0 + length parts)) (holes_in tail)
        ≡ holes_of_parts 0 (map with_holes parts) ++ map (within_part (length parts)) (holes_in tail)
    from_zero =
        let none : 0 + length parts ≡ length parts = omega arith in
        ap (λ n. holes_of_parts 0 (map with_holes parts) ++ map (within_part n) (holes_in tail)) none

-- `step()` has none
pub holes-Step : holes_in E.Step ≡ []
holes-Step = ap holes_in (sym E.rolls-Step) ∙ para-roll-Expr (List Hole) holes_step O.Step

-- the holes of a part, seen from the whole
pub within_way : (site : Site) (way : List ℕ) (i : ℕ) (hs : List Hole) →
    map (hole_within site (way ++ i ∷ [])) hs ≡ map (hole_within site way) (map (within_part i) hs)
within_way site way i [] = refl
within_way site way i (h ∷ hs) =
    ap (λ w. (site, record { way = w; form = h.form }) ∷ map (hole_within site (way ++ i ∷ [])) hs)
    (append_assoc way (i ∷ []) h.way)
    ∙ ap (λ xs. (site, record { way = way ++ i ∷ h.way; form = h.form }) ∷ xs) (within_way site way i hs)

-- what the parts of `{..: t}` put, and then `t`
pub cons_put : (site : Site) (way longer : List ℕ) (e : Expr) (parts es : List Expr) (tail t : Expr) (n : ℕ)
    (old one two : List (Site × Hole)) → e ≡ E.Cons parts tail → es ≡ parts → t ≡ tail → n ≡ length parts → longer ≡ way ++ n ∷ [] →
    one ≡ old ++ map (hole_within site way) (holes_of_parts 0 (map with_holes es)) →
    two ≡ one ++ map (hole_within site longer) (holes_in t) →
    two ≡ old ++ map (hole_within site way) (holes_in e)
cons_put site way longer e parts es tail t n old one two is es_is t_is n_is more first second =
    let front = holes_of_parts 0 (map with_holes parts) in
    let back = map (within_part (length parts)) (holes_in tail) in
    let put = hole_within site way in
    let at_tail : map (hole_within site longer) (holes_in t) ≡ map put back =
    ap (λ w. map (hole_within site w) (holes_in t)) (more ∙ ap (λ k. way ++ k ∷ []) n_is)
    ∙ within_way site way (length parts) (holes_in t)
    ∙ ap (λ x. map put (map (within_part (length parts)) (holes_in x))) t_is in
    second ∙ ap (λ xs. xs ++ map (hole_within site longer) (holes_in t)) (first ∙ ap (λ xs. old ++ map put (holes_of_parts 0 (map with_holes xs))) es_is)
    ∙ ap (λ xs. (old ++ map put front) ++ xs) at_tail
    ∙ append_assoc old (map put front) (map put back)
    ∙ ap (λ xs. old ++ xs) (sym (map-append put front back) ∙ ap (map put) (sym (ap holes_in is ∙ holes-Cons parts tail)))

-- what one more part puts
pub part_put : (site : Site) (way same longer : List ℕ) (es : List Expr) (i : ℕ) (x : Expr)
    (one next all : List (Site × Hole)) → i < length es → x ≡ get_or es i x → same ≡ way → longer ≡ same ++ i ∷ [] →
    one ++ map (hole_within site way) (holes_of_parts i (map with_holes (drop i es))) ≡ all →
    next ≡ one ++ map (hole_within site longer) (holes_in x) →
    next ++ map (hole_within site way) (holes_of_parts (i + 1) (map with_holes (drop (i + 1) es))) ≡ all
part_put site way same longer es i x one next all h is same_is more kept put =
    let on = hole_within site way in
    let piece = map on (map (within_part i) (holes_in x)) in
    let others = holes_of_parts (i + 1) (map with_holes (drop (i + 1) es)) in
    let rest : map on (holes_of_parts i (map with_holes (drop i es))) ≡ piece ++ map on others =
    at_drop_more (λ ys. map on (holes_of_parts i (map with_holes ys))) es i x h
    ∙ ap (λ y. map on (map (within_part i) (holes_in y) ++ others)) (sym is)
    ∙ map-append on (map (within_part i) (holes_in x)) others in
    moved one next piece (map on (holes_of_parts i (map with_holes (drop i es)))) (map on others) all kept rest
    (put ∙ ap (λ xs. one ++ xs)
    (ap (λ w. map (hole_within site w) (holes_in x)) (more ∙ ap (λ w. w ++ i ∷ []) same_is)
    ∙ within_way site way i (holes_in x)))

-- what puts nothing
pub none_put : (site : Site) (way : List ℕ) (e : Expr) (old : List (Site × Hole)) →
    holes_in e ≡ [] → old ≡ old ++ map (hole_within site way) (holes_in e)
none_put site way e old none =
    sym (append-nil old) ∙ ap (λ hs. old ++ map (hole_within site way) hs) (sym none)

pub ruleset hole_rules = (
  holes_in-Int,
  holes_in-Text,
  holes_in-Var,
  holes_in-This,
  holes-Step,
  holes_in-Tuple,
  holes_in-List,
  holes-Cons,
  holes_in-Neg,
  holes_in-Op,
)
