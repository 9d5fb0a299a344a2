-- What the code keeps of expressions and reports of them, beside what the rules see.
use Rattle.std.proofs.Common.{◌≡◌, ℕ, ◌+◌, ◌<◌, Bool, true, false, ◌&&◌, not, List, [], ◌∷◌}
use Rattle.std.proofs.Common.{◌++◌, length, map, take, get_or, refl, sym, ap, ◌∙◌, Option}
use Rattle.std.proofs.lemmas.List.{take_more, map-append, length-map}
use Rattle.std.proofs.lemmas.Grind.{flat_map-append}
use Rattle.std.proofs.Common.{append-nil}
use Rattle.std.proofs.lemmas.Simd.{map-map}
use Rattle.std.proofs.lemmas.Option.{slice_get_cases}
use Rattle.std.proofs.lemmas.Bool.{lt-leb, le-leb}
use Rattle.std.proofs.Common.{inl, inr}
use Rattle.std.specs.Prelude.{flat_map, nat_le}
use Rattle.std.specs.List.{list_all}
use Rattle.rn_notation.specs.declared.token.Spot.{Spot}
use Rattle.rn_model.specs.Limits.{most_parts}
use Rattle.rn_inscript.specs.declared.exprs.PExpr.{PExpr}
use Rattle.rn_declared.specs.declared.fault.Rule.{Rule}
use Rattle.rn_declared.specs.declared.fault.Fault.{Fault}
use Rattle.rn_declared.specs.declared.pattern.Pattern.{Pattern}
use Rattle.rn_declared.specs.declared.pattern.Pattern.TheVariants as Pattern
use Rattle.rn_declared.specs.Faults.{first_from, broken_if, past_limit}
use Rattle.rn_declared.proofs.ToldLemmas.{first_from-append}
use Rattle.rn_declared.specs.Patterns.{share}
use Rattle.rn_rules.specs.Expressions.{Where, Seen, is_whole, seen_of, with_element, with_elements, apart, tuple_of}
use Rattle.rn_rules.specs.Expressions.{listed, operand_faults, operands_faults, misfit}
use Rattle.rn_rules.specs.link.Sights.{sight_of, joined, tuple_sight, are_apart, listed_sight, fits_pattern}

pub is_whole-append : (xs ys : List Fault) → is_whole (xs ++ ys) ≡ (is_whole xs && is_whole ys)
is_whole-append [] ys = refl
is_whole-append (x ∷ xs) ys = refl

pub is_whole-broken_if : (b : Bool) (rule : Rule) (spot : Spot) →
    is_whole (broken_if b rule spot) ≡ not b
is_whole-broken_if true rule spot = refl
is_whole-broken_if false rule spot = refl

both_and_shared : (a b s : Bool) → (a && (b && not (a && b && not s))) ≡ (a && b && s)
both_and_shared true true true = refl
both_and_shared true true false = refl
both_and_shared true false s = refl
both_and_shared false b s = refl

-- one more element
pub joined_is : {N : Type 0} → (before e : Seen) →
    joined (sight_of {N = N} before) (sight_of {N = N} e) ≡ sight_of {N = N} (with_element before e)
unfolding with_element
joined_is {N = N} before e =
    ap (λ w. record (joined (sight_of {N = N} before) (sight_of {N = N} e)) { whole = w })
    (sym
    (is_whole-append before.faults (e.faults ++ apart before e e.spot)
    ∙ ap (λ w. is_whole before.faults && w)
    (is_whole-append e.faults (apart before e e.spot)
    ∙ ap (λ w. is_whole e.faults && w) (is_whole-broken_if _ Rule.Kinds e.spot))
    ∙ both_and_shared (is_whole before.faults) (is_whole e.faults) (share before.pattern e.pattern)))

pub joined_told : (N : Type 0) (known : Option Fault) (before e : Seen) →
    first_from (first_from (first_from known before.faults) e.faults)
    (broken_if (are_apart (sight_of {N = N} before) (sight_of {N = N} e)) Rule.Kinds e.spot)
    ≡ first_from known (with_element before e).faults
unfolding with_element
joined_told N known before e =
    sym
    (first_from-append before.faults (e.faults ++ apart before e e.spot) known
    ∙ first_from-append e.faults (apart before e e.spot) (first_from known before.faults))

pub with_elements-more : (before : Seen) (xs : List Seen) (x : Seen) →
    with_elements before (xs ++ x ∷ []) ≡ with_element (with_elements before xs) x
unfolding with_elements
with_elements-more before [] x = refl
with_elements-more before (y ∷ ys) x = with_elements-more (with_element before y) ys x

-- the expressions so far, and one more
pub seen_more : (es : List PExpr) (place : Where) (i : ℕ) (e : PExpr) → i < length es →
    e ≡ get_or es i e →
    map (λ s. s place) (map seen_of (take (i + 1) es))
    ≡ map (λ s. s place) (map seen_of (take i es)) ++ seen_of e place ∷ []
seen_more es place i e h is =
    ap (λ xs. map (λ s. s place) (map seen_of xs))
    (take_more es i e h ∙ ap (λ x. take i es ++ x ∷ []) (sym is))
    ∙ ap (map (λ s. s place)) (map-append seen_of (take i es) (e ∷ []))
    ∙ map-append (λ s. s place) (map seen_of (take i es)) (seen_of e ∷ [])

-- a tuple
all_whole : (N : Type 0) (seen : List Seen) →
    is_whole (flat_map (λ e. e.faults) seen) ≡ list_all (λ s. s.whole) (map (sight_of {N = N}) seen)
all_whole N [] = refl
all_whole N (e ∷ es) =
    is_whole-append e.faults (flat_map (λ e. e.faults) es)
    ∙ ap (λ w. is_whole e.faults && w) (all_whole N es)

within_limit : (most : ℕ) (spots : List Spot) → is_whole (past_limit most spots) ≡ nat_le (length spots) most
within_limit most spots =
    elim (slice_get_cases spots most).1 [
      | inl (s, more, is, at) ↦ rw (is, lt-leb (length spots) most more) refl
      | inr (few, none) ↦ rw (none, le-leb (length spots) most few) refl
    ]

and_comm : (a b : Bool) → (a && b) ≡ (b && a)
and_comm true true = refl
and_comm true false = refl
and_comm false true = refl
and_comm false false = refl

pub tuple_is : {N : Type 0} → (spot : Spot) (seen : List Seen) →
    tuple_sight spot (map (sight_of {N = N}) seen) ≡ sight_of {N = N} (tuple_of spot seen)
unfolding tuple_of
tuple_is {N = N} spot seen =
    let spots : List Spot = map (λ e. e.spot) seen in
    let lengths : length (map (sight_of {N = N}) seen) ≡ length spots = simp length-map in
    let w : is_whole (tuple_of spot seen).faults ≡ (tuple_sight spot (map (sight_of {N = N}) seen)).whole =
    is_whole-append (flat_map (λ e. e.faults) seen) (past_limit most_parts spots)
    ∙ and_comm (is_whole (flat_map (λ e. e.faults) seen)) (is_whole (past_limit most_parts spots))
    ∙ ap (λ b. b && is_whole (flat_map (λ e. e.faults) seen)) (within_limit most_parts spots)
    ∙ ap (λ n. nat_le n most_parts && is_whole (flat_map (λ e. e.faults) seen)) (sym lengths)
    ∙ ap (λ b. nat_le (length (map (sight_of {N = N}) seen)) most_parts && b) (all_whole N seen) in
    ap (λ b. record (tuple_sight spot (map (sight_of {N = N}) seen)) { whole = b }) (sym w)
    ∙ ap (λ ps. record (sight_of {N = N} (tuple_of spot seen)) { pattern = Pattern.Tuple ps })
    (map-map (λ s. s.pattern) (sight_of {N = N}) seen)

pub tuple_told : (N : Type 0) (known : Option Fault) (spot : Spot) (seen : List Seen) →
    first_from (first_from known (flat_map (λ e. e.faults) seen))
    (past_limit most_parts (map (λ s. s.spot) (map (sight_of {N = N}) seen)))
    ≡ first_from known (tuple_of spot seen).faults
unfolding tuple_of
tuple_told N known spot seen =
    ap (λ spots. first_from (first_from known (flat_map (λ e. e.faults) seen)) (past_limit most_parts spots))
    (map-map (λ s. s.spot) (sight_of {N = N}) seen)
    ∙ sym (first_from-append (flat_map (λ e. e.faults) seen) (past_limit most_parts (map (λ e. e.spot) seen)) known)

-- what is reported of the expressions so far, and of one more
pub all_told : (es : List PExpr) (place : Where) (i : ℕ) (e : PExpr) (known : Option Fault) →
    i < length es → e ≡ get_or es i e →
    first_from
    (first_from known (flat_map (λ s. s.faults) (map (λ s. s place) (map seen_of (take i es)))))
    (seen_of e place).faults
    ≡ first_from known (flat_map (λ s. s.faults) (map (λ s. s place) (map seen_of (take (i + 1) es))))
all_told es place i e known h is =
    let before : List Seen = map (λ s. s place) (map seen_of (take i es)) in
    sym
    (ap (λ seen. first_from known (flat_map (λ s. s.faults) seen)) (seen_more es place i e h is)
    ∙ ap (first_from known) (flat_map-append (λ s. s.faults) before (seen_of e place ∷ []))
    ∙ first_from-append (flat_map (λ s. s.faults) before) ((seen_of e place).faults ++ []) known
    ∙ ap (λ faults. first_from (first_from known (flat_map (λ s. s.faults) before)) faults)
    (append-nil (seen_of e place).faults))

-- the same of the elements of a list
pub elements_more : (es : List PExpr) (place : Where) (i : ℕ) (e : PExpr) (start : Seen) →
    i < length es → e ≡ get_or es i e →
    with_elements start (map (λ s. s place) (map seen_of (take (i + 1) es)))
    ≡ with_element (with_elements start (map (λ s. s place) (map seen_of (take i es)))) (seen_of e place)
elements_more es place i e start h is =
    ap (with_elements start) (seen_more es place i e h is)
    ∙ with_elements-more start (map (λ s. s place) (map seen_of (take i es))) (seen_of e place)

pub ruleset seeing = (first_from-append, is_whole-append)

pub ruleset seeing_all = (first_from-append, all_told)

pub listed_is : {N : Type 0} → (elements : Seen) → listed_sight (sight_of {N = N} elements) ≡ sight_of {N = N} (listed elements)
unfolding listed
listed_is {N = N} elements = refl

pub listed_faults : (elements : Seen) → (listed elements).faults ≡ elements.faults
unfolding listed
listed_faults elements = refl

-- an operand
pub operand_whole : (N : Type 0) (a : Seen) → fits_pattern (sight_of {N = N} a) Pattern.Int ≡ is_whole (operand_faults a)
unfolding operand_faults
operand_whole N a =
    sym
    (is_whole-append a.faults (misfit a Pattern.Int)
    ∙ ap (λ w. is_whole a.faults && w) (is_whole-broken_if _ Rule.Kinds a.spot)
    ∙ absorbed (is_whole a.faults) (share Pattern.Int a.pattern))
  where
    absorbed : (a s : Bool) → (a && not (a && not s)) ≡ (a && s)
    absorbed true true = refl
    absorbed true false = refl
    absorbed false s = refl

pub operand_told : (known : Option Fault) (a : Seen) →
    first_from (first_from known a.faults)
    (broken_if (is_whole a.faults && not (share Pattern.Int a.pattern)) Rule.Kinds a.spot)
    ≡ first_from known (operand_faults a)
unfolding operand_faults
operand_told known a = sym (first_from-append a.faults (misfit a Pattern.Int) known)

pub operands_told : (known : Option Fault) (a b : Seen) →
    first_from (first_from known (operand_faults a)) (operand_faults b)
    ≡ first_from known (operands_faults a b)
unfolding operands_faults
operands_told known a b = sym (first_from-append (operand_faults a) (operand_faults b) known)

pub operands_whole : (a b : Seen) →
    (is_whole (operand_faults a) && is_whole (operand_faults b)) ≡ is_whole (operands_faults a b)
unfolding operands_faults
operands_whole a b = sym (is_whole-append (operand_faults a) (operand_faults b))
