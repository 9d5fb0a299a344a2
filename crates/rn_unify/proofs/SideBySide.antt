-- Two lists that are gone through side by side.
use Rattle.std.proofs.Common.{◌≡◌, ◌⊎◌, ⊎_elim, ◌<◌, ◌≤◌, ℕ, List, [], ◌++◌, arith, length, min}
use Rattle.std.proofs.Common.{refl, sym, ◌∙◌, ap, take, drop, true, false, nat_eq}
use Rattle.std.specs.Prelude.{None, Bool, Result, IfOk, ◌↔◌}
use Rattle.std.specs.List.{AllByRecursion}
use Rattle.std.proofs.lemmas.Bool.{eq-eqb, eqb-true}
use Rattle.std.proofs.lemmas.List.{append-nil}
use Rattle.std.proofs.lemmas.Result.{IfOk-weaker}
use Rattle.rn_value.specs.declared.value.Value.{Value}
use Rattle.rn_value.specs.declared.value.Value.TheVariants as Value
use Rattle.rn_term.specs.declared.term.Term.TheVariants as T
use Rattle.rn_term.specs.Stores.{State, term_at, link_of}
use Rattle.rn_term.specs.Assignments.{value_at, Satisfies, Keeps}
use Rattle.rn_term.specs.Forcing.{items_of}
use Rattle.rn_term.proofs.Extents.{extent}
use Rattle.rn_unify.specs.declared.equation.Equation.{Equation}
use Rattle.rn_unify.specs.declared.rests.Rest.{Rest}
use Rattle.rn_unify.specs.declared.classes.Classes.{Classes}
use Rattle.rn_unify.specs.link.Equations.{Finds, Adds, AreMade, IsFound, Solves}
use Rattle.rn_unify.specs.link.Rests.{IsRest, IsFurther, IsSpelled, rest_value}
use Rattle.rn_unify.specs.Unifying.{AreOne}
use Rattle.rn_unify.proofs.Findings.{adds_same, adds_then, adds_found, adds_never, finds_answer}
use Rattle.rn_unify.proofs.ListPrefixes.{joined}
use Rattle.rn_unify.proofs.TermEquations.{AreAll}
use Rattle.rn_unify.proofs.ListPositions.{list_of_items, built_at}
use Rattle.rn_unify.proofs.RemainingElements.{AreLeft, spelled_is_list, first_of_rest, rest_long}
use Rattle.rn_unify.proofs.RemainingElements.{rest_empty}
use Rattle.rn_unify.proofs.RestExtents.{further_smaller}

-- Two lists were gone through to these positions, and equations were found on the way: they are
-- one where an assignment satisfies these, and where the rests of the lists are one.
pub record AreAt (s : State) (a b : ℕ) (left right : Rest) (made : Classes)
    (before now : List Equation) : Type 0
  where
    pub first : IsRest s left
    pub second : IsRest s right
    pub first_smaller : extent s left.id ≤ extent s a
    pub second_smaller : extent s right.id ≤ extent s b
    pub more : List Equation
    pub behind : now ≡ before ++ more
    pub found : AllByRecursion (IsFound s) more
    pub same : (vs : List Value) → Satisfies s vs → Solves vs before →
        AreOne a b vs ↔ (Solves vs more × (rest_value vs left ≡ rest_value vs right))
    pub fits : AreMade s made now

-- the position at which a list starts
start_of : (s : State) (id : ℕ) → Keeps s → id < length s.terms → link_of s.notes id ≡ None →
    IsSpelled (term_at s id) → IsRest s (record { id = id; from = 0 })
start_of s id keeps within unbound spelled = record {
  within = within;
  end = unbound;
  list = spelled_is_list s id (term_at s id) within refl spelled;
  before = omega arith;
  ahead = λ ids tail is. (built_at s id (T.Cons ids tail) keeps within is).1;
}

pub at_starts : (s : State) (a b : ℕ) (made : Classes) (before : List Equation) →
    AreMade s made before → Keeps s → a < length s.terms →
    b < length s.terms → link_of s.notes a ≡ None → link_of s.notes b ≡ None →
    IsSpelled (term_at s a) → IsSpelled (term_at s b) →
    AreAt s a b (record { id = a; from = 0 }) (record { id = b; from = 0 }) made before before
at_starts s a b made before fits keeps in_a in_b end_a end_b spelled_a spelled_b =
    let first = start_of s a keeps in_a end_a spelled_a in
    let second = start_of s b keeps in_b end_b spelled_b in
    record {
      first = first;
      second = second;
      first_smaller = omega arith;
      second_smaller = omega arith;
      more = [];
      behind = sym (append-nil before);
      found = tt;
      fits = fits;
      same = λ vs sat solves. (
        λ same. (tt, ap items_of same),
        λ (none, same). list_of_items (value_at vs a) (first.list vs sat)
            ∙ ap (λ xs. Value.List xs) same
            ∙ sym (list_of_items (value_at vs b) (second.list vs sat)),
      );
    }

module _ (s : State) (a b : ℕ) (left right : Rest) (made : Classes) (before now : List Equation)
    (at : AreAt s a b left right made before now) where
  -- the equations that were found on the way
  on_the_way : Adds s (λ vs. Solves vs at.more) made before now true
  on_the_way = (at.more, at.behind, at.found, λ vs sat solves. (λ all. all, λ all. all), at.fits)

  -- what is found of the rests is found of the lists
  found_of_rests : (after : List Equation) (answer : Bool) →
      Finds s (λ vs. rest_value vs left ≡ rest_value vs right) now after answer →
      Adds s (AreOne a b) made before after answer
  found_of_rests after answer found =
      adds_same s (AreOne a b)
      (λ vs. Solves vs at.more × (rest_value vs left ≡ rest_value vs right)) made before after
      answer at.same
      (adds_then s (λ vs. Solves vs at.more) (λ vs. rest_value vs left ≡ rest_value vs right)
      made made before now after answer on_the_way
      (adds_found s (λ vs. rest_value vs left ≡ rest_value vs right) made now after answer at.fits
      found))

  pub result_of_rests : {E : Type 0} (after : List Equation) (r : Result Bool E) →
      IfOk r (Finds s (λ vs. rest_value vs left ≡ rest_value vs right) now after) →
      IfOk r (Adds s (AreOne a b) made before after)
  result_of_rests after r = IfOk-weaker r
      (Finds s (λ vs. rest_value vs left ≡ rest_value vs right) now after)
      (Adds s (AreOne a b) made before after) (found_of_rests after)

  -- The ids that are left of both lists.
  module _ (xs ys : List ℕ) (first : AreLeft s left xs) (second : AreLeft s right ys) where
    -- lists that are one have the same elements there
    pub prefixes_are_one : (count : ℕ) → count ≤ length xs → count ≤ length ys →
        (vs : List Value) → Satisfies s vs → Solves vs before → AreOne a b vs →
        AreAll (take count xs) (take count ys) vs
    prefixes_are_one count few_left few_right vs sat solves same =
        sym (first_of_rest s vs left xs count sat first few_left)
        ∙ ap (take count) ((at.same vs sat solves).0 same).1
        ∙ first_of_rest s vs right ys count sat second few_right

    -- where nothing gives them the same elements there, nothing makes them one
    pub never_one : (count : ℕ) (others : Classes) (after back : List Equation) →
        count ≤ length xs → count ≤ length ys →
        Adds s (AreAll (take count xs) (take count ys)) others now after false →
        Adds s (AreOne a b) others before back false
    never_one count others after back few_left few_right never =
        adds_never s (AreOne a b)
        (λ vs. Solves vs at.more × AreAll (take count xs) (take count ys) vs) others others before
        after back
        (λ vs sat solves same. (
          ((at.same vs sat solves).0 same).0,
          prefixes_are_one count few_left few_right vs sat solves same,
        ))
        (adds_then s (λ vs. Solves vs at.more) (AreAll (take count xs) (take count ys)) made others
        before now after false on_the_way never)

    -- where one of both ends, their rests are one exactly where the other ends too
    ends_are_one : (vs : List Value) → Satisfies s vs → min (length xs) (length ys) ≡ 0 →
        (length xs ≡ length ys) ↔ (rest_value vs left ≡ rest_value vs right)
    ends_are_one vs sat none = (
      λ equal. rest_empty s vs left xs sat first (omega (arith, none, equal))
          ∙ sym (rest_empty s vs right ys sat second (omega (arith, none, equal))),
      λ same. ⊎_elim
          (λ none_left. omega (
            arith,
            none_left,
            ap length same,
            ap length (rest_empty s vs left xs sat first none_left),
            rest_long s vs right ys sat second,
          ))
          (λ none_right. omega (
            arith,
            none_right,
            ap length same,
            ap length (rest_empty s vs right ys sat second none_right),
            rest_long s vs left xs sat first,
          ))
          one_ends,
    )
      where
        one_ends : (length xs ≡ 0) ⊎ (length ys ≡ 0)
        one_ends = grind (arith, none)

    pub found_at_end : min (length xs) (length ys) ≡ 0 →
        Adds s (AreOne a b) made before now (nat_eq (length xs) (length ys))
    found_at_end none = found_of_rests now (nat_eq (length xs) (length ys))
        (finds_answer s (λ vs. rest_value vs left ≡ rest_value vs right) now
        (nat_eq (length xs) (length ys))
        (λ vs sat.
        let ends = ends_are_one vs sat none in (
          λ equal. ends.0 (eqb-true (length xs) (length ys) equal),
          λ same. eq-eqb (length xs) (length ys) (ends.1 same),
        )))

    -- the rests are one where their first elements are and where what is after them is
    prefixes_and_rests : (count : ℕ) (more_left more_right : Rest) (vs : List Value) →
        Satisfies s vs → count ≤ length xs → count ≤ length ys →
        rest_value vs more_left ≡ drop count (rest_value vs left) →
        rest_value vs more_right ≡ drop count (rest_value vs right) →
        (rest_value vs left ≡ rest_value vs right) ↔
        (AreAll (take count xs) (take count ys) vs
        × (rest_value vs more_left ≡ rest_value vs more_right))
    prefixes_and_rests count more_left more_right vs sat few_left few_right passes_left
        passes_right =
        let prefix_left = first_of_rest s vs left xs count sat first few_left in
        let prefix_right = first_of_rest s vs right ys count sat second few_right in (
          λ same. (
            sym prefix_left ∙ ap (take count) same ∙ prefix_right,
            passes_left ∙ ap (drop count) same ∙ sym passes_right,
          ),
          λ (prefixes, backs). joined count (rest_value vs left) (rest_value vs right)
              (prefix_left ∙ prefixes ∙ sym prefix_right)
              (sym passes_left ∙ backs ∙ passes_right),
        )

    -- so many elements further, with what was found of these
    pub moved_on : (count : ℕ) (more_left more_right : Rest) (others : Classes)
        (after : List Equation) → Keeps s → count ≤ length xs → count ≤ length ys →
        Adds s (AreAll (take count xs) (take count ys)) others now after true →
        IsRest s more_left → IsFurther s left count more_left →
        ((vs : List Value) → Satisfies s vs →
        rest_value vs more_left ≡ drop count (rest_value vs left)) →
        IsRest s more_right → IsFurther s right count more_right →
        ((vs : List Value) → Satisfies s vs →
        rest_value vs more_right ≡ drop count (rest_value vs right)) →
        AreAt s a b more_left more_right others before after
    moved_on count more_left more_right others after keeps few_left few_right prefixes position_left
        further_left passes_left position_right further_right passes_right =
        let both = adds_then s (λ vs. Solves vs at.more)
        (AreAll (take count xs) (take count ys)) made others before now after true on_the_way
        prefixes in
        record {
          first = position_left;
          second = position_right;
          first_smaller = omega (
            arith,
            at.first_smaller,
            further_smaller s left more_left count keeps at.first further_left,
          );
          second_smaller = omega (
            arith,
            at.second_smaller,
            further_smaller s right more_right count keeps at.second further_right,
          );
          more = both.0;
          behind = both.1;
          found = both.2;
          fits = both.4;
          same = λ vs sat solves.
              let step = prefixes_and_rests count more_left more_right vs sat few_left few_right
              (passes_left vs sat) (passes_right vs sat) in (
                λ one.
                    let (way, rests) = (at.same vs sat solves).0 one in
                    let (prefix, back) = step.0 rests in
                    ((both.3 vs sat solves).0 (way, prefix), back),
                λ (solved, back).
                    let (way, prefix) = (both.3 vs sat solves).1 solved in
                    (at.same vs sat solves).1 (way, step.1 (prefix, back)),
              );
        }
