use Rattle.std.proofs.Common.{◌<◌, ◌+◌, ℕ, Bool, true, false, List, ◌∷◌, length, drop}
use Rattle.std.proofs.Common.{get_or, ap, subst, sym, ◌∙◌, add-one, arith}
use Rattle.std.proofs.Math.Seq.{drop-cons}
use Rattle.std.proofs.lemmas.List.{drop_all}
use Rattle.std.proofs.lemmas.List.Elements.{All-get_or, All-from_recursion}
use Rattle.rn_term.specs.Stores.{State}
use Rattle.rn_term.specs.Assignments.{value_at}
use Rattle.rn_unify.specs.declared.equation.Equation.{Equation}
use Rattle.rn_unify.specs.declared.classes.Classes.{Classes}
use Rattle.rn_unify.specs.link.Equations.{AreEachOne, AreWithin, Adds}
use Rattle.rn_unify.specs.Unifying.{AreOne}
use Rattle.rn_unify.proofs.Findings.{adds_then, adds_nothing, adds_never, adds_alone}
use Rattle.rn_unify.proofs.unifying.compare_all.Goals as goal

-- one pair more
one_more : (s : State) (pairs : List (ℕ × ℕ)) (k : ℕ) (between made : Classes)
    (before middle after : List Equation) (answer : Bool) → k < length pairs →
    Adds s (AreOne (get_or pairs k (0, 0)).0 (get_or pairs k (0, 0)).1) between before middle true →
    Adds s (AreEachOne (drop (k + 1) pairs)) made middle after answer →
    Adds s (AreEachOne (drop k pairs)) made before after answer
one_more s pairs k between made before middle after answer within first others =
    subst (λ ps. Adds s (AreEachOne ps) made before after answer)
    (ap (λ n. get_or pairs k (0, 0) ∷ drop n pairs) (add-one k)
    ∙ sym (drop-cons pairs k (0, 0) within))
    (adds_then s (AreOne (get_or pairs k (0, 0)).0 (get_or pairs k (0, 0)).1)
    (AreEachOne (drop (k + 1) pairs)) between made before middle after answer first others)

-- both ids of a pair are of the store
pair_within : (s : State) (pairs : List (ℕ × ℕ)) (k : ℕ) → k < length pairs → AreWithin s pairs →
    ((get_or pairs k (0, 0)).0 < length s.terms) × ((get_or pairs k (0, 0)).1 < length s.terms)
pair_within s pairs k small within =
    All-get_or (λ p. (p.0 < length s.terms) × (p.1 < length s.terms)) pairs k (0, 0) small
    (All-from_recursion (λ p. (p.0 < length s.terms) × (p.1 < length s.terms)) pairs within)

-- no assignment makes a pair one, so none makes that and others each one
none_more : (s : State) (pairs : List (ℕ × ℕ)) (k : ℕ) (made : Classes)
    (before after : List Equation) → k < length pairs →
    Adds s (AreOne (get_or pairs k (0, 0)).0 (get_or pairs k (0, 0)).1) made before after false →
    Adds s (AreEachOne (drop k pairs)) made before after false
none_more s pairs k made before after within never =
    adds_never s (AreEachOne (drop k pairs))
    (AreOne (get_or pairs k (0, 0)).0 (get_or pairs k (0, 0)).1) made made before after after
    (λ vs sat solves all.
    (subst (λ ps. AreEachOne ps vs) (drop-cons pairs k (0, 0) within) all).0)
    never

pub compare-requires-clause-a_within : goal.compare-requires-clause-a_within
compare-requires-clause-a_within c =
    (pair_within c.args.store.now c.args.pairs.now c.loop-a.a-index c.loop-a-test.true
    c.requires.within).0

pub compare-requires-clause-b_within : goal.compare-requires-clause-b_within
compare-requires-clause-b_within c =
    (pair_within c.args.store.now c.args.pairs.now c.loop-a.a-index c.loop-a-test.true
    c.requires.within).1

pub returns-then-not-branch-clause-found : goal.returns-then-not-branch-clause-found
returns-then-not-branch-clause-found c =
    adds_alone c.args.store.now (AreEachOne c.args.pairs.now) c.compare.new.made
    c.args.found.now.items c.compare.new.found.items false c.requires.none
    (c.loop-a.invariant.whole c.compare.new.made c.compare.new.found.items false
    (none_more c.args.store.now c.args.pairs.now c.loop-a.a-index c.compare.new.made
    c.loop-a.found.items c.compare.new.found.items c.loop-a-test.true
    (rw c.if-not-branch.true at c.in_ok-compare.ensures.found)))

pub loop-a-preserved : goal.loop-a-preserved
loop-a-preserved c =
    let found = rw c.if-not-branch.false at c.in_ok-compare.ensures.found in
    record {
      whole = λ made after answer others.
          c.loop-a.invariant.whole made after answer
          (one_more c.args.store.now c.args.pairs.now c.loop-a.a-index c.compare.new.made made
          c.loop-a.found.items c.compare.new.found.items after answer c.loop-a-test.true found
          others);
      fits = found.4;
      kept = λ _. c.in_ok-compare.ensures.kept;
    }

pub returns-clause-found : goal.returns-clause-found
returns-clause-found c =
    adds_alone c.args.store.now (AreEachOne c.args.pairs.now) c.loop-a.made
    c.args.found.now.items c.loop-a.found.items true c.requires.none
    (c.loop-a.invariant.whole c.loop-a.made c.loop-a.found.items true
    (adds_nothing c.args.store.now (AreEachOne (drop c.loop-a.a-index c.args.pairs.now))
    c.loop-a.made c.loop-a.found.items c.loop-a.invariant.fits (λ vs sat solves.
    subst (λ ps. AreEachOne ps vs)
    (sym (drop_all c.loop-a.a-index c.args.pairs.now c.loop-a-test.false)) tt)))

pub loop-a-init : goal.loop-a-init
loop-a-init c = record {
  whole = λ made after answer is. is;
  fits = λ vs sat solves. c.new-made.ensures.alone (value_at vs);
  kept = λ some. absurd (let no : ⊥ = omega (arith, some) in no);
}
