use Rattle.std.proofs.Common.{rules, ◌≡◌, ◌<◌, ℕ, length, arith, sym, ◌∙◌, ap, get_or}
use Rattle.std.proofs.Common.{false}
use Rattle.std.proofs.lemmas.List.{length-take}
use Rattle.rn_term.specs.declared.term.Term.TheVariants as T
use Rattle.rn_term.specs.Stores.{term_at, Leads}
use Rattle.rn_term.specs.Assignments.{value_at}
use Rattle.rn_term.proofs.Extents.{extent, greatest-part}
use Rattle.rn_term.proofs.Following.{extent-leads}
use Rattle.rn_unify.specs.link.Rests.{IsComposed}
use Rattle.rn_unify.specs.Unifying.{AreOne}
use Rattle.rn_unify.proofs.Findings.{adds_nothing, adds_never, adds_joined, adds_found_result}
use Rattle.rn_unify.proofs.Findings.{adds_then}
use Rattle.rn_unify.proofs.TermEquations.{AreAll, AreFirst, same_at_ends, first_noted}
use Rattle.rn_unify.proofs.TermEquations.{second_noted, found_of_second, found_of_first}
use Rattle.rn_unify.proofs.TermEquations.{composed, each_is_one, found_of_more, found_of_all}
use Rattle.rn_unify.proofs.TermEquations.{found_of_parts, other_lengths, parts_within}
use Rattle.rn_unify.proofs.TermEquations.{parts_smaller}
use Rattle.rn_unify.proofs.RemainingElements.{AreLeft, left_within}
use Rattle.rn_unify.proofs.RestExtents.{left_smaller, further_less}
use Rattle.rn_unify.proofs.SideBySide.{at_starts, result_of_rests, never_one}
use Rattle.rn_unify.proofs.SideBySide.{found_at_end, moved_on}
use Rattle.rn_unify.proofs.+comparing.Goals as goal
use Rattle.rn_unify.proofs.+comparing.Goals.{lists::compare_lists-After-min-count}

pub comparing::compare-returns-then-are_one-clause-found :
    goal.comparing::compare-returns-then-are_one-clause-found
comparing::compare-returns-then-are_one-clause-found t c =
    adds_nothing c.args.store.now (AreOne c.args.a c.args.b) c.args.made.now
    c.args.found.now.items c.requires.made
    (λ vs sat solves.
    (same_at_ends c.args.store.now c.args.a c.args.b c.follow-x.result c.follow-y.result
    c.follow-x.ensures.leads c.follow-y.ensures.leads vs sat).1
    (c.are_one.ensures.same c.if-are_one.true (value_at vs) (c.requires.made vs sat solves)))

pub comparing::compare-compare_ends-requires : goal.comparing::compare-compare_ends-requires
comparing::compare-compare_ends-requires t c =
    let s = c.args.store.now in
    let x = c.follow-x.ensures in
    let y = c.follow-y.ensures in (
      omega (
        arith,
        extent-leads s x.kept c.args.a c.follow-x.result c.requires.a_within x.leads,
        extent-leads s y.kept c.args.b c.follow-y.result c.requires.b_within y.leads,
        c.decreases,
      ),
      search rules,
    )

pub comparing::compare-returns-then-not-branch-clause-found :
    goal.comparing::compare-returns-then-not-branch-clause-found
comparing::compare-returns-then-not-branch-clause-found t c =
    adds_never c.args.store.now (AreOne c.args.a c.args.b)
    (AreOne c.follow-x.result c.follow-y.result) c.compare_ends.new.made c.compare_ends.new.made
    c.args.found.now.items c.compare_ends.new.found.items c.compare_ends.new.found.items
    (λ vs sat solves.
    (same_at_ends c.args.store.now c.args.a c.args.b c.follow-x.result c.follow-y.result
    c.follow-x.ensures.leads c.follow-y.ensures.leads vs sat).0)
    (rw c.if-not-branch.true at c.in_ok-compare_ends.ensures.found)

pub comparing::compare-returns-clause-found : goal.comparing::compare-returns-clause-found
comparing::compare-returns-clause-found t c =
    adds_joined c.args.store.now c.args.a c.args.b c.follow-x.result c.follow-y.result
    c.compare_ends.new.made c.join.new.self c.args.found.now.items
    c.compare_ends.new.found.items
    (same_at_ends c.args.store.now c.args.a c.args.b c.follow-x.result c.follow-y.result
    c.follow-x.ensures.leads c.follow-y.ensures.leads)
    (rw c.if-not-branch.false at c.in_ok-compare_ends.ensures.found) c.join.ensures.fits

pub comparing::compare_ends-returns-then-x-y : goal.comparing::compare_ends-returns-then-x-y
comparing::compare_ends-returns-then-x-y t c = record {
  found = adds_nothing c.args.store.now (AreOne c.args.x c.args.y) c.args.made.now
      c.args.found.now.items c.requires.made (λ vs sat solves. ap (value_at vs) c.if-x-y.true);
}

pub comparing::compare_ends-returns-then-is_variable :
    goal.comparing::compare_ends-returns-then-is_variable
comparing::compare_ends-returns-then-is_variable t c = record {
  found = adds_found_result c.args.store.now (AreOne c.args.x c.args.y) c.args.made.now
      c.args.found.now.items c.note.new.found.items c.note.result c.requires.made
      (first_noted c.args.store.now c.args.x c.args.y c.args.x c.args.y Leads.here Leads.here
      c.args.found.now.items c.note.new.found.items c.note.result
      (record {
        within = c.requires.x_within;
        variable = c.is_variable.ensures.0 c.if-is_variable.true;
        unbound = c.requires.x_end;
      })
      c.requires.y_within c.requires.y_end c.if-x-y.false c.note.ensures.noted);
}

pub comparing::compare_ends-returns-then-is_variable-2 :
    goal.comparing::compare_ends-returns-then-is_variable-2
comparing::compare_ends-returns-then-is_variable-2 t c = record {
  found = adds_found_result c.args.store.now (AreOne c.args.x c.args.y) c.args.made.now
      c.args.found.now.items c.note-then-is_variable-2.new.found.items
      c.note-then-is_variable-2.result c.requires.made
      (second_noted c.args.store.now c.args.x c.args.y c.args.x c.args.y Leads.here Leads.here
      c.args.found.now.items c.note-then-is_variable-2.new.found.items
      c.note-then-is_variable-2.result
      (record {
        within = c.requires.y_within;
        variable = c.is_variable-2.ensures.0 c.if-is_variable-2.true;
        unbound = c.requires.y_end;
      })
      c.requires.x_within c.requires.x_end c.if-x-y.false
      c.note-then-is_variable-2.ensures.noted);
}

pub comparing::compare_ends-returns-in-Atom : goal.comparing::compare_ends-returns-in-Atom
comparing::compare_ends-returns-in-Atom t c = record {
  found = adds_found_result c.args.store.now (AreOne c.args.x c.args.y) c.args.made.now
      c.args.found.now.items c.match_value.new.found.items c.match_value.result c.requires.made
      (found_of_second c.args.store.now c.args.x c.args.y c.args.x c.args.y Leads.here Leads.here
      c.in-Atom.value c.args.found.now.items c.match_value.new.found.items c.match_value.result
      c.requires.x_within (sym c.term.ensures ∙ c.in-Atom.is) c.match_value.ensures.found);
}

pub comparing::compare_ends-returns-in-Atom-term : goal.comparing::compare_ends-returns-in-Atom-term
comparing::compare_ends-returns-in-Atom-term t c = record {
  found = adds_found_result c.args.store.now (AreOne c.args.x c.args.y) c.args.made.now
      c.args.found.now.items c.match_value-in-Atom-term.new.found.items
      c.match_value-in-Atom-term.result c.requires.made
      (found_of_first c.args.store.now c.args.x c.args.y c.args.x c.args.y Leads.here Leads.here
      c.in-Atom-term.value c.args.found.now.items c.match_value-in-Atom-term.new.found.items
      c.match_value-in-Atom-term.result c.requires.y_within
      (sym c.term-2.ensures ∙ c.in-Atom-term.is) c.match_value-in-Atom-term.ensures.found);
}

pub comparing::compare_ends-compare_tuples-requires :
    goal.comparing::compare_ends-compare_tuples-requires
comparing::compare_ends-compare_tuples-requires t c =
    let s = c.args.store.now in
    let first : IsComposed (term_at s c.args.x) =
    composed (term_at s c.args.x)
    (λ is. let no : ⊥ = cc (c.is_variable.ensures.1 is, c.if-is_variable.false) in no)
    (λ v is. c.in_default.not-Atom v (c.term.ensures ∙ is)) in
    let second : IsComposed (term_at s c.args.y) =
    composed (term_at s c.args.y)
    (λ is. let no : ⊥ = cc (c.is_variable-2.ensures.1 is, c.if-is_variable-2.false) in no)
    (λ v is. c.in_default-term.not-Atom v (c.term-2.ensures ∙ is)) in
    (omega (arith, c.decreases), search rules)

pub comparing::compare_each-compare-requires : goal.comparing::compare_each-compare-requires
comparing::compare_each-compare-requires t c =
    let s = c.args.store.now in
    let xs = c.args.xs.now in
    let ys = c.args.ys.now in
    let k = c.loop-k.k in
    let in_first : k < length xs = c.loop-k-test.true in
    let in_second : k < length ys = omega (arith, in_first, c.requires.each) in (
      omega (
        arith,
        greatest-part (extent s) xs k 0 in_first,
        greatest-part (extent s) ys k 0 in_second,
        c.decreases,
      ),
      (
        c.requires.xs_within k 0 in_first,
        (c.requires.ys_within k 0 in_second, c.loop-k.invariant.4),
      ),
    )

pub comparing::compare_each-returns-then-not-branch :
    goal.comparing::compare_each-returns-then-not-branch
comparing::compare_each-returns-then-not-branch t c =
    let s = c.args.store.now in
    let xs = c.args.xs.now in
    let ys = c.args.ys.now in
    let k = c.loop-k.k in
    let one = AreOne (get_or xs k 0) (get_or ys k 0) in
    let small : k < length xs = c.loop-k-test.true in
    record {
      found = adds_never s (AreAll xs ys) (λ vs. AreFirst k xs ys vs × one vs)
          c.compare.new.made c.compare.new.made c.args.found.now.items c.compare.new.found.items
          c.compare.new.found.items
          (λ vs sat solves all. (
            λ i less. each_is_one vs xs ys i (omega (arith, less, small))
                (omega (arith, less, small, c.requires.each)) all,
            each_is_one vs xs ys k small (omega (arith, small, c.requires.each)) all,
          ))
          (adds_then s (AreFirst k xs ys) one c.loop-k.made c.compare.new.made
          c.args.found.now.items c.loop-k.found.items c.compare.new.found.items false
          c.loop-k.invariant (rw c.if-not-branch.true at c.in_ok-compare.ensures.found));
    }

pub comparing::compare_each-loop-k-preserved : goal.comparing::compare_each-loop-k-preserved
comparing::compare_each-loop-k-preserved t c =
    found_of_more c.args.store.now c.args.xs.now c.args.ys.now c.loop-k.k c.loop-k.made
    c.compare.new.made c.args.found.now.items c.loop-k.found.items c.compare.new.found.items c.loop-k.invariant
    (rw c.if-not-branch.false at c.in_ok-compare.ensures.found)

pub comparing::compare_each-returns : goal.comparing::compare_each-returns
comparing::compare_each-returns t c = record {
  found = found_of_all c.args.store.now c.args.xs.now c.args.ys.now c.loop-k.k c.loop-k.made
      c.args.found.now.items c.loop-k.found.items c.requires.each (omega arith)
      c.loop-k.invariant;
}

pub comparing::compare_tuples-compare_each-requires :
    goal.comparing::compare_tuples-compare_each-requires
comparing::compare_tuples-compare_each-requires t c =
    let s = c.args.store.now in
    let xs = c.as_slice.result.now in
    let ys = c.as_slice-then-len.result.now in
    let is_a : term_at s c.args.a ≡ T.Tuple xs = cc in
    let is_b : term_at s c.args.b ≡ T.Tuple ys = cc in (
      omega (
        arith,
        parts_smaller s c.args.a xs c.requires.kept c.requires.a_within is_a,
        parts_smaller s c.args.b ys c.requires.kept c.requires.b_within is_b,
        c.decreases,
      ),
      (
        parts_within s c.args.a xs c.requires.kept c.requires.a_within is_a,
        (
          parts_within s c.args.b ys c.requires.kept c.requires.b_within is_b,
          (cc, c.requires.made),
        ),
      ),
    )

pub comparing::compare_tuples-returns-then-len : goal.comparing::compare_tuples-returns-then-len
comparing::compare_tuples-returns-then-len t c =
    let s = c.args.store.now in
    record {
      found = found_of_parts s c.args.a c.args.b c.as_slice.result.now
          c.as_slice-then-len.result.now c.requires.a_within c.requires.b_within (cc) (cc)
          c.compare_each.new.made c.args.found.now.items c.compare_each.new.found.items c.compare_each.result
          c.compare_each.ensures.found;
    }

pub comparing::compare_tuples-returns-else-len : goal.comparing::compare_tuples-returns-else-len
comparing::compare_tuples-returns-else-len t c =
    let s = c.args.store.now in
    record {
      found = λ vs sat solves. other_lengths s c.args.a c.args.b c.in-Tuple.xs c.in-Tuple-term.ys
          c.requires.a_within c.requires.b_within (cc) (cc)
          (λ same. c.if-len.false (c.len.ensures ∙ same ∙ sym c.len-2.ensures)) vs sat;
    }

pub lists::compare_lists-loop-left-init : goal.lists::compare_lists-loop-left-init
lists::compare_lists-loop-left-init t c =
    at_starts c.args.store.now c.args.a c.args.b c.args.made.now c.args.found.now.items
    c.requires.made c.requires.kept
    c.requires.a_within c.requires.b_within c.requires.a_end c.requires.b_end
    c.requires.a_spelled c.requires.b_spelled

-- what is left of both lists at the start of an iteration
left_of_both : (t : ℕ) (c : lists::compare_lists-After-min-count t) →
    AreLeft c.args.store.now c.loop-left.left c.remaining-xs.result.now
    × AreLeft c.args.store.now c.loop-left.right c.remaining-ys.result.now
left_of_both t c = (
  record {
    position = c.loop-left.invariant.first;
    spelled = sym c.is_spelled.ensures ∙ c.loop-left-test.true;
    are = c.remaining-xs.ensures;
  },
  record {
    position = c.loop-left.invariant.second;
    spelled = sym c.is_spelled-in-loop-left.ensures ∙ c.if-is_spelled.true;
    are = c.remaining-ys.ensures;
  },
)

pub lists::compare_lists-returns-then-count-eq0 : goal.lists::compare_lists-returns-then-count-eq0
lists::compare_lists-returns-then-count-eq0 t c =
    let s = c.args.store.now in
    let xs = c.remaining-xs.result.now in
    let ys = c.remaining-ys.result.now in
    let (first, second) = left_of_both t
    (goal.at.lists::compare_lists-returns-then-count-eq0 t c).After-min-count in
    record {
      found = found_at_end s c.args.a c.args.b c.loop-left.left c.loop-left.right
          c.loop-left.made c.args.found.now.items c.loop-left.found.items c.loop-left.invariant xs ys first second
          (sym c.min-count.ensures ∙ c.if-count-eq0.true);
    }

pub lists::compare_lists-compare_each-requires : goal.lists::compare_lists-compare_each-requires
lists::compare_lists-compare_each-requires t c =
    let s = c.args.store.now in
    let xs = c.remaining-xs.result.now in
    let ys = c.remaining-ys.result.now in
    let at = c.loop-left.invariant in
    let count = c.min-count.result in
    let (first, second) = left_of_both t
    (goal.at.lists::compare_lists-compare_each-requires t c).After-min-count in (
      omega (
        arith,
        left_smaller s c.loop-left.left xs count c.requires.kept first,
        left_smaller s c.loop-left.right ys count c.requires.kept second,
        at.first_smaller,
        at.second_smaller,
        c.decreases,
      ),
      (
        left_within s c.loop-left.left xs count c.requires.kept first,
        (
          left_within s c.loop-left.right ys count c.requires.kept second,
          (
            omega (arith, length-take count xs, length-take count ys, c.min-count.ensures),
            at.fits,
          ),
        ),
      ),
    )

pub lists::compare_lists-returns-then-not-branch :
    goal.lists::compare_lists-returns-then-not-branch
lists::compare_lists-returns-then-not-branch t c =
    let s = c.args.store.now in
    let xs = c.remaining-xs.result.now in
    let ys = c.remaining-ys.result.now in
    let count = c.min-count.result in
    let (first, second) = left_of_both t
    (goal.at.lists::compare_lists-returns-then-not-branch t c).After-min-count in
    record {
      found = never_one s c.args.a c.args.b c.loop-left.left c.loop-left.right c.loop-left.made
          c.args.found.now.items c.loop-left.found.items c.loop-left.invariant xs ys first second
          count c.compare_each.new.made c.compare_each.new.found.items
          c.compare_each.new.found.items (omega arith) (omega arith)
          (rw c.if-not-branch.true at c.in_ok-compare_each.ensures.found);
    }

pub lists::compare_lists-loop-left-smaller : goal.lists::compare_lists-loop-left-smaller
lists::compare_lists-loop-left-smaller t c =
    let s = c.args.store.now in
    let xs = c.remaining-xs.result.now in
    let ys = c.remaining-ys.result.now in
    let count = c.min-count.result in
    let (first, second) =
    left_of_both t (goal.at.lists::compare_lists-loop-left-smaller t c).After-min-count in
    omega (
      arith,
      further_less s c.loop-left.left c.advance-left.result xs count c.requires.kept first
          (omega arith) (omega arith) c.advance-left.ensures.further,
      further_less s c.loop-left.right c.advance-right.result ys count c.requires.kept second
          (omega arith) (omega arith) c.advance-right.ensures.further,
    )

pub lists::compare_lists-loop-left-preserved : goal.lists::compare_lists-loop-left-preserved
lists::compare_lists-loop-left-preserved t c =
    let s = c.args.store.now in
    let xs = c.remaining-xs.result.now in
    let ys = c.remaining-ys.result.now in
    let count = c.min-count.result in
    let (first, second) =
    left_of_both t (goal.at.lists::compare_lists-loop-left-preserved t c).After-min-count in
    let left = c.advance-left.ensures in
    let right = c.advance-right.ensures in
    moved_on s c.args.a c.args.b c.loop-left.left c.loop-left.right c.loop-left.made
    c.args.found.now.items c.loop-left.found.items c.loop-left.invariant xs ys first second count
    c.advance-left.result c.advance-right.result c.compare_each.new.made
    c.compare_each.new.found.items c.requires.kept
    (omega arith) (omega arith)
    (rw c.if-not-branch.false at c.in_ok-compare_each.ensures.found) left.rest left.further
    left.passes right.rest right.further right.passes

pub lists::compare_lists-returns : goal.lists::compare_lists-returns
lists::compare_lists-returns t c = record {
  found = result_of_rests c.args.store.now c.args.a c.args.b c.loop-left.left c.loop-left.right
      c.loop-left.made c.args.found.now.items c.loop-left.found.items c.loop-left.invariant
      c.compare_rests.new.found.items c.compare_rests.result c.compare_rests.ensures.found;
}
