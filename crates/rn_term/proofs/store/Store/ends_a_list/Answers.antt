use Rattle.std.proofs.Common.{arith, ◌∙◌, ap}
use Rattle.rn_term.specs.link.Kept.{last_cons}
use Rattle.rn_term.proofs.ReadingLemmas.{EndsElsewhere, other_end, no_truth}
use Rattle.rn_term.proofs.LastLists.{none_looked_at, next_within, one_looked_at, next_smaller}
use Rattle.rn_term.proofs.LastLists.{all_looked_at, none_below}
use Rattle.rn_term.proofs.store.Store.ends_a_list.Goals as goal
use Rattle.rn_term.proofs.store.Store.ends_a_list.Goals.{After-last_list-next-in-Some}

pub loop-next-init : goal.loop-next-init
loop-next-init c =
    none_looked_at c.args.self.now c.args.var c.last_list-next.result
    (c.last_list-next.ensures ∙ ap (last_cons c.args.self.now.terms) c.size.ensures)

pub term-requires : goal.term-requires
term-requires c = record {
  within = next_within c.args.self.now c.args.var c.in-Some.id c.loop-next.next
      c.loop-next.invariant c.in-Some.is;
}

pub last_list-next-requires-in-Some : goal.last_list-next-requires-in-Some
last_list-next-requires-in-Some c =
    let small = next_within c.args.self.now c.args.var c.in-Some.id c.loop-next.next
    c.loop-next.invariant c.in-Some.is in
    record { within = omega (arith, small) }

pub loop-next-smaller : goal.loop-next-smaller
loop-next-smaller c =
    next_smaller c.args.self.now c.args.var c.in-Some.id c.loop-next.next
    c.last_list-next-in-Some.result c.loop-next.invariant c.in-Some.is
    c.last_list-next-in-Some.ensures

elsewhere : (c : After-last_list-next-in-Some) →
    EndsElsewhere c.args.self.now c.args.var c.in-Some.id
elsewhere c = elim c.match-term.branch [
  | goal.in-Cons+else-follow-var w ↦
      other_end c.args.self.now c.in-Some.id _ _ _ _ _ c.term.ensures w.in-Cons.is
      w.follow.ensures.leads w.follow.ensures.end c.requires.unbound w.if-follow-var.false
  | goal.in_default-term w ↦
      λ ids tail is. absurd (w.in_default-term.not-Cons ids tail (c.term.ensures ∙ is))
]

pub loop-next-preserved : goal.loop-next-preserved
loop-next-preserved c =
    one_looked_at c.args.self.now c.args.var c.in-Some.id c.loop-next.next
    c.last_list-next-in-Some.result c.loop-next.invariant c.in-Some.is (elsewhere c)
    c.last_list-next-in-Some.ensures

pub returns-then-id-floor : goal.returns-then-id-floor
returns-then-id-floor c = record {
  exact = (
    λ yes. absurd (no_truth yes),
    λ ends.
        absurd (none_below c.args.self.now c.args.var c.in-Some.id c.floor-floor.result
        c.loop-next.next c.loop-next.invariant c.in-Some.is c.floor-floor.ensures.none
        c.if-id-floor.true ends.0 ends.1 ends.2 ends.4 ends.5),
  );
}

pub returns : goal.returns
returns c = record {
  exact = (
    λ yes. absurd (no_truth yes),
    λ ends.
        absurd (all_looked_at c.args.self.now c.args.var c.loop-next.next c.loop-next.invariant
        c.in_default.not-Some ends.0 ends.1 ends.2 ends.4 ends.5),
  );
}
