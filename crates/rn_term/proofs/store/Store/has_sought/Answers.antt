use Rattle.std.proofs.Common.{[], refl, ◌∙◌, ap, ◌++◌, ◌∷◌, ⊎_elim}
use Rattle.rn_term.specs.Occurring.{parts_of}
use Rattle.rn_term.proofs.ReadingLemmas.{no_truth}
use Rattle.rn_term.proofs.Walks.{walk_starts, next_within, passed, passed_smaller, skipped}
use Rattle.rn_term.proofs.Walks.{walked_on}
use Rattle.rn_term.proofs.Walks.{walked_smaller, found_here, not_found, none_popped}
use Rattle.rn_term.proofs.store.Store.has_sought.Goals as goal

pub loop-next-init : goal.loop-next-init
loop-next-init c =
    walk_starts c.args.self.now c.args.sought c.args.id c.new-seen.result c.push.new.self.items
    c.new-seen.ensures.none
    (c.in_ok-push.ensures.items ∙ ap (λ xs. xs ++ c.args.id ∷ []) c.new-rest.ensures.items)

pub follow-end-requires : goal.follow-end-requires
follow-end-requires c = record {
  within = next_within c.args.self.now c.args.sought c.args.id c.loop-next.seen
      c.loop-next.rest.items c.pop.new.self.items c.in-Some.next c.requires.kept c.requires.within
      c.loop-next.invariant c.in-Some.ensures.items;
}

pub returns-then-is_sought : goal.returns-then-is_sought
returns-then-is_sought c = record {
  exact = (
    λ yes.
        found_here c.args.self.now c.args.sought c.args.id c.loop-next.seen
        c.loop-next.rest.items c.pop.new.self.items c.in-Some.next c.requires.kept
        c.requires.within c.loop-next.invariant c.in-Some.ensures.items c.follow-end.result
        c.follow-end.ensures.leads c.follow-end.ensures.within c.follow-end.ensures.end
        (c.is_sought.ensures.exact.0 c.if-is_sought.true),
    λ has. refl,
  );
}

pub loop-next-smaller-in-Continue-branch-3 : goal.loop-next-smaller-in-Continue-branch-3
loop-next-smaller-in-Continue-branch-3 c =
    walked_smaller c.args.self.now c.args.sought c.args.id c.loop-next.seen
    c.loop-next.rest.items c.pop.new.self.items c.in-Some.next c.requires.kept c.requires.within
    c.loop-next.invariant c.in-Some.ensures.items c.follow-end.result c.follow-end.ensures.leads
    c.follow-end.ensures.within c.follow-end.ensures.end c.push_parts.new.rest.items
    (c.in_ok-push_parts.ensures.pushed
    ∙ ap (λ t. c.pop.new.self.items ++ parts_of t) c.term.ensures)

pub loop-next-preserved-in-Continue-branch-3 : goal.loop-next-preserved-in-Continue-branch-3
loop-next-preserved-in-Continue-branch-3 c =
    walked_on c.args.self.now c.args.sought c.args.id c.loop-next.seen
    c.loop-next.rest.items c.pop.new.self.items c.in-Some.next c.requires.kept c.requires.within
    c.loop-next.invariant c.in-Some.ensures.items c.follow-end.result c.follow-end.ensures.leads
    c.follow-end.ensures.within c.follow-end.ensures.end c.add.new.self
    c.push_parts.new.rest.items c.in_ok-add.ensures.only
    (λ here. let yes = c.is_sought.ensures.exact.1 here in cc)
    (c.in_ok-push_parts.ensures.pushed
    ∙ ap (λ t. c.pop.new.self.items ++ parts_of t) c.term.ensures)

pub loop-next-smaller : goal.loop-next-smaller
loop-next-smaller c =
    passed_smaller c.args.self.now c.args.sought c.args.id c.loop-next.seen
    c.loop-next.rest.items c.pop.new.self.items c.in-Some.next c.requires.kept c.requires.within
    c.loop-next.invariant c.in-Some.ensures.items c.follow-end.result c.follow-end.ensures.leads
    c.follow-end.ensures.within c.follow-end.ensures.end

pub loop-next-preserved : goal.loop-next-preserved
loop-next-preserved c = ⊎_elim
    (passed c.args.self.now c.args.sought c.args.id c.loop-next.seen
    c.loop-next.rest.items c.pop.new.self.items c.in-Some.next c.requires.kept c.requires.within
    c.loop-next.invariant c.in-Some.ensures.items c.follow-end.result c.follow-end.ensures.leads
    c.follow-end.ensures.within c.follow-end.ensures.end)
    (skipped c.args.self.now c.args.sought c.args.id c.loop-next.seen
    c.loop-next.rest.items c.pop.new.self.items c.in-Some.next c.requires.kept c.requires.within
    c.loop-next.invariant c.in-Some.ensures.items c.follow-end.result c.follow-end.ensures.leads
    c.follow-end.ensures.within c.follow-end.ensures.end)
    (c.is_done.ensures.done c.if-not-is_done.false)

pub returns : goal.returns
returns c = record {
  exact = (
    λ yes. absurd (no_truth yes),
    λ has.
        absurd (not_found c.args.self.now c.args.sought c.args.id c.loop-next.seen
        c.loop-next.rest.items c.requires.kept c.requires.within c.loop-next.invariant
        (none_popped c.loop-next.rest.items c.pop.result c.loop-next.rest.len c.loop-next.rest.ok.0
        c.pop.ensures.variant.1 c.in_default.not-Some) has),
  );
}
