use Rattle.std.proofs.Common.{rules, ◌++◌, ◌∷◌, [], get_or, ◌∙◌, ap}
use Rattle.std.specs.Prelude.{option_to_list, None}
use Rattle.std.proofs.lemmas.List.{get_or_read}
use Rattle.rn_term.specs.Occurring.{parts_of}
use Rattle.rn_term.specs.declared.term.Term.TheVariants as T
use Rattle.rn_term.proofs.LevelLemmas.{next_within, passed, passed_smaller, raised, raised_smaller}
use Rattle.rn_term.proofs.LevelLemmas.{raising_starts, raised_all, raised_enough}
use Rattle.rn_term.proofs.Walks.{none_popped}
use Rattle.rn_term.proofs.levels.raise_all.Goals as goal

pub loop-next-init : goal.loop-next-init
loop-next-init c =
    raising_starts (record { terms = c.args.terms.now.items; notes = c.args.notes.now.items })
    c.args.flags.now.items c.args.var c.args.to c.args.level
    c.args.levels.now.items c.note_levels.new.levels.items c.push.new.self.items
    (let each = c.in_ok-note_levels.ensures.each in search rules) c.requires.within
    c.note_levels.ensures.same c.requires.low
    c.requires.levels
    (c.in_ok-push.ensures.items ∙ ap (λ xs. xs ++ c.args.to ∷ []) c.clear.ensures.items)

pub index_mut-requires : goal.index_mut-requires
index_mut-requires c =
    let small = next_within _ c.args.flags.now.items c.args.var c.args.to c.args.level
    c.loop-next.levels.items c.loop-next.rest.items c.pop.new.self.items c.in-Some.next
    c.requires.kept c.loop-next.invariant c.in-Some.ensures.items in
    let each = c.loop-next.invariant.each in search rules

pub index-requires : goal.index-requires
index-requires c =
    let small = next_within _ c.args.flags.now.items c.args.var c.args.to c.args.level
    c.loop-next.levels.items c.loop-next.rest.items c.pop.new.self.items c.in-Some.next
    c.requires.kept c.loop-next.invariant c.in-Some.ensures.items in search rules

pub index-requires-then-not-is_high : goal.index-requires-then-not-is_high
index-requires-then-not-is_high c =
    let small = next_within _ c.args.flags.now.items c.args.var c.args.to c.args.level
    c.loop-next.levels.items c.loop-next.rest.items c.pop.new.self.items c.in-Some.next
    c.requires.kept c.loop-next.invariant c.in-Some.ensures.items in
    let each = c.requires.each in search rules

pub loop-next-smaller-in-Continue-branch-4 : goal.loop-next-smaller-in-Continue-branch-4
loop-next-smaller-in-Continue-branch-4 c =
    let small = next_within _ c.args.flags.now.items c.args.var c.args.to c.args.level
    c.loop-next.levels.items c.loop-next.rest.items c.pop.new.self.items c.in-Some.next
    c.requires.kept c.loop-next.invariant c.in-Some.ensures.items in
    raised_smaller _ c.args.flags.now.items c.args.var c.args.to c.args.level
    c.loop-next.levels.items c.loop-next.rest.items c.pop.new.self.items c.in-Some.next
    c.requires.kept c.loop-next.invariant c.in-Some.ensures.items c.push_link.new.rest.items
    (c.in_ok-push_link.ensures.pushed
    ∙ ap (λ xs. xs ++ option_to_list c.index-then-not-is_high.result.now)
    (c.in_ok-push_parts.ensures.pushed ∙ ap (λ t. c.pop.new.self.items ++ parts_of t)
    (get_or_read c.args.terms.now.items c.in-Some.next c.index.result.now small c.index.ensures
    T.Free))
    ∙ ap (λ o. c.pop.new.self.items
    ++ parts_of (get_or c.args.terms.now.items c.in-Some.next T.Free) ++ option_to_list o)
    (get_or_read c.args.links.now.items c.in-Some.next _ (rw c.requires.each small)
    c.index-then-not-is_high.ensures None ∙ c.requires.linked c.in-Some.next))

pub loop-next-preserved-in-Continue-branch-4 : goal.loop-next-preserved-in-Continue-branch-4
loop-next-preserved-in-Continue-branch-4 c =
    let small = next_within _ c.args.flags.now.items c.args.var c.args.to c.args.level
    c.loop-next.levels.items c.loop-next.rest.items c.pop.new.self.items c.in-Some.next
    c.requires.kept c.loop-next.invariant c.in-Some.ensures.items in
    raised _ c.args.flags.now.items c.args.var c.args.to c.args.level
    c.loop-next.levels.items c.loop-next.rest.items c.pop.new.self.items c.in-Some.next
    c.requires.kept c.loop-next.invariant c.in-Some.ensures.items c.push_link.new.rest.items
    (c.is_high.ensures.low c.if-not-is_high.true)
    (c.in_ok-push_link.ensures.pushed
    ∙ ap (λ xs. xs ++ option_to_list c.index-then-not-is_high.result.now)
    (c.in_ok-push_parts.ensures.pushed ∙ ap (λ t. c.pop.new.self.items ++ parts_of t)
    (get_or_read c.args.terms.now.items c.in-Some.next c.index.result.now small c.index.ensures
    T.Free))
    ∙ ap (λ o. c.pop.new.self.items
    ++ parts_of (get_or c.args.terms.now.items c.in-Some.next T.Free) ++ option_to_list o)
    (get_or_read c.args.links.now.items c.in-Some.next _ (rw c.requires.each small)
    c.index-then-not-is_high.ensures None ∙ c.requires.linked c.in-Some.next))

pub loop-next-smaller : goal.loop-next-smaller
loop-next-smaller c =
    passed_smaller _ c.args.flags.now.items c.args.var c.args.to c.args.level
    c.loop-next.levels.items c.loop-next.rest.items c.pop.new.self.items c.in-Some.next
    c.requires.kept c.loop-next.invariant c.in-Some.ensures.items

pub loop-next-preserved : goal.loop-next-preserved
loop-next-preserved c =
    passed _ c.args.flags.now.items c.args.var c.args.to c.args.level
    c.loop-next.levels.items c.loop-next.rest.items c.pop.new.self.items c.in-Some.next
    c.requires.kept c.loop-next.invariant c.in-Some.ensures.items
    (c.is_high.ensures.high c.if-not-is_high.false)

pub returns-clause-levels : goal.returns-clause-levels
returns-clause-levels c =
    raised_all _ c.args.flags.now.items c.args.var c.args.to c.args.level
    c.loop-next.levels.items c.loop-next.rest.items c.loop-next.invariant
    (none_popped c.loop-next.rest.items c.pop.result c.loop-next.rest.len c.loop-next.rest.ok.0
    c.pop.ensures.variant.1 c.in_default.not-Some)

pub returns-clause-enough : goal.returns-clause-enough
returns-clause-enough c =
    raised_enough _ c.args.flags.now.items c.args.var c.args.to c.args.level
    c.loop-next.levels.items c.loop-next.rest.items c.loop-next.invariant
    (none_popped c.loop-next.rest.items c.pop.result c.loop-next.rest.len c.loop-next.rest.ok.0
    c.pop.ensures.variant.1 c.in_default.not-Some)
