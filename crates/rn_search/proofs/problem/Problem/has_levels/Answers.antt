-- By the least number of levels that suffices.
use Rattle.std.proofs.Common.{rules, ◌≡◌, ◌∙◌, ◌-◌, ap, length}
use Rattle.rn_search.proofs.Levels.{none_lack, some_lack, some_suffice}
use Rattle.rn_search.proofs.problem.Problem.has_levels.Goals as goal

pub returns-in-Some-clause-lacks : goal.returns-in-Some-clause-lacks
returns-in-Some-clause-lacks c few =
    let same : c.self.inside.system.now ≡ c.args.self.now.system = search rules in
    let deep : c.self.inside.depth ≡ c.args.self.now.depth = search rules in
    some_lack c.self.inside.system.now c.args.self.now.system c.self.inside.uplinks.now
    c.args.head.now c.args.self.now.depth c.saturating_sub-left.result c.len.result same
    c.self.invariant.own c.requires.net c.requires.transition (c.len.ensures ∙ ap length c.deref.ensures)
    (c.saturating_sub-left.ensures ∙ ap (λ d. d - c.len.result) deep) c.in-Some.height
    (λ s own net there. c.in-Some.ensures s own net there) few

pub returns-in-Some-clause-has : goal.returns-in-Some-clause-has
returns-in-Some-clause-has c deepest enough =
    let same : c.self.inside.system.now ≡ c.args.self.now.system = search rules in
    let deep : c.self.inside.depth ≡ c.args.self.now.depth = search rules in
    some_suffice c.self.inside.system.now c.args.self.now.system c.self.inside.uplinks.now
    c.args.head.now c.args.self.now.depth c.saturating_sub-left.result c.len.result same
    c.self.invariant.own c.requires.net c.requires.transition (c.len.ensures ∙ ap length c.deref.ensures)
    (c.saturating_sub-left.ensures ∙ ap (λ d. d - c.len.result) deep) c.in-Some.height
    c.calls_need_levels.ensures.more (λ s own net there. c.in-Some.ensures s own net there) enough

pub returns-in-None-clause-lacks : goal.returns-in-None-clause-lacks
returns-in-None-clause-lacks c few =
    let same : c.self.inside.system.now ≡ c.args.self.now.system = search rules in
    let deep : c.self.inside.depth ≡ c.args.self.now.depth = search rules in
    none_lack c.self.inside.system.now c.args.self.now.system c.self.inside.uplinks.now
    c.args.head.now c.args.self.now.depth c.saturating_sub-left.result c.len.result same
    c.self.invariant.own c.requires.net c.requires.transition (c.len.ensures ∙ ap length c.deref.ensures)
    (c.saturating_sub-left.ensures ∙ ap (λ d. d - c.len.result) deep)
    (λ s own net there. c.in-None.ensures s own net there) few
