-- What is shown by each snapshot, and one round.
use Rattle.std.proofs.Common.{◌∙◌, ◌≤◌, length, subst, sym, arith, rules}
use Rattle.std.specs.Prelude.{IfSome}
use Rattle.rn_desk.specs.Passes.{fixed_of, mine, seen}
use Rattle.rn_fire.specs.declared.setup.Setup.{Setup}
use Rattle.rn_firsts.specs.Resting.{KnowsIdle}
use Rattle.rn_worker.specs.link.Seen.{Shows}
use Rattle.rn_worker.specs.link.Views.{FollowsIdle, FollowsIn, ShowsView}
use Rattle.rn_worker.proofs.LaterViews.{follow_then}
use Rattle.rn_worker.proofs.SeenStates.{few_by, known_by, never_fewer, never_many, own_within, rounds_end, searched_by}
use Rattle.rn_worker.proofs.worker.work_while.Goals as goal

pub plan_at-plan-requires-clause-table : goal.plan_at-plan-requires-clause-table
plan_at-plan-requires-clause-table g c =
    let setup : Setup = fixed_of (λ s. s.setup) c.args.team.desk.now in
    let es = seen c.loop-view.pass in
    let shown : Shows setup es c.in-Some.now.sight = subst (λ o. IfSome o (ShowsView setup es)) c.in-Some.is c.loop-view.invariant.some in
    searched_by setup c.args.team.task.system.now c.args.team.task.options.now c.requires.fixed es c.in-Some.now.sight shown
    c.args.team.task.uplinks.now c.requires.own

pub act-left-requires-clause-knows : goal.act-left-requires-clause-knows
act-left-requires-clause-knows g c =
    let setup : Setup = fixed_of (λ s. s.setup) c.args.team.desk.now in
    let es = seen c.loop-view.pass in
    let shown : Shows setup es c.in-Some.now.sight = subst (λ o. IfSome o (ShowsView setup es)) c.in-Some.is c.loop-view.invariant.some in
    known_by setup c.args.team.task.system.now c.args.team.task.options.now c.requires.fixed es c.in-Some.now.sight shown
    c.plan_at-plan.result c.plan_at-plan.ensures.plan

pub count_round-requires : goal.count_round-requires
count_round-requires g c =
    let setup : Setup = fixed_of (λ s. s.setup) c.args.team.desk.now in
    let es = seen c.loop-view.pass in
    let shown : Shows setup es c.in-Some.now.sight = subst (λ o. IfSome o (ShowsView setup es)) c.in-Some.is c.loop-view.invariant.some in
    let few = never_many setup es c.in-Some.now.sight shown in
    let fired = c.loop-view.invariant.fired in
    let within = c.loop-view.invariant.within in
    omega (arith, few, fired, within)

pub loop-view-smaller : goal.loop-view-smaller
loop-view-smaller g c =
    let setup : Setup = fixed_of (λ s. s.setup) c.args.team.desk.now in
    let es = seen c.loop-view.pass in
    let shown : Shows setup es c.in-Some.now.sight = subst (λ o. IfSome o (ShowsView setup es)) c.in-Some.is c.loop-view.invariant.some in
    let did = c.act-left.ensures in
    let was = c.was_stopped-stopped.ensures in
    rounds_end c.was_stopped-stopped.result c.loop-view.stopped c.args.team.task.options.now.steps (length es) (length (seen c.act-left.new.pass)) (length (seen c.look_on-view.new.pass))
    (few_by setup c.args.team.task.system.now c.args.team.task.options.now c.requires.fixed es c.in-Some.now.sight shown)
    did.later (never_fewer (seen c.look_on-view.new.pass) (seen c.act-left.new.pass) c.look_on-view.ensures.entries)
    (λ goes. did.more (was.no goes))
    (λ whole halts. c.plan_at-plan.ensures.whole whole (was.yes halts))

pub plan_at-plan-requires-clause-follows : goal.plan_at-plan-requires-clause-follows
plan_at-plan-requires-clause-follows g c =
    let setup : Setup = fixed_of (λ s. s.setup) c.args.team.desk.now in
    let k = c.loop-view.searcher.idle in
    subst (λ (s : Setup). FollowsIn s.system s.options.depth k c.in-Some.now) c.requires.fixed
    (subst (λ o. IfSome o (FollowsIdle setup k)) c.in-Some.is c.loop-view.invariant.follows)

pub act-left-requires-clause-next : goal.act-left-requires-clause-next
act-left-requires-clause-next g c =
    let setup : Setup = fixed_of (λ s. s.setup) c.args.team.desk.now in
    let es = seen c.loop-view.pass in
    let shown : Shows setup es c.in-Some.now.sight = subst (λ o. IfSome o (ShowsView setup es)) c.in-Some.is c.loop-view.invariant.some in
    c.next.ensures.number ∙ shown.stands.next

pub loop-view-init : goal.loop-view-init
loop-view-init g c = record {
  here = search rules;
  free = search rules;
  number = search rules;
  worker = search rules;
  fired = search rules;
  within = search rules;
  swept = search rules;
  some = search rules;
  follows = c.look-view.ensures.follows c.searcher_of-searcher.result.idle;
  none = search rules;
}

pub loop-view-preserved : goal.loop-view-preserved
loop-view-preserved g c =
    let setup : Setup = fixed_of (λ s. s.setup) c.args.team.desk.now in
    let es = seen c.loop-view.pass in
    let shown : Shows setup es c.in-Some.now.sight = subst (λ o. IfSome o (ShowsView setup es)) c.in-Some.is c.loop-view.invariant.some in
    let k = c.plan_at-plan.new.searcher.idle in
    let known = subst (λ (s : Setup). KnowsIdle s.system c.in-Some.now.sight.table.marking s.options.depth k) (sym c.requires.fixed) c.plan_at-plan.ensures.known in
    let did = c.act-left.ensures in
    let was = c.was_stopped-stopped.ensures in
    record {
      here = search rules;
      free = search rules;
      number = search rules;
      worker = search rules;
      fired = search rules;
      within = subst (λ own. length own ≤ length (seen c.look_on-view.new.pass))
          (sym c.look_on-view.ensures.mine)
          (own_within c.act-left.result.done.fired c.was_stopped-stopped.result
          (mine c.loop-view.pass) (mine c.act-left.new.pass) (length es)
          (length (seen c.act-left.new.pass)) (length (seen c.look_on-view.new.pass)) did.mine
          c.loop-view.invariant.within did.later (λ goes. did.more (was.no goes))
          (λ halts. did.stopped (was.yes halts))
          (never_fewer (seen c.look_on-view.new.pass) (seen c.act-left.new.pass)
          c.look_on-view.ensures.entries));
      swept = search rules;
      some = search rules;
      follows = c.look_on-view.ensures.follows k
          (follow_then setup es (seen c.act-left.new.pass) c.in-Some.now c.act-left.result.view
          (λ m. KnowsIdle setup.system m setup.options.depth k) shown c.act-left.ensures.entries
          c.act-left.ensures.some c.act-left.ensures.changed known);
      none = search rules;
    }

pub loop-view-preserved-after-is_some : goal.loop-view-preserved-after-is_some
loop-view-preserved-after-is_some g c =
    let setup : Setup = fixed_of (λ s. s.setup) c.args.team.desk.now in
    let es = seen c.loop-view.pass in
    let shown : Shows setup es c.in-Some.now.sight = subst (λ o. IfSome o (ShowsView setup es)) c.in-Some.is c.loop-view.invariant.some in
    let k = c.plan_at-plan.new.searcher.idle in
    let known = subst (λ (s : Setup). KnowsIdle s.system c.in-Some.now.sight.table.marking s.options.depth k) (sym c.requires.fixed) c.plan_at-plan.ensures.known in
    let did = c.act-left.ensures in
    let was = c.was_stopped-stopped.ensures in
    record {
      here = search rules;
      free = search rules;
      number = search rules;
      worker = search rules;
      fired = search rules;
      within = subst (λ own. length own ≤ length (seen c.look_on-view.new.pass))
          (sym c.look_on-view.ensures.mine)
          (own_within c.act-left.result.done.fired c.was_stopped-stopped.result
          (mine c.loop-view.pass) (mine c.act-left.new.pass) (length es)
          (length (seen c.act-left.new.pass)) (length (seen c.look_on-view.new.pass)) did.mine
          c.loop-view.invariant.within did.later (λ goes. did.more (was.no goes))
          (λ halts. did.stopped (was.yes halts))
          (never_fewer (seen c.look_on-view.new.pass) (seen c.act-left.new.pass)
          c.look_on-view.ensures.entries));
      swept = search rules;
      some = search rules;
      follows = c.look_on-view.ensures.follows k
          (follow_then setup es (seen c.act-left.new.pass) c.in-Some.now c.act-left.result.view
          (λ m. KnowsIdle setup.system m setup.options.depth k) shown c.act-left.ensures.entries
          c.act-left.ensures.some c.act-left.ensures.changed known);
      none = search rules;
    }
