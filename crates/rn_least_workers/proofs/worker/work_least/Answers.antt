-- What is shown by each snapshot, and one round.
use Rattle.std.proofs.Common.{ℕ, ◌≡◌, ◌+◌, ◌<◌, ◌≤◌, ◌∙◌, List, length, ap, subst, sym, arith, rules}
use Rattle.std.specs.Prelude.{Bool, true, false, IfSome, MatchBool}
use Rattle.rn_model.specs.declared.log.Entry.{Entry}
use Rattle.rn_worker.specs.link.Plans.{GrowsBy}
use Rattle.rn_desk.specs.Passes.{fixed_of, mine, seen}
use Rattle.rn_fire.specs.declared.setup.Setup.{Setup}
use Rattle.rn_worker.specs.link.Seen.{Shows}
use Rattle.rn_worker.proofs.SeenStates.{few_by, never_fewer, never_many, searched_by}
use Rattle.rn_worker.specs.link.Views.{ShowsView}
use Rattle.rn_least_workers.specs.link.Following.{FollowsKnown, FollowsIn}
use Rattle.rn_firsts.specs.Known.{IsKnown}
use Rattle.rn_worker.proofs.LaterViews.{follow_then}
use Rattle.rn_least_workers.proofs.LeastSeen.{known_by, rounds_end}
use Rattle.rn_least_workers.proofs.worker.work_least.Goals as goal

-- firings of one's own are among the entries that were seen
still_within : (fired : Bool) (own more : List Entry) (old turned new : ℕ) →
    GrowsBy fired own more → length own ≤ old → old < turned → turned ≤ new → length more ≤ new
still_within true own more old turned new grows within later then =
    omega (arith, grows, within, later, then)
still_within false own more old turned new grows within later then =
    let same = ap length grows in omega (arith, same, within, later, then)

-- a tally counts them
counted_with : (fired : Bool) (own more : List Entry) (old new : ℕ) → GrowsBy fired own more →
    old ≡ length own → MatchBool fired (new ≡ old + 1) (new ≡ old) → new ≡ length more
counted_with true own more old new grows is counted = omega (arith, grows, is, counted)
counted_with false own more old new grows is counted = counted ∙ is ∙ ap length (sym grows)

pub plan_at-plan-requires-clause-table : goal.plan_at-plan-requires-clause-table
plan_at-plan-requires-clause-table g c =
    let setup : Setup = fixed_of (λ s. s.setup) c.args.team.desk.now in
    let es = seen c.loop-view.pass in
    let shown : Shows setup es c.in-Some.now.sight = subst (λ o. IfSome o (ShowsView setup es)) c.in-Some.is c.loop-view.invariant.some in
    searched_by setup c.args.team.task.system.now c.args.team.task.options.now c.requires.fixed es c.in-Some.now.sight shown
    c.args.team.task.uplinks.now c.requires.own

pub act-left-requires-clause-knows : goal.act-left-requires-clause-knows
act-left-requires-clause-knows g c =
    let setup : Setup = fixed_of (λ s. s.setup) c.args.team.desk.now in
    let es = seen c.loop-view.pass in
    let shown : Shows setup es c.in-Some.now.sight = subst (λ o. IfSome o (ShowsView setup es)) c.in-Some.is c.loop-view.invariant.some in
    known_by setup c.args.team.task.system.now c.args.team.task.options.now c.requires.fixed es c.in-Some.now.sight shown
    c.plan_at-plan.result c.plan_at-plan.ensures.plan

pub count-requires : goal.count-requires
count-requires g c =
    let setup : Setup = fixed_of (λ s. s.setup) c.args.team.desk.now in
    let es = seen c.loop-view.pass in
    let shown : Shows setup es c.in-Some.now.sight = subst (λ o. IfSome o (ShowsView setup es)) c.in-Some.is c.loop-view.invariant.some in
    let few = never_many setup es c.in-Some.now.sight shown in
    let fired = c.loop-view.invariant.fired in
    let within = c.loop-view.invariant.within in
    omega (arith, few, fired, within)

pub loop-view-smaller : goal.loop-view-smaller
loop-view-smaller g c =
    let setup : Setup = fixed_of (λ s. s.setup) c.args.team.desk.now in
    let es = seen c.loop-view.pass in
    let shown : Shows setup es c.in-Some.now.sight = subst (λ o. IfSome o (ShowsView setup es)) c.in-Some.is c.loop-view.invariant.some in
    let did = c.act-left.ensures in
    rounds_end c.args.team.task.options.now.steps (length es) (length (seen c.act-left.new.pass)) (length (seen c.look_on-view.new.pass))
    (few_by setup c.args.team.task.system.now c.args.team.task.options.now c.requires.fixed es c.in-Some.now.sight shown)
    did.more (never_fewer (seen c.look_on-view.new.pass) (seen c.act-left.new.pass) c.look_on-view.ensures.entries)

pub plan_at-plan-requires-clause-follows : goal.plan_at-plan-requires-clause-follows
plan_at-plan-requires-clause-follows g c =
    let setup : Setup = fixed_of (λ s. s.setup) c.args.team.desk.now in
    let k = c.loop-view.firsts in
    subst (λ (s : Setup). FollowsIn s.system s.options.depth k c.in-Some.now) c.requires.fixed
    (subst (λ o. IfSome o (FollowsKnown setup k)) c.in-Some.is c.loop-view.invariant.follows)

pub act-left-requires-clause-next : goal.act-left-requires-clause-next
act-left-requires-clause-next g c =
    let setup : Setup = fixed_of (λ s. s.setup) c.args.team.desk.now in
    let es = seen c.loop-view.pass in
    let shown : Shows setup es c.in-Some.now.sight = subst (λ o. IfSome o (ShowsView setup es)) c.in-Some.is c.loop-view.invariant.some in
    c.next.ensures.number ∙ shown.stands.next

pub loop-view-init : goal.loop-view-init
loop-view-init g c = record {
  here = search rules;
  free = search rules;
  number = search rules;
  worker = search rules;
  fired = search rules;
  within = search rules;
  swept = search rules;
  some = search rules;
  follows = c.look-view.ensures.follows c.new-firsts.result;
  none = search rules;
}

pub loop-view-preserved : goal.loop-view-preserved
loop-view-preserved g c =
    let setup : Setup = fixed_of (λ s. s.setup) c.args.team.desk.now in
    let es = seen c.loop-view.pass in
    let shown : Shows setup es c.in-Some.now.sight = subst (λ o. IfSome o (ShowsView setup es)) c.in-Some.is c.loop-view.invariant.some in
    let k = c.plan_at-plan.new.firsts in
    let known = subst (λ (s : Setup). IsKnown s.system c.in-Some.now.sight.table.marking s.options.depth k) (sym c.requires.fixed) c.plan_at-plan.ensures.known in
    record {
      here = search rules;
      free = search rules;
      number = search rules;
      worker = search rules;
      fired = counted_with c.act-left.result.done.fired (mine c.loop-view.pass)
          (mine c.act-left.new.pass) _ _ c.act-left.ensures.mine c.loop-view.invariant.fired
          c.count.ensures.fired
          ∙ ap length (sym c.look_on-view.ensures.mine);
      within = subst (λ own. length own ≤ length (seen c.look_on-view.new.pass))
          (sym c.look_on-view.ensures.mine)
          (still_within c.act-left.result.done.fired (mine c.loop-view.pass)
          (mine c.act-left.new.pass) (length es) (length (seen c.act-left.new.pass))
          (length (seen c.look_on-view.new.pass)) c.act-left.ensures.mine
          c.loop-view.invariant.within c.act-left.ensures.more
          (never_fewer (seen c.look_on-view.new.pass) (seen c.act-left.new.pass)
          c.look_on-view.ensures.entries));
      swept = λ off. c.count.ensures.swept (c.loop-view.invariant.swept off)
          (c.act-left.ensures.swept (c.plan_at-plan.ensures.none (c.is_due-due.ensures.never off)));
      some = search rules;
      follows = c.look_on-view.ensures.follows k
          (follow_then setup es (seen c.act-left.new.pass) c.in-Some.now c.act-left.result.view
          (λ m. IsKnown setup.system m setup.options.depth k) shown c.act-left.ensures.entries c.act-left.ensures.some c.act-left.ensures.changed known);
      none = search rules;
    }

pub loop-view-preserved-in-Some : goal.loop-view-preserved-in-Some
loop-view-preserved-in-Some g c =
    let setup : Setup = fixed_of (λ s. s.setup) c.args.team.desk.now in
    let es = seen c.loop-view.pass in
    let shown : Shows setup es c.in-Some.now.sight = subst (λ o. IfSome o (ShowsView setup es)) c.in-Some.is c.loop-view.invariant.some in
    let k = c.plan_at-plan.new.firsts in
    let known = subst (λ (s : Setup). IsKnown s.system c.in-Some.now.sight.table.marking s.options.depth k) (sym c.requires.fixed) c.plan_at-plan.ensures.known in
    record {
      here = search rules;
      free = search rules;
      number = search rules;
      worker = search rules;
      fired = counted_with c.act-left.result.done.fired (mine c.loop-view.pass)
          (mine c.act-left.new.pass) _ _ c.act-left.ensures.mine c.loop-view.invariant.fired
          c.count.ensures.fired
          ∙ ap length (sym c.look_on-view.ensures.mine);
      within = subst (λ own. length own ≤ length (seen c.look_on-view.new.pass))
          (sym c.look_on-view.ensures.mine)
          (still_within c.act-left.result.done.fired (mine c.loop-view.pass)
          (mine c.act-left.new.pass) (length es) (length (seen c.act-left.new.pass))
          (length (seen c.look_on-view.new.pass)) c.act-left.ensures.mine
          c.loop-view.invariant.within c.act-left.ensures.more
          (never_fewer (seen c.look_on-view.new.pass) (seen c.act-left.new.pass)
          c.look_on-view.ensures.entries));
      swept = λ off. c.count.ensures.swept (c.loop-view.invariant.swept off)
          (c.act-left.ensures.swept (c.plan_at-plan.ensures.none (c.is_due-due.ensures.never off)));
      some = search rules;
      follows = c.look_on-view.ensures.follows k
          (follow_then setup es (seen c.act-left.new.pass) c.in-Some.now c.act-left.result.view
          (λ m. IsKnown setup.system m setup.options.depth k) shown c.act-left.ensures.entries c.act-left.ensures.some c.act-left.ensures.changed known);
      none = search rules;
    }
