-- By the decisions that have the thing's key.
use Rattle.std.proofs.Common.{◌≡◌, ◌-◌, arith, subst, sym, ◌∙◌, length}
use Rattle.std.specs.Prelude.{Some, slice_get}
use Rattle.rn_chains.specs.link.Chains.{IsUpToLast}
use Rattle.rn_growing.specs.link.Indexed.{IsSought}
use Rattle.rn_growing.specs.Decided.{is_on}
use Rattle.rn_growing.specs.link.DecisionKeys.{decision_key, thing_key}
use Rattle.rn_growing.proofs.Growth.{stands_at}
use Rattle.rn_growing.proofs.KeySteps.{sought_first, sought_next, none_any, some_any}
use Rattle.rn_growing.proofs.ThingKeys.{thing_alike}
use Rattle.rn_growing.proofs.thing.is_decided.Goals as goal

pub loop-left-init : goal.loop-left-init
loop-left-init c =
    sought_first decision_key c.args.decisions.now c.args.keys.now c.requires
    (thing_key c.args.thing.now) (is_on c.args.thing.now) (thing_alike c.args.thing.now)
    c.last-left.result
    (subst (λ k. IsUpToLast (λ j. j ≡ k) c.args.keys.now (length c.args.keys.now)
    c.last-left.result) c.key_of_thing.ensures c.last-left.ensures)

pub returns-then-is_on : goal.returns-then-is_on
returns-then-is_on c =
    let at : slice_get c.args.decisions.now (c.loop-left.left - 1)
    ≡ Some c.index-decisions-left.result =
    stands_at c.args.decisions.now (c.loop-left.left - 1) c.index-decisions-left.result
    (let h = c.loop-left.invariant.within in omega (arith, h)) c.index-decisions-left.is in
    sym (some_any (is_on c.args.thing.now) c.args.decisions.now (c.loop-left.left - 1)
    c.index-decisions-left.result at (sym c.is_on.ensures ∙ c.if-is_on.true))

pub loop-left-preserved : goal.loop-left-preserved
loop-left-preserved c =
    let at : slice_get c.args.decisions.now (c.loop-left.left - 1)
    ≡ Some c.index-decisions-left.result =
    stands_at c.args.decisions.now (c.loop-left.left - 1) c.index-decisions-left.result
    (let h = c.loop-left.invariant.within in omega (arith, h)) c.index-decisions-left.is in
    sought_next decision_key c.args.decisions.now c.args.keys.now c.requires
    (thing_key c.args.thing.now) (is_on c.args.thing.now) (thing_alike c.args.thing.now)
    c.loop-left.left
    (c.loop-left.left - 1) c.before-left.result c.index-decisions-left.result c.loop-left.invariant
    (omega arith) at (sym c.is_on.ensures ∙ c.if-is_on.false) c.before-left.ensures

pub returns : goal.returns
returns c =
    let end : c.loop-left.left ≡ 0 = omega arith in
    sym (none_any decision_key c.args.decisions.now c.args.keys.now c.requires
    (thing_key c.args.thing.now) (is_on c.args.thing.now) (thing_alike c.args.thing.now)
    (subst (IsSought c.args.keys.now (thing_key c.args.thing.now) (is_on c.args.thing.now)
    c.args.decisions.now) end c.loop-left.invariant))
