use Rattle.std.proofs.Common.{◌≡◌}
use Rattle.std.proofs.lemmas.Result.{IfOk-weaker}
use Rattle.std.specs.Prelude.{Some, None, IsNone, ◌↔◌}
use Rattle.rn_value.specs.declared.value.Value.{Value}
use Rattle.rn_term.specs.Occurring.{HasFree}
use Rattle.rn_term.specs.Forcing.{IsForced, IsAnswer}
use Rattle.rn_term.proofs.GroundingLemmas.{none_where_free, some_where_forced}
use Rattle.rn_term.proofs.store.Store.ground.Goals as goal

pub returns-clause-none : goal.returns-clause-none
returns-clause-none c =
    let s = c.args.self.now in
    IfOk-weaker c.value_of.result (IsAnswer s c.args.id) (λ o. IsNone o ↔ HasFree s c.args.id)
    (λ o answer. none_where_free s c.args.id o c.value_of.ensures.kept c.requires.within answer)
    c.value_of.ensures.answer

pub returns-clause-some : goal.returns-clause-some
returns-clause-some c =
    let s = c.args.self.now in
    IfOk-weaker c.value_of.result (IsAnswer s c.args.id)
    (λ o. (v : Value) → (o ≡ Some v) ↔ IsForced s c.args.id v)
    (λ o answer v. some_where_forced s c.args.id o v c.value_of.ensures.kept c.requires.within answer)
    c.value_of.ensures.answer

pub returns-then-branch-clause-some : goal.returns-then-branch-clause-some
returns-then-branch-clause-some c = λ v.
    let found = c.in_ok-has_sought.ensures.exact.0 c.if-branch.true in
    some_where_forced c.args.self.now c.args.id None v c.is_composed.ensures.kept
    c.requires.within (found.0, found.1, found.3)
