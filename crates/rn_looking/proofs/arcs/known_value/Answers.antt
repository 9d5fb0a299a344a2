-- The value under what is known.
use Rattle.std.proofs.Common.{◌≡◌, refl, sym, subst}
use Rattle.std.specs.Prelude.{Option, Some, None, IfSome}
use Rattle.std.proofs.lemmas.Result.{IfOk-weaker}
use Rattle.rn_value.specs.declared.value.Value.{Value}
use Rattle.rn_model.specs.declared.expr.Expr.{Expr}
use Rattle.rn_model.specs.Evaluation.{Env, worth}
use Rattle.rn_growing.specs.declared.decision.Head.{Head}
use Rattle.rn_growing.specs.Grown.{Grown}
use Rattle.rn_looking.specs.Knowing.{Knows, KnowsVars, IsKnownValue, known_env}
use Rattle.rn_looking.specs.NodeKinds.{KnowsForced}
use Rattle.rn_looking.proofs.KindedValues.{known_fits, known_kind}
use Rattle.rn_looking.proofs.arcs.known_value.Goals as goal

known_value : (g : Grown) (head : Head) (e : Expr) (env : Env) → Knows g head e env →
    (told : Option Value) → told ≡ worth e env → IfSome told (λ v. IsKnownValue g head e v)
known_value g head e env knows None is = tt
known_value g head e env knows (Some v) is = (env, knows, sym is)

pub evaluate-requires-clause-fit : goal.evaluate-requires-clause-fit
evaluate-requires-clause-fit c =
    known_fits c.args.growing.now c.args.head.now c.args.expr.now (known_env c.in-Some.known)
    c.in-Some.known.pairs.items refl c.requires.kinds
    (subst (KnowsForced c.args.growing.now c.args.head.now) c.in-Some.is c.in_ok-known.ensures.forced)

pub returns-clause-kind : goal.returns-clause-kind
returns-clause-kind c =
    IfOk-weaker _ _ _ (known_kind c.args.growing.now c.args.head.now c.args.expr.now
    (known_env c.in-Some.known) c.in-Some.known.pairs.items refl c.requires.kinds
    (subst (KnowsForced c.args.growing.now c.args.head.now) c.in-Some.is
    c.in_ok-known.ensures.forced)) c.evaluate.ensures.value

pub returns-clause-value : goal.returns-clause-value
returns-clause-value c =
    IfOk-weaker _ _ _ (λ told is. known_value c.args.growing.now c.args.head.now
    c.args.expr.now (known_env c.in-Some.known)
    (subst (KnowsVars c.args.growing.now c.args.head.now c.args.expr.now) c.in-Some.is
    c.in_ok-known.ensures.knows) told is) c.evaluate.ensures.value
