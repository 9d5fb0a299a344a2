-- What a node after some of its actions is read as. This only connects the code to the definitions.
use Rattle.std.specs.Prelude.{◌≡◌, Bool, List, [], ◌∷◌, Option, Some, None, option_map, reverse}
use Rattle.std.specs.Prelude.{◌++◌, if◌then◌else◌, ⊤}
use Rattle.rn_model.specs.declared.system.Action.{Action}
use Rattle.rn_model.specs.declared.system.Action.TheVariants.{Set, Print}
use Rattle.rn_model.specs.Evaluation.{Env, worth}
use Rattle.rn_model.specs.ExpressionLaws.{OperandsAreFit}
use Rattle.rn_model.specs.Firing.{Acts, with_set, with_out}
use Rattle.rn_model.specs.Good.{action_expr}
use Rattle.rn_calc.specs.link.NodeValues.{lent_env}
use Rattle.rn_acts.specs.declared.acting.Acting.{Acting}

-- the node's own values, and in front of them those that actions have set, the last one first
abbrev pub env_acting : Acting → Env
env_acting a = record (lent_env a.known) {
  step = Some a.step;
  pairs = reverse a.set ++ (lent_env a.known).pairs;
}

-- the same with what was printed
abbrev pub acts_of : Acting → Acts
acts_of a = record { env = env_acting a; outs = a.outs }

-- one action, where its expression has a value
abbrev pub action_of : Action → Acts → Option Acts
action_of (Set x e) acts = option_map (λ v. with_set x v acts) (worth e acts.env)
action_of (Print e) acts = option_map (λ v. with_out v acts) (worth e acts.env)

-- Each of these actions computes with fit operands, whatever those before it have set.
abbrev pub AreFitActions : List Action → Acts → Type 0
AreFitActions [] acts = ⊤
AreFitActions (action ∷ actions) acts =
    OperandsAreFit acts.env (action_expr action)
    × ((next : Acts) → action_of action acts ≡ Some next → AreFitActions actions next)

-- what there is where all was done, and else nothing
abbrev pub if_done : {A : Type 0} → Bool → A → Option A
if_done done x = if done then Some x else None
