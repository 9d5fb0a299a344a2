-- A guard whose operation is undefined isn't true: place p: int; trans t { in p: x; guard x + 1 > 0; }
use Rattle.std.proofs.Common.{◌≡◌, ℕ, pos, true, [], ◌∷◌, arith}
use Rattle.std.specs.Prelude.{Some, None}
use Rattle.rn_value.specs.declared.value.InstRef.TheVariants.{Old}
use Rattle.rn_value.specs.declared.value.Kind.TheVariants as Kind
use Rattle.rn_model.specs.declared.expr.Cond.{Cond}
use Rattle.rn_model.specs.declared.expr.Simple.TheVariants as Simple
use Rattle.rn_model.specs.declared.expr.CompareKind.TheVariants.{Greater}
use Rattle.rn_model.specs.declared.expr.Expr.TheVariants as E
use Rattle.rn_model.specs.declared.expr.OpKind.TheVariants.{Add}
use Rattle.rn_model.specs.declared.system.System.{System}
use Rattle.rn_model.specs.declared.system.ArcKind.TheVariants.{Input}
use Rattle.rn_model.specs.declared.binding.Node.{Node}
use Rattle.rn_model.specs.Systems.{empty_transition}
use Rattle.rn_model.specs.Evaluation.{truth}
use Rattle.rn_model.specs.Bindings.{env_of}
use Rattle.rn_model.specs.Agreement.{Agrees}
use Rattle.rn_model.proofs.Examples.ExampleSystems.{int, arc_of, place_of, one_net, int_var, one_node}
use Rattle.rn_model.proofs.EvaluationLemmas.{worth_rules}
use Rattle.rn_model.proofs.TruthLemmas.{cond_of, truth_rules}

abbrev after_is_positive : Cond
after_is_positive = cond_of ((Simple.Compare Greater (E.Op Add (E.Var 0) (E.Int (pos 1))) (E.Int (pos 0)) ∷ []) ∷ [])

abbrev sys : System
sys = one_net (int_var ∷ []) (place_of Kind.Int [] ∷ []) (record empty_transition { vars = 0 ∷ []; guards = after_is_positive ∷ []; arcs = arc_of Input 0 (E.Var 0) ∷ [] })

abbrev node : ℕ → Node
node x = record { path = []; inst = Old 1; net = 0; transition = 0; values = int x ∷ [] }

-- at 5 the guard is true
true_at_five : truth after_is_positive (env_of sys (node 5)) ≡ Some true
true_at_five = simp (worth_rules, truth_rules)

-- at the greatest number it has no truth, so the binding doesn't agree
undefined_at_greatest : truth after_is_positive (env_of sys (node 9223372036854775807)) ≡ None
undefined_at_greatest = simp (worth_rules, truth_rules)

not_agrees : ¬ Agrees sys (one_node (int 9223372036854775807 ∷ []))
not_agrees agrees =
    let guard : truth after_is_positive (env_of sys (node 9223372036854775807)) ≡ Some true = (agrees.nodes 0 (node 0) (omega arith)).guards 0 after_is_positive (omega arith) in
    let no : ⊥ = cc (undefined_at_greatest, guard) in no
