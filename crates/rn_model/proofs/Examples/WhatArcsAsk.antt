-- What arcs ask, and which markings meet it, in systems of one transition.
use Rattle.std.proofs.Common.{◌≡◌, pos, List, [], ◌∷◌, refl, sym, subst, arith}
use Rattle.std.specs.Prelude.{Contains}
use Rattle.rn_value.specs.declared.value.InstRef.TheVariants.{Old}
use Rattle.rn_value.specs.declared.value.Kind.TheVariants as Kind
use Rattle.rn_value.specs.declared.value.Value.{Value}
use Rattle.rn_value.specs.declared.value.Value.TheVariants as Value
use Rattle.rn_model.specs.declared.expr.Expr.TheVariants as E
use Rattle.rn_model.specs.declared.system.System.{System}
use Rattle.rn_model.specs.declared.system.ArcKind.TheVariants.{Input, Test, Reserve, FlexInput, FlexOutput, Inhibit, Clear}
use Rattle.rn_model.specs.declared.system.NetArc.{NetArc}
use Rattle.rn_model.specs.declared.binding.Binding.{Binding}
use Rattle.rn_model.specs.Lists.{count_of}
use Rattle.rn_model.specs.Demands.{taken_at, put_at, tested_at, inhibited_at, cleared_at, rest_at}
use Rattle.rn_model.specs.Markings.{initial_marking, tokens}
use Rattle.rn_model.specs.Enabling.{PlaceFits}
use Rattle.rn_model.proofs.Examples.ExampleSystems.{int, arc_of, place_of, only_arcs, one_net, int_var, one_node, example_rules}
use Rattle.rn_model.proofs.EnablingLemmas.{not_in_nil}

abbrev system : List Value → List NetArc → System
system values arcs = one_net (int_var ∷ int_var ∷ []) (place_of Kind.Int values ∷ place_of Kind.Int [] ∷ []) (only_arcs (0 ∷ 1 ∷ []) arcs)

-- x and y are 5
abbrev b : Binding
b = one_node (int 5 ∷ int 5 ∷ [])

abbrev five : List Value
five = int 5 ∷ []

-- in p: x; test p: x;
abbrev in_and_test : List Value → System
in_and_test values = system values (arc_of Input 0 (E.Var 0) ∷ arc_of Test 0 (E.Var 0) ∷ [])

tested_five : (vs : List Value) → tested_at (in_and_test vs) b (Old 1) 0 ≡ five
tested_five vs = simp example_rules

rest_of_one : rest_at (in_and_test five) b (Old 1) 0 (tokens (initial_marking (in_and_test five)) (Old 1) 0) ≡ []
rest_of_one = simp example_rules

-- with one token 5 the test isn't met
test_of_one : ¬ PlaceFits (in_and_test five) (initial_marking (in_and_test five)) b (Old 1) 0
test_of_one fits =
    let asked_at : Contains (tested_at (in_and_test five) b (Old 1) 0) (int 5) = subst (λ vs. Contains vs (int 5)) (sym (tested_five five)) (0, omega arith, refl) in
    not_in_nil (int 5) (subst (λ vs. Contains vs (int 5)) rest_of_one (fits.left (int 5) asked_at))

-- with two it is: one 5 remains
rest_of_two : rest_at (in_and_test (int 5 ∷ five)) b (Old 1) 0 (tokens (initial_marking (in_and_test (int 5 ∷ five))) (Old 1) 0) ≡ five
rest_of_two = simp example_rules

-- reserve p: x; reserve p: y;
abbrev two_reserves : System
two_reserves = system five (arc_of Reserve 0 (E.Var 0) ∷ arc_of Reserve 0 (E.Var 1) ∷ [])

taken_twice : taken_at two_reserves b (Old 1) 0 ≡ int 5 ∷ five
taken_twice = simp example_rules

put_back : put_at two_reserves b (Old 1) 0 ≡ int 5 ∷ five
put_back = simp example_rules

not_twice : ¬ PlaceFits two_reserves (initial_marking two_reserves) b (Old 1) 0
not_twice fits =
    let asked_at : count_of (int 5) (taken_at two_reserves b (Old 1) 0) ≡ 2 = rw taken_twice (simp example_rules) in
    let there : count_of (int 5) (tokens (initial_marking two_reserves) (Old 1) 0) ≡ 1 = simp example_rules in
    let no : ⊥ = omega (arith, fits.enough (int 5), asked_at, there) in no

-- clear p: l; with tokens 3, 1, 2 and l = {1,2,3}
abbrev clearing : System
clearing = system (int 3 ∷ int 1 ∷ int 2 ∷ []) (arc_of Clear 0 (E.Var 0) ∷ [])

abbrev all_three : List Value
all_three = int 1 ∷ int 2 ∷ int 3 ∷ []

abbrev cleared_b : Binding
cleared_b = one_node (Value.List all_three ∷ int 0 ∷ [])

ascending : tokens (initial_marking clearing) (Old 1) 0 ≡ all_three
ascending = simp example_rules

cleared_all : cleared_at clearing cleared_b (Old 1) 0 ≡ all_three ∷ []
cleared_all = simp example_rules

-- the list stands as it is in the binding, so another order isn't met
another_order : cleared_at clearing (one_node (Value.List (int 3 ∷ int 1 ∷ int 2 ∷ []) ∷ int 0 ∷ [])) (Old 1) 0 ≡ (int 3 ∷ int 1 ∷ int 2 ∷ []) ∷ []
another_order = simp example_rules

-- flexin p: {5,5} takes both, and flexout q: {7,8,7} puts three
abbrev flexible : System
flexible = system (int 5 ∷ five) (arc_of FlexInput 0 (E.List (E.Var 0 ∷ E.Var 1 ∷ [])) ∷ arc_of FlexOutput 1 (E.List (E.Int (pos 7) ∷ E.Int (pos 8) ∷ E.Int (pos 7) ∷ [])) ∷ [])

taken_each : taken_at flexible b (Old 1) 0 ≡ int 5 ∷ five
taken_each = simp example_rules

put_each : put_at flexible b (Old 1) 1 ≡ int 7 ∷ int 7 ∷ int 8 ∷ []
put_each = simp example_rules

-- in p: x; inhibit p: x; the token that is taken forbids the firing too
abbrev inhibiting : System
inhibiting = system five (arc_of Input 0 (E.Var 0) ∷ arc_of Inhibit 0 (E.Var 0) ∷ [])

inhibited_five : inhibited_at inhibiting b (Old 1) 0 ≡ five
inhibited_five = simp example_rules

not_inhibited : ¬ PlaceFits inhibiting (initial_marking inhibiting) b (Old 1) 0
not_inhibited fits =
    fits.absent (int 5) (subst (λ vs. Contains vs (int 5)) (sym inhibited_five) (0, omega arith, refl)) (0, omega arith, refl)
