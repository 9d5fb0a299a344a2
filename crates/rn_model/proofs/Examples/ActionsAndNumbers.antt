-- Actions, and the numbers of new instances.
use Rattle.std.proofs.Common.{◌≡◌, pos, [], ◌∷◌, refl, true, false}
use Rattle.std.specs.Prelude.{Ok, Err, codes}
use Rattle.rn_value.specs.declared.value.InstRef.TheVariants.{Old, New}
use Rattle.rn_value.specs.declared.value.Kind.TheVariants as Kind
use Rattle.rn_value.specs.declared.value.Value.TheVariants as Value
use Rattle.rn_model.specs.declared.expr.Expr.TheVariants as E
use Rattle.rn_model.specs.declared.expr.OpKind.TheVariants.{Add, Mul}
use Rattle.rn_model.specs.declared.system.System.{System}
use Rattle.rn_model.specs.declared.system.Action.TheVariants.{Set, Print}
use Rattle.rn_model.specs.declared.system.ArcKind.TheVariants.{Input, Output}
use Rattle.rn_model.specs.declared.log.FaultKind.TheVariants as Fault
use Rattle.rn_model.specs.Systems.{empty_transition}
use Rattle.rn_model.specs.Markings.{Marking, initial_marking}
use Rattle.rn_model.specs.Firing.{fire, named, too_many}
use Rattle.rn_model.proofs.Examples.ExampleSystems.{int, black, arc_of, place_of, one_net, int_var, one_node, example_rules}
use Rattle.rn_model.proofs.DerivationLemmas.{var_rules}
use Rattle.rn_model.proofs.NamingRules.{naming_rules}

-- in go; action n = step() * 10; action print [n,"a"]; out q: n;
abbrev tens : System
tens = one_net (int_var ∷ []) (place_of (Kind.Tuple []) (black ∷ []) ∷ place_of Kind.Int [] ∷ [])
    (record empty_transition {
      action_vars = 0 ∷ [];
      actions = Set 0 (E.Op Mul E.Step (E.Int (pos 10))) ∷ Print (E.Tuple (E.Var 0 ∷ E.Text (codes "a") ∷ [])) ∷ [];
      arcs = arc_of Input 0 (E.Tuple []) ∷ arc_of Output 1 (E.Var 0) ∷ [];
    })

abbrev after : Marking
after = record { next = 2; instances = record { number = 1; net = 0; places = [] ∷ (int 10 ∷ []) ∷ [] } ∷ [] }

acted : fire tens (initial_marking tens) (one_node []) 1 ≡ Ok (record { marking = after; outs = Value.Tuple (int 10 ∷ Value.Text (codes "a") ∷ []) ∷ [] })
acted = simp (example_rules, var_rules)

-- in p: x; action y = x + 1; at the greatest number
abbrev past : System
past = one_net (int_var ∷ int_var ∷ []) (place_of Kind.Int (int 9223372036854775807 ∷ []) ∷ [])
    (record empty_transition { vars = 0 ∷ []; action_vars = 1 ∷ []; actions = Set 1 (E.Op Add (E.Var 0) (E.Int (pos 1))) ∷ []; arcs = arc_of Input 0 (E.Var 0) ∷ [] })

undefined_action : fire past (initial_marking past) (one_node (int 9223372036854775807 ∷ [])) 1 ≡ Err Fault.Action
undefined_action = simp (example_rules, naming_rules)

-- two creations of one node get the next two numbers; what names no creation stays
abbrev making : System
making = one_net [] [] (record empty_transition { vars = 0 ∷ 1 ∷ 2 ∷ []; creations = record { var = 0; net = 0 } ∷ record { var = 1; net = 0 } ∷ [] })

numbered : named making (one_node (Value.Inst (New [] 0) ∷ Value.Tuple (Value.Inst (New [] 1) ∷ []) ∷ Value.Inst (New (3 ∷ []) 0) ∷ [])) 7
    ≡ one_node (Value.Inst (Old 7) ∷ Value.Tuple (Value.Inst (Old 8) ∷ []) ∷ Value.Inst (New (3 ∷ []) 0) ∷ [])
numbered = simp naming_rules

-- the last number is 1,000,000
last_number : too_many 999901 100 ≡ false
last_number = refl

one_more : too_many 999902 100 ≡ true
one_more = refl

none_made : too_many 1000001 0 ≡ false
none_made = refl
