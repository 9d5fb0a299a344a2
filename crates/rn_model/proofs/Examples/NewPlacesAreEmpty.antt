-- The initial tokens of a new instance don't serve in the firing that makes it.
-- net main { var n: net; trans t { n: new w; n:c(); } } net w { place s = []; trans u { :c(); in s; } }
use Rattle.std.proofs.Common.{◌≡◌, [], ◌∷◌, refl, arith}
use Rattle.std.specs.Prelude.{Some, codes}
use Rattle.rn_value.specs.declared.value.InstRef.TheVariants.{Old, New}
use Rattle.rn_value.specs.declared.value.Kind.TheVariants as Kind
use Rattle.rn_value.specs.declared.value.Value.TheVariants as Value
use Rattle.rn_model.specs.declared.expr.Expr.TheVariants as E
use Rattle.rn_model.specs.declared.system.System.{System}
use Rattle.rn_model.specs.declared.system.Transition.{Transition}
use Rattle.rn_model.specs.declared.system.ArcKind.TheVariants.{Input}
use Rattle.rn_model.specs.declared.binding.Node.{Node}
use Rattle.rn_model.specs.declared.binding.Binding.{Binding}
use Rattle.rn_model.specs.Lists.{count_of}
use Rattle.rn_model.specs.Systems.{empty_transition}
use Rattle.rn_model.specs.Markings.{initial_marking, tokens, fresh_instance}
use Rattle.rn_model.specs.Demands.{taken_at}
use Rattle.rn_model.specs.Enabling.{Fits}
use Rattle.rn_model.proofs.Examples.ExampleSystems.{black, arc_of, place_of, example_rules}

abbrev t : Transition
t = record empty_transition { vars = 0 ∷ []; creations = record { var = 0; net = 1 } ∷ []; downlinks = record { target = E.Var 0; channel = 0; args = [] } ∷ [] }

abbrev u : Transition
u = record empty_transition { uplink = Some (record { channel = 0; args = [] }); arcs = arc_of Input 0 (E.Tuple []) ∷ [] }

abbrev sys : System
sys = record {
  nets =
      record { name = codes "main"; vars = record { name = codes "n"; kind = Kind.Net } ∷ []; places = []; transitions = t ∷ [] }
      ∷ record { name = codes "w"; vars = []; places = place_of (Kind.Tuple []) (black ∷ []) ∷ []; transitions = u ∷ [] }
      ∷ [];
  channels = record { name = codes "c"; kinds = [] } ∷ [];
}

abbrev root : Node
root = record { path = []; inst = Old 1; net = 0; transition = 0; values = Value.Inst (New [] 0) ∷ [] }

abbrev child : Node
child = record { path = 0 ∷ []; inst = New [] 0; net = 1; transition = 0; values = [] }

abbrev b : Binding
b = record { nodes = root ∷ child ∷ [] }

-- the new instance comes with a token,
comes_with_token : (fresh_instance sys 2 1).places ≡ (black ∷ []) ∷ []
comes_with_token = refl

-- which isn't there before the firing
empty_before : tokens (initial_marking sys) (New [] 0) 0 ≡ []
empty_before = refl

taken : taken_at sys b (New [] 0) 0 ≡ black ∷ []
taken = simp example_rules

not_fits : ¬ Fits sys (initial_marking sys) b
not_fits fits =
    let enough = (fits.places (New [] 0) 0).enough black in
    let one : count_of black (taken_at sys b (New [] 0) 0) ≡ 1 = rw taken (simp example_rules) in
    let none : count_of black (tokens (initial_marking sys) (New [] 0) 0) ≡ 0 = refl in
    let no : ⊥ = omega (arith, enough, one, none) in no
