-- An instance that two tokens name lives until both are taken.
-- net main { var x: net; place p: net; trans t { in p: x; } } net w { trans u { :c(); } }
use Rattle.std.proofs.Common.{◌≡◌, ℕ, zero, suc, Bool, true, false, List, [], ◌∷◌, refl, sym, ap}
use Rattle.std.proofs.Common.{◌∙◌, subst, arith}
use Rattle.std.specs.Prelude.{Some, Ok, Contains, IsTrue, codes, nat_eq}
use Rattle.rn_value.specs.declared.value.InstRef.TheVariants.{Old}
use Rattle.rn_value.specs.declared.value.Kind.TheVariants as Kind
use Rattle.rn_value.specs.declared.value.Value.{Value, fold_out-Value}
use Rattle.rn_value.specs.declared.value.Value.TheVariants as Value
use Rattle.rn_model.specs.declared.expr.Expr.TheVariants as E
use Rattle.rn_model.specs.declared.system.System.{System}
use Rattle.rn_model.specs.declared.system.ArcKind.TheVariants.{Input}
use Rattle.rn_model.specs.declared.binding.Binding.{Binding}
use Rattle.rn_model.specs.Lists.{count_of}
use Rattle.rn_model.specs.Systems.{empty_transition, may_start}
use Rattle.rn_model.specs.Markings.{Marking, tokens_at}
use Rattle.rn_model.specs.Firing.{fire}
use Rattle.rn_model.specs.Liveness.{IsLive, starts, held, mentions, mentions_step}
use Rattle.rn_model.specs.FiringLaws.{taken_by}
use Rattle.rn_model.proofs.EnablingLemmas.{not_in_nil}
use Rattle.rn_model.proofs.Examples.ExampleSystems.{arc_of, place_of, only_arcs, one_node, example_rules}
use Rattle.rn_model.proofs.NamingRules.{naming_rules}

abbrev sys : System
sys = record {
  nets =
      record {
        name = codes "main";
        vars = record { name = codes "x"; kind = Kind.Net } ∷ [];
        places = place_of Kind.Net [] ∷ [];
        transitions = only_arcs (0 ∷ []) (arc_of Input 0 (E.Var 0) ∷ []) ∷ [];
      }
      ∷ record {
        name = codes "w";
        vars = [];
        places = [];
        transitions =
            record empty_transition { uplink = Some (record { channel = 0; args = [] }) } ∷ [];
      }
      ∷ [];
  channels = record { name = codes "c"; kinds = [] } ∷ [];
}

abbrev second : Value
second = Value.Inst (Old 2)

-- instance 1 with these tokens, and instance 2
abbrev with_tokens : List Value → Marking
with_tokens tokens = record {
  next = 3;
  instances =
      record { number = 1; net = 0; places = tokens ∷ [] }
      ∷ record { number = 2; net = 1; places = [] }
      ∷ [];
}

abbrev taking : Binding
taking = one_node (second ∷ [])

-- one firing takes one of two,
first_taken : fire sys (with_tokens (second ∷ second ∷ [])) taking 1
    ≡ Ok (record { marking = with_tokens (second ∷ []); outs = [] })
first_taken = simp (example_rules, naming_rules, Value.outs-Inst)

-- and another the other
last_taken : fire sys (with_tokens (second ∷ [])) taking 2
    ≡ Ok (record { marking = with_tokens []; outs = [] })
last_taken = simp (example_rules, naming_rules, Value.outs-Inst)

-- one is taken, of two
taken_once : taken_by sys taking 3 1 0 ≡ second ∷ []
taken_once = simp (example_rules, naming_rules)

held_twice : count_of second (tokens_at (with_tokens (second ∷ second ∷ [])) 1 0) ≡ 2
held_twice = simp (example_rules, Value.outs-Inst)

mentioned : IsTrue (mentions second 2)
mentioned =
    ap (λ f. f 2) (fold_out-Value (ℕ → Bool) mentions_step second) ∙ rw (Value.outs-Inst (Old 2))

-- instance 2 lives while a token names it
lives : (tokens : List Value) → Contains tokens second → IsLive sys (with_tokens tokens) 2
lives tokens there =
    let first : IsLive sys (with_tokens tokens) 1 = starts {net = 0} refl refl in
    held 0 first there mentioned (_, refl)

lives_by_two : IsLive sys (with_tokens (second ∷ second ∷ [])) 2
lives_by_two = lives (second ∷ second ∷ []) (0, omega arith, refl)

lives_by_one : IsLive sys (with_tokens (second ∷ [])) 2
lives_by_one = lives (second ∷ []) (0, omega arith, refl)

no_tokens : (n place : ℕ) (one two : Bool) → nat_eq 1 n ≡ one → nat_eq 2 n ≡ two →
    tokens_at (with_tokens []) n place ≡ []
no_tokens n zero true two p q = rw p refl
no_tokens n (suc place) true two p q = rw p refl
no_tokens n place false true p q = rw (p, q) refl
no_tokens n place false false p q = rw (p, q) refl

-- and no longer
dead_by_none : ¬ IsLive sys (with_tokens []) 2
dead_by_none (starts {net = net} there may) =
    let is : 1 ≡ net = cc in
    let waits : IsTrue (may_start sys 1) = subst (λ k. IsTrue (may_start sys k)) (sym is) may in
    let no : ⊥ = cc in no
dead_by_none (held {holder = holder} {token = token} place live there names is) =
    not_in_nil token
    (subst (λ vs. Contains vs token)
    (no_tokens holder place (nat_eq 1 holder) (nat_eq 2 holder) refl refl) there)
