-- The ends of a log of the system that fires once.
-- net main { place p = []; place q; trans t { in p; out q; } }
use Rattle.std.proofs.Common.{◌≡◌, ℕ, zero, suc, ◌<◌, Bool, true, false, List, [], ◌∷◌, length, refl, sym, ap, ◌∙◌, subst, arith}
use Rattle.std.specs.Prelude.{Some, None, Contains, nat_eq}
use Rattle.std.proofs.lemmas.List.Elements.{All-contains}
use Rattle.std.proofs.Math.Dec.{T, eqb→eq}
use Rattle.std.proofs.lemmas.Option.{same_Some}
use Rattle.rn_value.specs.declared.value.InstRef.{InstRef}
use Rattle.rn_value.specs.declared.value.InstRef.TheVariants.{Old}
use Rattle.rn_value.specs.declared.value.Value.{Value}
use Rattle.rn_model.specs.declared.binding.Node.{Node}
use Rattle.rn_model.specs.declared.binding.Binding.{Binding}
use Rattle.rn_model.specs.declared.log.Options.{Options}
use Rattle.rn_model.specs.declared.log.Reason.TheVariants.{Dead, Steps, Memory}
use Rattle.rn_model.specs.Systems.{net_at, transition_of}
use Rattle.rn_model.specs.Markings.{net_of}
use Rattle.rn_model.specs.Bindings.{IsNodeOf, node_at}
use Rattle.rn_model.specs.Enabling.{Enabled, DeadAt}
use Rattle.rn_model.specs.Runs.{Run, Log, IsTrueEnd}
use Rattle.rn_model.proofs.SingleNodes.{single_node}
use Rattle.rn_model.proofs.Examples.FiresOnce.{sys, b, n, then_m, first, enabled, run, ends, not_again}

below_one : (k : ℕ) → k < 1 → k ≡ 0
below_one zero h = refl
below_one (suc k) h = let no : ⊥ = omega (arith, h) in absurd no

no_values : (vs : List Value) → length vs ≡ 0 → vs ≡ []
no_values [] e = refl
no_values (v ∷ vs) e = let no : ⊥ = omega (arith, e) in absurd no

-- only instance 1 is there
number_of : (k net : ℕ) (found : Bool) → nat_eq 1 k ≡ found → net_of then_m k ≡ Some net → (1 ≡ k) × (0 ≡ net)
number_of k net true is e =
    let here : 1 ≡ k = eqb→eq 1 k (subst T (sym is) tt) in
    let at_one : net_of then_m 1 ≡ Some net = subst (λ j. net_of then_m j ≡ Some net) (sym here) e in
    (here, same_Some 0 net at_one)
number_of k net false is e = let none : None ≡ Some net = rw is at e in let no : ⊥ = cc in absurd no

no_downlinks : (node : Node) → IsNodeOf sys node → (transition_of sys node).downlinks ≡ []
no_downlinks node of =
    let net : node.net ≡ 0 = below_one node.net of.net in
    let transition : node.transition ≡ 0 = below_one node.transition (subst (λ k. node.transition < length (net_at sys k).transitions) net of.transition) in
    rw (net, transition) refl

abbrev of_parts : List ℕ → InstRef → ℕ → ℕ → List Value → Node
of_parts path inst net transition values = record { path = path; inst = inst; net = net; transition = transition; values = values }

abbrev of_node : Node → Binding
of_node node = record { nodes = node ∷ [] }

-- an enabled binding would be the one that has fired
node_is : (node : Node) (k : ℕ) → node.path ≡ [] → node.inst ≡ Old k → net_of then_m k ≡ Some node.net → IsNodeOf sys node → node ≡ n
node_is node k at_start inst there of =
    let found = number_of k node.net (nat_eq 1 k) refl there in
    let number : k ≡ 1 = sym found.0 in
    let net : node.net ≡ 0 = sym found.1 in
    let transition : node.transition ≡ 0 = below_one node.transition (subst (λ j. node.transition < length (net_at sys j).transitions) net of.transition) in
    let many : length node.values ≡ 0 = of.values ∙ rw (net, transition) refl in
    let values : node.values ≡ [] = no_values node.values many in
    let on : node.inst ≡ Old 1 = inst ∙ ap Old number in
    let same : of_parts node.path node.inst node.net node.transition node.values ≡ of_parts [] (Old 1) 0 0 [] = cc in
    same

nothing_enabled : (depth : ℕ) → DeadAt sys then_m depth
nothing_enabled depth c e =
    let one = single_node sys c depth e.shape (λ x h. no_downlinks x (All-contains (IsNodeOf sys) c.nodes x e.shape.nodes h)) in
    let node = one.0 in
    let here : node_at (of_node node) [] ≡ Some e.shape.start.0 = subst (λ d. node_at d [] ≡ Some e.shape.start.0) one.1 e.shape.start.1 in
    let there : Contains c.nodes node = subst (λ d. Contains d.nodes node) (sym one.1) (0, omega arith, refl) in
    let found : node_at (of_node node) [] ≡ Some node = rw one.2 refl in
    let start : node ≡ e.shape.start.0 = same_Some node e.shape.start.0 (sym found ∙ here) in
    let exists = e.shape.start.2.exists in
    let on : node.inst ≡ Old exists.0 = ap (λ x. x.inst) start ∙ exists.1 in
    let net = All-contains (λ x. (k : ℕ) → x.inst ≡ Old k → net_of then_m k ≡ Some x.net) c.nodes node e.fits.there there exists.0 on in
    let is_n : node ≡ n = node_is node exists.0 one.2 on net (All-contains (IsNodeOf sys) c.nodes node e.shape.nodes there) in
    let is_b : c ≡ b = one.1 ∙ ap of_node is_n in
    not_again depth (subst (λ d. Enabled sys then_m d depth) is_b e)

abbrev up_to : ℕ → Options
up_to steps = record { workers = 1; steps = steps; depth = 4; sweep_every = 0 }

-- after its one firing the log ends as dead
ends_dead : Log sys (up_to 1000) (first ∷ []) (Some Dead)
ends_dead = record { run = run; steps = omega arith; ends = (subst (λ after. DeadAt sys after 4) (sym ends) (nothing_enabled 4), omega arith) }

-- and not before, since a binding is enabled
not_dead : ¬ IsTrueEnd sys (up_to 1000) [] Dead
not_dead dead = dead.0 b enabled

-- at the step limit the end is Steps, also where nothing is enabled
ends_at_limit : Log sys (up_to 1) (first ∷ []) (Some Steps)
ends_at_limit = record { run = run; steps = omega arith; ends = refl }

not_dead_at_limit : ¬ IsTrueEnd sys (up_to 1) (first ∷ []) Dead
not_dead_at_limit dead = let no : ⊥ = omega (arith, dead.1) in no

-- with a limit of 0 it is Steps at once
ends_at_once : Log sys (up_to 0) [] (Some Steps)
ends_at_once = record { run = tt; steps = omega arith; ends = refl }

-- below the limit it isn't Steps
not_steps : ¬ IsTrueEnd sys (up_to 1000) (first ∷ []) Steps
not_steps steps = let no : ⊥ = omega (arith, steps) in no

-- a log holds no more firings than the limit
not_past_limit : ¬ Log sys (up_to 0) (first ∷ []) None
not_past_limit log = let no : ⊥ = omega (arith, log.steps) in no

-- memory may fail at any time
ends_in_memory : Log sys (up_to 1000) [] (Some Memory)
ends_in_memory = record { run = tt; steps = omega arith; ends = tt }

-- a firing isn't repeated where its token is gone
not_a_run : ¬ Run sys 4 (first ∷ first ∷ [])
not_a_run both = not_again 4 (subst (λ after. Enabled sys after b 4) ends both.1.0.enabled)
