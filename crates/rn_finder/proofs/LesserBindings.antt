-- A search for the bindings that are less than one: where a branch of it may be given up, and what is
-- the first.
use Rattle.std.proofs.Common.{◌≡◌, ◌<◌, ◌+◌, ℕ, zero, suc, List, [], ◌∷◌, length}
use Rattle.std.proofs.Common.{subst, sym, refl, ap, ◌∙◌, arith, ⊎_elim, get_or}
use Rattle.std.specs.Prelude.{Option, Some, None, Contains, ◌↔◌, ◌⊎◌, nat_eq, zip}
use Rattle.std.specs.Prelude.{IfNone, IfSome, drop, slice_get}
use Rattle.std.specs.Ordering.{ordering_then, ordering_reverse}
use Rattle.std.specs.Cmp.Lexicographic.{slice_cmp}
use Rattle.std.specs.declared.cmp.Ordering.{Ordering}
use Rattle.std.specs.declared.cmp.Ordering.TheVariants.{Less, Equal, Greater}
use Rattle.std.proofs.lemmas.List.Elements.{All-contains}
use Rattle.rn_value.specs.Order.{value_cmp}
use Rattle.rn_value.specs.declared.value.Value.{Value}
use Rattle.rn_model.specs.declared.binding.Binding.{Binding}
use Rattle.rn_model.specs.declared.binding.Node.{Node}
use Rattle.rn_model.specs.Bindings.{IsNodeOf}
use Rattle.rn_model.specs.Good.{Good}
use Rattle.rn_model.specs.Lists.{value_beside}
use Rattle.rn_model.specs.Order.{binding_cmp, node_cmp}
use Rattle.rn_model.specs.link.OrderLaws.{binding_cmp-total}
use Rattle.rn_model.specs.Systems.{transition_of}
use Rattle.rn_model.proofs.EnablingLemmas.{not_in_nil}
use Rattle.rn_model.proofs.ItemsOfNodes.{below_each}
use Rattle.rn_model.proofs.MarkingsOfRuns.{good_transition}
use Rattle.rn_model.proofs.MarkingsStay.{Increases, from_strict}
use Rattle.rn_choices.specs.Leading.{NoneLeads}
use Rattle.rn_growing.specs.declared.decision.Head.{Head}
use Rattle.rn_growing.specs.Decisions.{head_of, transition_in}
use Rattle.rn_growing.specs.Equations.{IsForcedTo}
use Rattle.rn_growing.specs.Grown.{Grown}
use Rattle.rn_growing.proofs.Growth.{some_equal}
use Rattle.rn_search.specs.Missing.{MayStart}
use Rattle.rn_search.specs.Sought.{Sought, Leads}
use Rattle.rn_search.proofs.Known.{forced_are_its_values}
use Rattle.rn_search.proofs.OneBinding.{passed, here_is}
use Rattle.rn_looking.specs.Forced.{IsVarForcedTo}
use Rattle.rn_finder.specs.First.{IsFirstAmong}
use Rattle.rn_finder.specs.Lesser.{LeadsBelow, IsFirstLed, IsLesserBranch, IsPast, IsPastFirst}
use Rattle.rn_finder.proofs.FirstBindings.{begins, by_first, by_values}
use Rattle.rn_finder.proofs.StartingBindings.{head_is}

later : (x y : ℕ) (xs : List ℕ) → Contains xs y → Contains (x ∷ xs) y
later x y xs (k, within, at) = (suc k, omega (arith, within), at)

-- variables are past values from a place on, by the variable there
pub past_at : (g : Grown) (xs : List ℕ) (ws : List Value) (i d : ℕ) (w v : Value) → i < length xs →
    slice_get ws i ≡ Some w → IsVarForcedTo g [] (get_or xs i d) v →
    (value_cmp v w ≡ Greater)
    ⊎ ((value_cmp v w ≡ Equal) × IsPast g (drop (i + 1) xs) (drop (i + 1) ws)) →
    IsPast g (drop i xs) (drop i ws)
past_at g [] ws i d w v within at forced way = absurd (let no : ⊥ = omega (arith, within) in no)
past_at g (x ∷ xs) [] i d w v within at forced way = absurd (let no : ⊥ = cc in no)
past_at g (x ∷ xs) (u ∷ ws) zero d w v within at forced way =
    let same : u ≡ w = some_equal u w at in
    subst (λ z. IsPast g (x ∷ xs) (z ∷ ws)) (sym same) (v, forced, way)
past_at g (x ∷ xs) (u ∷ ws) (suc i) d w v within at forced way =
    let place : suc i + 1 ≡ suc (i + 1) = omega arith in
    past_at g xs ws i d w v (omega (arith, within)) at forced
    (subst (λ k. (value_cmp v w ≡ Greater)
    ⊎ ((value_cmp v w ≡ Equal) × IsPast g (drop k (x ∷ xs)) (drop k (u ∷ ws)))) place way)

-- where variables are past some values, so are the values that they are forced to
past_greater : (g : Grown) (xs : List ℕ) (vs ws : List Value) → Increases xs →
    length vs ≡ length xs →
    ((x : ℕ) (v : Value) → Contains xs x → IsVarForcedTo g [] x v →
    value_beside (zip xs vs) x ≡ Some v) →
    IsPast g xs ws → slice_cmp value_cmp vs ws ≡ Greater
past_greater g [] vs ws up many each past = absurd past
past_greater g (x ∷ xs) [] ws up many each past =
    absurd (let no : ⊥ = omega (arith, many) in no)
past_greater g (x ∷ xs) (u ∷ us) [] up many each past = absurd past
past_greater g (x ∷ xs) (u ∷ us) (w ∷ ws) up many each (v, forced, way) =
    let same : u ≡ v = some_equal u v
    (sym (here_is x u (value_beside (zip xs us) x)) ∙ each x v (0, omega arith, refl) forced) in
    ⊎_elim
    (λ (more : value_cmp v w ≡ Greater).
    ap (λ o. ordering_then o (slice_cmp value_cmp us ws))
    (subst (λ z. value_cmp z w ≡ Greater) (sym same) more))
    (λ (tied : (value_cmp v w ≡ Equal) × IsPast g xs ws).
    ap (λ o. ordering_then o (slice_cmp value_cmp us ws))
    (subst (λ z. value_cmp z w ≡ Equal) (sym same) tied.0)
    ∙ past_greater g xs us ws up.1 (omega (arith, many))
    (λ y z there is. sym (passed x y u (value_beside (zip xs us) y) (nat_eq x y) refl
    (below_each x y xs up there)) ∙ each y z (later x y xs there) is) tied.1)
    way

-- A branch that is past a binding leads to none that is less.
pub past_leads_nowhere : (sought : Sought) (than : Binding) (g : Grown) → Good sought.system →
    MayStart sought.system sought.marking sought.start → IsLesserBranch sought than g →
    0 < length g.decisions → IsPastFirst sought than g →
    NoneLeads (LeadsBelow sought than) g.decisions
past_leads_nowhere sought than g good may (branch, known) some (node, (rest, nodes), past) c
    (leads, less) =
    let system = sought.system in
    let start = sought.start in
    let at = begins system sought.marking sought.depth c start leads.enabled leads.starts may.path in
    let x = at.0 in
    let other = begins system sought.marking sought.depth than start known.enabled known.starts
    may.path in
    let as_first : other.0 ∷ other.1.0 ≡ node ∷ rest = sym other.1.1 ∙ nodes in
    let first : other.0 ≡ node = cc in
    let there : Contains c.nodes x =
    subst (λ ns. Contains ns x) (sym at.1.1) (0, omega arith, refl) in
    let of : IsNodeOf system x =
    All-contains (IsNodeOf system) c.nodes x leads.enabled.shape.nodes there in
    let vars_are : (transition_of system x).vars ≡ (transition_in system start).vars =
    ap (λ h. (transition_in system h).vars) at.2 in
    let t = good_transition system x.net x.transition good of.net of.transition in
    let up = from_strict (transition_of system x).vars t.its_vars.ascending in
    let root : x.path ≡ [] = ap (λ (h : Head). h.path) at.2 ∙ may.path in
    let each : (y : ℕ) (v : Value) → Contains (transition_of system x).vars y →
    IsVarForcedTo g [] y v →
    value_beside (zip (transition_of system x).vars x.values) y ≡ Some v = λ y v var forced.
    forced_are_its_values sought g.decisions c x y v leads branch.sound.turns some there var
    (subst (λ p. IsForcedTo system g.decisions (λ a. Some (a.var p y)) v) (sym root)
    (subst (λ s. IsForcedTo s g.decisions (λ a. Some (a.var [] y)) v) branch.system forced)) in
    let greater : slice_cmp value_cmp x.values node.values ≡ Greater =
    past_greater g (transition_of system x).vars x.values node.values up of.values each
    (subst (λ xs. IsPast g xs node.values) (sym vars_are) past) in
    let is = head_is start may.number may.path may.inst in
    let nodes_cmp : node_cmp x node ≡ Greater =
    by_values x node may.number start.net start.transition (at.2 ∙ is)
    (ap head_of (sym first) ∙ other.2 ∙ is) ∙ greater in
    let all : binding_cmp c than ≡ Greater =
    by_first c than x node at.1.0 rest at.1.1 nodes
    ∙ ap (λ o. ordering_then o (slice_cmp node_cmp at.1.0 rest)) nodes_cmp in
    let no : ⊥ = cc in
    no

-- The first.

flipped : (b c : Binding) → binding_cmp b c ≡ Greater → binding_cmp c b ≡ Less
flipped b c greater = binding_cmp-total.antisymm c b ∙ ap ordering_reverse greater

-- where none is less than a known one, that is the first
pub first_where_none : (sought : Sought) (than : Binding) → Leads sought [] than →
    NoneLeads (LeadsBelow sought than) [] → IsFirstLed sought than
first_where_none sought than known none =
    (known, λ c leads greater. none c (leads, flipped than c greater))

-- the first of all that are less
pub first_of_lesser : (sought : Sought) (than : Binding) (found : List Binding)
    (first : Option Binding) → Leads sought [] than →
    ((b : Binding) → Contains found b ↔ LeadsBelow sought than [] b) → IsFirstAmong found first →
    IfSome first (IsFirstLed sought)
first_of_lesser sought than found None known all among = tt
first_of_lesser sought than found (Some b) known all (there, least) =
    let mine = (all b).0 there in (
      mine.0,
      λ c leads greater. by_order c leads mine.1 greater (binding_cmp c than) refl,
    )
  where
    by_order : (c : Binding) → Leads sought [] c → binding_cmp b than ≡ Less →
        binding_cmp b c ≡ Greater → (o : Ordering) → binding_cmp c than ≡ o → ⊥
    by_order c leads below greater Less is = least c ((all c).1 (leads, is)) greater
    by_order c leads below greater Equal is =
        let same : binding_cmp c b ≡ binding_cmp than b = binding_cmp-total.congr c than b is in
        let back : binding_cmp than b ≡ Greater =
        binding_cmp-total.antisymm than b ∙ ap ordering_reverse below in
        let less = flipped b c greater in
        let no : ⊥ = cc in
        no
    by_order c leads below greater Greater is =
        let up = binding_cmp-total.trans b than c below (flipped c than is) in
        let no : ⊥ = cc in
        no

-- and where none is listed, the known one is
pub first_unless_lesser : (sought : Sought) (than : Binding) (found : List Binding)
    (first : Option Binding) → Leads sought [] than →
    ((b : Binding) → Contains found b ↔ LeadsBelow sought than [] b) → IsFirstAmong found first →
    IfNone first (IsFirstLed sought than)
first_unless_lesser sought than found None known all none =
    first_where_none sought than known
    (λ b below. not_in_nil b (subst (λ bs. Contains bs b) none ((all b).1 below)))
first_unless_lesser sought than found (Some b) known all among = tt

-- the first of some nodes, looked up
pub begins_with : (nodes : List Node) (node : Node) → slice_get nodes 0 ≡ Some node →
    (rest : List Node) × (nodes ≡ node ∷ rest)
begins_with [] node at = absurd (let no : ⊥ = cc in no)
begins_with (x ∷ xs) node at = (xs, ap (λ (y : Node). y ∷ xs) (some_equal x node at))
