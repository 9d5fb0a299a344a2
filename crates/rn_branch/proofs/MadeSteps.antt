-- The values, the nodes and the binding that are made of decisions, step by step.
use Rattle.std.proofs.Common.{◌≡◌, ℕ, ◌+◌, ◌<◌, List, [], ◌∷◌, ◌++◌, length, get_or, take}
use Rattle.std.proofs.Common.{append-nil, refl, sym, ap, ◌∙◌, subst}
use Rattle.std.specs.Prelude.{Option, Some, ◌↔◌, Contains, All, flat_map}
use Rattle.std.specs.List.{AllZip}
use Rattle.std.specs.List.Sorted.{IsPermutation, IsSorted}
use Rattle.std.proofs.lemmas.Grind.{flat_map-append}
use Rattle.std.proofs.lemmas.List.{take_more, get_or_default}
use Rattle.rn_value.specs.declared.value.Value.{Value}
use Rattle.rn_model.specs.declared.system.System.{System}
use Rattle.rn_model.specs.declared.system.Transition.{Transition}
use Rattle.rn_model.specs.declared.binding.Node.{Node}
use Rattle.rn_model.specs.Order.{node_cmp}
use Rattle.rn_growing.specs.declared.decision.Head.{Head}
use Rattle.rn_growing.specs.declared.decision.Caller.{Caller}
use Rattle.rn_growing.specs.declared.decision.Decision.{Decision}
use Rattle.rn_growing.specs.declared.decision.Decision.TheVariants.{Entered, Found, Computed}
use Rattle.rn_growing.specs.Decisions.{head_of, transition_in}
use Rattle.rn_growing.specs.Equations.{IsForcedTo}
use Rattle.rn_growing.specs.Grown.{Grown}
use Rattle.rn_search.specs.Sought.{Sought}
use Rattle.rn_search.specs.Ending.{IsMadeOf}
use Rattle.rn_search.specs.Standing.{AreSound, IsHead}
use Rattle.rn_looking.specs.Branches.{IsBranchOf}
use Rattle.rn_looking.specs.Forced.{IsVarForcedTo, IsVarForcedIn}
use Rattle.rn_branch.specs.Making.{AreAllForced, AreMadeNodes, AreValues, IsForcedAt, IsMadeNode}
use Rattle.rn_branch.specs.Making.{entered_by}
use Rattle.rn_looking.proofs.ListsBeside.{zip_more, zip_last}
use Rattle.rn_branch.proofs.MadeNodes.{made_of_them}

-- what is returned of a variable
abbrev pub Tells : Grown → List ℕ → ℕ → Option Value → Type 0
Tells g path x told =
    (v : Value) → (told ≡ Some v) ↔ IsForcedTo g.system g.decisions (λ a. Some (a.var path x)) v

module _ (g : Grown) (path vars : List ℕ) (i : ℕ) (within : i < length vars)
    (told : Option Value) (tells : Tells g path (get_or vars i 0) told) where
  pub one_is_free : ((v : Value) → told ≡ Some v → ⊥) → ¬ All (IsVarForcedIn g path) vars
  one_is_free never all =
      let forced = all i 0 within in never forced.0 ((tells forced.0).1 forced.1)

  pub one_more_value : (v : Value) → told ≡ Some v → (before after : List Value) →
      after ≡ before ++ v ∷ [] → AreValues g path (take i vars) before →
      AreValues g path (take (i + 1) vars) after
  one_more_value v some before after is are =
      subst (AreValues g path (take (i + 1) vars)) (sym is)
      (zip_more (λ x v. IsVarForcedTo g path x v) vars before i (get_or vars i 0) v within
      (get_or_default vars i 0 (get_or vars i 0) within) are
      ((tells v).0 some))

-- a node of the values to which its variables are forced
pub node_made : (g : Grown) (system : System) (head copy : Head) (t : Transition)
    (vars : List ℕ) (values : List Value) (node : Node) → g.system ≡ system →
    t ≡ transition_in system head → vars ≡ t.vars → copy ≡ head → head_of node ≡ copy →
    node.values ≡ values → AreValues g head.path vars values → IsMadeNode g head node
node_made g system head copy t vars values node same is vars_are copied named valued are = (
  named ∙ copied,
  subst (λ vs. AreValues g head.path (transition_in g.system head).vars vs) (sym valued)
      (subst (λ s. AreValues g head.path (transition_in s head).vars values) (sym same)
      (subst (λ z. AreValues g head.path z.vars values) is
      (subst (λ xs. AreValues g head.path xs values) vars_are are))),
)

pub node_free : (g : Grown) (system : System) (head : Head) (t : Transition) (vars : List ℕ) →
    g.system ≡ system → t ≡ transition_in system head → vars ≡ t.vars →
    ¬ All (IsVarForcedIn g head.path) vars → ¬ IsForcedAt g head
node_free g system head t vars same is vars_are never all =
    never (subst (All (IsVarForcedIn g head.path)) (sym vars_are)
    (subst (λ z. All (IsVarForcedIn g head.path) z.vars) (sym is)
    (subst (λ s. All (IsVarForcedIn g head.path) (transition_in s head).vars) same all)))

pub enters_none : (d : Decision) →
    ((head : Head) (caller : Option Caller) → d ≡ Entered head caller → ⊥) → entered_by d ≡ []
enters_none (Entered head caller) other = absurd (other head caller refl)
enters_none (Found head k v) other = refl
enters_none (Computed head site way v) other = refl

-- Decision by decision.
module _ (g : Grown) (ds : List Decision) (are : ds ≡ g.decisions) (i : ℕ) (d : Decision)
    (within : i < length ds) (at : d ≡ get_or ds i d) where
  here : Contains g.decisions d
  here = subst (λ es. Contains es d) are (i, within, sym at)

  next_heads : flat_map entered_by (take (i + 1) ds)
      ≡ flat_map entered_by (take i ds) ++ entered_by d
  next_heads =
      ap (flat_map entered_by)
      (take_more ds i d within ∙ ap (λ e. take i ds ++ e ∷ []) (sym at))
      ∙ flat_map-append entered_by (take i ds) (d ∷ [])
      ∙ ap (λ hs. flat_map entered_by (take i ds) ++ hs) (append-nil (entered_by d))

  module _ (head : Head) (caller : Option Caller) (enters : d ≡ Entered head caller) where
    pub was_entered : (caller : Option Caller) × Contains g.decisions (Entered head caller)
    was_entered = (caller, subst (Contains g.decisions) enters here)

    pub one_not_forced : ¬ IsForcedAt g head → ¬ AreAllForced g
    one_not_forced never all = never (all head was_entered)

    pub one_more_node : (node : Node) (before after : List Node) → after ≡ before ++ node ∷ [] →
        IsMadeNode g head node → AreMadeNodes g (take i ds) before →
        AreMadeNodes g (take (i + 1) ds) after
    one_more_node node before after is made nodes =
        subst (AreMadeNodes g (take (i + 1) ds)) (sym is)
        (subst (λ hs. AllZip (IsMadeNode g) hs (before ++ node ∷ []))
        (sym (next_heads
        ∙ ap (λ e. flat_map entered_by (take i ds) ++ entered_by e) enters))
        (zip_last (IsMadeNode g) (flat_map entered_by (take i ds)) before head node nodes made))

    -- its node is one of the system
    pub head_is_there : (sought : Sought) → IsBranchOf sought g →
        IsHead sought.system sought.depth head
    head_is_there sought branch =
        branch.sound.heads (Entered head caller) (subst (Contains g.decisions) enters here)

  pub no_more_nodes : entered_by d ≡ [] → (nodes : List Node) →
      AreMadeNodes g (take i ds) nodes → AreMadeNodes g (take (i + 1) ds) nodes
  no_more_nodes none nodes all =
      subst (λ hs. AllZip (IsMadeNode g) hs nodes)
      (sym (next_heads ∙ ap (λ hs. flat_map entered_by (take i ds) ++ hs) none
      ∙ append-nil (flat_map entered_by (take i ds)))) all

-- and all of them
pub binding_made : (sought : Sought) (g : Grown) → IsBranchOf sought g →
    (made sorted : List Node) → AreMadeNodes g g.decisions made → IsSorted node_cmp sorted →
    IsPermutation made sorted → IsMadeOf sought.system g.decisions (record { nodes = sorted })
binding_made sought g branch made sorted are ordered same =
    subst (λ s. IsMadeOf s g.decisions (record { nodes = sorted })) branch.system
    (made_of_them g sought.marking sought.depth
    (subst (λ s. AreSound s sought.marking sought.depth g.decisions) (sym branch.system)
    branch.sound)
    made sorted are ordered same)
