-- When the entry of a node may come in.
use Rattle.std.proofs.Common.{◌≡◌, ℕ, true, false, List, [], ◌∷◌, ◌++◌, length}
use Rattle.std.proofs.Common.{length-append, sym, ap, ◌∙◌, subst, arith}
use Rattle.std.proofs.lemmas.List.{same_from_push}
use Rattle.std.specs.Prelude.{Contains, Option, None, Some, slice_get}
use Rattle.std.specs.List.{list_any}
use Rattle.rn_value.specs.declared.value.InstRef.{InstRef}
use Rattle.rn_value.specs.declared.value.Value.TheVariants as Worth
use Rattle.rn_model.specs.declared.system.System.{System}
use Rattle.rn_model.specs.declared.system.Downlink.{Downlink}
use Rattle.rn_model.specs.declared.binding.Node.{Node}
use Rattle.rn_model.specs.declared.binding.Binding.{Binding}
use Rattle.rn_model.specs.Systems.{transition_of}
use Rattle.rn_model.specs.Bindings.{Calls, node_at}
use Rattle.rn_model.specs.Derivation.{Item, entry, items_of, target, MayEnter}
use Rattle.rn_model.specs.Derivation.{term_value_at}
use Rattle.rn_model.specs.RoundLaws.{listed}
use Rattle.rn_model.proofs.NodesByPath.{node_at-path}
use Rattle.rn_model.proofs.ForcedValues.{targets_are_children}
use Rattle.rn_growing.specs.declared.decision.Caller.{Caller}
use Rattle.rn_growing.specs.declared.decision.Decision.{Decision}
use Rattle.rn_growing.specs.declared.decision.Decision.TheVariants.{Entered, Found, Computed}
use Rattle.rn_growing.specs.Decisions.{head_of, AreOn}
use Rattle.rn_growing.specs.Equations.{read_at, IsForcedTo}
use Rattle.rn_growing.specs.Grown.{IsNew}
use Rattle.rn_growing.specs.Turns.{AreInTurn, MayCome}
use Rattle.rn_growing.proofs.Followers.{decision_in, equations, entered_by}
use Rattle.rn_growing.proofs.Growth.{some_equal}
use Rattle.rn_growing.specs.Decided.{enters}
use Rattle.rn_binding.specs.link.Passing.{IsGiven, IsOut}
use Rattle.rn_binding.proofs.Deciding.{not_entered, entered_is_in}
use Rattle.rn_growing.proofs.NewThings.{none_passes}
use Rattle.rn_items.proofs.Numbers.{numbers_themselves}

module _ (system : System) (b : Binding) (given : IsGiven system b) (ds : List Decision)
    (turns : AreInTurn system ds) (node : Node)
    (fresh : list_any (enters node.path) ds ≡ false) where
  abbrev Never : Type 0
  Never = (items : List Item) → AreOn system b ds items →
      MayEnter system b (Contains items) (entry node) → ⊥

  out : Never → IsOut system b ds (entry node)
  out never items on =
      (never items on, not_entered system b given.depth given.shape ds items on node fresh)

  -- the start may not come in later
  pub start_out : length node.path ≡ 0 → IsOut system b ds (entry node)
  start_out none = out (λ items on may.
      let long = ap length may.3.path in
      let no : ⊥ = omega (arith, none, long, length-append may.0.path (may.1 ∷ [])) in no)

  pub is_new : (caller : Option Caller) → IsNew ds (Entered (head_of node) caller)
  is_new caller (Entered h c) there same =
      none_passes (enters node.path) ds (Entered h c) fresh there
      (subst (λ p. enters p (Entered h c) ≡ true) same (numbers_themselves h.path))
  is_new caller (Found h k v) there same = absurd same
  is_new caller (Computed h site way v) there same = absurd same

  module _ (front : List ℕ) (i : ℕ) (path : node.path ≡ front ++ i ∷ []) where
    its_caller : (c : Node) (j : ℕ) (dl : Downlink) → Calls system b c j dl node →
        (c.path ≡ front) × (j ≡ i)
    its_caller c j dl calls = same_from_push c.path front j i (sym calls.path ∙ path)

    on_front : (c : Node) (j : ℕ) (dl : Downlink) → Calls system b c j dl node →
        node_at b front ≡ Some c
    on_front c j dl calls =
        sym (ap (node_at b) (its_caller c j dl calls).0)
        ∙ node_at-path system b given.depth c given.shape calls.caller_there

    pub orphan_out : node_at b front ≡ None → IsOut system b ds (entry node)
    orphan_out none = out (λ items on may.
        let at = on_front may.0 may.1 may.2 may.3 in
        let no : ⊥ = cc in no)

    -- its caller wasn't entered
    pub early_out : list_any (enters front) ds ≡ false → IsOut system b ds (entry node)
    early_out early = out (λ items on may.
        not_entered system b given.depth given.shape ds items on may.0
        (subst (λ p. list_any (enters p) ds ≡ false)
        (sym (its_caller may.0 may.1 may.2 may.3).0) early) may.4)

    module _ (caller : Node) (at : node_at b front ≡ Some caller) where
      is_caller : (c : Node) (j : ℕ) (dl : Downlink) → Calls system b c j dl node → c ≡ caller
      is_caller c j dl calls = some_equal c caller (sym (on_front c j dl calls) ∙ at)

      its_downlink : (c : Node) (j : ℕ) (dl : Downlink) → Calls system b c j dl node →
          slice_get (transition_of system caller).downlinks i ≡ Some dl
      its_downlink c j dl calls =
          subst (λ n. slice_get (transition_of system n).downlinks i ≡ Some dl)
          (is_caller c j dl calls)
          (subst (λ k. slice_get (transition_of system c).downlinks k ≡ Some dl)
          (its_caller c j dl calls).1 calls.downlink_there)

      pub no_downlink_out : slice_get (transition_of system caller).downlinks i ≡ None →
          IsOut system b ds (entry node)
      no_downlink_out none = out (λ items on may.
          let there = its_downlink may.0 may.1 may.2 may.3 in
          let no : ⊥ = cc in no)

      -- the target of its downlink isn't forced
      pub unforced_out : (downlink : Downlink) →
          slice_get (transition_of system caller).downlinks i ≡ Some downlink →
          ((inst : InstRef) → IsForcedTo system ds
          (λ a. read_at a (head_of caller) (target i) downlink.target) (Worth.Inst inst) → ⊥) →
          IsOut system b ds (entry node)
      unforced_out downlink there never = out (λ items on may.
          let c = may.0 in
          let j = may.1 in
          let dl = may.2 in
          let calls = may.3 in
          let forced = may.5 in
          let child = targets_are_children system b given.depth (listed items) given.shape
          given.agrees (λ it inside. (decision_in system b ds items on it inside).2.0) c j dl node
          calls forced in
          let told : IsForcedTo system ds (λ a. term_value_at a c (target j) dl.target) forced.0 =
          λ a solves. forced.1 a
          ((equations system b given.depth given.shape ds items on turns a).1 solves) in
          let links : dl ≡ downlink = some_equal dl downlink (sym (its_downlink c j dl calls) ∙ there) in
          never node.inst
          (subst (λ n. IsForcedTo system ds (λ a. read_at a (head_of n) (target i) downlink.target)
          (Worth.Inst node.inst)) (is_caller c j dl calls)
          (subst (λ k. IsForcedTo system ds (λ a. read_at a (head_of c) (target k) downlink.target)
          (Worth.Inst node.inst)) (its_caller c j dl calls).1
          (subst (λ l. IsForcedTo system ds (λ a. read_at a (head_of c) (target j) l.target)
          (Worth.Inst node.inst)) links
          (subst (IsForcedTo system ds (λ a. term_value_at a c (target j) dl.target)) child
          told)))))

      -- and else it may come in
      pub may_be_called : (items : List Item) → AreOn system b ds items →
          Contains (items_of system b) (entry caller) → list_any (enters front) ds ≡ true →
          caller.path ≡ front → (downlink : Downlink) →
          slice_get (transition_of system caller).downlinks i ≡ Some downlink →
          (inst : InstRef) → IsForcedTo system ds
          (λ a. read_at a (head_of caller) (target i) downlink.target) (Worth.Inst inst) →
          MayCome system ds (Entered (head_of node)
          (Some (record { head = head_of caller; downlink = i })))
      may_be_called items on own entered caller_path downlink there inst forced =
          let inside = entered_is_in system b given.depth given.shape ds items on caller own
          (subst (λ p. list_any (enters p) ds ≡ true) (sym caller_path) entered) in
          let d = decision_in system b ds items on (entry caller) inside in
          record {
            entered = entered_by system b given.depth given.shape ds d.0 caller d.1 d.2;
            downlink = downlink;
            there = there;
            path = path ∙ ap (λ p. p ++ i ∷ []) (sym caller_path);
            forced = (Worth.Inst inst, forced);
          }
