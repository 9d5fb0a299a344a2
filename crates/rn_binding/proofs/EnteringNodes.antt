-- The entry of a node, by what is known of its caller; and the entry of the start.
use Rattle.std.proofs.Common.{◌≡◌, ℕ, Bool, true, false, List, [], ◌∷◌, ◌++◌}
use Rattle.std.proofs.Common.{refl, sym, subst, arith}
use Rattle.std.specs.Prelude.{Contains, None, Some, nat_eq, slice_get}
use Rattle.std.specs.List.{list_any}
use Rattle.std.specs.Cmp.Lexicographic.{pointwise}
use Rattle.rn_value.specs.declared.value.InstRef.{InstRef}
use Rattle.rn_value.specs.declared.value.Value.TheVariants as Worth
use Rattle.rn_model.specs.declared.system.System.{System}
use Rattle.rn_model.specs.declared.system.Downlink.{Downlink}
use Rattle.rn_model.specs.declared.binding.Node.{Node}
use Rattle.rn_model.specs.declared.binding.Binding.{Binding}
use Rattle.rn_model.specs.Systems.{transition_of}
use Rattle.rn_model.specs.Bindings.{node_at}
use Rattle.rn_model.specs.Derivation.{entry, target}
use Rattle.rn_model.proofs.ItemsOfNodes.{entry_is_item}
use Rattle.rn_growing.specs.declared.decision.Head.{Head}
use Rattle.rn_growing.specs.declared.decision.Caller.{Caller}
use Rattle.rn_growing.specs.declared.decision.Decision.{Decision}
use Rattle.rn_growing.specs.declared.decision.Decision.TheVariants.{Entered}
use Rattle.rn_growing.specs.Decisions.{head_of}
use Rattle.rn_growing.specs.Equations.{read_at, IsForcedTo}
use Rattle.rn_growing.specs.Grown.{Grown, IsNew, Tries}
use Rattle.rn_growing.specs.Turns.{MayCome, AreInTurn}
use Rattle.rn_growing.specs.Decided.{enters}
use Rattle.rn_binding.specs.link.Passing.{IsGiven, IsFollowed, IsOut, BringsItem}
use Rattle.rn_binding.proofs.Coming.{Comes, tried}
use Rattle.rn_binding.proofs.Deciding.{entered_is_in}
use Rattle.rn_binding.proofs.ComingCalls.{unforced_out, may_be_called, is_new}
use Rattle.rn_binding.proofs.ComingValues.{already}
use Rattle.rn_items.proofs.Lists.{find_passes}
use Rattle.rn_items.proofs.Numbers.{same_numbers}

-- a node that is found has the path
pub on_path : (b : Binding) (path : List ℕ) (node : Node) → node_at b path ≡ Some node →
    node.path ≡ path
on_path b path node e =
    same_numbers node.path path
    (find_passes (λ (n : Node). pointwise nat_eq n.path path) b.nodes node e)

-- the target of a downlink is forced to be an instance
abbrev pub IsTold : Grown → Head → ℕ → Downlink → InstRef → Type 0
IsTold g from i downlink inst =
    IsForcedTo g.system g.decisions (λ a. read_at a from (target i) downlink.target)
    (Worth.Inst inst)

module _ (system : System) (b : Binding) (given : IsGiven system b) (g : Grown)
    (followed : IsFollowed system b g) (node : Node) (there : Contains b.nodes node) where
  pub entry_already : list_any (enters node.path) g.decisions ≡ true →
      BringsItem system b g (entry node) g true
  entry_already e =
      already system b given g followed (entry node)
      (entered_is_in system b given.depth given.shape g.decisions followed.follows.0
      followed.follows.1 node (entry_is_item system b node there) e)

  pub entry_out : IsOut system b g.decisions (entry node) →
      BringsItem system b g (entry node) g false
  entry_out out = (refl, out)

  module _ (fresh : list_any (enters node.path) g.decisions ≡ false) (front : List ℕ) (i : ℕ)
      (path : node.path ≡ front ++ i ∷ []) (caller : Node)
      (at : node_at b front ≡ Some caller) (from : Head) (from_is : from ≡ head_of caller)
      (downlink : Downlink)
      (link : slice_get (transition_of system caller).downlinks i ≡ Some downlink) where
    pub unforced : ((inst : InstRef) → IsTold g from i downlink inst → ⊥) →
        BringsItem system b g (entry node) g false
    unforced never = entry_out (unforced_out system b given g.decisions followed.turns node fresh
        front i path caller at downlink link (λ inst told. never inst
        (subst (λ s. IsForcedTo s g.decisions (λ a. read_at a from (target i) downlink.target)
        (Worth.Inst inst)) (sym followed.same)
        (subst (λ h. IsForcedTo system g.decisions (λ a. read_at a h (target i) downlink.target)
        (Worth.Inst inst)) (sym from_is) told))))

    pub entry_comes : (head : Head) (inst : InstRef) → head ≡ head_of node →
        Contains b.nodes caller → list_any (enters front) g.decisions ≡ true →
        IsTold g from i downlink inst →
        Comes system b g (Entered head (Some (record { head = from; downlink = i }))) (entry node)
    entry_comes head inst head_is in_b entered told =
        let by : Caller = record { head = head_of caller; downlink = i } in
        let forced = subst (λ s. IsForcedTo s g.decisions
        (λ a. read_at a (head_of caller) (target i) downlink.target) (Worth.Inst inst))
        followed.same
        (subst (λ h. IsForcedTo g.system g.decisions (λ a. read_at a h (target i) downlink.target)
        (Worth.Inst inst)) from_is told) in
        let may = may_be_called system b given g.decisions followed.turns node fresh front i path
        caller at followed.follows.0 followed.follows.1 (entry_is_item system b caller in_b)
        entered (on_path b front caller at) downlink link inst forced in
        let new = is_new system b given g.decisions followed.turns node fresh (Some by) in
        subst (λ h. Comes system b g (Entered head (Some (record { head = h; downlink = i }))) (entry node)) (sym from_is)
        (subst (λ h. Comes system b g (Entered h (Some by)) (entry node)) (sym head_is) (
          subst (λ s. MayCome s g.decisions (Entered (head_of node) (Some by))) (sym followed.same) may,
          new,
          tried system b given g followed.same followed.follows.0 followed.follows.1 followed.turns
              (Entered (head_of node) (Some by)) (entry node) (entry_is_item system b node there)
              refl may new,
        ))

-- the start
pub nothing_in_turn : (system : System) → AreInTurn system []
nothing_in_turn system = record {
  came = λ k d e. absurd (let no : ⊥ = cc in no);
  once = λ j k d e less at other. absurd (let no : ⊥ = cc in no);
}

pub nothing_new : (d : Decision) → IsNew [] d
nothing_new d e (k, h, is) same = let no : ⊥ = omega (arith, h) in no

pub start_comes : (system : System) (b : Binding) → IsGiven system b → (g : Grown) →
    g ≡ record { system = system; decisions = [] } → (node : Node) → node_at b [] ≡ Some node →
    Contains b.nodes node → (head : Head) → head ≡ head_of node →
    MayCome g.system g.decisions (Entered head None) × IsNew g.decisions (Entered head None)
    × ((now : Grown) (yes : Bool) → Tries g (Entered head None) now yes →
    IsFollowed system b now)
start_comes system b given g is node at there head head_is =
    let empty : Grown = record { system = system; decisions = [] } in
    let d : Decision = Entered (head_of node) None in
    subst (λ e. MayCome e.system e.decisions (Entered head None)
    × IsNew e.decisions (Entered head None)
    × ((now : Grown) (yes : Bool) → Tries e (Entered head None) now yes →
    IsFollowed system b now)) (sym is)
    (subst (λ h. MayCome system [] (Entered h None) × IsNew [] (Entered h None)
    × ((now : Grown) (yes : Bool) → Tries empty (Entered h None) now yes →
    IsFollowed system b now)) (sym head_is) (
      (refl, on_path b [] node at),
      nothing_new d,
      λ now yes tries. (tried system b given empty refl [] tt (nothing_in_turn system) d
          (entry node) (entry_is_item system b node there) refl (refl, on_path b [] node at)
          (nothing_new d) now yes tries).1,
    ))
