-- Bindings that follow decisions.
use Rattle.std.specs.Prelude.{◌≡◌, List, Some, Contains}
use Rattle.std.specs.List.{AllZip}
use Rattle.rn_model.specs.declared.system.System.{System}
use Rattle.rn_model.specs.declared.system.Transition.{Transition}
use Rattle.rn_model.specs.declared.binding.Node.{Node}
use Rattle.rn_model.specs.declared.binding.Binding.{Binding}
use Rattle.rn_model.specs.Systems.{transition_at}
use Rattle.rn_model.specs.Evaluation.{worth}
use Rattle.rn_model.specs.Bindings.{env_of}
use Rattle.rn_model.specs.Derivation.{Item, entry, found, computed, items_of}
use Rattle.rn_model.specs.Derivation as D
use Rattle.rn_growing.specs.declared.decision.Site.{Site}
use Rattle.rn_growing.specs.declared.decision.Site.TheVariants.{Left, Right, UplinkArg, Target}
use Rattle.rn_growing.specs.declared.decision.Site.TheVariants.{DownlinkArg, Inscription}
use Rattle.rn_growing.specs.declared.decision.Head.{Head}
use Rattle.rn_growing.specs.declared.decision.Decision.{Decision}
use Rattle.rn_growing.specs.declared.decision.Decision.TheVariants.{Entered, Found, Computed}

abbrev pub site_of : Site → D.Site
site_of (Left k) = D.left k
site_of (Right k) = D.right k
site_of (UplinkArg k) = D.uplink_arg k
site_of (Target i) = D.target i
site_of (DownlinkArg i k) = D.downlink_arg i k
site_of (Inscription k) = D.arc k

-- the transition of a node
abbrev pub transition_in : System → Head → Transition
transition_in system head = transition_at system head.net head.transition

-- a node without its values
abbrev pub head_of : Node → Head
head_of node =
    record { path = node.path; inst = node.inst; net = node.net; transition = node.transition }

-- A decision is on an item of a binding, and its value is the item's.
abbrev pub IsOn : System → Decision → Item → Type 0
IsOn system (Entered head caller) (entry node) = head ≡ head_of node
IsOn system (Found head k v) (found node j x) =
    (head ≡ head_of node) × (k ≡ j) × (worth x.inscription (env_of system node) ≡ Some v)
IsOn system (Computed head site way v) (computed node s hole) =
    (head ≡ head_of node) × (site_of site ≡ s) × (way ≡ hole.way)
    × (worth hole.form (env_of system node) ≡ Some v)
IsOn system (Entered head caller) _ = ⊥
IsOn system (Found head k v) _ = ⊥
IsOn system (Computed head site way v) _ = ⊥

-- A binding follows decisions where each of them is on an item of it, with that item's value;
-- these are the items that they decide.
abbrev pub AreOn : System → Binding → List Decision → List Item → Type 0
AreOn system b decisions items =
    AllZip (λ d item. Contains (items_of system b) item × IsOn system d item) decisions items

abbrev pub Follows : System → Binding → List Decision → Type 0
Follows system b decisions = (items : List Item) × AreOn system b decisions items
