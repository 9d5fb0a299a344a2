-- Which ids of a store stand for which unknowns, and what the store says of these. It only
-- connects the code's steps to what is promised.
use Rattle.std.specs.Prelude.{ℕ, ◌≡◌, ◌<◌, Bool, false, ◌&&◌, List, [], ◌∷◌, Option, Some, None}
use Rattle.std.specs.Prelude.{length, nat_eq, if◌then◌else◌}
use Rattle.std.specs.Cmp.Lexicographic.{pointwise}
use Rattle.rn_value.specs.declared.value.Value.{Value}
use Rattle.rn_term.specs.Stores.{State}
use Rattle.rn_term.specs.Assignments.{Satisfies, value_at}
use Rattle.rn_model.specs.Derivation.{Assignment}
use Rattle.rn_growing.specs.declared.decision.Site.{Site}
use Rattle.rn_growing.specs.declared.decision.Site.TheVariants.{Left, Right, UplinkArg, Target}
use Rattle.rn_growing.specs.declared.decision.Site.TheVariants.{DownlinkArg, Inscription}
use Rattle.rn_growing.specs.declared.slot.Slot.{Slot}
use Rattle.rn_growing.specs.declared.slot.Unknown.{Unknown}
use Rattle.rn_growing.specs.declared.slot.Unknown.TheVariants.{Var, Hole}
use Rattle.rn_growing.specs.Decisions.{site_of}

-- the value that an assignment gives an unknown of the node on a path
abbrev pub asked : Assignment → List ℕ → Unknown → Value
asked a path (Var x) = a.var path x
asked a path (Hole site way) = a.hole path (site_of site) way

-- whether two sites are the same
abbrev pub same_site : Site → Site → Bool
same_site (Left k) (Left j) = nat_eq k j
same_site (Right k) (Right j) = nat_eq k j
same_site (UplinkArg k) (UplinkArg j) = nat_eq k j
same_site (Target k) (Target j) = nat_eq k j
same_site (DownlinkArg i k) (DownlinkArg h j) = nat_eq i h && nat_eq k j
same_site (Inscription k) (Inscription j) = nat_eq k j
same_site _ _ = false

-- whether two unknowns of a node are the same
abbrev pub same_unknown : Unknown → Unknown → Bool
same_unknown (Var x) (Var y) = nat_eq x y
same_unknown (Hole site way) (Hole other along) =
    same_site site other && pointwise nat_eq way along
same_unknown _ _ = false

-- the ids of unknowns, by the paths of their nodes
abbrev pub Layout : Type 0
Layout = List ℕ → Unknown → Option ℕ

-- the layout that slots give: an unknown's id is that of its first slot
abbrev pub id_of : List Slot → Layout
id_of [] path u = None
id_of (slot ∷ slots) path u =
    if same_unknown slot.unknown u && pointwise nat_eq slot.path path then Some slot.id
    else id_of slots path u

-- each id is one of the store's
abbrev pub IsLaidIn : Layout → State → Type 0
IsLaidIn l s = (path : List ℕ) (u : Unknown) (id : ℕ) → l path u ≡ Some id → id < length s.terms

-- values for unknowns are those of the store's ids
abbrev pub AreRead : Layout → Assignment → List Value → Type 0
AreRead l a vs =
    (path : List ℕ) (u : Unknown) (id : ℕ) → l path u ≡ Some id → asked a path u ≡ value_at vs id

-- the store gives the unknowns these values by one of its own assignments
abbrev pub GivenBy : State → Layout → Assignment → Type 0
GivenBy s l a = (vs : List Value) × Satisfies s vs × AreRead l a vs

-- a term is read at an id: under each assignment that the store gives, it has the id's value
abbrev pub IsReadAs : State → Layout → (Assignment → Option Value) → ℕ → Type 0
IsReadAs s l term id = (a : Assignment) (vs : List Value) → Satisfies s vs → AreRead l a vs →
    term a ≡ Some (value_at vs id)
