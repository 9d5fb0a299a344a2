-- Laws on bindings that follow decisions.
use Rattle.std.specs.Prelude.{ℕ, ◌≡◌, ◌<◌, ◌↔◌, List, [], ◌∷◌, ◌++◌, Option, length, Contains}
use Rattle.std.specs.Prelude.{false}
use Rattle.std.specs.List.{list_any}
use Rattle.rn_model.specs.declared.system.System.{System}
use Rattle.rn_model.specs.declared.binding.Binding.{Binding}
use Rattle.rn_model.specs.Bindings.{Shape}
use Rattle.rn_value.specs.declared.value.Value.{Value}
use Rattle.rn_model.specs.Agreement.{Agrees}
use Rattle.rn_model.specs.Good.{Good}
use Rattle.rn_model.specs.Derivation.{Item, Assignment, Satisfies, Forced, Derived, items_of}
use Rattle.rn_growing.specs.declared.decision.Head.{Head}
use Rattle.rn_growing.specs.declared.decision.Decision.{Decision}
use Rattle.rn_growing.specs.declared.decision.Decision.TheVariants.{Entered, Found, Computed}
use Rattle.rn_growing.specs.declared.decision.Caller.{Caller}
use Rattle.rn_growing.specs.declared.decision.Site.{Site}
use Rattle.rn_growing.specs.Decided.{enters, finds, computes}
use Rattle.rn_growing.specs.Decisions.{IsOn, AreOn}
use Rattle.rn_growing.specs.Equations.{Solves, IsForced, IsForcedTo}
use Rattle.rn_growing.specs.Grown.{HasFewCreations, IsNew}
use Rattle.rn_growing.specs.Turns.{IsEntered, MayCome, SameThing, AreInTurn, AreClosed}
use Rattle.rn_model.specs.RoundLaws.{ComeIn, IsClosed, AreAll, ForceAll}

-- What decisions in turn say of a binding that follows them: the equations that they bring are
-- those of the items that they decide, these items come in one at a time, and where no further
-- decision may come in, no further item may.
pub record SayOf (system : System) (b : Binding) (decisions : List Decision) (items : List Item)
    : Type 0 where
  pub equations : (a : Assignment) →
      Satisfies system b (Contains items) a ↔ Solves system decisions a
  pub forced : (term : Assignment → Option Value) →
      IsForced system decisions term ↔ Forced system b (Contains items) term
  pub come : ComeIn system b items
  pub closed : AreClosed system decisions → IsClosed system b items

abbrev pub FollowersAreDecided : Type 0
FollowersAreDecided = (system : System) (b : Binding) (depth : ℕ) (decisions : List Decision)
    (items : List Item) → Shape system b depth → AreOn system b decisions items →
    AreInTurn system decisions → 0 < length decisions → SayOf system b decisions items

-- So where no further decision may come in, a binding that follows them is derived just where they
-- decide all of its items and force its variables.
abbrev pub ClosedDecisionsDecide : Type 0
ClosedDecisionsDecide = (system : System) (b : Binding) (depth : ℕ) (decisions : List Decision)
    (items : List Item) → Shape system b depth → AreOn system b decisions items →
    AreInTurn system decisions → 0 < length decisions → AreClosed system decisions →
    (Derived system b ↔ (AreAll system b items × ForceAll system b items))

-- A binding that follows decisions follows one more where that is on an item of it too; and where
-- it has the shape and agrees, some decision is on each of its items.
abbrev pub FollowsOn : Type 0
FollowsOn = (system : System) (b : Binding) (decisions : List Decision) (items : List Item)
    (d : Decision) (item : Item) → AreOn system b decisions items →
    Contains (items_of system b) item →
    IsOn system d item → AreOn system b (decisions ++ d ∷ []) (items ++ item ∷ [])

abbrev pub EachIsDecided : Type 0
EachIsDecided = (system : System) (b : Binding) (depth : ℕ) → Shape system b depth →
    Agrees system b → (item : Item) → Contains (items_of system b) item →
    (d : Decision) × IsOn system d item

-- No transition of a good system has more creations than the name of a new instance can number.
abbrev pub GoodHaveFewCreations : Type 0
GoodHaveFewCreations = (system : System) → Good system → HasFewCreations system

-- What is new to decisions after one more of them.
abbrev pub NewAfterOne : Type 0
NewAfterOne = (decisions : List Decision) (last d : Decision) →
    IsNew (decisions ++ last ∷ []) d ↔ (IsNew decisions d × ¬ SameThing last d)

-- A node was entered, and a term is forced, after more decisions as well.
abbrev pub EnteredByMore : Type 0
EnteredByMore = (decisions more : List Decision) (head : Head) →
    IsEntered decisions head → IsEntered (decisions ++ more) head

abbrev pub ForcedByMore : Type 0
ForcedByMore = (system : System) (decisions more : List Decision)
    (term : Assignment → Option Value) (v : Value) → IsForcedTo system decisions term v →
    IsForcedTo system (decisions ++ more) term v

-- So may come whatever might come before, but for the start.
abbrev pub MayComeByMore : Type 0
MayComeByMore = (system : System) (decisions more : List Decision) (d : Decision) →
    0 < length decisions → MayCome system decisions d → MayCome system (decisions ++ more) d

-- What is new to decisions is just what was not decided.
abbrev pub NewEntries : Type 0
NewEntries = (decisions : List Decision) (head : Head) (caller : Option Caller) →
    IsNew decisions (Entered head caller) ↔ (list_any (enters head.path) decisions ≡ false)

abbrev pub NewFinds : Type 0
NewFinds = (decisions : List Decision) (head : Head) (k : ℕ) (v : Value) →
    IsNew decisions (Found head k v) ↔ (list_any (finds head.path k) decisions ≡ false)

abbrev pub NewValues : Type 0
NewValues = (decisions : List Decision) (head : Head) (site : Site) (way : List ℕ) (v : Value) →
    IsNew decisions (Computed head site way v)
    ↔ (list_any (computes head.path site way) decisions ≡ false)
