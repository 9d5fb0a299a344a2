-- What a search keeps of its decisions, and that it stays so as they come and go.
use Rattle.std.specs.Prelude.{ℕ, ◌≡◌, ◌<◌, ◌≤◌, List, [], ◌∷◌, ◌++◌, Some, take, length, slice_get}
use Rattle.std.specs.Prelude.{Contains}
use Rattle.rn_value.specs.declared.value.InstRef.TheVariants.{Old}
use Rattle.rn_model.specs.declared.system.System.{System}
use Rattle.rn_model.specs.Markings.{Marking, net_of}
use Rattle.rn_model.specs.Systems.{net_at}
use Rattle.rn_growing.specs.declared.decision.Head.{Head}
use Rattle.rn_growing.specs.declared.decision.Decision.{Decision}
use Rattle.rn_growing.specs.Grown.{IsNew}
use Rattle.rn_growing.specs.Kinded.{IsKinded, AreKinded}
use Rattle.rn_growing.specs.Turns.{MayCome, AreInTurn}
use Rattle.rn_search.specs.Points.{node_on}
use Rattle.rn_search.specs.Making.{NamesMade, NameMade}
use Rattle.rn_search.specs.Ending.{IsRight, AreRight}

-- a node is of a transition of the system, and isn't too deep
pub record IsHead (system : System) (depth : ℕ) (head : Head) : Type 0 where
  pub net : head.net < length system.nets
  pub transition : head.transition < length (net_at system head.net).transitions
  pub deep : length head.path ≤ depth

-- a node on an instance of a marking is of that one's net
abbrev pub IsOfItsNet : Marking → Head → Type 0
IsOfItsNet m head = (n : ℕ) → head.inst ≡ Old n → net_of m n ≡ Some head.net

-- Decisions are sound where each might come in when it did, is on a node of the system and of its
-- instance's net, brings in what has its kind, and by those before it names what was made and has
-- the right value.
pub record AreSound (system : System) (m : Marking) (depth : ℕ) (ds : List Decision)
    : Type 0 where
  pub turns : AreInTurn system ds
  pub heads : (d : Decision) → Contains ds d → IsHead system depth (node_on d)
  pub placed : (d : Decision) → Contains ds d → IsOfItsNet m (node_on d)
  pub kinded : AreKinded system ds
  pub made : (k : ℕ) (d : Decision) → slice_get ds k ≡ Some d → NamesMade system (take k ds) d
  pub right : (k : ℕ) (d : Decision) → slice_get ds k ≡ Some d → IsRight system (take k ds) d

-- a decision may be made after others
pub record MayBeMade (system : System) (m : Marking) (depth : ℕ) (ds : List Decision)
    (d : Decision) : Type 0 where
  pub may : MayCome system ds d
  pub fresh : IsNew ds d
  pub head : IsHead system depth (node_on d)
  pub placed : IsOfItsNet m (node_on d)
  pub kinded : IsKinded system d
  pub made : NamesMade system ds d
  pub right : IsRight system ds d

abbrev pub NoneAreSound : Type 0
NoneAreSound = (system : System) (m : Marking) (depth : ℕ) → AreSound system m depth []

-- They stay sound with one more that may be made,
abbrev pub SoundByOne : Type 0
SoundByOne = (system : System) (m : Marking) (depth : ℕ) (ds : List Decision) (d : Decision) →
    AreSound system m depth ds → MayBeMade system m depth ds d →
    AreSound system m depth (ds ++ d ∷ [])

-- and where the last ones are taken back.
abbrev pub SoundByFewer : Type 0
SoundByFewer = (system : System) (m : Marking) (depth n : ℕ) (ds : List Decision) →
    n ≤ length ds → AreSound system m depth ds → AreSound system m depth (take n ds)

-- All of them together name what was made, and are right.
abbrev pub SoundAreRight : Type 0
SoundAreRight = (system : System) (m : Marking) (depth : ℕ) (ds : List Decision) →
    AreSound system m depth ds → NameMade system ds × AreRight system ds
