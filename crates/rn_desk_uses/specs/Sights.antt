-- A pass that looks, and what it saw.
use Rattle.std.specs.Prelude.{◌≡◌, ℕ, length}
use Rattle.rn_desk.specs.declared.desk.Desk.{Desk}
use Rattle.rn_desk.specs.Passes.{IsBack, seen}
use Rattle.rn_desk_uses.specs.declared.turns.PassSight.{PassSight}

module _ {S I F : Type 0} (fixed : S → F) (d : Desk S I F) where
  -- the pass has this number and no turn
  abbrev pub IsToLook : ℕ → PassSight S I F → Type 0
  IsToLook n v = IsBack fixed d n v.pass

  -- the same, and it has seen so many entries
  abbrev pub IsShown : ℕ → PassSight S I F → Type 0
  IsShown n v = IsBack fixed d n v.pass × (v.entries ≡ length (seen v.pass))
