-- What a state leaves for a record of its run.
use Rattle.std.specs.Prelude.{ℕ, ◌≡◌, ◌≤◌, length}
use Rattle.rn_model.specs.declared.system.System.{System}
use Rattle.rn_live.specs.Rooms.{Room, starts_of}

-- Live instances of tables of a system are marked in a room, below this number at least.
pub record HoldsLive (system : System) (next : ℕ) (marked : Room) : Type 0 where
  pub room : next ≤ length marked.marks
  pub of_system : marked.starting ≡ starts_of system
