-- What a window keeps of a text whose first bytes it passes over.
use Rattle.std.proofs.Common.{◌≡◌, ℕ, ◌-◌, ◌≤◌, List, length, take, drop, length-drop, arith}
use Rattle.std.proofs.Math.Seq.{take-length}
use Rattle.std.proofs.lemmas.List.{take_all}
use Rattle.rn_window.proofs.Windows.{came_of, kept_of, room_stays}

-- all bytes from `skip` on, where there are no more than `room`
pub rest_fits : (room skip : ℕ) (x : List ℕ) → length x - skip ≤ room →
    take room (drop skip x) ≡ drop skip x
rest_fits room skip x fits = take_all room (drop skip x) (omega (arith, fits, length-drop skip x))

-- for functions that write a text into a window once
pub ruleset pieces = (came_of, kept_of, room_stays, take-length, rest_fits)
