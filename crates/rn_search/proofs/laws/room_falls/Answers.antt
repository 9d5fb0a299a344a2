use Rattle.rn_search.proofs.Falling.{room_falls}
use Rattle.rn_search.proofs.laws.room_falls.Goals as goal

pub returns : goal.returns
returns c = room_falls
