use Rattle.rn_search.proofs.Needed.{starts_find_room}
use Rattle.rn_search.proofs.laws.starts_find_room.Goals as goal

pub returns : goal.returns
returns c = starts_find_room
