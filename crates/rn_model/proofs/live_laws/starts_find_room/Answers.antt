use Rattle.rn_model.proofs.RoomOfStarts.{starts_find_room}
use Rattle.rn_model.proofs.live_laws.starts_find_room.Goals as goal

pub returns : goal.returns
returns c = starts_find_room
