use Rattle.std.proofs.Common.{rules}
use Rattle.rn_desk.proofs.Splitting.{split_allowed}
use Rattle.rn_desk.proofs.desk.Desk.split_seat.Goals as goal

pub split_seat-requires : goal.split_seat-requires
split_seat-requires g c = let room = c.requires.room in
    (search rules, search rules, split_allowed g.S.Kept.entries g.S.Kept.author g.S.Kept.fixed _ _ _ _ room.0 room.1 room.2)
