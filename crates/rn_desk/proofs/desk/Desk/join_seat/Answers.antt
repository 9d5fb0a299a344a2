use Rattle.std.proofs.Common.{rules}
use Rattle.rn_desk.proofs.Joining.{join_allowed}
use Rattle.rn_desk.proofs.desk.Desk.join_seat.Goals as goal

pub join_seat-requires : goal.join_seat-requires
join_seat-requires g c = let here = c.requires.here in let idle = c.requires.idle in
    (here.0, here.1, idle.2, search rules, join_allowed _ _ _ _ _ _ _ _ _ idle.0 idle.1)
