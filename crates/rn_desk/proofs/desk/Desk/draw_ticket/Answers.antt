use Rattle.std.proofs.Common.{rules}
use Rattle.rn_desk.proofs.Drawing.{draw_allowed}
use Rattle.rn_desk.proofs.desk.Desk.draw_ticket.Goals as goal

pub fetch_add-requires : goal.fetch_add-requires
fetch_add-requires g c = (search rules, search rules, draw_allowed _ _ _ _ _ _ _ _ c.requires.idle)
