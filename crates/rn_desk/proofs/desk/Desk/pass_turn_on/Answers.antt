use Rattle.std.proofs.Common.{rules}
use Rattle.rn_desk.proofs.Passing.{pass_allowed}
use Rattle.rn_desk.proofs.desk.Desk.pass_turn_on.Goals as goal

pub fetch_add-requires : goal.fetch_add-requires
fetch_add-requires g c = let turn = c.requires.turn in
    (search rules, search rules, pass_allowed _ _ _ _ _ _ _ _ turn.1.0.0 turn.0 turn.1.0.1 turn.1.1 turn.2 turn.3)
