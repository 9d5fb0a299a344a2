use Rattle.std.proofs.Common.{◌≡◌, ◌++◌, take}
use Rattle.std.specs.Prelude.{IfSome, flat_map}
use Rattle.rn_moves.specs.link.Connecting.{IsLead}
use Rattle.rn_moves.specs.MovesText.{token_line}
use Rattle.rn_moves.proofs.lines.put_tokens.Given as goal

-- the lines so far are those of the tokens so far, and the beginning at hand is right for its place
abbrev pub invariant-loop-token : goal.invariant-loop-token
invariant-loop-token l = record {
  lines : l.out.items
      ≡ l.initial.out.items
      ++ flat_map (token_line l.by.system.now l.by.nets.now l.by.names.now l.step l.sign) (take l.token-index l.tokens);
  lead : IfSome l.lead (IsLead l.by.system.now l.by.nets.now l.step l.sign);
}
