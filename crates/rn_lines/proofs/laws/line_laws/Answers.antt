use Rattle.rn_lines.proofs.OneLine.{no_line_feed}
use Rattle.rn_lines.proofs.laws.line_laws.Goals as goal

pub returns : goal.returns
returns c = no_line_feed
