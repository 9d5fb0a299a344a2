use Rattle.std.proofs.Common.{[], map, arith}
use Rattle.std.specs.Option.{option_map_or}
use Rattle.rn_table.specs.link.Leaves.{held_at}
use Rattle.rn_table.proofs.DirLemmas.{seen_len}
use Rattle.rn_table.proofs.leaves.Leaves.len.Goals as goal

pub returns : goal.returns
returns c = omega (arith, c.len.ensures, seen_len (held_at (map (λ dir. option_map_or (λ d. d.value) dir []) c.self.inside.dirs.items)) c.self.inside.words.items c.args.self.now c.self.view_is)
