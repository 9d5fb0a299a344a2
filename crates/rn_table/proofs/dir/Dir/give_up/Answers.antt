use Rattle.std.proofs.Common.{None, []}
use Rattle.std.specs.Option.{option_map_or}
use Rattle.rn_table.proofs.DirLemmas.{set_others}
use Rattle.rn_table.proofs.dir.Dir.give_up.Goals as goal

pub returns : goal.returns
returns c = λ i differ. set_others (λ page. option_map_or (λ p. p.value) page []) c.self.inside.pages.items c.args.index None c.args.self.now c.self.view_is i differ
