use Rattle.std.proofs.Common.{[], None, map, refl, ap, ◌∙◌}
use Rattle.std.specs.Option.{option_map_or}
use Rattle.rn_table.specs.link.Leaves.{held_at}
use Rattle.rn_table.proofs.DirLemmas.{dirs_more}
use Rattle.rn_table.proofs.leaves.make_room.Goals as goal

pub returns-clause-same : goal.returns-clause-same
returns-clause-same c = λ i. ap (λ xs. held_at (map (λ dir. option_map_or (λ d. d.value) dir []) xs) i) c.in_ok-push.ensures.items ∙ dirs_more (λ dir. option_map_or (λ d. d.value) dir []) c.args.dirs.now.items None i refl
