use Rattle.std.proofs.Common.{[], ◌++◌, ◌∷◌, map, refl, ap, ◌∙◌}
use Rattle.std.specs.Option.{option_map_or}
use Rattle.rn_table.specs.link.Leaves.{held_at, leaf_with, leaves_by}
use Rattle.rn_table.specs.declared.leaf.Words.{Words}
use Rattle.rn_table.proofs.DirLemmas.{leaves_push, leaves_same}
use Rattle.rn_table.proofs.leaves.Leaves.push.Goals as goal

pub returns : goal.returns
returns c =
    let u : Words = record { kept = 0; starting = 0 } in
    let new = held_at (map (λ dir. option_map_or (λ d. d.value) dir []) c.make_room.new.dirs.items) in
    ap (leaves_by new) c.in_ok-push.ensures.items ∙ leaves_push new c.self.inside.words.items u refl refl
    ∙ ap (λ r. r ++ leaf_with [] 0 0 ∷ []) (leaves_same new (held_at (map (λ dir. option_map_or (λ d. d.value) dir []) c.self.inside.dirs.items)) c.self.inside.words.items (λ j w inside is some. c.in_ok-make_room.ensures.same j) ∙ c.self.view_is)
