use Rattle.std.proofs.Common.{[], map, sym, ap, ◌∙◌, arith}
use Rattle.std.specs.Option.{option_map_or}
use Rattle.rn_table.specs.link.Leaves.{Leaf, held_at}
use Rattle.rn_table.proofs.DirLemmas.{seen_leaf, seen_len}
use Rattle.rn_table.proofs.leaves.Leaves.starting.Goals as goal

pub index-requires : goal.index-requires
index-requires c = omega (arith, c.requires, seen_len (held_at (map (λ dir. option_map_or (λ d. d.value) dir []) c.self.inside.dirs.items)) c.self.inside.words.items c.args.self.now c.self.view_is)

pub returns : goal.returns
returns c = λ leaf is.
    ap (λ (l : Leaf). l.starting) (sym (is ∙ seen_leaf (held_at (map (λ dir. option_map_or (λ d. d.value) dir []) c.self.inside.dirs.items)) c.self.inside.words.items c.args.self.now c.args.at c.index.result.now leaf c.self.view_is (omega (arith, c.requires, seen_len (held_at (map (λ dir. option_map_or (λ d. d.value) dir []) c.self.inside.dirs.items)) c.self.inside.words.items c.args.self.now c.self.view_is)) c.index.ensures))
