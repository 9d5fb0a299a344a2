use Rattle.std.proofs.Common.{[], length, map, sym, ap, ◌∙◌, arith}
use Rattle.std.specs.Option.{option_map_or}
use Rattle.rn_table.specs.link.Leaves.{held_at}
use Rattle.rn_table.proofs.DirLemmas.{held_none, held_some, leaf_read, seen_len}
use Rattle.rn_table.proofs.leaves.Leaves.leaf.Goals.{then-kept-eq0, else-kept-eq0}
use Rattle.rn_table.proofs.leaves.Leaves.leaf.Goals as goal

pub index-requires : goal.index-requires
index-requires c = omega (arith, c.requires, seen_len (held_at (map (λ dir. option_map_or (λ d. d.value) dir []) c.self.inside.dirs.items)) c.self.inside.words.items c.args.self.now c.self.view_is)

pub page_in-page-requires : goal.page_in-page-requires
page_in-page-requires c = omega (arith, c.requires, seen_len (held_at (map (λ dir. option_map_or (λ d. d.value) dir []) c.self.inside.dirs.items)) c.self.inside.words.items c.args.self.now c.self.view_is, c.self.invariant, ap length c.as_slice.ensures.value)

pub returns : goal.returns
returns c = leaf_read (held_at (map (λ dir. option_map_or (λ d. d.value) dir []) c.self.inside.dirs.items)) c.self.inside.words.items c.args.self.now c.args.at c.index.result.now (option_map_or (λ p. p.now.value) c.if-kept-eq0.page []) c.self.view_is (omega (arith, c.requires, seen_len (held_at (map (λ dir. option_map_or (λ d. d.value) dir []) c.self.inside.dirs.items)) c.self.inside.words.items c.args.self.now c.self.view_is)) c.index.ensures
    (elim c.if-kept-eq0.branch [
      | then-kept-eq0 w ↦ ap (λ p. option_map_or (λ q. q.now.value) p []) w.page-is ∙ sym (held_none c.index.result.now.kept (held_at (map (λ dir. option_map_or (λ d. d.value) dir []) c.self.inside.dirs.items) c.args.at) w.if-kept-eq0.true)
      | else-kept-eq0 w ↦ ap (λ p. option_map_or (λ q. q.now.value) p []) w.page-is ∙ w.page_in-page.ensures
          ∙ ap (λ ds. held_at (map (λ dir. option_map_or (λ d. d.value) dir []) ds) c.args.at) w.as_slice.ensures.value ∙ sym (held_some c.index.result.now.kept (held_at (map (λ dir. option_map_or (λ d. d.value) dir []) c.self.inside.dirs.items) c.args.at) w.if-kept-eq0.false)
    ])
