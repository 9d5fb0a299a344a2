use Rattle.std.proofs.Common.{◌≡◌, [], ◌-◌, ◌/◌, ◌%◌, ◌<◌, drop, get_or, length, map, set, refl, sym, ap, ◌∙◌, subst, arith}
use Rattle.std.specs.Option.{option_map_or}
use Rattle.rn_table.specs.link.Leaves.{Ascending, Leaf, held_at, held_if, leaf_with, leaves_by}
use Rattle.rn_table.specs.link.LeafSteps.{HoldsAfterStep}
use Rattle.rn_table.specs.declared.leaf.Words.{Words}
use Rattle.rn_table.proofs.DirLemmas.{length_drop, page_changed, seen_leaf, seen_len, set_word, was_here, word_there}
use Rattle.rn_table.proofs.OneLeafLemmas.{edited_one}
use Rattle.rn_table.proofs.leaves.Leaves.edit.Goals as goal

pub index_mut-dir-requires : goal.index_mut-dir-requires
index_mut-dir-requires c = omega (arith, c.requires.inside, seen_len (held_at (map (λ dir. option_map_or (λ d. d.value) dir []) c.self.inside.dirs.items)) c.self.inside.words.items c.args.self.now c.self.view_is, c.self.invariant)

pub index-requires : goal.index-requires
index-requires c = omega (arith, c.requires.inside, seen_len (held_at (map (λ dir. option_map_or (λ d. d.value) dir []) c.self.inside.dirs.items)) c.self.inside.words.items c.args.self.now c.self.view_is)

pub words_of_dir-rest-requires : goal.words_of_dir-rest-requires
words_of_dir-rest-requires c = omega (arith, c.requires.inside, seen_len (held_at (map (λ dir. option_map_or (λ d. d.value) dir []) c.self.inside.dirs.items)) c.self.inside.words.items c.args.self.now c.self.view_is, ap length c.as_slice.ensures.value)

pub edit_in-requires-clause-there : goal.edit_in-requires-clause-there
edit_in-requires-clause-there c = omega (arith, c.requires.inside, seen_len (held_at (map (λ dir. option_map_or (λ d. d.value) dir []) c.self.inside.dirs.items)) c.self.inside.words.items c.args.self.now c.self.view_is, ap length (c.words_of_dir-rest.ensures ∙ ap (drop (c.args.at - c.args.at % 32)) c.as_slice.ensures.value), length_drop (c.args.at - c.args.at % 32) c.self.inside.words.items)

pub edit_in-requires-clause-word : goal.edit_in-requires-clause-word
edit_in-requires-clause-word c = λ w is.
    ap (λ (v : Words). v.kept) (word_there c.self.inside.words.items c.args.at (c.args.at - c.args.at % 32) c.index.result.now w refl (omega (arith, c.requires.inside, seen_len (held_at (map (λ dir. option_map_or (λ d. d.value) dir []) c.self.inside.dirs.items)) c.self.inside.words.items c.args.self.now c.self.view_is)) c.index.ensures (is ∙ ap (λ ws. get_or ws (c.args.at % 32) w) (c.words_of_dir-rest.ensures ∙ ap (drop (c.args.at - c.args.at % 32)) c.as_slice.ensures.value)))

pub edit_in-requires-clause-ascending : goal.edit_in-requires-clause-ascending
edit_in-requires-clause-ascending c =
    let old : Leaf = leaf_with (held_at (map (λ dir. option_map_or (λ d. d.value) dir []) c.self.inside.dirs.items) c.args.at) c.index.result.now.kept c.index.result.now.starting in
    let page = c.requires.leaf old (sym (seen_leaf (held_at (map (λ dir. option_map_or (λ d. d.value) dir []) c.self.inside.dirs.items)) c.self.inside.words.items c.args.self.now c.args.at c.index.result.now (leaf_with (held_at (map (λ dir. option_map_or (λ d. d.value) dir []) c.self.inside.dirs.items) c.args.at) c.index.result.now.kept c.index.result.now.starting) c.self.view_is (omega (arith, c.requires.inside, seen_len (held_at (map (λ dir. option_map_or (λ d. d.value) dir []) c.self.inside.dirs.items)) c.self.inside.words.items c.args.self.now c.self.view_is)) c.index.ensures)) in
    subst (λ r. Ascending (held_if c.index.result.now.kept r)) (sym (ap (λ d. get_or d (c.args.at % 32) []) (was_here (λ dir. option_map_or (λ d. d.value) dir []) c.self.inside.dirs.items (c.args.at / 32) c.index_mut-dir.result.now (omega (arith, c.requires.inside, seen_len (held_at (map (λ dir. option_map_or (λ d. d.value) dir []) c.self.inside.dirs.items)) c.self.inside.words.items c.args.self.now c.self.view_is, c.self.invariant)) c.index_mut-dir.ensures.value))) page.ascending

pub returns : goal.returns
returns c =
    let u : Words = c.index.result.now in
    let old : Leaf = leaf_with (held_at (map (λ dir. option_map_or (λ d. d.value) dir []) c.self.inside.dirs.items) c.args.at) c.index.result.now.kept c.index.result.now.starting in
    let was : old ≡ get_or c.args.self.now c.args.at old = sym (seen_leaf (held_at (map (λ dir. option_map_or (λ d. d.value) dir []) c.self.inside.dirs.items)) c.self.inside.words.items c.args.self.now c.args.at c.index.result.now (leaf_with (held_at (map (λ dir. option_map_or (λ d. d.value) dir []) c.self.inside.dirs.items) c.args.at) c.index.result.now.kept c.index.result.now.starting) c.self.view_is (omega (arith, c.requires.inside, seen_len (held_at (map (λ dir. option_map_or (λ d. d.value) dir []) c.self.inside.dirs.items)) c.self.inside.words.items c.args.self.now c.self.view_is)) c.index.ensures) in
    record {
      old = old;
      new = leaf_with (get_or (option_map_or (λ d. d.value) c.edit_in.new.dir []) (c.args.at % 32) []) u.kept u.starting;
      was = was;
      is = ap (leaves_by (held_at (map (λ dir. option_map_or (λ d. d.value) dir []) (set c.self.inside.dirs.items (c.args.at / 32) c.edit_in.new.dir)))) (sym (set_word c.self.inside.words.items c.args.at u c.index.ensures))
          ∙ page_changed (λ dir. option_map_or (λ d. d.value) dir []) c.self.inside.dirs.items c.self.inside.words.items c.args.self.now c.args.at (c.args.at - c.args.at % 32) c.index_mut-dir.result.now c.edit_in.new.dir u c.self.view_is (omega (arith, c.requires.inside, seen_len (held_at (map (λ dir. option_map_or (λ d. d.value) dir []) c.self.inside.dirs.items)) c.self.inside.words.items c.args.self.now c.self.view_is, c.self.invariant)) c.index_mut-dir.ensures.value refl
          (λ i v low within differ is some. c.in_ok-edit_in.ensures.others i v low (subst (λ ws. i < length ws) (sym (c.words_of_dir-rest.ensures ∙ ap (drop (c.args.at - c.args.at % 32)) c.as_slice.ensures.value)) within) differ (is ∙ ap (λ ws. get_or ws i v) (sym (c.words_of_dir-rest.ensures ∙ ap (drop (c.args.at - c.args.at % 32)) c.as_slice.ensures.value))) some);
      so = edited_one c.args.edit.now (held_at (map (λ dir. option_map_or (λ d. d.value) dir []) c.self.inside.dirs.items) c.args.at) (get_or (option_map_or (λ d. d.value) c.edit_in.new.dir []) (c.args.at % 32) []) u.kept u.starting (c.requires.leaf old was)
          (subst (λ r. HoldsAfterStep u.kept c.args.edit.now (held_if u.kept r) (held_if u.kept (get_or (option_map_or (λ d. d.value) c.edit_in.new.dir []) (c.args.at % 32) []))) (ap (λ d. get_or d (c.args.at % 32) []) (was_here (λ dir. option_map_or (λ d. d.value) dir []) c.self.inside.dirs.items (c.args.at / 32) c.index_mut-dir.result.now (omega (arith, c.requires.inside, seen_len (held_at (map (λ dir. option_map_or (λ d. d.value) dir []) c.self.inside.dirs.items)) c.self.inside.words.items c.args.self.now c.self.view_is, c.self.invariant)) c.index_mut-dir.ensures.value)) c.in_ok-edit_in.ensures.here);
    }
