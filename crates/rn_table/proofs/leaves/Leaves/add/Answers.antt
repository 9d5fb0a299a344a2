use Rattle.std.proofs.Common.{◌≡◌, [], ◌-◌, ◌/◌, ◌%◌, ◌<◌, drop, get_or, length, map, refl, sym, ap, ◌∙◌, subst, arith, inl, inr}
use Rattle.std.specs.Option.{option_map_or}
use Rattle.rn_bag.specs.Words.{has_bit}
use Rattle.rn_table.specs.link.Leaves.{Leaf, bit_of, held_at, held_if, leaf_with}
use Rattle.rn_table.specs.link.LeafSteps.{Grows}
use Rattle.rn_table.specs.declared.leaf.Words.{Words}
use Rattle.rn_table.proofs.DirLemmas.{length_drop, page_changed, seen_leaf, seen_len, was_here, word_there}
use Rattle.rn_table.proofs.OneLeafLemmas.{grown_leaf}
use Rattle.rn_table.proofs.leaves.Leaves.add.Goals.{then-starts, else-starts}
use Rattle.rn_table.proofs.leaves.Leaves.add.Goals as goal

pub index_mut-dir-requires : goal.index_mut-dir-requires
index_mut-dir-requires c = omega (arith, c.requires.inside, seen_len (held_at (map (λ dir. option_map_or (λ d. d.value) dir []) c.self.inside.dirs.items)) c.self.inside.words.items c.args.self.now c.self.view_is, c.self.invariant)

pub index-old-requires : goal.index-old-requires
index-old-requires c = omega (arith, c.requires.inside, seen_len (held_at (map (λ dir. option_map_or (λ d. d.value) dir []) c.self.inside.dirs.items)) c.self.inside.words.items c.args.self.now c.self.view_is)

pub words_of_dir-rest-requires : goal.words_of_dir-rest-requires
words_of_dir-rest-requires c = omega (arith, c.requires.inside, seen_len (held_at (map (λ dir. option_map_or (λ d. d.value) dir []) c.self.inside.dirs.items)) c.self.inside.words.items c.args.self.now c.self.view_is, ap length c.as_slice.ensures.value)

pub add_to-requires-clause-there : goal.add_to-requires-clause-there
add_to-requires-clause-there c = omega (arith, c.requires.inside, seen_len (held_at (map (λ dir. option_map_or (λ d. d.value) dir []) c.self.inside.dirs.items)) c.self.inside.words.items c.args.self.now c.self.view_is, ap length (c.words_of_dir-rest.ensures ∙ ap (drop (c.args.at - c.args.at % 32)) c.as_slice.ensures.value), length_drop (c.args.at - c.args.at % 32) c.self.inside.words.items)

pub add_to-requires-clause-word : goal.add_to-requires-clause-word
add_to-requires-clause-word c = λ w is.
    ap (λ (v : Words). v.kept) (word_there c.self.inside.words.items c.args.at (c.args.at - c.args.at % 32) c.index-old.result.now w refl (omega (arith, c.requires.inside, seen_len (held_at (map (λ dir. option_map_or (λ d. d.value) dir []) c.self.inside.dirs.items)) c.self.inside.words.items c.args.self.now c.self.view_is)) c.index-old.ensures (is ∙ ap (λ ws. get_or ws (c.args.at % 32) w) (c.words_of_dir-rest.ensures ∙ ap (drop (c.args.at - c.args.at % 32)) c.as_slice.ensures.value)))

pub index_mut-requires : goal.index_mut-requires
index_mut-requires c = omega (arith, c.requires.inside, seen_len (held_at (map (λ dir. option_map_or (λ d. d.value) dir []) c.self.inside.dirs.items)) c.self.inside.words.items c.args.self.now c.self.view_is)

pub returns : goal.returns
returns c =
    let u : Words = record { kept = c.with_bit.result; starting = c.if-starts.starting } in
    let old : Leaf = leaf_with (held_at (map (λ dir. option_map_or (λ d. d.value) dir []) c.self.inside.dirs.items) c.args.at) c.index-old.result.now.kept c.index-old.result.now.starting in
    let was : old ≡ get_or c.args.self.now c.args.at old = sym (seen_leaf (held_at (map (λ dir. option_map_or (λ d. d.value) dir []) c.self.inside.dirs.items)) c.self.inside.words.items c.args.self.now c.args.at c.index-old.result.now (leaf_with (held_at (map (λ dir. option_map_or (λ d. d.value) dir []) c.self.inside.dirs.items) c.args.at) c.index-old.result.now.kept c.index-old.result.now.starting) c.self.view_is (omega (arith, c.requires.inside, seen_len (held_at (map (λ dir. option_map_or (λ d. d.value) dir []) c.self.inside.dirs.items)) c.self.inside.words.items c.args.self.now c.self.view_is)) c.index-old.ensures) in
    let page = c.requires.leaf old was in
    record {
      old = old;
      new = leaf_with (get_or (option_map_or (λ d. d.value) c.add_to.new.dir []) (c.args.at % 32) []) u.kept u.starting;
      was = was;
      is = page_changed (λ dir. option_map_or (λ d. d.value) dir []) c.self.inside.dirs.items c.self.inside.words.items c.args.self.now c.args.at (c.args.at - c.args.at % 32) c.index_mut-dir.result.now c.add_to.new.dir u c.self.view_is (omega (arith, c.requires.inside, seen_len (held_at (map (λ dir. option_map_or (λ d. d.value) dir []) c.self.inside.dirs.items)) c.self.inside.words.items c.args.self.now c.self.view_is, c.self.invariant)) c.index_mut-dir.ensures.value refl
          (λ i v low within differ is some. c.in_ok-add_to.ensures.others i v low (subst (λ ws. i < length ws) (sym (c.words_of_dir-rest.ensures ∙ ap (drop (c.args.at - c.args.at % 32)) c.as_slice.ensures.value)) within) differ (is ∙ ap (λ ws. get_or ws i v) (sym (c.words_of_dir-rest.ensures ∙ ap (drop (c.args.at - c.args.at % 32)) c.as_slice.ensures.value))) some);
      so = grown_leaf c.args.inst c.args.starts (held_at (map (λ dir. option_map_or (λ d. d.value) dir []) c.self.inside.dirs.items) c.args.at) (get_or (option_map_or (λ d. d.value) c.add_to.new.dir []) (c.args.at % 32) []) c.index-old.result.now.kept c.index-old.result.now.starting u.kept u.starting c.bit-bit.result (c.bit-bit.ensures.index ∙ ap bit_of c.number.ensures) c.requires.number c.requires.sorted page.0 page.1
          c.with_bit.ensures.there c.with_bit.ensures.others
          (subst (λ r. Grows c.index-old.result.now.kept c.args.inst (held_if c.index-old.result.now.kept r) (get_or (option_map_or (λ d. d.value) c.add_to.new.dir []) (c.args.at % 32) [])) (ap (λ d. get_or d (c.args.at % 32) []) (was_here (λ dir. option_map_or (λ d. d.value) dir []) c.self.inside.dirs.items (c.args.at / 32) c.index_mut-dir.result.now (omega (arith, c.requires.inside, seen_len (held_at (map (λ dir. option_map_or (λ d. d.value) dir []) c.self.inside.dirs.items)) c.self.inside.words.items c.args.self.now c.self.view_is, c.self.invariant)) c.index_mut-dir.ensures.value)) c.in_ok-add_to.ensures.here)
          (elim c.if-starts.branch [
            | then-starts t ↦ inl (t.if-starts.true, ap (λ z. has_bit z c.bit-bit.result) t.starting-is ∙ t.with_bit-starting.ensures.there, λ j differ. ap (λ z. has_bit z j) t.starting-is ∙ t.with_bit-starting.ensures.others j differ)
            | else-starts t ↦ inr (t.if-starts.false, t.starting-is)
          ]);
    }
