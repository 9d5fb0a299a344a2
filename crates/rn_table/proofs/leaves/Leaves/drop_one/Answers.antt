use Rattle.std.proofs.Common.{◌≡◌, [], get_or, length, length-set, map, set, refl, sym, ap, ◌∙◌, subst, arith}
use Rattle.std.specs.Option.{option_map_or}
use Rattle.rn_table.specs.link.Leaves.{Leaf, held_at, leaf_with, leaves_by}
use Rattle.rn_table.specs.declared.leaf.Words.{Words}
use Rattle.rn_table.proofs.DirLemmas.{leaves_set, seen_leaf, seen_len}
use Rattle.rn_table.proofs.OneLeafLemmas.{dropped_one}
use Rattle.std.proofs.lemmas.List.{get_or-set_same}
use Rattle.rn_table.proofs.leaves.Leaves.drop_one.Goals as goal

pub index-requires : goal.index-requires
index-requires c = omega (arith, c.requires.inside, seen_len (held_at (map (λ dir. option_map_or (λ d. d.value) dir []) c.self.inside.dirs.items)) c.self.inside.words.items c.args.self.now c.self.view_is)

pub index_mut-requires : goal.index_mut-requires
index_mut-requires c = omega (arith, c.requires.inside, seen_len (held_at (map (λ dir. option_map_or (λ d. d.value) dir []) c.self.inside.dirs.items)) c.self.inside.words.items c.args.self.now c.self.view_is)

pub give_up-requires-clause-inside : goal.give_up-requires-clause-inside
give_up-requires-clause-inside c = omega (arith, c.requires.inside, seen_len (held_at (map (λ dir. option_map_or (λ d. d.value) dir []) c.self.inside.dirs.items)) c.self.inside.words.items c.args.self.now c.self.view_is, c.self.invariant)

pub give_up-requires-clause-words : goal.give_up-requires-clause-words
give_up-requires-clause-words c =
    let u : Words = record { kept = c.without-kept.result; starting = c.without.result } in
    omega (arith, c.requires.inside, seen_len (held_at (map (λ dir. option_map_or (λ d. d.value) dir []) c.self.inside.dirs.items)) c.self.inside.words.items c.args.self.now c.self.view_is, ap length c.as_slice.ensures.value, length-set c.self.inside.words.items c.args.at u)

pub give_up-requires-clause-none : goal.give_up-requires-clause-none
give_up-requires-clause-none c = λ w is.
    let u : Words = record { kept = c.without-kept.result; starting = c.without.result } in
    ap (λ (v : Words). v.kept) (is ∙ ap (λ ws. get_or ws c.args.at w) c.as_slice.ensures.value ∙ get_or-set_same c.self.inside.words.items c.args.at u w (omega (arith, c.requires.inside, seen_len (held_at (map (λ dir. option_map_or (λ d. d.value) dir []) c.self.inside.dirs.items)) c.self.inside.words.items c.args.self.now c.self.view_is))) ∙ c.if-kept-eq0.true

pub returns-then-kept-eq0 : goal.returns-then-kept-eq0
returns-then-kept-eq0 c =
    let u : Words = record { kept = c.without-kept.result; starting = c.without.result } in
    let old : Leaf = leaf_with (held_at (map (λ dir. option_map_or (λ d. d.value) dir []) c.self.inside.dirs.items) c.args.at) c.index.result.now.kept c.index.result.now.starting in
    let was : old ≡ get_or c.args.self.now c.args.at old = sym (seen_leaf (held_at (map (λ dir. option_map_or (λ d. d.value) dir []) c.self.inside.dirs.items)) c.self.inside.words.items c.args.self.now c.args.at c.index.result.now (leaf_with (held_at (map (λ dir. option_map_or (λ d. d.value) dir []) c.self.inside.dirs.items) c.args.at) c.index.result.now.kept c.index.result.now.starting) c.self.view_is (omega (arith, c.requires.inside, seen_len (held_at (map (λ dir. option_map_or (λ d. d.value) dir []) c.self.inside.dirs.items)) c.self.inside.words.items c.args.self.now c.self.view_is)) c.index.ensures) in
    record {
      old = old;
      new = leaf_with (held_at (map (λ dir. option_map_or (λ d. d.value) dir []) c.self.inside.dirs.items) c.args.at) u.kept u.starting;
      was = was;
      is = subst (λ ws. leaves_by (held_at (map (λ dir. option_map_or (λ d. d.value) dir []) c.give_up.new.dirs.items)) ws ≡ leaves_by (held_at (map (λ dir. option_map_or (λ d. d.value) dir []) c.self.inside.dirs.items)) ws) c.as_slice.ensures.value c.give_up.ensures.same ∙ leaves_set (held_at (map (λ dir. option_map_or (λ d. d.value) dir []) c.self.inside.dirs.items)) (held_at (map (λ dir. option_map_or (λ d. d.value) dir []) c.self.inside.dirs.items)) c.self.inside.words.items c.args.at u (λ j v within differ is some. refl) ∙ ap (λ ls. set ls c.args.at (leaf_with (held_at (map (λ dir. option_map_or (λ d. d.value) dir []) c.self.inside.dirs.items) c.args.at) u.kept u.starting)) c.self.view_is;
      so = dropped_one c.args.number (held_at (map (λ dir. option_map_or (λ d. d.value) dir []) c.self.inside.dirs.items) c.args.at) c.index.result.now.kept c.index.result.now.starting u.kept u.starting c.bit-bit.result c.bit-bit.ensures.index c.requires.number (c.requires.leaf old was)
          c.without-kept.ensures.gone c.without-kept.ensures.others c.without-kept.ensures.none c.without.ensures.gone c.without.ensures.others;
    }

pub returns-else-kept-eq0 : goal.returns-else-kept-eq0
returns-else-kept-eq0 c =
    let u : Words = record { kept = c.without-kept.result; starting = c.without.result } in
    let old : Leaf = leaf_with (held_at (map (λ dir. option_map_or (λ d. d.value) dir []) c.self.inside.dirs.items) c.args.at) c.index.result.now.kept c.index.result.now.starting in
    let was : old ≡ get_or c.args.self.now c.args.at old = sym (seen_leaf (held_at (map (λ dir. option_map_or (λ d. d.value) dir []) c.self.inside.dirs.items)) c.self.inside.words.items c.args.self.now c.args.at c.index.result.now (leaf_with (held_at (map (λ dir. option_map_or (λ d. d.value) dir []) c.self.inside.dirs.items) c.args.at) c.index.result.now.kept c.index.result.now.starting) c.self.view_is (omega (arith, c.requires.inside, seen_len (held_at (map (λ dir. option_map_or (λ d. d.value) dir []) c.self.inside.dirs.items)) c.self.inside.words.items c.args.self.now c.self.view_is)) c.index.ensures) in
    record {
      old = old;
      new = leaf_with (held_at (map (λ dir. option_map_or (λ d. d.value) dir []) c.self.inside.dirs.items) c.args.at) u.kept u.starting;
      was = was;
      is = leaves_set (held_at (map (λ dir. option_map_or (λ d. d.value) dir []) c.self.inside.dirs.items)) (held_at (map (λ dir. option_map_or (λ d. d.value) dir []) c.self.inside.dirs.items)) c.self.inside.words.items c.args.at u (λ j v within differ is some. refl) ∙ ap (λ ls. set ls c.args.at (leaf_with (held_at (map (λ dir. option_map_or (λ d. d.value) dir []) c.self.inside.dirs.items) c.args.at) u.kept u.starting)) c.self.view_is;
      so = dropped_one c.args.number (held_at (map (λ dir. option_map_or (λ d. d.value) dir []) c.self.inside.dirs.items) c.args.at) c.index.result.now.kept c.index.result.now.starting u.kept u.starting c.bit-bit.result c.bit-bit.ensures.index c.requires.number (c.requires.leaf old was)
          c.without-kept.ensures.gone c.without-kept.ensures.others c.without-kept.ensures.none c.without.ensures.gone c.without.ensures.others;
    }
