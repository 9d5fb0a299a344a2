use Rattle.std.proofs.Common.{[], ◌∷◌, ◌<◌, ap, ◌∙◌, map, get_or, length, length-append, subst, sym, arith}
use Rattle.std.specs.Option.{option_map_or}
use Rattle.rn_table.proofs.DirLemmas.{push_same}
use Rattle.rn_table.proofs.dir.Dir.copy_kept.Goals as goal

pub loop-index-preserved : goal.loop-index-preserved
loop-index-preserved c = record {
  size = omega (arith, ap length c.in_ok-push.ensures.items, length-append c.loop-index.pages.items (c.in_ok-page.page ∷ []), c.loop-index.invariant.size);
  same = λ i w low inside is some.
      ap (λ xs. get_or (map (λ page. option_map_or (λ p. p.value) page []) xs) i []) c.in_ok-push.ensures.items
      ∙ push_same (λ page. option_map_or (λ p. p.value) page []) c.loop-index.pages.items c.in_ok-page.page i c.loop-index.index c.args.self.now c.loop-index.invariant.size low (λ less. c.loop-index.invariant.same i w less inside is some)
      (λ e. c.in_ok-page.ensures w (subst (λ k. k < length c.args.words.now) e inside) (is ∙ ap (λ k. get_or c.args.words.now k w) e) some ∙ ap (λ k. get_or c.args.self.now k []) (sym e));
}
