use Rattle.std.proofs.Common.{None, [], ◌∷◌, ap, ◌∙◌, map, get_or, length, length-append, refl, arith}
use Rattle.std.specs.Option.{option_map_or}
use Rattle.rn_table.proofs.DirLemmas.{push_empty}
use Rattle.rn_table.proofs.dir.Dir.new.Goals as goal

pub loop-preserved : goal.loop-preserved
loop-preserved c = record {
  size = omega (arith, ap length c.in_ok-push.ensures.items, length-append c.loop.pages.items (None ∷ []), c.loop.invariant.size);
  empty = λ i. ap (λ xs. get_or (map (λ page. option_map_or (λ p. p.value) page []) xs) i []) c.in_ok-push.ensures.items ∙ push_empty (λ page. option_map_or (λ p. p.value) page []) c.loop.pages.items None i refl ∙ c.loop.invariant.empty i;
}
