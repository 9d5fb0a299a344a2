use Rattle.std.proofs.Common.{◌≡◌, ◌∙◌, ◌+◌, suc, sym, ap, subst, arith, length, ◌∷◌, []}
use Rattle.std.proofs.lemmas.List.{length-append}
use Rattle.rn_channel.specs.link.Kept.{IsLevel, AreLevelsFrom}
use Rattle.rn_channel.proofs.LevelLemmas.{one_more_level}
use Rattle.rn_channel.proofs.heights.levels_of.Goals as goal

pub loop-k-preserved : goal.loop-k-preserved
loop-k-preserved c =
    let system = c.args.system.now in
    let so_far = c.loop-k.invariant in
    let many = so_far.many in
    let here : 0 + length c.loop-k.levels.items ≡ c.loop-k.k = omega (arith, many) in
    let next : suc c.loop-k.k ≡ c.loop-k.k + 1 = omega arith in
    let level : IsLevel system (0 + length c.loop-k.levels.items) c.from_vec.result
    = subst (λ l. IsLevel system (0 + length c.loop-k.levels.items) l) (sym c.from_vec.ensures)
    (subst (λ n. IsLevel system n c.loop-k.level.items) (sym here) so_far.next) in
    record {
      many = ap length c.in_ok-push.ensures.items
          ∙ omega (arith, many, length-append c.loop-k.levels.items (c.from_vec.result ∷ []));
      done = subst (AreLevelsFrom system 0) (sym c.in_ok-push.ensures.items)
          (one_more_level system 0 c.loop-k.levels.items c.from_vec.result so_far.done level);
      next = subst (λ n. IsLevel system n c.in_ok-next.next.items) next
          (c.in_ok-next.ensures c.loop-k.k
          (subst (λ l. IsLevel system c.loop-k.k l) (sym c.as_slice.ensures.value) so_far.next));
    }
