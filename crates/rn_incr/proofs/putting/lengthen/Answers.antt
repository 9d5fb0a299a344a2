use Rattle.std.proofs.Common.{◌∷◌, [], ◌++◌, get_or, sym, ap, subst, ◌∙◌, arith}
use Rattle.rn_incr.specs.link.Kept.{IsSum}
use Rattle.rn_incr.proofs.PutLemmas.{same_longer}
use Rattle.rn_incr.proofs.SumLemmas.{sum_longer}
use Rattle.rn_incr.proofs.putting.lengthen.Goals as goal

pub loop-alloc-preserved : goal.loop-alloc-preserved
loop-alloc-preserved c =
    let lists = c.loop-alloc.lists.items in
    let is =
    c.push_reserved.ensures.items ∙ ap (λ list. lists ++ list ∷ []) c.new.ensures in (
      λ n. ap (λ xs. get_or xs n []) is ∙ same_longer lists n ∙ c.loop-alloc.invariant.0 n,
      omega (arith, c.push_reserved.ensures.capacity, c.loop-alloc.invariant.1),
      λ total sum. subst (λ ls. IsSum ls total) (sym is)
          (sum_longer lists total (c.loop-alloc.invariant.2 total sum)),
    )
