use Rattle.std.proofs.Common.{◌≡◌, ◌∙◌, ◌++◌, ◌∷◌, [], ap, sym, rules}
use Rattle.rn_incr.specs.link.Kept.{put_in}
use Rattle.rn_incr.proofs.PutLemmas.{put_last}
use Rattle.rn_incr.proofs.putting.put_all.Goals as goal

pub loop-one-preserved : goal.loop-one-preserved
loop-one-preserved c =
    let lists = c.loop-one.lists.items in
    let before = c.loop-one.fresh.items in
    let rest = c.pop.new.self.items in
    let one = c.in-Some.one in
    let is : before ≡ rest ++ one ∷ [] = search rules in (
      ap (put_in rest) c.put_one.ensures.put ∙ sym (put_last rest one lists)
          ∙ ap (λ fs. put_in fs lists) (sym is) ∙ c.loop-one.invariant.0,
      c.put_one.ensures.sum,
    )
