use Rattle.std.proofs.Common.{◌+◌, drop, ap, ◌∙◌}
use Rattle.std.specs.Option.{option_copied}
use Rattle.rn_parted.specs.Lesser.{least_of, lesser}
use Rattle.rn_parted.proofs.LeastLemmas.{least_more}
use Rattle.rn_parted.proofs.kept.PartedFirst.first.Goals as goal

pub loop-share-preserved : goal.loop-share-preserved
loop-share-preserved c =
    let xs = c.as_slice-share-items.result.now in
    let i = c.loop-share.share-index in
    let s = c.share-item.result in
    ap (λ o. least_of o (drop (i + 1) xs))
    (c.lesser-first.ensures ∙ ap (lesser (option_copied c.loop-share.first)) c.first_of.ensures)
    ∙ least_more (option_copied c.loop-share.first) xs i s c.loop-share-test.true c.share-item.is
    ∙ c.loop-share.invariant
