use Rattle.std.proofs.Common.{◌≡◌, length, ap, ◌∙◌}
use Rattle.std.specs.Prelude.{flat_map}
use Rattle.rn_incr.proofs.ListedLemmas.{count_is}
use Rattle.rn_incr.proofs.lists.Lists.count.Goals as goal

pub returns : goal.returns
returns c system are =
    let l = c.args.self.now in
    let same : c.self.inside.kept ≡ l.lists = ap (λ x. x.lists) c.self.view_is in
    count_is system l.marking l.depth l.lists c.total.result are
    (c.total.ensures ∙ ap (λ lists. length (flat_map (λ bs. bs) lists)) same)
