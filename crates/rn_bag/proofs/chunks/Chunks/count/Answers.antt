use Rattle.std.proofs.Common.{◌≤◌, List, get_or, sym, subst, arith}
use Rattle.rn_bag.specs.declared.tag.Tag.{Tag}
use Rattle.rn_bag.proofs.EditLemmas.{few_counted}
use Rattle.rn_bag.proofs.TagLemmas.{tag_there, same_size}
use Rattle.rn_bag.proofs.chunks.Chunks.count.Goals as goal

pub returns-clause-bound : goal.returns-clause-bound
returns-clause-bound c =
    let none : Tag = record { word = 0; count = 0; before = 0; at = 0; len = 0 } in
    let within = same_size c.self.inside.pool c.self.inside.tags.items c.args.self.now c.self.view_is in
    subst (λ (ts : List Tag). (get_or ts c.args.index none).count ≤ 64) (sym c.as_slice.ensures.value)
    (few_counted _ _ _ (tag_there c.self.inside.pool c.self.inside.tags.items c.args.index none c.self.invariant (omega (arith, c.requires, within))).chunk)
