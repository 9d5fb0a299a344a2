use Rattle.std.proofs.Common.{◌≡◌, [], subst, rules}
use Rattle.std.specs.Prelude.{Contains}
use Rattle.rn_model.proofs.EnablingLemmas.{not_in_nil}
use Rattle.rn_parted.proofs.ShareLemmas.{shares_same}
use Rattle.rn_parted.proofs.kept.shares_of.Goals as goal

pub returns : goal.returns
returns c =
    let system = c.args.site.marked.system.now in
    let m = c.args.site.marked.table.now.marking in
    let none : c.new-shares.result.items ≡ [] = search rules in
    c.in_ok-settle_bag.ensures m
    (shares_same system m c.args.site.marked.depth c.args.site.instance c.args.site.place
    c.new-found.result.keys)
    (λ s has. absurd (not_in_nil s
    (subst (λ xs. Contains xs s) none has)))
