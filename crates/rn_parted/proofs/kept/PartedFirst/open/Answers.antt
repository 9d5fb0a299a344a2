use Rattle.std.proofs.Common.{◌≡◌, sym, ap, subst, rules}
use Rattle.std.specs.Prelude.{[], Some, option_and_then, slice_get, unwrap_or}
use Rattle.rn_model.specs.Markings.{instance_at}
use Rattle.rn_table.specs.Tables.{Kept}
use Rattle.rn_parted.specs.Parted.{AreShares}
use Rattle.rn_holders.proofs.NearMentions.{kinds_near}
use Rattle.rn_parted.proofs.ShareLemmas.{opened}
use Rattle.rn_parted.proofs.kept.PartedFirst.open.Goals as goal

pub holders_but-requires : goal.holders_but-requires
holders_but-requires c =
    kinds_near c.args.marked.system.now c.args.marked.table.now.marking c.requires.searched.good
    (λ h net place v of has. (c.requires.searched.tokens h net place v of has).0)

pub shares_of-requires-clause-bag : goal.shares_of-requires-clause-bag
shares_of-requires-clause-bag c =
    let bag = c.in-Some-bag.bag.now in
    let is : option_and_then (λ i. slice_get i.places c.in-Some-place_of.place)
    (instance_at c.args.marked.table.now.marking c.args.instance) ≡ Some bag = search rules in
    sym (ap (λ o. unwrap_or o []) is)

pub returns : goal.returns
returns c =
    let m = c.args.marked.table.now.marking in
    let bag = c.in-Some-bag.bag.now in
    let is : option_and_then (λ i. slice_get i.places c.in-Some-place_of.place)
    (instance_at m c.args.instance) ≡ Some bag = search rules in
    opened c.args.marked.system.now m c.args.marked.depth c.args.instance c.in-Some-place_of.place
    c.in-Some.net c.in_ok-table.table.marking c.in_ok-holders.holders.items
    c.in_ok-rest.rest c.in_ok-shares.shares.items
    (ap (λ (t : Kept). t.marking) c.in_ok-table.ensures) (search rules) (search rules)
    c.in_ok-holders.ensures c.in_ok-rest.ensures
    (subst (λ ts. AreShares c.args.marked.system.now m c.args.marked.depth c.args.instance
    c.in-Some-place_of.place ts c.in_ok-shares.shares.items)
    (sym (ap (λ o. unwrap_or o []) is)) c.in_ok-shares.ensures)
