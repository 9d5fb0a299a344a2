use Rattle.std.proofs.Common.{◌≡◌, true, sym, ap, ◌∙◌, subst, rules}
use Rattle.std.specs.Prelude.{[], Some, option_and_then, slice_get, unwrap_or}
use Rattle.rn_holders.specs.Holders.{HasItsHolders, HaveTheseHolders}
use Rattle.rn_model.specs.Markings.{Instance, instance_at}
use Rattle.rn_reach.specs.Reach.{DifferAtMostIn}
use Rattle.rn_table.specs.Tables.{Kept}
use Rattle.rn_parted.specs.Parted.{IsParted, Parted}
use Rattle.rn_parted.proofs.FollowLemmas.{follows}
use Rattle.rn_holders.proofs.NearMentions.{kinds_near}
use Rattle.rn_parted.proofs.kept.PartedFirst.follow.Goals as goal

pub hold_all-requires : goal.hold_all-requires
hold_all-requires c =
    kinds_near c.args.marked.system.now c.args.marked.table.now.marking c.requires.searched.good
    (λ h net place v of has. (c.requires.searched.tokens h net place v of has).0)

pub settle_bag-requires-clause-bag : goal.settle_bag-requires-clause-bag
settle_bag-requires-clause-bag c =
    let m = c.args.marked.table.now.marking in
    let i : Instance = c.in-Some-later.inst.now in
    let there : instance_at m c.self.inside.instance ≡ Some i = search rules in
    let bag : slice_get i.places c.self.inside.place ≡ Some c.in-Some-held.bag.now = search rules in
    sym (ap (λ o. unwrap_or (option_and_then (λ (j : Instance). slice_get j.places c.self.inside.place) o) []) there
    ∙ ap (λ o. unwrap_or o []) bag)

pub returns : goal.returns
returns c told kept differ =
    let system = c.args.marked.system.now in
    let m = c.args.marked.table.now.marking in
    let n = c.self.inside.instance in
    let place = c.self.inside.place in
    let old : Parted = record {
      instance = n;
      place = place;
      depth = c.self.inside.depth;
      marking = c.self.inside.table.marking;
      holders = c.self.inside.holders.items;
      rest = c.self.inside.rest;
      shares = c.self.inside.shares.items;
    } in
    let was : Instance = c.in-Some.before.now in
    let is : Instance = c.in-Some-later.inst.now in
    let before : instance_at old.marking n ≡ Some was = search rules in
    let after : instance_at m n ≡ Some is = search rules in
    let bag : slice_get is.places place ≡ Some c.in-Some-held.bag.now = search rules in
    let beside : c.is_same_beside.result ≡ true = search rules in
    let apart : c.others_avoid.result ≡ true = search rules in
    let others = c.in_ok-others.others.items in
    let holders = c.hold_all.new.holders.items in
    let found = c.in_ok-found.found.keys in
    follows system old m c.args.changed.now others found was is holders
    (subst (IsParted system) (sym c.self.view_is) kept)
    (subst (λ (p : Parted). DifferAtMostIn c.args.changed.now p.marking m) (sym c.self.view_is) differ)
    before after (c.is_same_beside.ensures beside) c.in_ok-others.ensures
    c.hold_all.ensures.keep
    (subst (λ ks. HaveTheseHolders m ks holders) c.as_slice.ensures.value c.in_ok-hold_all.ensures.has)
    (subst (λ hs. HasItsHolders hs others found) c.as_slice-2.ensures.value
    (subst (λ ks. HasItsHolders c.as_slice-2.result.now ks found) c.as_slice-3.ensures.value
    c.in_ok-found.ensures))
    (c.others_avoid.ensures apart) c.in_ok-table.table.marking c.args.marked.depth
    c.in-Some-held.bag.now c.settle_bag.new.shares.items
    (ap (λ (t : Kept). t.marking) c.in_ok-table.ensures)
    (ap (λ (p : Parted). p.depth) c.self.view_is ∙ c.requires.depth)
    (sym (ap (λ o. unwrap_or (option_and_then (λ (j : Instance). slice_get j.places place) o) []) after
    ∙ ap (λ o. unwrap_or o []) bag))
    (c.in_ok-settle_bag.ensures old.marking)
