-- In whatever order the values stand.
use Rattle.std.proofs.Common.{◌≡◌, [], subst}
use Rattle.std.specs.Prelude.{◌↔◌, IsTrue, unwrap_or}
use Rattle.std.specs.Option.{option_copied}
use Rattle.rn_model.specs.Lists.{IsWithin}
use Rattle.rn_model.specs.Markings.{tokens}
use Rattle.rn_arcs.proofs.CountLemmas.{only_nothing}
use Rattle.rn_looking.proofs.FlexibleLooks.{in_any_order}
use Rattle.rn_looking.proofs.flexible.holds_all.Goals as goal

pub returns-in-Some : goal.returns-in-Some
returns-in-Some c =
    let held = tokens c.args.table.now.marking c.args.inst.now c.args.place in
    let is : c.in-Some.bag.now ≡ held =
    subst (λ bag. unwrap_or (option_copied bag) [] ≡ held) c.in-Some.is c.bag_at.ensures in
    in_any_order c.args.values c.into_vec-sorted.result.items c.sort.new.values.items
    c.from_vec-sorted.result held c.into_vec-sorted.ensures c.in_ok-sort.ensures.same
    c.from_vec-sorted.ensures c.has_all.result
    (subst (λ ws. IsTrue c.has_all.result ↔ IsWithin c.from_vec-sorted.result ws) is
    c.has_all.ensures)

pub returns : goal.returns
returns c =
    let held = tokens c.args.table.now.marking c.args.inst.now c.args.place in
    let is : [] ≡ held =
    subst (λ bag. unwrap_or (option_copied bag) [] ≡ held) c.in-None.is c.bag_at.ensures in
    in_any_order c.args.values c.into_vec-sorted.result.items c.sort.new.values.items
    c.from_vec-sorted.result held c.into_vec-sorted.ensures c.in_ok-sort.ensures.same
    c.from_vec-sorted.ensures c.is_empty.result
    (subst (λ ws. IsTrue c.is_empty.result ↔ IsWithin c.from_vec-sorted.result ws) is
    (only_nothing c.is_empty.result c.from_vec-sorted.result c.is_empty.ensures))
