use Rattle.std.proofs.Common.{ℕ, [], get_or, sym, ap, subst}
use Rattle.rn_model.specs.Markings.{Marking}
use Rattle.rn_table.specs.Tables.{Kept}
use Rattle.rn_reach.specs.Reach.{DifferAtMostIn}
use Rattle.rn_holders.specs.Holders.{HaveHolders}
use Rattle.rn_incr.specs.Lists.{IsListOf, AreListsOf, Listed}
use Rattle.rn_holders.proofs.NearMentions.{kinds_near}
use Rattle.rn_incr.proofs.RefreshLemmas.{holders_after}
use Rattle.rn_incr.proofs.lists.Lists.refresh.Goals as goal

pub hold_all-requires : goal.hold_all-requires
hold_all-requires c =
    kinds_near c.args.system.now c.args.table.now.marking c.requires.good
    (λ h net place v of has. (c.requires.tokens h net place v of has).0)

pub remake-requires-clause-held : goal.remake-requires-clause-held
remake-requires-clause-held c =
    let m = c.self.inside.table.marking in
    let other = c.args.table.now.marking in
    let changed = c.args.changed.now in
    let differ : DifferAtMostIn changed m other =
    subst (λ (k : Marking). DifferAtMostIn changed k other)
    (sym (ap (λ (x : Listed). x.marking) c.self.view_is)) c.requires.changed in
    subst (HaveHolders other) (sym c.as_slice.ensures.value)
    (holders_after c.args.system.now m other changed c.self.inside.depth differ
    c.self.inside.holders.items c.hold_all.new.holders.items
    c.self.invariant c.in_ok-hold_all.ensures.keep c.in_ok-hold_all.ensures.has)

pub invariant_of-self-2 : goal.invariant_of-self-2
invariant_of-self-2 c =
    let m = c.self.inside.table.marking in
    let other = c.args.table.now.marking in
    let changed = c.args.changed.now in
    let differ : DifferAtMostIn changed m other =
    subst (λ (k : Marking). DifferAtMostIn changed k other)
    (sym (ap (λ (x : Listed). x.marking) c.self.view_is)) c.requires.changed in
    subst (λ (t : Kept). HaveHolders t.marking c.hold_all.new.holders.items)
    (sym c.in_ok-kept.ensures)
    (holders_after c.args.system.now m other changed c.self.inside.depth differ
    c.self.inside.holders.items c.hold_all.new.holders.items
    c.self.invariant c.in_ok-hold_all.ensures.keep c.in_ok-hold_all.ensures.has)

pub returns-clause-lists : goal.returns-clause-lists
returns-clause-lists c =
    let m = c.self.inside.table.marking in
    let other = c.args.table.now.marking in
    let changed = c.args.changed.now in
    let differ : DifferAtMostIn changed m other =
    subst (λ (k : Marking). DifferAtMostIn changed k other)
    (sym (ap (λ (x : Listed). x.marking) c.self.view_is)) c.requires.changed in
    subst
    (λ (t : Kept). (n : ℕ) → IsListOf c.args.system.now t.marking c.self.inside.depth n
    (get_or c.remake.new.kept n []))
    (sym c.in_ok-kept.ensures)
    (c.in_ok-count.ensures.lists m differ
    (subst (AreListsOf c.args.system.now) (sym c.self.view_is) c.requires.lists))
