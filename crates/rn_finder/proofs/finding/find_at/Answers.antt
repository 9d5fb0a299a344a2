use Rattle.std.proofs.Common.{◌≡◌, ap, sym, subst, length, ◌∙◌}
use Rattle.std.specs.Prelude.{None, Some, IfNone, option_map}
use Rattle.std.specs.Option.{option_copied}
use Rattle.rn_model.specs.Markings.{Instance, instance_at, net_of}
use Rattle.rn_model.specs.Systems.{net_at}
use Rattle.rn_model.proofs.AfterFiring.{found_number}
use Rattle.rn_finder.specs.Starting.{IsKept, IsNoStartIn}
use Rattle.rn_finder.proofs.KeptStarts.{found_kept, kept_net, none_in_kept}
use Rattle.rn_finder.proofs.StartingBindings.{none_round, none_where_absent}
use Rattle.rn_finder.proofs.finding.find_at.Goals as goal

pub returns-in_default-clause-none : goal.returns-in_default-clause-none
returns-in_default-clause-none g c =
    let m = c.args.marked.table.now.marking in
    let absent : net_of m c.args.number ≡ None
    = ap (option_map (λ (i : Instance). i.net)) (sym c.find.ensures ∙ ap option_copied c.in_default.is) in
    none_where_absent c.args.marked.system.now m c.args.marked.depth c.args.number absent

pub find_among-requires-clause-kept : goal.find_among-requires-clause-kept
find_among-requires-clause-kept g c =
    found_kept c.args.marked.table.now.marking c.args.number c.in-Some.inst.now
    (sym c.find.ensures ∙ ap option_copied c.in-Some.is)

pub find_among-requires-2-clause-kept : goal.find_among-requires-2-clause-kept
find_among-requires-2-clause-kept g c =
    found_kept c.args.marked.table.now.marking c.args.number c.in-Some.inst.now
    (sym c.find.ensures ∙ ap option_copied c.in-Some.is)

pub returns-then-starts_none-clause-none : goal.returns-then-starts_none-clause-none
returns-then-starts_none-clause-none g c =
    let m = c.args.marked.table.now.marking in
    let i = c.in-Some.inst.now in
    let is : instance_at m c.args.number ≡ Some i = sym c.find.ensures ∙ ap option_copied c.in-Some.is in
    subst (IsNoStartIn c.args.marked.system.now m c.args.marked.depth)
    (found_number m.instances c.args.number i is)
    (none_in_kept c.args.marked.system.now m c.args.marked.depth i
    (found_kept m c.args.number i is) (c.starts_none.ensures c.if-starts_none.true))

pub returns-clause-none : goal.returns-clause-none
returns-clause-none g c =
    let m = c.args.marked.table.now.marking in
    let i = c.in-Some.inst.now in
    let is : instance_at m c.args.number ≡ Some i = sym c.find.ensures ∙ ap option_copied c.in-Some.is in
    let whole : c.transition_count-count.result
    ≡ length (net_at c.args.marked.system.now i.net).transitions
    = subst (λ n. c.transition_count-count.result
    ≡ length (net_at c.args.marked.system.now n).transitions) c.net.ensures
    c.transition_count-count.ensures in
    let kept : IsKept m i = found_kept m c.args.number i is in
    subst (λ n. IfNone c.in_ok-found-2.found (IsNoStartIn c.args.marked.system.now m c.args.marked.depth n))
    (found_number m.instances c.args.number i is)
    (none_round c.args.marked.system.now m c.args.marked.depth i.number i.net c.min-first.result
    c.transition_count-count.result c.in_ok-found-2.found (kept_net m i kept)
    whole (rw c.in_default-2.is at c.in_ok-found.ensures.none)
    c.in_ok-found-2.ensures.none)
