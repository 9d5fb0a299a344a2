use Rattle.std.proofs.Common.{◌≡◌, sym, ap, ◌∙◌, subst, arith, length, []}
use Rattle.std.specs.Prelude.{None, Some, option_map}
use Rattle.std.specs.Option.{option_copied}
use Rattle.rn_model.specs.declared.binding.Binding.{Binding}
use Rattle.rn_model.specs.Markings.{Instance, instance_at, net_of}
use Rattle.rn_model.specs.Systems.{net_at}
use Rattle.rn_model.proofs.AfterFiring.{found_number}
use Rattle.rn_search.specs.Sought.{StartsAt}
use Rattle.rn_finder.specs.First.{IsFirstOf}
use Rattle.rn_finder.specs.Starting.{HasStartIn, IsKept, start_of}
use Rattle.rn_finder.proofs.FirstBindings.{first_with_instance, none_first}
use Rattle.rn_finder.proofs.JustThese.{just_none}
use Rattle.rn_finder.proofs.KeptStarts.{found_kept, kept_net}
use Rattle.rn_finder.proofs.StartingBindings.{all_below, more_below, none_where_absent}
use Rattle.rn_finder.proofs.first.first_in.Goals as goal

pub returns-in_default : goal.returns-in_default
returns-in_default c =
    let system = c.args.marked.system.now in
    let m = c.args.marked.table.now.marking in
    let absent : net_of m c.args.number ≡ None
    = ap (option_map (λ (i : Instance). i.net))
    (sym c.find.ensures ∙ ap option_copied c.in_default.is) in
    λ b enabled (net, t, starts). none_where_absent system m c.args.marked.depth
    c.args.number absent net t b enabled starts

pub first_from-requires-clause-kept : goal.first_from-requires-clause-kept
first_from-requires-clause-kept c =
    found_kept c.args.marked.table.now.marking c.args.number c.in-Some.inst.now
    (sym c.find.ensures ∙ ap option_copied c.in-Some.is)

pub loop-t-preserved : goal.loop-t-preserved
loop-t-preserved c =
    let system = c.args.marked.system.now in
    let m = c.args.marked.table.now.marking in
    let depth = c.args.marked.depth in
    let i = c.in-Some.inst.now in
    more_below system m depth i.number i.net c.loop-t.t [] [] c.loop-t.invariant
    (just_none system m depth (λ (b : Binding). StartsAt b (start_of i.number i.net c.loop-t.t))
    (rw c.in_default-found.is at c.in_ok-found.ensures))

pub returns-in-Some-found : goal.returns-in-Some-found
returns-in-Some-found c =
    let system = c.args.marked.system.now in
    let m = c.args.marked.table.now.marking in
    let depth = c.args.marked.depth in
    let i = c.in-Some.inst.now in
    let is : instance_at m c.args.number ≡ Some i
    = sym c.find.ensures ∙ ap option_copied c.in-Some.is in
    subst (λ n. IsFirstOf system m depth (HasStartIn n) (Some c.in-Some-found.first))
    (found_number m.instances c.args.number i is)
    (first_with_instance system m depth i.number i.net c.loop-t.t c.in-Some-found.first
    (kept_net m i (found_kept m c.args.number i is)) c.loop-t.invariant
    (rw c.in-Some-found.is at c.in_ok-found.ensures))

pub returns : goal.returns
returns c =
    let system = c.args.marked.system.now in
    let m = c.args.marked.table.now.marking in
    let depth = c.args.marked.depth in
    let i = c.in-Some.inst.now in
    let is : instance_at m c.args.number ≡ Some i
    = sym c.find.ensures ∙ ap option_copied c.in-Some.is in
    let kept : IsKept m i = found_kept m c.args.number i is in
    let whole : c.transition_count-count.result ≡ length (net_at system i.net).transitions
    = subst (λ n. c.transition_count-count.result ≡ length (net_at system n).transitions)
    c.net.ensures c.transition_count-count.ensures in
    subst (λ n. IsFirstOf system m depth (HasStartIn n) None)
    (found_number m.instances c.args.number i is)
    (none_first system m depth (HasStartIn i.number)
    (all_below system m depth i.number i.net c.loop-t.t [] (kept_net m i kept) (omega arith)
    c.loop-t.invariant))
