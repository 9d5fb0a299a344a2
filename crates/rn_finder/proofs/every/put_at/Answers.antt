use Rattle.std.proofs.Common.{◌≡◌, ◌++◌, [], sym, ap, ◌∙◌, subst, arith, append_assoc, length}
use Rattle.std.specs.Prelude.{None, Some, option_map}
use Rattle.std.specs.Option.{option_copied}
use Rattle.std.proofs.lemmas.List.{append-nil}
use Rattle.rn_model.specs.Markings.{Instance, instance_at, net_of}
use Rattle.rn_model.specs.Systems.{net_at}
use Rattle.rn_model.proofs.AfterFiring.{found_number}
use Rattle.rn_finder.specs.Starting.{AreJust, HasStartIn, IsKept}
use Rattle.rn_finder.proofs.JustThese.{just_none}
use Rattle.rn_finder.proofs.KeptStarts.{found_kept, kept_net}
use Rattle.rn_finder.proofs.StartingBindings.{all_below, more_below}
use Rattle.rn_finder.proofs.StartingBindings.{none_where_absent}
use Rattle.rn_finder.proofs.every.put_at.Goals as goal

pub returns-in_default : goal.returns-in_default
returns-in_default c =
    let system = c.args.marked.system.now in
    let m = c.args.marked.table.now.marking in
    let absent : net_of m c.args.number ≡ None
    = ap (option_map (λ (i : Instance). i.net))
    (sym c.find.ensures ∙ ap option_copied c.in_default.is) in (
      [],
      sym (append-nil c.args.found.now.items),
      just_none system m c.args.marked.depth (HasStartIn c.args.number)
          (λ b enabled (net, t, starts). none_where_absent system m c.args.marked.depth
          c.args.number absent net t b enabled starts),
    )

pub all_from-requires-clause-kept : goal.all_from-requires-clause-kept
all_from-requires-clause-kept c =
    found_kept c.args.marked.table.now.marking c.args.number c.in-Some.inst.now
    (sym c.find.ensures ∙ ap option_copied c.in-Some.is)

pub loop-t-preserved : goal.loop-t-preserved
loop-t-preserved c =
    let i = c.in-Some.inst.now in
    let before = c.loop-t.invariant in
    let more = c.in_ok-more.more.items in (
      before.0 ++ more,
      c.in_ok-append.ensures.items ∙ ap (λ xs. xs ++ more) before.1
          ∙ append_assoc c.args.found.now.items before.0 more,
      more_below c.args.marked.system.now c.args.marked.table.now.marking c.args.marked.depth
          i.number i.net c.loop-t.t before.0 more before.2 c.in_ok-more.ensures,
    )

pub returns : goal.returns
returns c =
    let system = c.args.marked.system.now in
    let m = c.args.marked.table.now.marking in
    let i = c.in-Some.inst.now in
    let is : instance_at m c.args.number ≡ Some i
    = sym c.find.ensures ∙ ap option_copied c.in-Some.is in
    let kept : IsKept m i = found_kept m c.args.number i is in
    let whole : c.transition_count-count.result ≡ length (net_at system i.net).transitions
    = subst (λ n. c.transition_count-count.result ≡ length (net_at system n).transitions)
    c.net.ensures c.transition_count-count.ensures in
    let all = c.loop-t.invariant in (
      all.0,
      all.1,
      subst (λ n. AreJust system m c.args.marked.depth (HasStartIn n) all.0)
          (found_number m.instances c.args.number i is)
          (all_below system m c.args.marked.depth i.number i.net c.loop-t.t all.0
          (kept_net m i kept) (omega arith) all.2),
    )
