-- What is enabled can be written.
use Rattle.std.proofs.Common.{sym, ap, subst, ◌∙◌}
use Rattle.std.specs.Prelude.{All}
use Rattle.rn_record.specs.Writable.{HasLines}
use Rattle.rn_fire.specs.States.{State}
use Rattle.rn_session.proofs.NumberedNow.{have_lines}
use Rattle.rn_session.proofs.listing.put_list.Goals as goal

pub put_all-requires : goal.put_all-requires
put_all-requires c =
    let s : State = c.args.session.now in
    let found = c.in_ok-found.found.items in
    subst (All (HasLines c.system.result.now c.args.names.now)) (sym c.as_slice.ensures.value)
    (subst (λ x. All (HasLines x c.args.names.now) found)
    (sym (c.system.ensures.system ∙ ap (λ (x : State). x.setup.system) c.state.ensures.state))
    (subst (λ ns. All (HasLines s.setup.system ns) found) (sym c.requires)
    (have_lines s c.state.ensures.session.state found c.in_ok-found.ensures)))
