-- That it is the only one, and the call.
use Rattle.std.proofs.Common.{◌∙◌, ap, sym, List}
use Rattle.rn_declared.specs.declared.fault.Rule.TheVariants as Rule
use Rattle.rn_declared.specs.declared.fault.Fault.{Fault}
use Rattle.rn_declared.specs.Faults.{first_from, broken_if}
use Rattle.rn_rules.specs.Transitions.{channel_faults, uplink_faults}
use Rattle.rn_rules.specs.link.Scopes.{scope_in, progress_of}
use Rattle.rn_declared.proofs.ToldLemmas.{first_from-append}
use Rattle.rn_rules.proofs.inscriptions.see_uplink.Goals as goal

pub returns : goal.returns
unfolding uplink_faults
returns g c =
    let s = scope_in c.args.known.now in
    let p = progress_of c.args.stand.now in
    let known = c.args.first.now.fault in
    let call : List Fault = channel_faults s p c.args.channel.now c.args.args.now in
    c.in_ok-see_channel.ensures
    ∙ ap (λ k. first_from k call) c.tell_if.ensures
    ∙ sym (first_from-append (broken_if p.called Rule.Uplink c.args.spot) call known)
