-- The target, and the call.
use Rattle.std.proofs.Common.{◌∙◌, ap, sym, List}
use Rattle.rn_declared.specs.declared.fault.Fault.{Fault}
use Rattle.rn_declared.specs.Faults.{first_from}
use Rattle.rn_rules.specs.Expressions.{seen_of}
use Rattle.rn_rules.specs.Calls.{target_faults}
use Rattle.rn_rules.specs.Transitions.{elsewhere}
use Rattle.rn_rules.specs.Transitions.{channel_faults, downlink_faults}
use Rattle.rn_rules.specs.link.Scopes.{scope_in, progress_of}
use Rattle.rn_declared.proofs.ToldLemmas.{first_from-append}
use Rattle.rn_rules.proofs.inscriptions.see_downlink.Goals as goal

pub returns : goal.returns
unfolding downlink_faults
returns g c =
    let s = scope_in c.args.known.now in
    let p = progress_of c.args.stand.now in
    let known = c.args.first.now.fault in
    let call : List Fault = channel_faults s p c.args.channel.now c.args.args.now in
    c.in_ok-see_channel.ensures
    ∙ ap (λ k. first_from k call)
    (c.in_ok-see_target.ensures
    ∙ ap (λ w. first_from known (target_faults (seen_of c.args.target.now w))) c.elsewhere-here.ensures)
    ∙ sym (first_from-append (target_faults (seen_of c.args.target.now (elsewhere s p))) call known)
