-- A call, in the terms of what is known.
use Rattle.std.proofs.Common.{◌∙◌, ap, map, length}
use Rattle.rn_declared.specs.Faults.{first_from}
use Rattle.rn_rules.specs.Expressions.{seen_of}
use Rattle.rn_rules.specs.Calls.{call_faults}
use Rattle.rn_rules.specs.Transitions.{elsewhere}
use Rattle.rn_rules.specs.Transitions.{channel_faults}
use Rattle.rn_declared.specs.link.Tables.{channel_in}
use Rattle.rn_rules.specs.link.Numbers.{channels_of}
use Rattle.rn_rules.specs.link.Scopes.{scope_in, progress_of}
use Rattle.rn_rules.specs.link.Sights.{where_of}
use Rattle.rn_rules.proofs.inscriptions.see_channel.Goals as goal

pub returns : goal.returns
unfolding channel_faults
returns g c =
    let s = scope_in c.args.known.now in
    let p = progress_of c.args.stand.now in
    let known = c.args.first.now.fault in
    let name = c.args.channel.now in
    let xs = c.as_slice.result.now in
    let patterns = s.channel name.text (length c.args.args.now) in
    c.in_ok-see_call.ensures
    ∙ ap (λ o. first_from known (call_faults o name (map (λ e. e (where_of c.elsewhere-here.result)) (map seen_of xs))))
    (c.patterns-patterns.ensures ∙ ap (λ n. channel_in (channels_of c.args.known.now.channels.now) name.text n) c.len.ensures)
    ∙ ap (λ w. first_from known (call_faults patterns name (map (λ e. e w) (map seen_of xs)))) c.elsewhere-here.ensures
    ∙ ap (λ ys. first_from known (call_faults patterns name (map (λ e. e (elsewhere s p)) (map seen_of ys)))) c.as_slice.ensures
