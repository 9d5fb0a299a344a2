-- The arguments, and then what the channel takes.
use Rattle.std.proofs.Common.{◌∙◌, ap, map, List}
use Rattle.std.specs.Prelude.{option_copied, flat_map}
use Rattle.rn_declared.specs.Faults.{first_from}
use Rattle.rn_rules.specs.Expressions.{Seen, seen_of}
use Rattle.rn_rules.specs.link.Sights.{where_of, call_of}
use Rattle.rn_rules.proofs.CallLemmas.{call_told}
use Rattle.rn_rules.proofs.calls.see_call.Goals as goal

pub returns : goal.returns
returns g c =
    let at = where_of c.args.here.now in
    let seen : List Seen = map (λ s. s at) (map seen_of c.args.args.now) in
    let known = c.args.first.now.fault in
    let patterns = option_copied c.args.patterns in
    c.tell_call.ensures
    ∙ ap (λ k. first_from k (call_of patterns c.args.name.now.spot c.as_slice.result.now)) c.in_ok-sights.ensures.told
    ∙ ap (λ ss. first_from (first_from known (flat_map (λ e. e.faults) seen)) (call_of patterns c.args.name.now.spot ss))
    (c.as_slice.ensures.value ∙ c.in_ok-sights.ensures.sights)
    ∙ call_told _ known patterns c.args.name.now seen
