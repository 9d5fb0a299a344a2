-- The variables, the places and the transitions.
use Rattle.std.proofs.Common.{ap, ◌∙◌}
use Rattle.std.specs.Prelude.{is_some}
use Rattle.rn_declared.specs.link.Tables.{found_in}
use Rattle.rn_declared.specs.link.Tables.{pattern_in, capped_in}
use Rattle.rn_declared.specs.link.Tables.{channel_in}
use Rattle.rn_rules.specs.link.Numbers.{declared_of, places_of, channels_of}
use Rattle.rn_rules.proofs.NetLemmas.{net_told}
use Rattle.rn_rules.proofs.nets.see_net.Goals as goal

pub returns : goal.returns
returns g c =
    net_told (λ name. is_some (found_in c.args.nets.now name)) (channel_in (channels_of c.args.channels.now)) c.args.net.now
    c.as_slice.result.now c.as_slice-2.result.now c.as_slice-transitions.result.now
    (pattern_in (declared_of c.in_ok-vars.vars)) (pattern_in (places_of c.in_ok-places.places).declared) (capped_in (places_of c.in_ok-places.places))
    c.args.first.now.fault
    c.declare_vars.new.first.fault c.declare_places.new.first.fault c.declare_all.new.first.fault
    c.see_transitions.new.first.fault c.as_slice.ensures c.as_slice-2.ensures c.as_slice-transitions.ensures
    (λ name. ap (λ d. pattern_in d name) c.in_ok-vars.ensures ∙ c.in_ok-declared.ensures.found name)
    (λ name. ap (λ d. pattern_in d.declared name) c.in_ok-places.ensures ∙ c.in_ok-declared-2.ensures.found name)
    (λ name. ap (λ d. capped_in d name) c.in_ok-places.ensures ∙ c.in_ok-declared-2.ensures.capped name)
    c.in_ok-declared.ensures.told
    c.in_ok-declared-2.ensures.told c.in_ok-_names.ensures.told c.in_ok-see_transitions.ensures
