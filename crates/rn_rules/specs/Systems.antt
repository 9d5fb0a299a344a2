-- Nets and whole systems: what is broken in them, and what each rule is.
use Rattle.std.specs.Prelude.{not, List, [], ◌++◌, map, flat_map, slice_get, codes, is_some}
use Rattle.std.specs.List.{list_any}
use Rattle.std.specs.Option.{option_and_then}
use Rattle.rn_notation.specs.declared.token.Spot.{Spot}
use Rattle.rn_net.specs.declared.plain.Plain.{Plain}
use Rattle.rn_net.specs.declared.plain.PNet.{PNet}
use Rattle.rn_model.specs.Limits.{most_nets, most_channels, most_vars, most_places}
use Rattle.rn_model.specs.Limits.{most_transitions}
use Rattle.rn_declared.specs.declared.fault.Rule.{Rule}
use Rattle.rn_declared.specs.declared.fault.Fault.{Fault}
use Rattle.rn_declared.specs.Faults.{broken_if, past_limit}
use Rattle.rn_declared.specs.Patterns.{pattern_of}
use Rattle.rn_declared.specs.Names.{same_name, number_among, declared_faults}
use Rattle.rn_declared.specs.Declarations.{kind_faults, place_faults, has_capacity}
use Rattle.rn_declared.specs.Channels.{channel_from, channels_faults}
use Rattle.rn_rules.specs.Transitions.{Scope, transition_faults}

-- what is known by its name in a net
abbrev pub scope_of : Plain → PNet → Scope
scope_of plain net = record {
  pattern_of_var = λ name. option_and_then (slice_get (map (λ v. pattern_of v.kind) net.vars))
      (number_among (map (λ v. v.name.text) net.vars) name);
  pattern_of_place = λ name. option_and_then (slice_get (map (λ p. pattern_of p.kind) net.places))
      (number_among (map (λ p. p.name.text) net.places) name);
  has_capacity = has_capacity net.places;
  is_net = λ name. is_some (number_among (map (λ n. n.name.text) plain.nets) name);
  channel = λ name count. option_and_then
      (slice_get (map (λ c. map pattern_of c.kinds) plain.channels))
      (channel_from 0 plain.channels name count);
}

-- what is broken in a net
abbrev pub net_faults : Plain → PNet → List Fault
net_faults plain net =
    declared_faults most_vars (map (λ v. v.name) net.vars)
    ++ flat_map (λ v. kind_faults v.kind) net.vars
    ++ declared_faults most_places (map (λ p. p.name) net.places)
    ++ flat_map place_faults net.places
    ++ declared_faults most_transitions (map (λ t. t.name) net.transitions)
    ++ flat_map (transition_faults (scope_of plain net)) net.transitions

-- the first spot of a text
abbrev pub text_start : Spot
text_start = record { line = 1; column = 1 }

-- what is broken in a system
abbrev pub system_faults : Plain → List Fault
system_faults plain =
    broken_if (not (list_any (λ net. same_name net.name.text (codes "main")) plain.nets))
    Rule.Main text_start
    ++ channels_faults [] plain.channels
    ++ past_limit most_channels (map (λ c. c.name.spot) plain.channels)
    ++ declared_faults most_nets (map (λ n. n.name) plain.nets)
    ++ flat_map (net_faults plain) plain.nets
