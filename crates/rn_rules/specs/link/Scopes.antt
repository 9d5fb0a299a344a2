-- What the code knows by name, and where it stands in a transition. It connects the code with the
-- definitions, and states no rule.
use Rattle.std.specs.Prelude.{ℕ, Bool, List, ◌++◌, map, Option, slice_get, is_some, flat_map}
use Rattle.std.specs.Option.{option_and_then}
use Rattle.rn_model.specs.Limits.{most_vars, most_places, most_transitions}
use Rattle.rn_net.specs.declared.plain.PNet.{PNet}
use Rattle.rn_declared.specs.declared.fault.Fault.{Fault}
use Rattle.rn_declared.specs.Patterns.{pattern_of}
use Rattle.rn_declared.specs.Names.{number_among, declared_faults}
use Rattle.rn_declared.specs.Declarations.{kind_faults, place_faults, has_capacity}
use Rattle.rn_declared.specs.declared.pattern.Pattern.{Pattern}
use Rattle.rn_rules.specs.declared.scope.KnownNames.{KnownNames}
use Rattle.rn_rules.specs.declared.scope.Stand.{Stand}
use Rattle.rn_declared.specs.link.Tables.{found_in, pattern_in, capped_in, channel_in}
use Rattle.rn_rules.specs.link.Numbers.{declared_of, places_of, channels_of}
use Rattle.rn_rules.specs.Transitions.{Scope, Progress, transition_faults}

-- what is known by name
abbrev pub scope_in : {N : Type 0} → KnownNames N → Scope
scope_in known = record {
  pattern_of_var = pattern_in (declared_of known.vars.now);
  pattern_of_place = pattern_in (places_of known.places.now).declared;
  has_capacity = capped_in (places_of known.places.now);
  is_net = λ name. is_some (found_in known.nets.now name);
  channel = channel_in (channels_of known.channels.now);
}

-- where an inscription stands
abbrev pub progress_of : Stand → Progress
progress_of stand = record {
  setter = found_in stand.setters.now;
  past = stand.past;
  sets = stand.sets;
  called = stand.called;
}

-- what is known in a net by its name, where these are the nets and the channels
abbrev pub scope_with : (List ℕ → Bool) → (List ℕ → ℕ → Option (List Pattern)) → PNet → Scope
scope_with is_net channel net = record {
  pattern_of_var = λ name. option_and_then (slice_get (map (λ v. pattern_of v.kind) net.vars))
      (number_among (map (λ v. v.name.text) net.vars) name);
  pattern_of_place = λ name. option_and_then (slice_get (map (λ p. pattern_of p.kind) net.places))
      (number_among (map (λ p. p.name.text) net.places) name);
  has_capacity = has_capacity net.places;
  is_net = is_net;
  channel = channel;
}

-- what is broken in a net, where these are the nets and the channels
abbrev pub faults_in_net : (List ℕ → Bool) → (List ℕ → ℕ → Option (List Pattern)) → PNet → List Fault
faults_in_net is_net channel net =
    declared_faults most_vars (map (λ v. v.name) net.vars)
    ++ flat_map (λ v. kind_faults v.kind) net.vars
    ++ declared_faults most_places (map (λ p. p.name) net.places)
    ++ flat_map place_faults net.places
    ++ declared_faults most_transitions (map (λ t. t.name) net.transitions)
    ++ flat_map (transition_faults (scope_with is_net channel net)) net.transitions
