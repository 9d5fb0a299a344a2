-- What is broken in nets and systems doesn't depend on spots, but for the spots that are reported.
use Rattle.std.proofs.Common.{◌≡◌, ℕ, Bool, false, not, List, [], ◌++◌, map, ap, ◌∙◌, refl}
use Rattle.std.proofs.Math.Path.{fun_ext}
use Rattle.std.specs.Prelude.{flat_map, codes, Option, Some, None, option_map, is_some, unwrap_or, slice_get}
use Rattle.std.specs.Option.{option_and_then}
use Rattle.std.specs.List.{list_any}
use Rattle.rn_net.specs.declared.plain.Plain.{Plain}
use Rattle.rn_net.specs.declared.plain.PChannel.{PChannel}
use Rattle.rn_net.specs.declared.plain.PNet.{PNet}
use Rattle.rn_net.specs.declared.plain.PVar.{PVar}
use Rattle.rn_net.specs.declared.plain.PPlace.{PPlace}
use Rattle.rn_net.specs.declared.plain.PMax.{PMax}
use Rattle.rn_net.specs.declared.plain.PTransition.{PTransition}
use Rattle.rn_model.specs.Limits.{most_nets, most_channels, most_vars, most_places, most_transitions}
use Rattle.rn_declared.specs.declared.fault.Rule.TheVariants as Rule
use Rattle.rn_declared.specs.declared.pattern.Pattern.{Pattern}
use Rattle.rn_declared.specs.Faults.{broken_if, past_limit}
use Rattle.rn_declared.specs.Patterns.{pattern_of}
use Rattle.rn_declared.specs.Names.{same_name, number_among, declared_faults}
use Rattle.rn_declared.specs.Declarations.{kind_faults, place_faults, has_capacity}
use Rattle.rn_declared.specs.Channels.{channel_from, channels_faults}
use Rattle.rn_rules.specs.Transitions.{Scope, transition_faults}
use Rattle.rn_rules.specs.Systems.{scope_of, net_faults, text_start, system_faults}
use Rattle.rn_print.specs.SameButSpots.{first_spot, kind_unplaced, channel_unplaced, var_unplaced, max_unplaced, place_unplaced, transition_unplaced, net_unplaced, unplaced}
use Rattle.rn_migrate.proofs.MovedFaults.{all_moved, kept, any_kept, both, flat, if_same, limit_of}
use Rattle.rn_migrate.proofs.SameDeclarations.{declared_moved, kind_moved, pattern_kept, place_moved, channels_moved, channel_from_kept}
use Rattle.rn_migrate.proofs.SameInscriptions.{transition_moved}

max_kept : (max : Option PMax) → is_some (option_map max_unplaced max) ≡ is_some max
max_kept None = refl
max_kept (Some max) = refl

capacity_kept : (places : List PPlace) →
    has_capacity (map place_unplaced places) ≡ has_capacity places
capacity_kept places =
    fun_ext (λ name.
    ap (λ caps. unwrap_or (option_and_then (slice_get caps)
    (number_among (map (λ (p : PPlace). p.name.text) (map place_unplaced places)) name)) false)
    (kept (λ (p : PPlace). is_some p.max) place_unplaced places (λ p. max_kept p.max))
    ∙ ap (λ names. unwrap_or (option_and_then (slice_get (map (λ (p : PPlace). is_some p.max) places))
    (number_among names name)) false)
    (kept (λ (p : PPlace). p.name.text) place_unplaced places (λ p. refl)))

-- what is known of channels by name
abbrev Channels : Type 0
Channels = List ℕ → ℕ → Option (List Pattern)

abbrev channels_in : List PChannel → Channels
channels_in channels name count =
    option_and_then (slice_get (map (λ (c : PChannel). map pattern_of c.kinds) channels))
    (channel_from 0 channels name count)

channels_kept : (channels : List PChannel) →
    channels_in (map channel_unplaced channels) ≡ channels_in channels
channels_kept channels =
    fun_ext (λ name. fun_ext (λ count.
    ap (λ ps. option_and_then (slice_get ps) (channel_from 0 (map channel_unplaced channels) name count))
    (kept (λ (c : PChannel). map pattern_of c.kinds) channel_unplaced channels
    (λ c. kept pattern_of kind_unplaced c.kinds pattern_kept))
    ∙ ap (option_and_then (slice_get (map (λ (c : PChannel). map pattern_of c.kinds) channels)))
    (channel_from_kept 0 channels name count)))

-- what is known in a net, of these patterns and names
abbrev found : List Pattern → List (List ℕ) → List ℕ → Option Pattern
found patterns names name = option_and_then (slice_get patterns) (number_among names name)

abbrev scoped : List Pattern → List (List ℕ) → List Pattern → List (List ℕ) → (List ℕ → Bool) →
    List (List ℕ) → Channels → Scope
scoped vars var_names places place_names capped nets channels = record {
  pattern_of_var = found vars var_names;
  pattern_of_place = found places place_names;
  has_capacity = capped;
  is_net = λ name. is_some (number_among nets name);
  channel = channels;
}

scope_kept : (plain : Plain) (net : PNet) →
    scope_of (unplaced plain) (net_unplaced net) ≡ scope_of plain net
scope_kept plain net =
    let vars = map (λ (v : PVar). pattern_of v.kind) net.vars in
    let var_names = map (λ (v : PVar). v.name.text) net.vars in
    let places = map (λ (p : PPlace). pattern_of p.kind) net.places in
    let place_names = map (λ (p : PPlace). p.name.text) net.places in
    let nets = map (λ (n : PNet). n.name.text) plain.nets in
    let var_names2 = map (λ (v : PVar). v.name.text) (map var_unplaced net.vars) in
    let places2 = map (λ (p : PPlace). pattern_of p.kind) (map place_unplaced net.places) in
    let place_names2 = map (λ (p : PPlace). p.name.text) (map place_unplaced net.places) in
    let capped2 = has_capacity (map place_unplaced net.places) in
    let nets2 = map (λ (n : PNet). n.name.text) (map net_unplaced plain.nets) in
    let channels2 = channels_in (map channel_unplaced plain.channels) in
    ap (λ x. scoped x var_names2 places2 place_names2 capped2 nets2 channels2)
    (kept (λ (v : PVar). pattern_of v.kind) var_unplaced net.vars (λ v. pattern_kept v.kind))
    ∙ ap (λ x. scoped vars x places2 place_names2 capped2 nets2 channels2)
    (kept (λ (v : PVar). v.name.text) var_unplaced net.vars (λ v. refl))
    ∙ ap (λ x. scoped vars var_names x place_names2 capped2 nets2 channels2)
    (kept (λ (p : PPlace). pattern_of p.kind) place_unplaced net.places (λ p. pattern_kept p.kind))
    ∙ ap (λ x. scoped vars var_names places x capped2 nets2 channels2)
    (kept (λ (p : PPlace). p.name.text) place_unplaced net.places (λ p. refl))
    ∙ ap (λ x. scoped vars var_names places place_names x nets2 channels2) (capacity_kept net.places)
    ∙ ap (λ x. scoped vars var_names places place_names (has_capacity net.places) x channels2)
    (kept (λ (n : PNet). n.name.text) net_unplaced plain.nets (λ n. refl))
    ∙ ap (scoped vars var_names places place_names (has_capacity net.places) nets)
    (channels_kept plain.channels)

net_moved : (plain : Plain) (net : PNet) →
    net_faults (unplaced plain) (net_unplaced net) ≡ all_moved (net_faults plain net)
net_moved plain net =
    let vars2 = map var_unplaced net.vars in
    let places2 = map place_unplaced net.places in
    let transitions2 = map transition_unplaced net.transitions in
    let scope = scope_of plain net in
    let a = declared_faults most_vars (map (λ (v : PVar). v.name) net.vars) in
    let a2 = declared_faults most_vars (map (λ (v : PVar). v.name) vars2) in
    let b = flat_map (λ (v : PVar). kind_faults v.kind) net.vars in
    let b2 = flat_map (λ (v : PVar). kind_faults v.kind) vars2 in
    let c = declared_faults most_places (map (λ (p : PPlace). p.name) net.places) in
    let c2 = declared_faults most_places (map (λ (p : PPlace). p.name) places2) in
    let d = flat_map place_faults net.places in
    let d2 = flat_map place_faults places2 in
    let e = declared_faults most_transitions (map (λ (t : PTransition). t.name) net.transitions) in
    let e2 = declared_faults most_transitions (map (λ (t : PTransition). t.name) transitions2) in
    let f = flat_map (transition_faults scope) net.transitions in
    let f2 = flat_map (transition_faults scope) transitions2 in
    ap (λ s. a2 ++ b2 ++ c2 ++ d2 ++ e2 ++ flat_map (transition_faults s) transitions2)
    (scope_kept plain net)
    ∙ both (a ++ b ++ c ++ d ++ e) f (a2 ++ b2 ++ c2 ++ d2 ++ e2) f2
    (both (a ++ b ++ c ++ d) e (a2 ++ b2 ++ c2 ++ d2) e2
    (both (a ++ b ++ c) d (a2 ++ b2 ++ c2) d2
    (both (a ++ b) c (a2 ++ b2) c2
    (both a b a2 b2
    (declared_moved most_vars (λ (v : PVar). v.name) var_unplaced net.vars (λ v. refl))
    (flat (λ (v : PVar). kind_faults v.kind) (λ (v : PVar). kind_faults v.kind) var_unplaced net.vars
    (λ v. kind_moved v.kind)))
    (declared_moved most_places (λ (p : PPlace). p.name) place_unplaced net.places (λ p. refl)))
    (flat place_faults place_faults place_unplaced net.places place_moved))
    (declared_moved most_transitions (λ (t : PTransition). t.name) transition_unplaced net.transitions
    (λ t. refl)))
    (flat (transition_faults scope) (transition_faults scope) transition_unplaced net.transitions
    (transition_moved scope))

pub system_moved : (plain : Plain) → system_faults (unplaced plain) ≡ all_moved (system_faults plain)
system_moved plain =
    let channels2 = map channel_unplaced plain.channels in
    let nets2 = map net_unplaced plain.nets in
    let no = not (list_any (λ (n : PNet). same_name n.name.text (codes "main")) plain.nets) in
    let no2 = not (list_any (λ (n : PNet). same_name n.name.text (codes "main")) nets2) in
    let spots = map (λ (c : PChannel). c.name.spot) in
    let names = map (λ (n : PNet). n.name) in
    let a = broken_if no Rule.Main text_start in
    let a2 = broken_if no2 Rule.Main first_spot in
    let b = channels_faults [] plain.channels in
    let b2 = channels_faults [] channels2 in
    let c = past_limit most_channels (spots plain.channels) in
    let c2 = past_limit most_channels (spots channels2) in
    let d = declared_faults most_nets (names plain.nets) in
    let d2 = declared_faults most_nets (names nets2) in
    let e = flat_map (net_faults plain) plain.nets in
    let e2 = flat_map (net_faults (unplaced plain)) nets2 in
    both (a ++ b ++ c ++ d) e (a2 ++ b2 ++ c2 ++ d2) e2
    (both (a ++ b ++ c) d (a2 ++ b2 ++ c2) d2
    (both (a ++ b) c (a2 ++ b2) c2
    (both a b a2 b2
    (if_same no no2 Rule.Main text_start
    (ap not (any_kept (λ (n : PNet). same_name n.name.text (codes "main"))
    (λ (n : PNet). same_name n.name.text (codes "main")) net_unplaced plain.nets (λ n. refl))))
    (channels_moved [] plain.channels))
    (limit_of most_channels (λ (c : PChannel). c.name.spot) (λ (c : PChannel). c.name.spot)
    channel_unplaced plain.channels (λ c. refl)))
    (declared_moved most_nets (λ (n : PNet). n.name) net_unplaced plain.nets (λ n. refl)))
    (flat (net_faults plain) (net_faults (unplaced plain)) net_unplaced plain.nets (net_moved plain))
