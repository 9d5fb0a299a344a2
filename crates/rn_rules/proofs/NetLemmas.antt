-- What is reported of nets and systems, part after part.
use Rattle.std.proofs.Common.{◌≡◌, ℕ, Bool, not, List, [], ◌++◌, map, sym, ap, ◌∙◌, Option}
use Rattle.std.specs.Prelude.{flat_map, slice_get, is_some, codes}
use Rattle.std.specs.List.{list_any}
use Rattle.std.specs.Option.{option_and_then}
use Rattle.std.proofs.lemmas.Simd.{map-map}
use Rattle.rn_model.specs.Limits.{most_vars, most_places, most_transitions, most_nets, most_channels}
use Rattle.rn_net.specs.declared.plain.Plain.{Plain}
use Rattle.rn_net.specs.declared.plain.PChannel.{PChannel}
use Rattle.rn_net.specs.declared.plain.PNet.{PNet}
use Rattle.rn_net.specs.declared.plain.PVar.{PVar}
use Rattle.rn_net.specs.declared.plain.PPlace.{PPlace}
use Rattle.rn_net.specs.declared.plain.PTransition.{PTransition}
use Rattle.rn_declared.specs.declared.fault.Rule.TheVariants as Rule
use Rattle.rn_declared.specs.declared.fault.Fault.{Fault}
use Rattle.rn_declared.specs.declared.pattern.Pattern.{Pattern}
use Rattle.rn_declared.specs.Faults.{first_from, broken_if, past_limit}
use Rattle.rn_declared.specs.Patterns.{pattern_of}
use Rattle.rn_declared.specs.Names.{same_name, number_among, declared_faults}
use Rattle.rn_declared.specs.Declarations.{kind_faults, place_faults, has_capacity}
use Rattle.rn_rules.specs.Transitions.{Scope, transition_faults}
use Rattle.rn_declared.specs.Channels.{channel_from, channels_faults}
use Rattle.rn_rules.specs.Systems.{net_faults, system_faults, text_start}
use Rattle.rn_rules.specs.link.Scopes.{faults_in_net}
use Rattle.rn_declared.proofs.ToldLemmas.{first_from-append}

-- five parts, of which the second and third are reported at once
pub told_of_five : (a b c d e : List Fault) (known : Option Fault) →
    first_from (first_from (first_from (first_from known a) (b ++ c)) d) e
    ≡ first_from known (a ++ b ++ c ++ d ++ e)
told_of_five a b c d e known =
    sym
    (first_from-append (a ++ b ++ c ++ d) e known
    ∙ ap (λ k. first_from k e)
    (first_from-append (a ++ b ++ c) d known
    ∙ ap (λ k. first_from k d)
    (first_from-append (a ++ b) c known
    ∙ ap (λ k. first_from k c) (first_from-append a b known)
    ∙ sym (first_from-append b c (first_from known a)))))

-- what is known in a net with these variables and places
abbrev pub scope_parts : (List ℕ → Bool) → (List ℕ → ℕ → Option (List Pattern)) → List PVar → List PPlace → Scope
scope_parts is_net channel vars places = record {
  pattern_of_var = λ name. option_and_then (slice_get (map (λ v. pattern_of v.kind) vars))
      (number_among (map (λ v. v.name.text) vars) name);
  pattern_of_place = λ name. option_and_then (slice_get (map (λ p. pattern_of p.kind) places))
      (number_among (map (λ p. p.name.text) places) name);
  has_capacity = has_capacity places;
  is_net = is_net;
  channel = channel;
}

-- what is broken in a net with these variables, places and transitions
abbrev pub net_parts : (List ℕ → Bool) → (List ℕ → ℕ → Option (List Pattern)) → List PVar → List PPlace →
    List PTransition → List Fault
net_parts is_net channel vars places ts =
    declared_faults most_vars (map (λ v. v.name) vars)
    ++ flat_map (λ v. kind_faults v.kind) vars
    ++ declared_faults most_places (map (λ p. p.name) places)
    ++ flat_map place_faults places
    ++ declared_faults most_transitions (map (λ t. t.name) ts)
    ++ flat_map (transition_faults (scope_parts is_net channel vars places)) ts

-- what is reported of a net, where names find what is declared in it
pub net_told : (is_net : List ℕ → Bool) (channel : List ℕ → ℕ → Option (List Pattern)) (net : PNet)
    (vars : List PVar) (places : List PPlace) (ts : List PTransition)
    (var_found place_found : List ℕ → Option Pattern) (capped : List ℕ → Bool) (k0 k1 k2 k3 k4 : Option Fault) →
    vars ≡ net.vars → places ≡ net.places → ts ≡ net.transitions →
    ((name : List ℕ) → var_found name ≡ (scope_parts is_net channel vars places).pattern_of_var name) →
    ((name : List ℕ) → place_found name ≡ (scope_parts is_net channel vars places).pattern_of_place name) →
    ((name : List ℕ) → capped name ≡ has_capacity places name) →
    k1 ≡ first_from k0 (declared_faults most_vars (map (λ v. v.name) vars) ++ flat_map (λ v. kind_faults v.kind) vars) →
    k2 ≡ first_from k1 (declared_faults most_places (map (λ p. p.name) places) ++ flat_map place_faults places) →
    k3 ≡ first_from k2 (declared_faults most_transitions (map (λ t. t.name) ts)) →
    k4 ≡ first_from k3 (flat_map (transition_faults
    (record {
      pattern_of_var = var_found;
      pattern_of_place = place_found;
      has_capacity = capped;
      is_net = is_net;
      channel = channel;
    })) ts) →
    k4 ≡ first_from k0 (faults_in_net is_net channel net)
net_told is_net channel net vars places ts var_found place_found capped k0 k1 k2 k3 k4 own_vars own_places own_ts
    vars_are places_are capped_are told1 told2 told3 told4 =
    let d2 : List Fault = declared_faults most_places (map (λ p. p.name) places) in
    let p2 : List Fault = flat_map place_faults places in
    let d3 : List Fault = declared_faults most_transitions (map (λ t. t.name) ts) in
    let t3 : List Fault = flat_map (transition_faults (scope_parts is_net channel vars places)) ts in
    let v1 : List Fault = declared_faults most_vars (map (λ v. v.name) vars) ++ flat_map (λ v. kind_faults v.kind) vars in
    let found : Scope = record {
      pattern_of_var = var_found;
      pattern_of_place = place_found;
      has_capacity = capped;
      is_net = is_net;
      channel = channel;
    } in
    let same : found ≡ scope_parts is_net channel vars places = λ i. record {
      pattern_of_var = λ name. vars_are name i;
      pattern_of_place = λ name. places_are name i;
      has_capacity = λ name. capped_are name i;
      is_net = is_net;
      channel = channel;
    } in
    told4
    ∙ ap (λ s. first_from k3 (flat_map (transition_faults s) ts)) same
    ∙ ap (λ k. first_from k t3) told3
    ∙ ap (λ k. first_from (first_from k d3) t3) told2
    ∙ ap (λ k. first_from (first_from (first_from k (d2 ++ p2)) d3) t3) told1
    ∙ told_of_five v1 d2 p2 d3 t3 k0
    ∙ ap (λ xs. first_from k0 (net_parts is_net channel xs places ts)) own_vars
    ∙ ap (λ ys. first_from k0 (net_parts is_net channel net.vars ys ts)) own_places
    ∙ ap (λ zs. first_from k0 (net_parts is_net channel net.vars net.places zs)) own_ts

-- what is reported of nets, where names find the nets and channels of a system
pub nets_told : (plain : Plain) (ns : List PNet) (found : List ℕ → Option ℕ)
    (channel : List ℕ → ℕ → Option (List Pattern)) (known : Option Fault) →
    ((name : List ℕ) → found name ≡ number_among (map (λ n. n.text) (map (λ net. net.name) plain.nets)) name) →
    ((name : List ℕ) (count : ℕ) → channel name count
    ≡ option_and_then (slice_get (map (λ c. map pattern_of c.kinds) plain.channels))
    (channel_from 0 plain.channels name count)) →
    first_from known (flat_map (faults_in_net (λ name. is_some (found name)) channel) ns)
    ≡ first_from known (flat_map (net_faults plain) ns)
nets_told plain ns found channel known nets_are channels_are =
    let names : map (λ n. n.text) (map (λ net. net.name) plain.nets) ≡ map (λ n. n.name.text) plain.nets =
    map-map (λ n. n.text) (λ net. net.name) plain.nets in
    let is_found : List ℕ → Bool = λ name. is_some (found name) in
    let is_declared : List ℕ → Bool = λ name. is_some (number_among (map (λ n. n.name.text) plain.nets) name) in
    let nets : is_found ≡ is_declared =
    λ i name. ap is_some (nets_are name ∙ ap (λ ns. number_among ns name) names) i in
    let declared : List ℕ → ℕ → Option (List Pattern) = λ name count.
    option_and_then (slice_get (map (λ c. map pattern_of c.kinds) plain.channels))
    (channel_from 0 plain.channels name count) in
    let channels : channel ≡ declared = λ i name count. channels_are name count i in
    ap (λ f. first_from known (flat_map (faults_in_net f channel) ns)) nets
    ∙ ap (λ f. first_from known (flat_map (faults_in_net is_declared f) ns)) channels

-- what is reported of a system, part after part
pub system_told : (plain : Plain) (cs : List PChannel) (ns : List PNet) (found : List ℕ → Option ℕ)
    (channel : List ℕ → ℕ → Option (List Pattern)) (main : Bool) (k0 k1 k2 k3 k4 : Option Fault) →
    cs ≡ plain.channels → ns ≡ plain.nets →
    main ≡ list_any (λ net. same_name net.name.text (codes "main")) ns →
    ((name : List ℕ) → found name ≡ number_among (map (λ n. n.text) (map (λ net. net.name) ns)) name) →
    ((name : List ℕ) (count : ℕ) → channel name count
    ≡ option_and_then (slice_get (map (λ c. map pattern_of c.kinds) cs)) (channel_from 0 cs name count)) →
    k1 ≡ first_from k0 (broken_if (not main) Rule.Main text_start) →
    k2 ≡ first_from k1 (channels_faults [] cs ++ past_limit most_channels (map (λ c. c.name.spot) cs)) →
    k3 ≡ first_from k2 (declared_faults most_nets (map (λ net. net.name) ns)) →
    k4 ≡ first_from k3 (flat_map (faults_in_net (λ name. is_some (found name)) channel) ns) →
    k4 ≡ first_from k0 (system_faults plain)
system_told plain cs ns found channel main k0 k1 k2 k3 k4 own_channels own_nets has_main nets_are channels_are
    told1 told2 told3 told4 =
    let whole : List PChannel → List PNet → Plain = λ xs ys. record { notation = plain.notation; channels = xs; nets = ys } in
    let m1 : Bool → List Fault = λ b. broken_if (not b) Rule.Main text_start in
    let c2 : List Fault = channels_faults [] cs in
    let l2 : List Fault = past_limit most_channels (map (λ c. c.name.spot) cs) in
    let d3 : List Fault = declared_faults most_nets (map (λ net. net.name) ns) in
    let n4 : List Fault = flat_map (net_faults (whole cs ns)) ns in
    let there : Bool = list_any (λ net. same_name net.name.text (codes "main")) ns in
    told4
    ∙ nets_told (whole cs ns) ns found channel k3 nets_are channels_are
    ∙ ap (λ k. first_from k n4) told3
    ∙ ap (λ k. first_from (first_from k d3) n4) told2
    ∙ ap (λ k. first_from (first_from (first_from k (c2 ++ l2)) d3) n4) told1
    ∙ ap (λ b. first_from (first_from (first_from (first_from k0 (m1 b)) (c2 ++ l2)) d3) n4) has_main
    ∙ told_of_five (m1 there) c2 l2 d3 n4 k0
    ∙ ap (λ xs. first_from k0 (system_faults (whole xs ns))) own_channels
    ∙ ap (λ ys. first_from k0 (system_faults (whole plain.channels ys))) own_nets
