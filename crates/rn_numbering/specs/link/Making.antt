-- What the code makes on the way to a system, and what it asks. It connects the code with the
-- definitions, and states no rule.
use Rattle.std.specs.Prelude.{◌≡◌, All, map, ℕ, List, [], None, length}
use Rattle.rn_model.specs.declared.system.Net.{Net}
use Rattle.rn_model.specs.declared.system.Transition.{Transition}
use Rattle.rn_net.specs.declared.plain.PNet.{PNet}
use Rattle.rn_net.specs.declared.plain.PTransition.{PTransition}
use Rattle.rn_net.specs.declared.plain.Plain.{Plain}
use Rattle.rn_declared.specs.Channels.{channels_faults}
use Rattle.rn_declared.specs.Names.{names_faults}
use Rattle.rn_numbered.specs.Numbered.{Numbers, number_in, kind_of, value_of, capacity_of}
use Rattle.rn_numbered.specs.Numbered.{inscribed}
use Rattle.rn_numbered.specs.link.NumbersFound.{AreFew}
use Rattle.rn_occurring.specs.TransitionVars.{with_vars}

-- each variable and each place of a net has a number of its own
pub record HasNetNumbers (net : PNet) : Type 0 where
  pub vars : names_faults [] (map (λ v. v.name) net.vars) ≡ []
  pub few_vars : AreFew net.vars
  pub places : names_faults [] (map (λ p. p.name) net.places) ≡ []
  pub few_places : AreFew net.places

-- so has each net and each channel, and each name of a net
pub record HasNumbers (plain : Plain) : Type 0 where
  pub channels : channels_faults [] plain.channels ≡ []
  pub few_channels : AreFew plain.channels
  pub nets : names_faults [] (map (λ n. n.name) plain.nets) ≡ []
  pub few_nets : AreFew plain.nets
  pub each : All HasNetNumbers plain.nets

-- a transition in which nothing is inscribed
abbrev pub bare_transition : List ℕ → Transition
bare_transition name = record {
  name = name;
  vars = [];
  action_vars = [];
  equalities = [];
  guards = [];
  actions = [];
  creations = [];
  uplink = None;
  downlinks = [];
  arcs = [];
}

-- a net's transitions, where names have these numbers, and it has so many variables
abbrev pub transitions_by : Numbers → ℕ → List PTransition → List Transition
transitions_by to count =
    map (λ t. with_vars count (inscribed to t.name.text (map (λ i. i.form) t.inscriptions)))

-- the net without its transitions
abbrev pub bare_net : PNet → Net
bare_net net = record {
  name = net.name.text;
  vars = map (λ v. record { name = v.name.text; kind = kind_of v.kind }) net.vars;
  places = map
      (λ p. record {
        name = p.name.text;
        kind = kind_of p.kind;
        initial = map value_of p.initial;
        max = capacity_of p.max;
      })
      net.places;
  transitions = [];
}

-- the net with numbers in place of names, where those of nets and channels are these
abbrev pub net_by : List (List ℕ) → (List ℕ → ℕ → ℕ) → PNet → Net
net_by nets channel net =
    let to : Numbers = record {
      var = number_in (map (λ v. v.name.text) net.vars);
      place = number_in (map (λ p. p.name.text) net.places);
      net = number_in nets;
      channel = channel;
    } in
    record (bare_net net) { transitions = transitions_by to (length net.vars) net.transitions }
