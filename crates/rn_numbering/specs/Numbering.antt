-- The system that a net text means, where nothing in it is broken: names become numbers, in the
-- order of the text.
use Rattle.std.specs.Prelude.{length, map, unwrap_or}
use Rattle.rn_model.specs.declared.system.System.{System}
use Rattle.rn_model.specs.declared.system.Net.{Net}
use Rattle.rn_model.specs.declared.system.Transition.{Transition}
use Rattle.rn_net.specs.declared.plain.Plain.{Plain}
use Rattle.rn_net.specs.declared.plain.PNet.{PNet}
use Rattle.rn_net.specs.declared.plain.PTransition.{PTransition}
use Rattle.rn_declared.specs.Channels.{channel_from}
use Rattle.rn_numbered.specs.Numbered.{Numbers, number_in, kind_of, value_of, capacity_of}
use Rattle.rn_numbered.specs.Numbered.{inscribed}
use Rattle.rn_occurring.specs.TransitionVars.{with_vars}

-- the numbers of a net's variables and places, and of the nets and channels of its system
abbrev pub numbers_of : Plain → PNet → Numbers
numbers_of plain net = record {
  var = number_in (map (λ v. v.name.text) net.vars);
  place = number_in (map (λ p. p.name.text) net.places);
  net = number_in (map (λ n. n.name.text) plain.nets);
  channel = λ name count. unwrap_or (channel_from 0 plain.channels name count) 0;
}

-- the transition with numbers in place of names
abbrev pub transition_of : Plain → PNet → PTransition → Transition
transition_of plain net t =
    with_vars (length net.vars)
    (inscribed (numbers_of plain net) t.name.text (map (λ i. i.form) t.inscriptions))

-- the net with numbers in place of names
abbrev pub numbered_net_of : Plain → PNet → Net
numbered_net_of plain net = record {
  name = net.name.text;
  vars = map (λ v. record { name = v.name.text; kind = kind_of v.kind }) net.vars;
  places = map
      (λ p. record {
        name = p.name.text;
        kind = kind_of p.kind;
        initial = map value_of p.initial;
        max = capacity_of p.max;
      })
      net.places;
  transitions = map (transition_of plain net) net.transitions;
}

-- the system with numbers in place of names
abbrev pub system_of : Plain → System
system_of plain = record {
  nets = map (numbered_net_of plain) plain.nets;
  channels = map (λ c. record { name = c.name.text; kinds = map kind_of c.kinds }) plain.channels;
}
