-- The weighted net that a text says.
use Rattle.std.specs.Prelude.{ℕ, List, map, Option, Some, None, nat_abs}
use Rattle.rn_weighted.specs.declared.weighted.Weighted.{Weighted}
use Rattle.rn_weighted.specs.declared.weighted.WPlace.{WPlace}
use Rattle.rn_weighted.specs.declared.weighted.WTransition.{WTransition}
use Rattle.rn_weighted.specs.declared.weighted.WArc.{WArc}
use Rattle.rn_reading.specs.declared.named.Numeral.{Numeral}
use Rattle.rn_pt.specs.declared.plain.PtArc.{PtArc}
use Rattle.rn_pt.specs.declared.plain.PtPlace.{PtPlace}
use Rattle.rn_pt.specs.declared.plain.PtTransition.{PtTransition}
use Rattle.rn_pt.specs.declared.plain.PtNet.{PtNet}
use Rattle.rn_pt.specs.Rules.{number_among, place_names}

-- a number that the text gives, or this one where it gives none
abbrev pub amount : ℕ → Option Numeral → ℕ
amount absent None = absent
amount absent (Some n) = nat_abs n.value

-- an absent number of tokens is 0
abbrev pub wplace_of : PtPlace → WPlace
wplace_of place = record { name = place.name.text; initial = amount 0 place.initial }

-- the number of a name among these, and 0 where it isn't there
abbrev pub number_or_first : Option ℕ → ℕ
number_or_first None = 0
number_or_first (Some n) = n

-- an absent weight is 1
abbrev pub warc_of : List (List ℕ) → PtArc → WArc
warc_of places arc = record {
  kind = arc.word.kind;
  place = number_or_first (number_among places arc.place.text);
  weight = amount 1 arc.weight;
}

abbrev pub wtransition_of : List (List ℕ) → PtTransition → WTransition
wtransition_of places t = record { name = t.name.text; arcs = map (warc_of places) t.arcs }

-- the net with numbers in place of names
abbrev pub weighted_of : PtNet → Weighted
weighted_of net = record {
  places = map wplace_of net.places;
  transitions = map (wtransition_of (place_names net)) net.transitions;
}
