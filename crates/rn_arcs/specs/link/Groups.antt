-- What is asked of each place. This only connects the code to the demands of bindings.
use Rattle.std.specs.Prelude.{◌≡◌, Bool, true, List, [], ◌++◌, filter, fold}
use Rattle.std.specs.List.{flat_map}
use Rattle.rn_value.specs.declared.value.Value.{Value}
use Rattle.rn_model.specs.declared.system.System.{System}
use Rattle.rn_model.specs.declared.system.ArcKind.{ArcKind}
use Rattle.rn_model.specs.declared.binding.Binding.{Binding}
use Rattle.rn_model.specs.Lists.{ordered_values}
use Rattle.rn_model.specs.Demands.{takes, puts, tests, inhibits, clears, taken_at, tested_at}
use Rattle.rn_model.specs.Demands.{inhibited_at, cleared_at, put_at}
use Rattle.rn_arcs.specs.link.Joining.{Rising, with_item}
use Rattle.rn_arcs.specs.Places.{InstPlace, is_at}
use Rattle.rn_arcs.specs.link.Asks.{place_asked}
use Rattle.rn_arcs.specs.declared.ask.Ask.{Ask}
use Rattle.rn_arcs.specs.declared.asked.Asked.{Asked}

-- the place of which all this is asked
abbrev pub place_of : Asked → InstPlace
place_of g = (g.inst, g.place)

-- nothing is asked of a place
abbrev pub fresh : InstPlace → Asked
fresh k = record {
  inst = k.0;
  place = k.1;
  taken = [];
  tested = [];
  inhibited = [];
  cleared = [];
  put = [];
}

-- and what an arc with this value asks besides
abbrev pub with_arc : ArcKind → Value → Asked → Asked
with_arc kind v g = record {
  inst = g.inst;
  place = g.place;
  taken = g.taken ++ takes kind v;
  tested = g.tested ++ tests kind v;
  inhibited = g.inhibited ++ inhibits kind v;
  cleared = g.cleared ++ clears kind v;
  put = g.put ++ puts kind v;
}

-- the place that one arc asks of
abbrev pub first_of : Ask → Asked
first_of a = with_arc a.kind a.value (fresh (place_asked a))

-- what an arc asks, with what is asked of its place before
abbrev pub joined_ask : Ask → Asked → Asked
joined_ask a g = with_arc a.kind a.value g

-- What an arc asks joins what is asked of the last place where that is its own, and else stands
-- after it.
abbrev pub with_ask : List Asked → Ask → List Asked
with_ask = with_item place_of place_asked first_of joined_ask

-- what all these ask
abbrev pub groups_of : List Ask → List Asked
groups_of = fold with_ask []

-- ascending values, but for the lists of clear arcs
abbrev pub in_order : Asked → Asked
in_order g = record {
  inst = g.inst;
  place = g.place;
  taken = ordered_values g.taken;
  tested = ordered_values g.tested;
  inhibited = ordered_values g.inhibited;
  cleared = g.cleared;
  put = ordered_values g.put;
}

-- each place stands before the later ones
abbrev pub Rises : List Asked → Type 0
Rises = Rising place_of

-- what is asked of a place, in one way
abbrev pub asked_in : {A : Type 0} → (Asked → List A) → List Asked → InstPlace → List A
asked_in select gs k = flat_map select (filter (λ g. is_at k (place_of g)) gs)

-- These are the places of which a binding asks, in order, with its demands at each. What is put is
-- there where outputs were looked at.
pub record AreAsked (outputs : Bool) (system : System) (b : Binding) (gs : List Asked)
    : Type 0 where
  pub rises : Rises gs
  pub taken : (k : InstPlace) → asked_in (λ g. g.taken) gs k ≡ taken_at system b k.0 k.1
  pub tested : (k : InstPlace) → asked_in (λ g. g.tested) gs k ≡ tested_at system b k.0 k.1
  pub inhibited : (k : InstPlace) → asked_in (λ g. g.inhibited) gs k ≡ inhibited_at system b k.0 k.1
  pub cleared : (k : InstPlace) → asked_in (λ g. g.cleared) gs k ≡ cleared_at system b k.0 k.1
  pub put : outputs ≡ true → (k : InstPlace) →
      asked_in (λ g. g.put) gs k ≡ put_at system b k.0 k.1
