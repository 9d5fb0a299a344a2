-- What the rules ask of a weighted net: what is broken in it.
use Rattle.std.specs.Prelude.{ℕ, ◌+◌, Bool, not, ◌&&◌, nat_le, nat_eq, int_le, pos, List, [], ◌∷◌}
use Rattle.std.specs.Prelude.{◌++◌, length, map, flat_map, Option, Some, None, is_none}
use Rattle.std.specs.Prelude.{if◌then◌else◌}
use Rattle.std.specs.List.{list_any}
use Rattle.std.specs.Cmp.Lexicographic.{pointwise}
use Rattle.rn_model.specs.Limits.{longest_name, most_initial, most_places, most_transitions}
use Rattle.rn_weighted.specs.Limits.{most_arcs, greatest_weight}
use Rattle.rn_reading.specs.declared.named.Named.{Named}
use Rattle.rn_reading.specs.declared.named.Numeral.{Numeral}
use Rattle.rn_pt.specs.declared.plain.PtArc.{PtArc}
use Rattle.rn_pt.specs.declared.plain.PtPlace.{PtPlace}
use Rattle.rn_pt.specs.declared.plain.PtTransition.{PtTransition}
use Rattle.rn_pt.specs.declared.plain.PtNet.{PtNet}
use Rattle.rn_pt.specs.declared.fault.Rule.TheVariants as Rule
use Rattle.rn_pt.specs.declared.fault.Broken.{Broken}
use Rattle.rn_pt.specs.Faults.{broken_if, past_limit}

-- whether two names are the same
abbrev pub same_name : List ℕ → List ℕ → Bool
same_name = pointwise nat_eq

-- the number of the first of these names that is the same, the first of which has this number
abbrev pub number_from : ℕ → List (List ℕ) → List ℕ → Option ℕ
number_from n [] name = None
number_from n (declared ∷ others) name =
    if same_name declared name then Some n else number_from (n + 1) others name

-- the number of the first declaration of a name, from 0, where it is declared
abbrev pub number_among : List (List ℕ) → List ℕ → Option ℕ
number_among = number_from 0

-- Where one name is declared, after these: it isn't too long, and none of these is the same.
abbrev pub name_broken : List (List ℕ) → Named → List Broken
name_broken before name =
    broken_if (not (nat_le (length name.text) longest_name)) Rule.Limit name.spot
    ++ broken_if (list_any (λ declared. same_name declared name.text) before) Rule.Once name.spot

-- the same of each of these names, which are declared after those
abbrev pub names_broken : List (List ℕ) → List Named → List Broken
names_broken before [] = []
names_broken before (name ∷ names) =
    name_broken before name ++ names_broken (before ++ name.text ∷ []) names

-- what is broken where these names of one name space are declared: that each is short and new, and
-- that there aren't more than so many
abbrev pub declared_broken : ℕ → List Named → List Broken
declared_broken most names =
    names_broken [] names ++ past_limit most (map (λ name. name.spot) names)

-- a number that the text gives lies between these
abbrev pub amount_broken : ℕ → ℕ → Option Numeral → List Broken
amount_broken least most None = []
amount_broken least most (Some n) =
    broken_if (not (int_le (pos least) n.value && int_le n.value (pos most))) Rule.Amount n.spot

-- a place doesn't begin with too many tokens
abbrev pub place_broken : PtPlace → List Broken
place_broken place = amount_broken 0 most_initial place.initial

-- an arc's place is one of these, and its weight is within its limits
abbrev pub arc_broken : List (List ℕ) → PtArc → List Broken
arc_broken places arc =
    broken_if (is_none (number_among places arc.place.text)) Rule.Known arc.place.spot
    ++ amount_broken 1 greatest_weight arc.weight

-- each arc is right, and there aren't too many
abbrev pub transition_broken : List (List ℕ) → PtTransition → List Broken
transition_broken places t =
    flat_map (arc_broken places) t.arcs ++ past_limit most_arcs (map (λ arc. arc.word.spot) t.arcs)

-- the names of the places
abbrev pub place_names : PtNet → List (List ℕ)
place_names net = map (λ place. place.name.text) net.places

-- all that is broken in a net
abbrev pub net_broken : PtNet → List Broken
net_broken net =
    declared_broken most_places (map (λ place. place.name) net.places)
    ++ flat_map place_broken net.places
    ++ declared_broken most_transitions (map (λ t. t.name) net.transitions)
    ++ flat_map (transition_broken (place_names net)) net.transitions
