-- The grammar of weighted nets. Each sort of phrases is made of others, one after another.
use Rattle.std.specs.Prelude.{ℕ, Bool, true, false, List, Option, None}
use Rattle.rn_notation.specs.declared.sign.TheConstants as sign
use Rattle.rn_notation.specs.declared.word.TheConstants as word
use Rattle.rn_model.specs.declared.system.ArcKind.{ArcKind}
use Rattle.rn_model.specs.declared.system.ArcKind.TheVariants.{Inhibit}
use Rattle.rn_reading.specs.Phrases.{Phrases, Done, Then, One, Maybe, Many}
use Rattle.rn_reading.specs.Single as read
use Rattle.rn_reading.specs.declared.named.Named.{Named}
use Rattle.rn_reading.specs.declared.named.Numeral.{Numeral}
use Rattle.rn_pt.specs.declared.plain.ArcWord.{ArcWord}
use Rattle.rn_pt.specs.declared.plain.PtArc.{PtArc}
use Rattle.rn_pt.specs.declared.plain.PtPlace.{PtPlace}
use Rattle.rn_pt.specs.declared.plain.PtTransition.{PtTransition}
use Rattle.rn_pt.specs.declared.plain.PtNet.{PtNet}
use Rattle.rn_pt.specs.Words.{arc_word, pt_word}

-- the place, arc, transition and net made of these parts
abbrev pub place_of : Named → Option Numeral → PtPlace
place_of name initial = record { name = name; initial = initial }

abbrev pub arc_of : ArcWord → Named → Option Numeral → PtArc
arc_of word place weight = record { word = word; place = place; weight = weight }

abbrev pub transition_of : Named → List PtArc → PtTransition
transition_of name arcs = record { name = name; arcs = arcs }

abbrev pub weighted_net_of : List PtPlace → List PtTransition → PtNet
weighted_net_of places transitions = record { places = places; transitions = transitions }

-- `[ "=" number ] ";"`, with this sign in place of `=`
abbrev pub NumberUpTo : ℕ → Phrases (Option Numeral)
NumberUpTo opens =
    Then (Maybe (read.sign opens) (One read.number))
    (λ number. Then (One (read.sign sign.SEMICOLON)) (λ s. Done number))

-- whether arcs of a kind have no weight
abbrev pub inhibits : ArcKind → Bool
inhibits Inhibit = true
inhibits _ = false

-- `[ "*" number ] ";"`, and of an inhibitor arc `";"`
abbrev pub WeightUpTo : Bool → Phrases (Option Numeral)
WeightUpTo true = Then (One (read.sign sign.SEMICOLON)) (λ s. Done None)
WeightUpTo false = NumberUpTo sign.STAR

-- `( "in" | "out" ) name [ "*" number ] ";"` or `"inhibit" name ";"`
abbrev pub IsPtArc : Phrases PtArc
IsPtArc =
    Then (One arc_word) (λ word.
    Then (One read.name) (λ place.
    Then (WeightUpTo (inhibits word.kind)) (λ weight. Done (arc_of word place weight))))

-- `{ arc } "}"`
abbrev pub ArcsUpTo : Phrases (List PtArc)
ArcsUpTo = Then (Many IsPtArc) (λ arcs. Then (One (read.sign sign.RIGHT_BRACE)) (λ s. Done arcs))

-- `"place" name [ "=" number ] ";"`
abbrev pub IsPtPlace : Phrases PtPlace
IsPtPlace =
    Then (One (read.word word.PLACE)) (λ s.
    Then (One read.name) (λ name.
    Then (NumberUpTo sign.EQUALS) (λ initial. Done (place_of name initial))))

-- `"trans" name "{" { arc } "}"`
abbrev pub IsPtTransition : Phrases PtTransition
IsPtTransition =
    Then (One (read.word word.TRANS)) (λ s.
    Then (One read.name) (λ name.
    Then (One (read.sign sign.LEFT_BRACE)) (λ s.
    Then ArcsUpTo (λ arcs. Done (transition_of name arcs)))))

-- `{ transition } "}"`
abbrev pub TransitionsUpTo : Phrases (List PtTransition)
TransitionsUpTo =
    Then (Many IsPtTransition)
    (λ all. Then (One (read.sign sign.RIGHT_BRACE)) (λ s. Done all))

-- `{ place } { transition } "}"`
abbrev pub PartsUpTo : Phrases PtNet
PartsUpTo =
    Then (Many IsPtPlace)
    (λ places. Then TransitionsUpTo (λ transitions. Done (weighted_net_of places transitions)))

-- `"pt" "{" { place } { transition } "}"`
abbrev pub IsPtNet : Phrases PtNet
IsPtNet = Then (One pt_word) (λ s. Then (One (read.sign sign.LEFT_BRACE)) (λ s. PartsUpTo))
