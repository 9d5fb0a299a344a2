-- The canonical text of channels, nets and whole systems, in both notations. Each line ends with a
-- line feed, nothing stands between lines, and an indent is two spaces.
use Rattle.std.specs.Prelude.{ℕ, Bool, false, ◌&&◌, nat_eq, if◌then◌else◌}
use Rattle.std.specs.Prelude.{List, [], ◌∷◌, ◌++◌, map, codes, Option, Some, None}
use Rattle.std.specs.Cmp.Lexicographic.{pointwise}
use Rattle.std.specs.List.{flat_map}
use Rattle.rn_value.specs.Text.{whole_number}
use Rattle.rn_inscript.specs.declared.inscriptions.PInscribed.{PInscribed}
use Rattle.rn_inscript.specs.declared.inscriptions.PInscribed.TheVariants as I
use Rattle.rn_inscript.specs.declared.inscriptions.PInscription.{PInscription}
use Rattle.rn_net.specs.declared.constants.PConst.{PConst}
use Rattle.rn_net.specs.declared.plain.Plain.{Plain}
use Rattle.rn_net.specs.declared.plain.PChannel.{PChannel}
use Rattle.rn_net.specs.declared.plain.PNet.{PNet}
use Rattle.rn_net.specs.declared.plain.PVar.{PVar}
use Rattle.rn_net.specs.declared.plain.PPlace.{PPlace}
use Rattle.rn_net.specs.declared.plain.PMax.{PMax}
use Rattle.rn_net.specs.declared.plain.PTransition.{PTransition}
use Rattle.rn_print.specs.Pieces.{separated, listed, in_parentheses}
use Rattle.rn_print.specs.Kinds.{kind_text}
use Rattle.rn_print.specs.Constants.{constant_text}
use Rattle.rn_print.specs.Expressions.{expr_text}
use Rattle.rn_print.specs.Inscriptions.{arc_word, inscribed_text}

-- `channel c(int,text);`
abbrev pub channel_text : PChannel → List ℕ
channel_text channel =
    codes "channel " ++ channel.name.text ++ in_parentheses (listed (map kind_text channel.kinds))
    ++ codes ";\n"

-- `var x: int;`, one line for each variable
abbrev pub var_text : PVar → List ℕ
var_text var = codes "  var " ++ var.name.text ++ codes ": " ++ kind_text var.kind ++ codes ";\n"

-- the capacity of a place, where it has one
abbrev pub capacity_text : Option PMax → List ℕ
capacity_text None = []
capacity_text (Some max) = codes " max " ++ whole_number max.number

-- the initial tokens of a place, where it has some
abbrev pub initial_text : List PConst → List ℕ
initial_text [] = []
initial_text (item ∷ items) =
    codes " = " ++ separated (codes ", ") (map constant_text (item ∷ items))

-- `place p: K max 5 = c1, c2;`, or without its capacity or its initial tokens
abbrev pub place_text : PPlace → List ℕ
place_text place =
    codes "  place " ++ place.name.text ++ codes ": " ++ kind_text place.kind
    ++ capacity_text place.max ++ initial_text place.initial ++ codes ";\n"

-- whether two inscriptions are arcs with one word and one place, each with an expression
abbrev pub go_together : PInscribed → PInscribed → Bool
go_together (I.Arc kind place (Some e)) (I.Arc other name (Some f)) =
    pointwise nat_eq (arc_word kind) (arc_word other) && pointwise nat_eq place.text name.text
go_together _ _ = false

-- whether the second of two inscriptions goes on in the line of the first, as in notation 2 alone
abbrev pub goes_on : ℕ → PInscription → PInscription → Bool
goes_on notation before item = nat_eq notation 2 && go_together before.form item.form

-- what an inscription adds to the line of the one before it: the expression of an arc
abbrev pub added_text : PInscribed → List ℕ
added_text (I.Arc kind place (Some e)) = codes ", " ++ expr_text e
added_text _ = []

-- the text of an inscription that follows another one: it goes on in its line, or begins one
abbrev pub following_text : ℕ → PInscription → PInscription → List ℕ
following_text notation before item =
    if goes_on notation before item then added_text item.form
    else codes ";\n    " ++ inscribed_text item.form

-- the text of the inscriptions that follow one, with the end of the last line
abbrev pub later_text : ℕ → PInscription → List PInscription → List ℕ
later_text notation before [] = codes ";\n"
later_text notation before (item ∷ items) =
    following_text notation before item ++ later_text notation item items

-- Inscriptions, each on a line of its own. In notation 2, arcs of one kind and place that follow
-- one another, each with an expression, stand on one line, as in `in p: 1, 1, 2;`.
abbrev pub inscriptions_text : ℕ → List PInscription → List ℕ
inscriptions_text notation [] = []
inscriptions_text notation (item ∷ items) =
    codes "    " ++ inscribed_text item.form ++ later_text notation item items

-- `trans t {`, its inscriptions, and `}`
abbrev pub transition_text : ℕ → PTransition → List ℕ
transition_text notation transition =
    codes "  trans " ++ transition.name.text ++ codes " {\n"
    ++ inscriptions_text notation transition.inscriptions ++ codes "  }\n"

-- `net n {`, its variables, places and transitions, and `}`
abbrev pub net_text : ℕ → PNet → List ℕ
net_text notation net =
    codes "net " ++ net.name.text ++ codes " {\n" ++ flat_map var_text net.vars
    ++ flat_map place_text net.places ++ flat_map (transition_text notation) net.transitions
    ++ codes "}\n"

-- the first line of a text of notation 2; in notation 1 there is none
abbrev pub notation_text : ℕ → List ℕ
notation_text notation = if nat_eq notation 2 then codes "notation 2;\n" else []

-- the canonical text of a system: its notation, its channels, and then its nets
abbrev pub canonical_text : Plain → List ℕ
canonical_text plain =
    notation_text plain.notation ++ flat_map channel_text plain.channels
    ++ flat_map (net_text plain.notation) plain.nets

-- the same channels and nets in this notation
abbrev pub in_notation : ℕ → Plain → Plain
in_notation notation plain =
    record { notation = notation; channels = plain.channels; nets = plain.nets }
