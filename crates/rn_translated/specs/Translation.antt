-- The net text, in its plain form, that stands for a weighted net. It isn't read from a text, and
-- each of its spots is the first of a text.
use Rattle.std.specs.Prelude.{ℕ, List, [], ◌∷◌, map, codes, replicate, nat_lt, slice_get}
use Rattle.std.specs.Prelude.{Some, None, if◌then◌else◌}
use Rattle.std.specs.Option.{option_map_or}
use Rattle.rn_notation.specs.declared.token.Spot.{Spot}
use Rattle.rn_inscript.specs.declared.exprs.PExpr.{PExpr}
use Rattle.rn_inscript.specs.declared.exprs.PForm.TheVariants as F
use Rattle.rn_inscript.specs.declared.inscriptions.PName.{PName}
use Rattle.rn_inscript.specs.declared.inscriptions.PInscribed.{PInscribed}
use Rattle.rn_inscript.specs.declared.inscriptions.PInscribed.TheVariants as I
use Rattle.rn_inscript.specs.declared.inscriptions.PInscription.{PInscription}
use Rattle.rn_inscript.specs.Expressions.{at_spot}
use Rattle.rn_net.specs.declared.kinds.PKindForm.TheVariants as K
use Rattle.rn_net.specs.declared.constants.PConst.{PConst}
use Rattle.rn_net.specs.declared.constants.PConstForm.TheVariants as C
use Rattle.rn_net.specs.declared.plain.Plain.{Plain}
use Rattle.rn_net.specs.declared.plain.PNet.{PNet}
use Rattle.rn_net.specs.declared.plain.PPlace.{PPlace}
use Rattle.rn_net.specs.declared.plain.PTransition.{PTransition}
use Rattle.rn_net.specs.Kinds.{kind_at}
use Rattle.rn_net.specs.Constants.{constant_at}
use Rattle.rn_weighted.specs.declared.weighted.Weighted.{Weighted}
use Rattle.rn_weighted.specs.declared.weighted.WPlace.{WPlace}
use Rattle.rn_weighted.specs.declared.weighted.WTransition.{WTransition}
use Rattle.rn_weighted.specs.declared.weighted.WArc.{WArc}
use Rattle.rn_translated.specs.TranslatedSystem.{flexible}

-- the first spot of a text
abbrev pub first : Spot
first = record { line = 1; column = 1 }

-- a name
abbrev pub named : List ℕ → PName
named text = record { text = text; spot = first }

-- `[]` as an initial token, and as an expression
abbrev pub black_token : PConst
black_token = constant_at first (C.Tuple [])

abbrev pub black_expr : PExpr
black_expr = at_spot first (F.Tuple [])

-- the list of so many black tokens, as an expression
abbrev pub black_list : ℕ → PExpr
black_list n = at_spot first (F.List (replicate n black_expr))

-- the name of a place, by its number
abbrev pub place_name : List WPlace → ℕ → List ℕ
place_name places n = option_map_or (λ place. place.name) (slice_get places n) []

-- `place p: [] = [], [];`, with as many black tokens
abbrev pub plain_place : WPlace → PPlace
plain_place place = record {
  name = named place.name;
  kind = kind_at first (K.Tuple []);
  initial = replicate place.initial black_token;
  max = None;
}

-- An arc of weight 1 has the inscription `[]`, as `in p: []`. One of weight k above 1 is a flexible
-- arc with the list of k black tokens, as `flexin p: {[],[]}`.
abbrev pub arc_at : PName → WArc → PInscribed
arc_at place arc =
    if nat_lt 1 arc.weight then I.Arc (flexible arc.kind) place (Some (black_list arc.weight))
    else I.Arc arc.kind place (Some black_expr)

abbrev pub plain_arc : List WPlace → WArc → PInscription
plain_arc places arc =
    record { form = arc_at (named (place_name places arc.place)) arc; spot = first }

-- a transition with these arcs
abbrev pub plain_transition : List WPlace → WTransition → PTransition
plain_transition places t =
    record { name = named t.name; inscriptions = map (plain_arc places) t.arcs }

-- the net `main` with the same places and transitions
abbrev pub plain_net : Weighted → PNet
plain_net net = record {
  name = named (codes "main");
  vars = [];
  places = map plain_place net.places;
  transitions = map (plain_transition net.places) net.transitions;
}

-- the text of this net alone
abbrev pub translated : Weighted → Plain
translated net = record { notation = 1; channels = []; nets = plain_net net ∷ [] }
