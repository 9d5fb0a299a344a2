-- Plain forms that are the same but for their spots: they are the same once each spot is put at the
-- first byte.
use Rattle.std.specs.Prelude.{◌≡◌, map, option_map}
use Rattle.rn_notation.specs.declared.token.Spot.{Spot}
use Rattle.rn_inscript.specs.declared.exprs.PExpr.{PExpr, PExpr-F, fold-PExpr}
use Rattle.rn_inscript.specs.declared.exprs.PForm.{PForm, roll-PForm}
use Rattle.rn_inscript.specs.declared.conds.PCond.{PCond, fold-PCond, roll-PCond}
use Rattle.rn_inscript.specs.declared.conds.PSimple.{PSimple, fold-PSimple}
use Rattle.rn_inscript.specs.declared.conds.PSimple.TheOpen as S
use Rattle.rn_inscript.specs.declared.conds.PSimple.TheVariants as Simple
use Rattle.rn_inscript.specs.declared.inscriptions.PName.{PName}
use Rattle.rn_inscript.specs.declared.inscriptions.PInscribed.{PInscribed}
use Rattle.rn_inscript.specs.declared.inscriptions.PInscribed.TheVariants as I
use Rattle.rn_inscript.specs.declared.inscriptions.PInscription.{PInscription}
use Rattle.rn_inscript.specs.Expressions.{at_spot}
use Rattle.rn_inscript.specs.Inscriptions.{name_at}
use Rattle.rn_net.specs.declared.kinds.PKind.{PKind, PKind-F, fold-PKind}
use Rattle.rn_net.specs.declared.kinds.PKindForm.{PKindForm, roll-PKindForm}
use Rattle.rn_net.specs.declared.constants.PConst.{PConst, PConst-F, fold-PConst}
use Rattle.rn_net.specs.declared.constants.PConstForm.{PConstForm, roll-PConstForm}
use Rattle.rn_net.specs.declared.plain.Plain.{Plain}
use Rattle.rn_net.specs.declared.plain.PChannel.{PChannel}
use Rattle.rn_net.specs.declared.plain.PNet.{PNet}
use Rattle.rn_net.specs.declared.plain.PVar.{PVar}
use Rattle.rn_net.specs.declared.plain.PPlace.{PPlace}
use Rattle.rn_net.specs.declared.plain.PMax.{PMax}
use Rattle.rn_net.specs.declared.plain.PTransition.{PTransition}
use Rattle.rn_net.specs.Kinds.{kind_at}
use Rattle.rn_net.specs.Constants.{constant_at}
use Rattle.rn_net.specs.Nets.{channel_of, var_of, max_of, place_of, transition_of, plain_net_of, plain_of}

-- the first byte of a text
abbrev pub first_spot : Spot
first_spot = record { line = 1; column = 1 }

abbrev pub kind_moved : PKind-F PKindForm PKind → PKind
kind_moved kind = kind_at first_spot kind.form

-- a kind, with its spot and those of the kinds in it at the first byte
abbrev pub kind_unplaced : PKind → PKind
kind_unplaced = fold-PKind PKindForm PKind roll-PKindForm kind_moved

abbrev pub constant_moved : PConst-F PConstForm PConst → PConst
constant_moved constant = constant_at first_spot constant.form

-- the same of a constant
abbrev pub constant_unplaced : PConst → PConst
constant_unplaced = fold-PConst PConstForm PConst roll-PConstForm constant_moved

abbrev pub expr_moved : PExpr-F PForm PExpr → PExpr
expr_moved expr = at_spot first_spot expr.form

-- of an expression
abbrev pub expr_unplaced : PExpr → PExpr
expr_unplaced = fold-PExpr PForm PExpr roll-PForm expr_moved

abbrev pub simple_moved : S.PSimple-F PSimple PCond → PSimple
simple_moved (S.Compare kind a b) = Simple.Compare kind (expr_unplaced a) (expr_unplaced b)
simple_moved (S.Bare a) = Simple.Bare (expr_unplaced a)
simple_moved (S.Not cond) = Simple.Not cond

-- of a condition
abbrev pub cond_unplaced : PCond → PCond
cond_unplaced = fold-PCond PSimple PCond simple_moved roll-PCond

abbrev pub simple_unplaced : PSimple → PSimple
simple_unplaced = fold-PSimple PSimple PCond simple_moved roll-PCond

-- of a name
abbrev pub name_unplaced : PName → PName
name_unplaced name = name_at first_spot name.text

-- of an inscription
abbrev pub inscribed_unplaced : PInscribed → PInscribed
inscribed_unplaced (I.Arc kind place inscription) =
    I.Arc kind (name_unplaced place) (option_map expr_unplaced inscription)
inscribed_unplaced (I.Guard cond) = I.Guard (cond_unplaced cond)
inscribed_unplaced (I.Print expr) = I.Print (expr_unplaced expr)
inscribed_unplaced (I.Set var value) = I.Set (name_unplaced var) (expr_unplaced value)
inscribed_unplaced (I.Uplink channel args) =
    I.Uplink (name_unplaced channel) (map expr_unplaced args)
inscribed_unplaced (I.New var net) = I.New (name_unplaced var) (name_unplaced net)
inscribed_unplaced (I.Downlink target channel args) =
    I.Downlink (expr_unplaced target) (name_unplaced channel) (map expr_unplaced args)
inscribed_unplaced (I.Equality a b) = I.Equality (expr_unplaced a) (expr_unplaced b)

abbrev pub inscription_unplaced : PInscription → PInscription
inscription_unplaced inscription =
    record { form = inscribed_unplaced inscription.form; spot = first_spot }

-- of declarations
abbrev pub channel_unplaced : PChannel → PChannel
channel_unplaced channel = channel_of (name_unplaced channel.name) (map kind_unplaced channel.kinds)

abbrev pub var_unplaced : PVar → PVar
var_unplaced var = var_of (kind_unplaced var.kind) (name_unplaced var.name)

abbrev pub max_unplaced : PMax → PMax
max_unplaced max = max_of max.number first_spot

abbrev pub place_unplaced : PPlace → PPlace
place_unplaced place =
    place_of (name_unplaced place.name) (kind_unplaced place.kind)
    (map constant_unplaced place.initial) (option_map max_unplaced place.max)

abbrev pub transition_unplaced : PTransition → PTransition
transition_unplaced transition =
    transition_of (name_unplaced transition.name)
    (map inscription_unplaced transition.inscriptions)

-- of a net and of a system, whose notation is kept
abbrev pub net_unplaced : PNet → PNet
net_unplaced net =
    plain_net_of (name_unplaced net.name) (map var_unplaced net.vars) (map place_unplaced net.places)
    (map transition_unplaced net.transitions)

abbrev pub unplaced : Plain → Plain
unplaced plain =
    plain_of plain.notation (map channel_unplaced plain.channels) (map net_unplaced plain.nets)

-- the two plain forms are the same but for their spots
abbrev pub SameButSpots : Plain → Plain → Type 0
SameButSpots plain other = unplaced plain ≡ unplaced other
