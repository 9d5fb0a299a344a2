-- Plain forms that stand for a weighted net, whatever their spots.
use Rattle.std.proofs.Common.{◌≡◌, ℕ, Bool, true, false, List, [], ◌∷◌, length}
use Rattle.std.specs.Prelude.{All, Some, None, codes, nat_lt}
use Rattle.std.specs.List.{AllZip}
use Rattle.rn_notation.specs.declared.token.Spot.{Spot}
use Rattle.rn_model.specs.declared.system.ArcKind.{ArcKind}
use Rattle.rn_inscript.specs.declared.exprs.PExpr.{PExpr}
use Rattle.rn_inscript.specs.declared.exprs.PForm.TheVariants as F
use Rattle.rn_inscript.specs.declared.inscriptions.PName.{PName}
use Rattle.rn_inscript.specs.declared.inscriptions.PInscribed.TheVariants as I
use Rattle.rn_inscript.specs.declared.inscriptions.PInscription.{PInscription}
use Rattle.rn_inscript.specs.Expressions.{at_spot}
use Rattle.rn_net.specs.declared.kinds.PKindForm.TheVariants as K
use Rattle.rn_net.specs.declared.constants.PConst.{PConst}
use Rattle.rn_net.specs.declared.constants.PConstForm.TheVariants as C
use Rattle.rn_net.specs.declared.plain.Plain.{Plain}
use Rattle.rn_net.specs.declared.plain.PNet.{PNet}
use Rattle.rn_net.specs.declared.plain.PPlace.{PPlace}
use Rattle.rn_net.specs.declared.plain.PTransition.{PTransition}
use Rattle.rn_net.specs.Kinds.{kind_at}
use Rattle.rn_net.specs.Constants.{constant_at}
use Rattle.rn_weighted.specs.declared.weighted.Weighted.{Weighted}
use Rattle.rn_weighted.specs.declared.weighted.WPlace.{WPlace}
use Rattle.rn_weighted.specs.declared.weighted.WTransition.{WTransition}
use Rattle.rn_weighted.specs.declared.weighted.WArc.{WArc}
use Rattle.rn_translated.specs.TranslatedSystem.{flexible}
use Rattle.rn_translated.specs.Translation.{place_name}

-- a black token, as an initial token and as an expression
abbrev pub IsToken : PConst → Type 0
IsToken token = (s : Spot) × (token ≡ constant_at s (C.Tuple []))

abbrev pub IsTokenExpr : PExpr → Type 0
IsTokenExpr e = (s : Spot) × (e ≡ at_spot s (F.Tuple []))

pub record IsPlaceForm (wp : WPlace) (place : PPlace) : Type 0 where
  pub name : place.name.text ≡ wp.name
  pub spot : Spot
  pub kind : place.kind ≡ kind_at spot (K.Tuple [])
  pub tokens : All IsToken place.initial
  pub many : length place.initial ≡ wp.initial
  pub max : place.max ≡ None

-- the inscription of an arc, by whether its weight is above 1
abbrev pub IsWeight : Bool → ℕ → PExpr → Type 0
IsWeight true n e =
    (s : Spot) × (es : List PExpr) × (e ≡ at_spot s (F.List es)) × All IsTokenExpr es
    × (length es ≡ n)
IsWeight false n e = IsTokenExpr e

abbrev pub form_kind : Bool → ArcKind → ArcKind
form_kind true kind = flexible kind
form_kind false kind = kind

pub record IsArcForm (places : List WPlace) (a : WArc) (i : PInscription) : Type 0 where
  pub place : PName
  pub expr : PExpr
  pub form : i.form ≡ I.Arc (form_kind (nat_lt 1 a.weight) a.kind) place (Some expr)
  pub name : place.text ≡ place_name places a.place
  pub weight : IsWeight (nat_lt 1 a.weight) a.weight expr

pub record IsTransitionForm (places : List WPlace) (wt : WTransition) (t : PTransition)
    : Type 0 where
  pub name : t.name.text ≡ wt.name
  pub arcs : AllZip (IsArcForm places) wt.arcs t.inscriptions

pub record IsNetForm (net : Weighted) (plain : PNet) : Type 0 where
  pub name : plain.name.text ≡ codes "main"
  pub vars : plain.vars ≡ []
  pub places : AllZip IsPlaceForm net.places plain.places
  pub transitions : AllZip (IsTransitionForm net.places) net.transitions plain.transitions

pub record IsForm (net : Weighted) (plain : Plain) : Type 0 where
  pub main : PNet
  pub channels : plain.channels ≡ []
  pub nets : plain.nets ≡ main ∷ []
  pub stands : IsNetForm net main
