-- One part of a net, and one item of a text. This only connects the readers to the grammar.
use Rattle.std.specs.Prelude.{◌≡◌, ℕ, ◌+◌, ◌<◌, ◌⊎◌, List, [], ◌∷◌, ◌++◌, map, Option, Some}
use Rattle.std.specs.Prelude.{Result, Ok, Err}
use Rattle.rn_notation.specs.declared.token.Spot.{Spot}
use Rattle.rn_notation.specs.declared.token.Token.{Token}
use Rattle.rn_notation.specs.declared.token.TokenKind.TheVariants.{Name}
use Rattle.rn_reading.specs.Phrases.{Phrases, Then, Done}
use Rattle.rn_inscript.specs.Inscriptions.{name_at}
use Rattle.rn_inscript.specs.link.Stages.{Takes}
use Rattle.rn_inscript.specs.link.NextNames.{IsNotNextKind}
use Rattle.rn_inscript.specs.Levels.{Count}
use Rattle.rn_reading.specs.declared.fault.ReadFault.{ReadFault}
use Rattle.rn_reading.specs.declared.fault.ReadFault.TheVariants as Fault
use Rattle.rn_inscript.specs.Signs.{close_brace, colon}
use Rattle.rn_model.specs.declared.system.ArcKind.{ArcKind}
use Rattle.rn_inscript.specs.declared.exprs.PExpr.{PExpr}
use Rattle.rn_inscript.specs.declared.inscriptions.PName.{PName}
use Rattle.rn_inscript.specs.declared.inscriptions.PInscribed.TheVariants as I
use Rattle.rn_inscript.specs.declared.inscriptions.PInscription.{PInscription}
use Rattle.rn_net.specs.Words.{semicolon}
use Rattle.rn_net.specs.Levels.Region.{between, inscribing}
use Rattle.rn_net.specs.link.Progress.{HasNext, Reads}
use Rattle.rn_net.specs.link.Lists.{AreFurtherUpTo}
use Rattle.rn_net.specs.declared.part.Part.{Part}
use Rattle.rn_net.specs.declared.part.Item.{Item}
use Rattle.rn_net.specs.declared.part.PlaceEnd.{PlaceEnd}
use Rattle.rn_net.specs.declared.constants.PConst.{PConst}
use Rattle.rn_net.specs.declared.plain.Plain.{Plain}
use Rattle.rn_net.specs.declared.plain.PNet.{PNet}
use Rattle.rn_net.specs.declared.plain.PMax.{PMax}
use Rattle.rn_net.specs.Nets.{AreMoreNames, AreVars, IsCapacity, AreInitial, IsPlace}
use Rattle.rn_net.specs.Nets.{IsTransition, AreInscriptions, further_arc}
use Rattle.rn_net.specs.Nets.{AreParts, IsChannel, IsNet, plain_net_of, plain_of}

-- a part, and the net with it
abbrev pub IsNetPart : ℕ → Phrases Part
IsNetPart notation ts (Part.Vars vars) rest = AreVars ts vars rest
IsNetPart notation ts (Part.Place place) rest = IsPlace ts place rest
IsNetPart notation ts (Part.Transition transition) rest = IsTransition notation ts transition rest

abbrev pub with_part : PNet → Part → PNet
with_part n (Part.Vars vars) = plain_net_of n.name (n.vars ++ vars) n.places n.transitions
with_part n (Part.Place place) = plain_net_of n.name n.vars (n.places ++ place ∷ []) n.transitions
with_part n (Part.Transition transition) =
    plain_net_of n.name n.vars n.places (n.transitions ++ transition ∷ [])

-- an item, and the system with it
abbrev pub IsItem : ℕ → Phrases Item
IsItem notation ts (Item.Channel channel) rest = IsChannel ts channel rest
IsItem notation ts (Item.Net net) rest = IsNet notation ts net rest

abbrev pub with_item : Plain → Item → Plain
with_item p (Item.Channel channel) = plain_of p.notation (p.channels ++ channel ∷ []) p.nets
with_item p (Item.Net net) = plain_of p.notation p.channels (p.nets ++ net ∷ [])

-- a name alone
abbrev pub IsPName : Phrases PName
IsPName ts name rest = (t : Token) × (us : List Token) × (s : List ℕ) × (ts ≡ t ∷ us)
    × (t.kind ≡ Name s) × ((name ≡ name_at t.spot s) × (rest ≡ us))

-- names between which commas stand, and the colon after them
abbrev pub AreNames : Phrases (List PName)
AreNames = Then IsPName (λ name. AreMoreNames (name ∷ []))

abbrev pub AreNamesUpTo : Phrases (List PName)
AreNamesUpTo = Then AreNames (λ names. Takes colon names)

-- the initial tokens of a place, and the semicolon after them
abbrev pub IsInitialUpTo : Phrases (List PConst)
IsInitialUpTo = Then AreInitial (λ items. Takes semicolon items)

-- what follows the kind of a place: its capacity, its initial tokens, and the semicolon after them
abbrev pub end_of : Option PMax → List PConst → PlaceEnd
end_of max initial = record { max = max; initial = initial }

abbrev pub IsPlaceEnd : Phrases PlaceEnd
IsPlaceEnd = Then IsCapacity (λ max. Then IsInitialUpTo (λ initial. Done (end_of max initial)))

-- inscriptions, and the brace after them; the parts of a net, and the brace after them
abbrev pub AreInscriptionsUpTo : ℕ → Phrases (List PInscription)
AreInscriptionsUpTo notation = Then (AreInscriptions notation []) (λ all. Takes close_brace all)

abbrev pub ArePartsUpTo : ℕ → PName → Phrases PNet
ArePartsUpTo notation name =
    Then (AreParts notation (plain_net_of name [] [] [])) (λ net. Takes close_brace net)

-- after an arc of so many tokens more inscriptions may follow: in notation 2, where its first is in
-- the text
pub record IsOpen (notation count : ℕ) (i : PInscription) (kind : ArcKind) (place : PName) :
    Type 0 where
  pub inscription : PExpr
  pub second : notation ≡ 2
  pub long : 2 < count
  pub is : i.form ≡ I.Arc kind place (Some inscription)

abbrev pub NotOpen : ℕ → ℕ → PInscription → Type 0
NotOpen notation count i = (kind : ArcKind) (place : PName) → IsOpen notation count i kind place → ⊥

-- What was read from an inscription up to its semicolon, or how that failed: the semicolon alone, or
-- the other inscriptions of an arc of this kind and place.
abbrev pub EndsAlone : List Token → ℕ → Result (List PInscription × ℕ) ReadFault → Type 0
EndsAlone tokens at (Ok (others, end)) =
    (others ≡ []) × ((spot : Spot) × HasNext tokens at semicolon spot) × (end ≡ at + 1)
EndsAlone tokens at (Err fault) = IsNotNextKind tokens at semicolon × (fault ≡ Fault.Stopped at)

abbrev pub EndsFurther : ArcKind → PName → List Token → ℕ →
    Result (List PInscription × ℕ) ReadFault → Type 0
EndsFurther kind place tokens at (Ok (others, end)) =
    (more : List PExpr) × (others ≡ map (further_arc kind place) more)
    × ((c : Count) → Reads AreFurtherUpTo tokens at (inscribing 0 c) between (Ok (more, end)))
EndsFurther kind place tokens at (Err fault) =
    (c : Count) → Reads AreFurtherUpTo tokens at (inscribing 0 c) between (Err fault)

-- one of the two, as more inscriptions may follow one of so many tokens or may not
abbrev pub EndsStatement : ℕ → ℕ → PInscription → List Token → ℕ →
    Result (List PInscription × ℕ) ReadFault → Type 0
EndsStatement notation count i tokens at result =
    (NotOpen notation count i × EndsAlone tokens at result)
    ⊎ ((kind : ArcKind) × (place : PName) × IsOpen notation count i kind place
    × EndsFurther kind place tokens at result)
