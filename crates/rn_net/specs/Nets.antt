-- Whole net texts. Each fact is about the tokens from somewhere on, as with kinds.
use Rattle.std.specs.Prelude.{◌≡◌, ℕ, ℤ, pos, List, [], ◌∷◌, ◌++◌, map, Option, Some, None}
use Rattle.rn_notation.specs.declared.token.Token.{Token}
use Rattle.rn_notation.specs.declared.token.Spot.{Spot}
use Rattle.rn_notation.specs.declared.token.TokenKind.TheVariants.{Name, Number}
use Rattle.rn_model.specs.declared.system.ArcKind.{ArcKind}
use Rattle.rn_inscript.specs.declared.exprs.PExpr.{PExpr, out-PExpr}
use Rattle.rn_inscript.specs.declared.inscriptions.PName.{PName}
use Rattle.rn_inscript.specs.declared.inscriptions.PInscribed.{PInscribed}
use Rattle.rn_inscript.specs.declared.inscriptions.PInscribed.TheVariants as I
use Rattle.rn_inscript.specs.declared.inscriptions.PInscription.{PInscription}
use Rattle.rn_inscript.specs.Expressions.{IsExpr, IsMoreExprs}
use Rattle.rn_inscript.specs.Inscriptions.{IsInscribed, name_at}
use Rattle.rn_inscript.specs.Signs.{open_brace, close_brace, open_paren, close_paren}
use Rattle.rn_inscript.specs.Signs.{comma, colon, equals, arc_of}
use Rattle.rn_net.specs.declared.kinds.PKind.{PKind}
use Rattle.rn_net.specs.declared.kinds.PKindForm.TheVariants as K
use Rattle.rn_net.specs.declared.constants.PConst.{PConst}
use Rattle.rn_net.specs.declared.plain.Plain.{Plain}
use Rattle.rn_net.specs.declared.plain.PChannel.{PChannel}
use Rattle.rn_net.specs.declared.plain.PNet.{PNet}
use Rattle.rn_net.specs.declared.plain.PVar.{PVar}
use Rattle.rn_net.specs.declared.plain.PPlace.{PPlace}
use Rattle.rn_net.specs.declared.plain.PMax.{PMax}
use Rattle.rn_net.specs.declared.plain.PTransition.{PTransition}
use Rattle.rn_net.specs.Words.{semicolon, net_word, place_word, trans_word, channel_word, var_word}
use Rattle.rn_net.specs.Words.{max_name, notation_name}
use Rattle.rn_net.specs.Kinds.{IsKind, kind_at}
use Rattle.rn_net.specs.Kinds as Kinds
use Rattle.rn_net.specs.Constants.{AreConstants}

-- the channel, variable, capacity, place, transition, net and system made of these parts
abbrev pub channel_of : PName → List PKind → PChannel
channel_of name kinds = record { name = name; kinds = kinds }

abbrev pub var_of : PKind → PName → PVar
var_of kind name = record { name = name; kind = kind }

abbrev pub max_of : ℤ → Spot → PMax
max_of number spot = record { number = number; spot = spot }

abbrev pub place_of : PName → PKind → List PConst → Option PMax → PPlace
place_of name kind initial max =
    record { name = name; kind = kind; initial = initial; max = max }

abbrev pub transition_of : PName → List PInscription → PTransition
transition_of name inscriptions = record { name = name; inscriptions = inscriptions }

abbrev pub plain_net_of : PName → List PVar → List PPlace → List PTransition → PNet
plain_net_of name vars places transitions =
    record { name = name; vars = vars; places = places; transitions = transitions }

abbrev pub plain_of : ℕ → List PChannel → List PNet → Plain
plain_of notation channels nets =
    record { notation = notation; channels = channels; nets = nets }

-- an arc of this kind and place with this inscription
abbrev pub arc_with : ArcKind → PName → Spot → PExpr → PInscription
arc_with kind place spot e = record { form = I.Arc kind place (Some e); spot = spot }

-- another arc of this kind and place, whose spot is that of its inscription
abbrev pub further_arc : ArcKind → PName → PExpr → PInscription
further_arc kind place e = arc_with kind place (out-PExpr e).spot e

-- `channel c(int,text);`
pub data IsChannel : List Token → PChannel → List Token → Type 0 where
  channel : {t u v w : Token} {ts rest : List Token} {name : List ℕ} {kinds : List PKind} →
      t.kind ≡ channel_word → u.kind ≡ Name name → v.kind ≡ open_paren →
      Kinds.AreListed close_paren ts kinds (w ∷ rest) → w.kind ≡ semicolon →
      IsChannel (t ∷ u ∷ v ∷ ts) (channel_of (name_at u.spot name) kinds) rest

-- names after the names so far, each after a comma
pub data AreMoreNames : List PName → List Token → List PName → List Token → Type 0 where
  no_more_names : {all : List PName} {rest : List Token} → AreMoreNames all rest all rest
  more_names : {t u : Token} {ts rest : List Token} {before all : List PName} {name : List ℕ} →
      t.kind ≡ comma → u.kind ≡ Name name →
      AreMoreNames (before ++ name_at u.spot name ∷ []) ts all rest →
      AreMoreNames before (t ∷ u ∷ ts) all rest

-- `var x, y: int;`, which is one variable for each name
pub data AreVars : List Token → List PVar → List Token → Type 0 where
  vars : {t u v w : Token} {ts us rest : List Token} {name : List ℕ} {names : List PName}
      {kind : PKind} →
      t.kind ≡ var_word → u.kind ≡ Name name →
      AreMoreNames (name_at u.spot name ∷ []) ts names (v ∷ us) → v.kind ≡ colon →
      IsKind us kind (w ∷ rest) → w.kind ≡ semicolon →
      AreVars (t ∷ u ∷ ts) (map (var_of kind) names) rest

-- The kind of a place, after a colon. Where it is absent it is `[]`, with the spot of the name.
pub data IsKindOfPlace : Spot → List Token → PKind → List Token → Type 0 where
  absent : {spot : Spot} {rest : List Token} →
      IsKindOfPlace spot rest (kind_at spot (K.Tuple [])) rest
  given : {spot : Spot} {t : Token} {ts rest : List Token} {kind : PKind} →
      t.kind ≡ colon → IsKind ts kind rest → IsKindOfPlace spot (t ∷ ts) kind rest

-- The capacity of a place, after `max`, or none. As `max` is a name, it begins a capacity only
-- where the name or the kind of a place has ended.
pub data IsCapacity : List Token → Option PMax → List Token → Type 0 where
  none : {rest : List Token} → IsCapacity rest None rest
  some : {t u : Token} {rest : List Token} {number : ℤ} →
      t.kind ≡ max_name → u.kind ≡ Number number →
      IsCapacity (t ∷ u ∷ rest) (Some (max_of number u.spot)) rest

-- the initial tokens of a place, after `=`, or none
pub data AreInitial : List Token → List PConst → List Token → Type 0 where
  none : {rest : List Token} → AreInitial rest [] rest
  some : {t : Token} {ts rest : List Token} {items : List PConst} →
      t.kind ≡ equals → AreConstants ts items rest → AreInitial (t ∷ ts) items rest

-- `place p: int max 5 = 1, 2;`
pub data IsPlace : List Token → PPlace → List Token → Type 0 where
  place : {t u v : Token} {ts mid us rest : List Token} {name : List ℕ} {kind : PKind}
      {max : Option PMax} {initial : List PConst} →
      t.kind ≡ place_word → u.kind ≡ Name name → IsKindOfPlace u.spot ts kind mid →
      IsCapacity mid max us → AreInitial us initial (v ∷ rest) → v.kind ≡ semicolon →
      IsPlace (t ∷ u ∷ ts) (place_of (name_at u.spot name) kind initial max) rest

-- What stands before a semicolon in a transition. It is an inscription or, in notation 2, an arc
-- with several inscriptions, which stands for as many arcs.
pub data AreInscribed (notation : ℕ) : List Token → List PInscription → List Token → Type 0 where
  one : {t : Token} {ts rest : List Token} {form : PInscribed} →
      IsInscribed (t ∷ ts) form rest →
      AreInscribed notation (t ∷ ts) (record { form = form; spot = t.spot } ∷ []) rest
  several : {t u v : Token} {ts mid rest : List Token} {kind : ArcKind} {p : List ℕ} {e : PExpr}
      {more : List PExpr} →
      notation ≡ 2 → arc_of t.kind ≡ Some kind → u.kind ≡ Name p → v.kind ≡ colon →
      IsExpr ts e mid → IsMoreExprs [] mid more rest →
      AreInscribed notation (t ∷ u ∷ v ∷ ts)
      (arc_with kind (name_at u.spot p) t.spot e
      ∷ map (further_arc kind (name_at u.spot p)) more) rest

-- inscriptions after those so far, with semicolons after them
pub data AreInscriptions (notation : ℕ) :
    List PInscription → List Token → List PInscription → List Token → Type 0 where
  no_more_inscriptions : {all : List PInscription} {rest : List Token} →
      AreInscriptions notation all rest all rest
  more_inscriptions : {u : Token} {ts mid rest : List Token} {before more all : List PInscription} →
      AreInscribed notation ts more (u ∷ mid) → u.kind ≡ semicolon →
      AreInscriptions notation (before ++ more) mid all rest →
      AreInscriptions notation before ts all rest

-- `trans t { in p: x; out q: x; }`
pub data IsTransition (notation : ℕ) : List Token → PTransition → List Token → Type 0 where
  transition : {t u v w : Token} {ts rest : List Token} {name : List ℕ}
      {inscriptions : List PInscription} →
      t.kind ≡ trans_word → u.kind ≡ Name name → v.kind ≡ open_brace →
      AreInscriptions notation [] ts inscriptions (w ∷ rest) → w.kind ≡ close_brace →
      IsTransition notation (t ∷ u ∷ v ∷ ts)
      (transition_of (name_at u.spot name) inscriptions) rest

-- the parts of a net after those so far: variables, places and transitions in any order
pub data AreParts (notation : ℕ) : PNet → List Token → PNet → List Token → Type 0 where
  no_more_parts : {net : PNet} {rest : List Token} → AreParts notation net rest net rest
  and_vars : {ts mid rest : List Token} {name : PName} {vars more : List PVar}
      {places : List PPlace} {transitions : List PTransition} {net : PNet} →
      AreVars ts more mid →
      AreParts notation (plain_net_of name (vars ++ more) places transitions) mid net rest →
      AreParts notation (plain_net_of name vars places transitions) ts net rest
  and_place : {ts mid rest : List Token} {name : PName} {vars : List PVar}
      {places : List PPlace} {place : PPlace} {transitions : List PTransition} {net : PNet} →
      IsPlace ts place mid →
      AreParts notation (plain_net_of name vars (places ++ place ∷ []) transitions) mid net rest →
      AreParts notation (plain_net_of name vars places transitions) ts net rest
  and_transition : {ts mid rest : List Token} {name : PName} {vars : List PVar}
      {places : List PPlace} {transitions : List PTransition} {transition : PTransition}
      {net : PNet} →
      IsTransition notation ts transition mid →
      AreParts notation (plain_net_of name vars places (transitions ++ transition ∷ [])) mid net rest →
      AreParts notation (plain_net_of name vars places transitions) ts net rest

-- `net n { }` with the parts of the net between the braces
pub data IsNet (notation : ℕ) : List Token → PNet → List Token → Type 0 where
  net : {t u v w : Token} {ts rest : List Token} {name : List ℕ} {parts : PNet} →
      t.kind ≡ net_word → u.kind ≡ Name name → v.kind ≡ open_brace →
      AreParts notation (plain_net_of (name_at u.spot name) [] [] []) ts parts (w ∷ rest) →
      w.kind ≡ close_brace →
      IsNet notation (t ∷ u ∷ v ∷ ts) parts rest

-- the channels and nets after those so far, in any order, up to the end
pub data AreItems (notation : ℕ) : Plain → List Token → Plain → Type 0 where
  no_more_items : {plain : Plain} → AreItems notation plain [] plain
  and_channel : {ts mid : List Token} {channels : List PChannel} {channel : PChannel}
      {nets : List PNet} {plain : Plain} →
      IsChannel ts channel mid →
      AreItems notation (plain_of notation (channels ++ channel ∷ []) nets) mid plain →
      AreItems notation (plain_of notation channels nets) ts plain
  and_net : {ts mid : List Token} {channels : List PChannel} {nets : List PNet} {net : PNet}
      {plain : Plain} →
      IsNet notation ts net mid →
      AreItems notation (plain_of notation channels (nets ++ net ∷ [])) mid plain →
      AreItems notation (plain_of notation channels nets) ts plain

-- These tokens are a system, which has at least one channel or net. In notation 2 it comes after
-- `notation 2;`, where `notation` is a name, and no reserved word.
pub data IsSystem : List Token → Plain → Type 0 where
  first : {t : Token} {ts : List Token} {plain : Plain} →
      AreItems 1 (plain_of 1 [] []) (t ∷ ts) plain → IsSystem (t ∷ ts) plain
  second : {t u v w : Token} {ts : List Token} {plain : Plain} →
      t.kind ≡ notation_name → u.kind ≡ Number (pos 2) → v.kind ≡ semicolon →
      AreItems 2 (plain_of 2 [] []) (w ∷ ts) plain → IsSystem (t ∷ u ∷ v ∷ w ∷ ts) plain
