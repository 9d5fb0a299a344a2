-- What a text spells is well formed.
use Rattle.std.proofs.Common.{◌≡◌, ℕ, ◌≤◌, List, [], ◌∷◌, ◌++◌, map}
use Rattle.std.proofs.Common.{refl, sym, subst, arith}
use Rattle.std.specs.Prelude.{Option}
use Rattle.std.specs.List.{AllByRecursion}
use Rattle.std.proofs.lemmas.List.Elements.{All-from_recursion}
use Rattle.rn_model.specs.Kinds.{value_depth}
use Rattle.rn_model.proofs.EachElement.{each_append, each_weaker}
use Rattle.rn_value.specs.Words.{IsName}
use Rattle.rn_notation.specs.Tokens.{IsToken}
use Rattle.rn_notation.specs.Reading.{Piece, gap, token, ArePieces, tokens_after, Tokens}
use Rattle.rn_notation.specs.declared.token.Spot.{Spot}
use Rattle.rn_notation.specs.declared.token.Token.{Token}
use Rattle.rn_notation.specs.declared.token.TokenKind.{TokenKind}
use Rattle.rn_notation.specs.declared.token.TokenKind.TheVariants.{Name}
use Rattle.rn_inscript.specs.Signs.{open_brace, close_brace}
use Rattle.rn_inscript.specs.declared.inscriptions.PName.{PName}
use Rattle.rn_inscript.specs.declared.inscriptions.PInscription.{PInscription}
use Rattle.rn_net.specs.declared.kinds.PKind.{PKind}
use Rattle.rn_net.specs.declared.kinds.PKindForm.TheVariants as K
use Rattle.rn_net.specs.declared.constants.PConst.{PConst}
use Rattle.rn_net.specs.declared.plain.Plain.{Plain}
use Rattle.rn_net.specs.declared.plain.PChannel.{PChannel}
use Rattle.rn_net.specs.declared.plain.PNet.{PNet}
use Rattle.rn_net.specs.declared.plain.PVar.{PVar}
use Rattle.rn_net.specs.declared.plain.PPlace.{PPlace}
use Rattle.rn_net.specs.declared.plain.PMax.{PMax}
use Rattle.rn_net.specs.declared.plain.PTransition.{PTransition}
use Rattle.rn_net.specs.Kinds.{kind_at}
use Rattle.rn_net.specs.Levels.{IsShallow}
use Rattle.rn_net.specs.Levels.Region.{between, heading, declaring}
use Rattle.rn_net.specs.Words.{semicolon}
use Rattle.rn_net.specs.Nets.{IsSystem, AreItems, IsChannel, IsNet, AreParts, AreVars, IsPlace}
use Rattle.rn_net.specs.Nets.{AreMoreNames, IsKindOfPlace, IsCapacity, AreInitial, IsTransition}
use Rattle.rn_net.specs.Nets.{AreInscriptions, var_of}
use Rattle.rn_numbered.specs.Numbered.{value_of}
use Rattle.rn_spelled.specs.WellFormed.{IsShallowKind, IsWellFormedInscription}
use Rattle.rn_spelled.specs.WellFormed.{IsWellFormedTransition, IsWellFormedVar, IsWellFormedPlace}
use Rattle.rn_spelled.specs.WellFormed.{IsWellFormedNet, IsWellFormedChannel, IsWellFormed}
use Rattle.rn_spelled.specs.SpelledForms.{SpelledFormsAreWellFormed}
use Rattle.rn_spelled.proofs.WithinLevels.{opening, closing, neither, Declared, AllNamed, IsNamed}
use Rattle.rn_spelled.proofs.WithinLevels.{declared_open, declared_on, declared_end}
use Rattle.rn_spelled.proofs.WithinLevels.{inscribed_first, inscribed_on, inscribed_end, first}
use Rattle.rn_spelled.proofs.WithinLevels.{named}
use Rattle.rn_spelled.proofs.KindDepths.{KindFits, ConstantFits, kind_fits, listed_fit, push}
use Rattle.rn_spelled.proofs.KindDepths.{constants_fit, tuple_fits}
use Rattle.rn_spelled.proofs.SpelledInscriptions.{FormFits, begins, statement_fits}
use Rattle.rn_spelled.proofs.SpelledInscriptions.{well_inscribed}

-- the tokens from the start of a statement on
record Starts (ts : List Token) : Type 0 where
  shallow : IsShallow between ts
  names : AllNamed ts

ended : {n : ℕ} {t : Token} {ts : List Token} → t.kind ≡ semicolon → Declared n (t ∷ ts) →
    Starts ts
ended e d = let p = declared_end e d in record { shallow = p.0; names = p.1 }

-- a declaration after its first word
declares : {ts : List Token} → IsShallow (declaring 0) ts → AllNamed ts →
    Declared 0 ts
declares h names = record { few = omega arith; shallow = h; names = names }

shallow_kind : (k : PKind) → KindFits 0 k → IsShallowKind k
shallow_kind k h = omega (arith, h)

in_brackets : (k : PKind) → KindFits 1 k → IsShallowKind k
in_brackets k h = omega (arith, h)

-- channels
channel_well : {ts rest : List Token} {channel : PChannel} → IsChannel ts channel rest →
    Starts ts → IsWellFormedChannel channel × Starts rest
channel_well (IsChannel.channel {t = t} {u = u} {v = v} {ts = ts} {kinds = kinds} e f g x h) s =
    let word = first between t (u ∷ v ∷ ts) e s.shallow in
    let d : Declared 0 (u ∷ v ∷ ts) = declares word.1 s.names.1 in
    let p = listed_fit {n = 0} (closing refl refl refl) x
    (declared_open (opening refl refl) g (declared_on (neither refl refl refl) f d)) in (
      record {
        name = named f s.names.1.0;
        kinds = All-from_recursion IsShallowKind kinds
            (each_weaker (KindFits 1) IsShallowKind in_brackets kinds p.0);
      },
      ended h p.1,
    )

-- variables
abbrev NameWell : PName → Type 0
NameWell name = IsName name.text

names_well : {before all : List PName} {ts rest : List Token} →
    AreMoreNames before ts all rest → AllByRecursion NameWell before → Declared 0 ts →
    AllByRecursion NameWell all × Declared 0 rest
names_well AreMoreNames.no_more_names well d = (well, d)
names_well (AreMoreNames.more_names {u = u} {before = before} {name = name} e f m) well d =
    names_well m
    (push NameWell before (record { text = name; spot = u.spot }) well (named f d.names.1.0))
    (declared_on (neither refl refl refl) f (declared_on (neither refl refl refl) e d))

var_well : (kind : PKind) → IsShallowKind kind → (names : List PName) →
    AllByRecursion NameWell names → AllByRecursion IsWellFormedVar (map (var_of kind) names)
var_well kind h [] well = tt
var_well kind h (name ∷ names) well =
    (record { name = well.0; kind = h }, var_well kind h names well.1)

vars_well : {ts rest : List Token} {vars : List PVar} → AreVars ts vars rest → Starts ts →
    AllByRecursion IsWellFormedVar vars × Starts rest
vars_well (AreVars.vars {t = t} {u = u} {ts = ts} {names = names} {kind = kind} e f m g x h) s =
    let word = first between t (u ∷ ts) e s.shallow in
    let d : Declared 0 (u ∷ ts) = declares word.1 s.names.1 in
    let p = names_well m (named f s.names.1.0, tt) (declared_on (neither refl refl refl) f d) in
    let q = kind_fits x (declared_on (neither refl refl refl) g p.1) in
    (var_well kind (shallow_kind kind q.0) names p.0, ended h q.1)

-- places
kind_well : {spot : Spot} {ts rest : List Token} {kind : PKind} →
    IsKindOfPlace spot ts kind rest → Declared 0 ts → IsShallowKind kind × Declared 0 rest
kind_well (IsKindOfPlace.absent {spot = spot}) d = (
  shallow_kind (kind_at spot (K.Tuple [])) (tuple_fits spot [] 0 (omega arith) tt),
  d,
)
kind_well (IsKindOfPlace.given {kind = kind} e x) d =
    let p = kind_fits x (declared_on (neither refl refl refl) e d) in
    (shallow_kind kind p.0, p.1)

capacity_well : {ts rest : List Token} {max : Option PMax} → IsCapacity ts max rest →
    Declared 0 ts → Declared 0 rest
capacity_well IsCapacity.none d = d
capacity_well (IsCapacity.some e f) d =
    declared_on (neither refl refl refl) f (declared_on (neither refl refl refl) e d)

initial_well : {ts rest : List Token} {items : List PConst} → AreInitial ts items rest →
    Declared 0 ts → AllByRecursion (ConstantFits 0) items × Declared 0 rest
initial_well AreInitial.none d = (tt, d)
initial_well (AreInitial.some e x) d =
    constants_fit x (declared_on (neither refl refl refl) e d)

abbrev TokenWell : PConst → Type 0
TokenWell c = value_depth (value_of c) ≤ 64

shallow_token : (c : PConst) → ConstantFits 0 c → TokenWell c
shallow_token c h = omega (arith, h)

place_well : {ts rest : List Token} {place : PPlace} → IsPlace ts place rest → Starts ts →
    IsWellFormedPlace place × Starts rest
place_well (IsPlace.place {t = t} {u = u} {ts = ts} {initial = initial} e f x m y g) s =
    let word = first between t (u ∷ ts) e s.shallow in
    let d : Declared 0 (u ∷ ts) = declares word.1 s.names.1 in
    let p = kind_well x (declared_on (neither refl refl refl) f d) in
    let q = initial_well y (capacity_well m p.1) in (
      record {
        name = named f s.names.1.0;
        kind = p.0;
        initial = All-from_recursion TokenWell initial
            (each_weaker (ConstantFits 0) TokenWell shallow_token initial q.0);
      },
      ended g q.1,
    )

-- transitions
wells : (all : List PInscription) → AllByRecursion (λ i. FormFits i.form) all →
    AllByRecursion IsWellFormedInscription all
wells all fit = each_weaker (λ i. FormFits i.form) IsWellFormedInscription well_inscribed all fit

inscriptions_well : {notation : ℕ} {before all : List PInscription} {ts rest : List Token} →
    AreInscriptions notation before ts all rest → AllByRecursion IsWellFormedInscription before →
    Starts ts → AllByRecursion IsWellFormedInscription all × Starts rest
inscriptions_well AreInscriptions.no_more_inscriptions well s = (well, s)
inscriptions_well (AreInscriptions.more_inscriptions {before = before} {more = more} x e m) well s =
    let p = statement_fits x s.shallow s.names in
    let q = inscribed_end e p.1 in
    inscriptions_well m (each_append IsWellFormedInscription before more well (wells more p.0))
    (record { shallow = q.0; names = q.1 })

-- from the first word of a net or transition to what stands after its brace
headed : (u v : Token) (ts : List Token) {name : List ℕ} → u.kind ≡ Name name →
    v.kind ≡ open_brace → IsShallow heading (u ∷ v ∷ ts) → AllNamed (u ∷ v ∷ ts) → Starts ts
headed u v ts f g h names =
    let n = first heading u (v ∷ ts) f h in
    let b = first heading v ts g n.1 in
    record { shallow = b.1; names = names.1.1 }

-- the closing brace
braced : {t : Token} {ts : List Token} → t.kind ≡ close_brace → Starts (t ∷ ts) → Starts ts
braced {t = t} {ts = ts} e s =
    record { shallow = (first between t ts e s.shallow).1; names = s.names.1 }

transition_well : {notation : ℕ} {ts rest : List Token} {t : PTransition} →
    IsTransition notation ts t rest → Starts ts → IsWellFormedTransition t × Starts rest
transition_well
    (IsTransition.transition {t = t} {u = u} {v = v} {ts = ts} {inscriptions = all} e f g x h) s =
    let word = first between t (u ∷ v ∷ ts) e s.shallow in
    let p = inscriptions_well x tt (headed u v ts f g word.1 s.names.1) in (
      record {
        name = named f s.names.1.0;
        inscriptions = All-from_recursion IsWellFormedInscription all p.0;
      },
      braced h p.1,
    )

-- nets
record NetWell (net : PNet) : Type 0 where
  name : IsName net.name.text
  vars : AllByRecursion IsWellFormedVar net.vars
  places : AllByRecursion IsWellFormedPlace net.places
  transitions : AllByRecursion IsWellFormedTransition net.transitions

parts_well : {notation : ℕ} {before net : PNet} {ts rest : List Token} →
    AreParts notation before ts net rest →
    NetWell before → Starts ts → NetWell net × Starts rest
parts_well AreParts.no_more_parts w s = (w, s)
parts_well (AreParts.and_vars {vars = vars} {more = more} x m) w s =
    let p = vars_well x s in
    parts_well m
    (record {
      name = w.name;
      vars = each_append IsWellFormedVar vars more w.vars p.0;
      places = w.places;
      transitions = w.transitions;
    })
    p.1
parts_well (AreParts.and_place {places = places} {place = place} x m) w s =
    let p = place_well x s in
    parts_well m
    (record {
      name = w.name;
      vars = w.vars;
      places = push IsWellFormedPlace places place w.places p.0;
      transitions = w.transitions;
    })
    p.1
parts_well (AreParts.and_transition {transitions = transitions} {transition = transition} x m) w
    s =
    let p = transition_well x s in
    parts_well m
    (record {
      name = w.name;
      vars = w.vars;
      places = w.places;
      transitions = push IsWellFormedTransition transitions transition w.transitions p.0;
    })
    p.1

net_well : {notation : ℕ} {ts rest : List Token} {net : PNet} → IsNet notation ts net rest →
    Starts ts →
    IsWellFormedNet net × Starts rest
net_well (IsNet.net {t = t} {u = u} {v = v} {ts = ts} {parts = parts} e f g x h) s =
    let word = first between t (u ∷ v ∷ ts) e s.shallow in
    let p = parts_well x
    (record { name = named f s.names.1.0; vars = tt; places = tt; transitions = tt })
    (headed u v ts f g word.1 s.names.1) in (
      record {
        name = p.0.name;
        vars = All-from_recursion IsWellFormedVar parts.vars p.0.vars;
        places = All-from_recursion IsWellFormedPlace parts.places p.0.places;
        transitions = All-from_recursion IsWellFormedTransition parts.transitions p.0.transitions;
      },
      braced h p.1,
    )

-- systems
record PlainWell (plain : Plain) : Type 0 where
  channels : AllByRecursion IsWellFormedChannel plain.channels
  nets : AllByRecursion IsWellFormedNet plain.nets

items_well : {notation : ℕ} {before plain : Plain} {ts : List Token} →
    AreItems notation before ts plain →
    PlainWell before → Starts ts → PlainWell plain
items_well AreItems.no_more_items w s = w
items_well (AreItems.and_channel {channels = channels} {channel = channel} x m) w s =
    let p = channel_well x s in
    items_well m
    (record {
      channels = push IsWellFormedChannel channels channel w.channels p.0;
      nets = w.nets;
    })
    p.1
items_well (AreItems.and_net {nets = nets} {net = net} x m) w s =
    let p = net_well x s in
    items_well m
    (record { channels = w.channels; nets = push IsWellFormedNet nets net w.nets p.0 }) p.1

plain_well : (plain : Plain) → PlainWell plain → IsWellFormed plain
plain_well plain w = record {
  channels = All-from_recursion IsWellFormedChannel plain.channels w.channels;
  nets = All-from_recursion IsWellFormedNet plain.nets w.nets;
}

system_well : {ts : List Token} {plain : Plain} → IsSystem ts plain → Starts ts →
    IsWellFormed plain
system_well {plain = plain} (IsSystem.first x) s =
    plain_well plain (items_well x (record { channels = tt; nets = tt }) s)
system_well {plain = plain} (IsSystem.second {t = t} {u = u} {v = v} {w = w} {ts = ts} e f g x) s =
    let begin = inscribed_first {t = t} {ts = u ∷ v ∷ w ∷ ts}
    (begins e (record { starts = refl; goes_on = refl; no_comma = refl })) s.shallow s.names in
    let after = inscribed_end g (inscribed_on (neither refl refl refl) f
    (inscribed_on (neither refl refl refl) e begin)) in
    plain_well plain (items_well x (record { channels = tt; nets = tt })
    (record { shallow = after.0; names = after.1 }))

-- the names among the tokens of a text
token_named : {kind : TokenKind} {prefix rest : List ℕ} → IsToken kind prefix rest → IsNamed kind
token_named (IsToken.name is stops none) = rw (is, none)
token_named (IsToken.word is stops at) = tt
token_named (IsToken.number is stops low) = tt
token_named (IsToken.text parts are) = tt
token_named (IsToken.sign at longest code) = tt

pieces_named : (before text : List ℕ) (ps : List Piece) (rest : List ℕ) → ArePieces text ps rest →
    AllNamed (tokens_after before ps)
pieces_named before text [] rest stand = tt
pieces_named before text (gap prefix ∷ ps) rest (after, e, fits, others) =
    pieces_named (before ++ prefix) after ps rest others
pieces_named before text (token kind prefix ∷ ps) rest (after, e, fits, others) =
    (token_named fits, pieces_named (before ++ prefix) after ps rest others)

tokens_named : {text : List ℕ} {tokens : List Token} → Tokens text tokens → AllNamed tokens
tokens_named {text = text} t =
    subst AllNamed (sym t.among) (pieces_named [] text t.pieces [] t.stand)

-- the plain form that a text spells is well formed
pub spelled_forms_are_well_formed : SpelledFormsAreWellFormed
spelled_forms_are_well_formed bytes plain spelled =
    system_well spelled.system
    (record { shallow = spelled.within; names = tokens_named spelled.read })
