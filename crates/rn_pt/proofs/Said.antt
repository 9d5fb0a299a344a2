-- What is so of all that a text says: names are names, and arcs are of the kinds of weighted nets.
use Rattle.std.proofs.Common.{◌≡◌, ℕ, zero, suc, ◌<◌, inl, inr, Bool, true, false, cond, ◌&&◌, List, [], ◌∷◌, length, refl, sym, ◌∙◌, ap, subst, Option, Some, None, arith}
use Rattle.std.proofs.lemmas.Bool.{false≢true}
use Rattle.std.specs.Prelude.{not, nat_eq, is_some, option_map, slice_index_or}
use Rattle.std.specs.List.{AllByRecursion}
use Rattle.rn_value.specs.Words.{IsName, is_identifier, index_of, reserved_words}
use Rattle.rn_notation.specs.Tokens.{IsToken}
use Rattle.rn_notation.specs.Reading.{IsSlice}
use Rattle.rn_notation.specs.declared.sign.TheConstants as sign
use Rattle.rn_notation.specs.declared.word.TheConstants as word
use Rattle.rn_notation.specs.declared.token.Token.{Token}
use Rattle.rn_notation.specs.declared.token.Spot.{Spot}
use Rattle.rn_notation.specs.declared.token.TokenKind.{TokenKind}
use Rattle.rn_notation.specs.declared.token.TokenKind.TheVariants.{Name, Word, Number, Text, Sign}
use Rattle.rn_model.specs.declared.system.ArcKind.{ArcKind}
use Rattle.rn_model.specs.declared.system.ArcKind.TheVariants.{Input, Output, Inhibit}
use Rattle.rn_weighted.specs.Weighted.{IsWArcKind}
use Rattle.rn_reading.specs.Phrases.{Phrases, Done, Then, One, Maybe, Many}
use Rattle.rn_reading.specs.Single as read
use Rattle.rn_reading.specs.declared.named.Named.{Named}
use Rattle.rn_reading.specs.declared.named.Numeral.{Numeral}
use Rattle.rn_pt.specs.declared.plain.ArcWord.{ArcWord}
use Rattle.rn_pt.specs.declared.plain.PtArc.{PtArc}
use Rattle.rn_pt.specs.declared.plain.PtPlace.{PtPlace}
use Rattle.rn_pt.specs.declared.plain.PtTransition.{PtTransition}
use Rattle.rn_pt.specs.declared.plain.PtNet.{PtNet}
use Rattle.rn_pt.specs.Words.{arc_word, arc_word_of, pt_word}
use Rattle.rn_pt.specs.Grammar.{place_of, arc_of, transition_of, weighted_net_of, inhibits, NumberUpTo, WeightUpTo, IsPtArc, ArcsUpTo, IsPtPlace, IsPtTransition, TransitionsUpTo, PartsUpTo, IsPtNet}

-- Q holds of each of these
abbrev pub Each : {A : Type 0} → (A → Type 0) → List A → Type 0
Each Q [] = Unit {0}
Each Q (x ∷ xs) = Q x × Each Q xs

pub each_at : {A : Type 0} (Q : A → Type 0) (xs : List A) (k : ℕ) (d : A) → Each Q xs → k < length xs → Q (slice_index_or xs k d)
each_at Q [] k d all h = absurd (let no : ⊥ = omega (arith, h) in no)
each_at Q (x ∷ xs) zero d all h = all.0
each_at Q (x ∷ xs) (suc k) d all h = each_at Q xs k d all.1 (omega (arith, h))

-- a name that a token is, is a name
abbrev pub NamesName : Token → Type 0
NamesName t = (text : List ℕ) → t.kind ≡ Name text → IsName text

name-of : (word : List ℕ) → is_identifier word ≡ true → index_of reserved_words word ≡ None → IsName word
name-of word ident none = ap (λ b. b && not (is_some (index_of reserved_words word))) ident ∙ ap (λ o. true && not (is_some o)) none

slice_names : (bytes : List ℕ) (t : Token) → IsSlice bytes t → NamesName t
slice_names bytes t s = by s.stands
  where
    by : {kind : TokenKind} {w rest : List ℕ} → IsToken kind w rest → (text : List ℕ) → kind ≡ Name text → IsName text
    by (IsToken.name {word = word} ident ends none) text is = subst IsName (let e : word ≡ text = let h = is in cc in e) (name-of word ident none)
    by (IsToken.word ident ends some) text is = absurd (let no : ⊥ = let h = is in cc in no)
    by (IsToken.number digits ends bound) text is = absurd (let no : ⊥ = let h = is in cc in no)
    by (IsToken.text parts are) text is = absurd (let no : ⊥ = let h = is in cc in no)
    by (IsToken.sign some longest comment) text is = absurd (let no : ⊥ = let h = is in cc in no)

abbrev pub Names : List Token → Type 0
Names ts = Each NamesName ts

pub slices_named : (bytes : List ℕ) (ts : List Token) → AllByRecursion (IsSlice bytes) ts → Names ts
slices_named bytes [] all = tt
slices_named bytes (t ∷ ts) all = (slice_names bytes t all.0, slices_named bytes ts all.1)

-- phrases of a sort stand for what is so
abbrev pub Keeps : {A : Type 0} → Phrases A → (A → Type 0) → Type 0
Keeps {A = A} X Q = (ts : List Token) (a : A) (rest : List Token) → Names ts → X ts a rest → Q a × Names rest

one_keeps : {A : Type 0} (reads : Token → Option A) (Q : A → Type 0) → ((t : Token) (a : A) → NamesName t → reads t ≡ Some a → Q a) → Keeps (One reads) Q
one_keeps reads Q h ts a rest names x =
    let all : Names (x.0 ∷ rest) = subst Names x.1 names in
    (h x.0 a all.0 x.2, all.1)

done_keeps : {A : Type 0} (a : A) (Q : A → Type 0) → Q a → Keeps (Done a) Q
done_keeps a Q q ts b rest names x = (subst Q (sym x.0) q, subst Names (sym x.1) names)

then_keeps : {A B : Type 0} (X : Phrases A) (Y : A → Phrases B) (Q : A → Type 0) (R : B → Type 0) → Keeps X Q → ((a : A) → Q a → Keeps (Y a) R) → Keeps (Then X Y) R
then_keeps X Y Q R k l ts b rest names x =
    let first = k ts x.0 x.1 names x.2 in
    l x.0 first.0 x.1 b rest first.1 x.3

-- a token of which nothing has to be known
one_then : {A B : Type 0} (reads : Token → Option A) (Y : A → Phrases B) (R : B → Type 0) → ((a : A) → Keeps (Y a) R) → Keeps (Then (One reads) Y) R
one_then reads Y R l = then_keeps (One reads) Y (λ a. Unit {0}) R (one_keeps reads (λ a. Unit {0}) (λ t a n is. tt)) (λ a u. l a)

maybe_keeps : {A B : Type 0} (opens : Token → Option B) (X : Phrases A) → Keeps X (λ a. Unit {0}) → Keeps (Maybe opens X) (λ a. Unit {0})
maybe_keeps opens X k ts a rest names (inl x) = (tt, subst Names (sym x.1) names)
maybe_keeps opens X k ts a rest names (inr x) =
    one_then opens (λ b. Then X (λ a. Done (Some a))) (λ a. Unit {0})
    (λ b. then_keeps X (λ a. Done (Some a)) (λ a. Unit {0}) (λ a. Unit {0}) k (λ a u. done_keeps (Some a) (λ a. Unit {0}) tt))
    ts a rest names x

many_keeps : {A : Type 0} (X : Phrases A) (Q : A → Type 0) → Keeps X Q → Keeps (Many X) (Each Q)
many_keeps X Q k ts [] rest names x = (tt, subst Names (sym x) names)
many_keeps X Q k ts (a ∷ more) rest names x =
    let first = k ts a x.0 names x.1 in
    let others = many_keeps X Q k x.0 more rest first.1 x.2 in
    ((first.0, others.0), others.1)

abbrev named : List ℕ → Spot → Named
named text spot = record { text = text; spot = spot }

name_kept : (t : Token) (a : Named) → NamesName t → read.name t ≡ Some a → IsName a.text
name_kept t a names is = by t.kind names is
  where
    by : (kind : TokenKind) → ((text : List ℕ) → kind ≡ Name text → IsName text) → read.name_of t.spot kind ≡ Some a → IsName a.text
    by (Name text) n is = subst (λ (m : Named). IsName m.text) (let e : named text t.spot ≡ a = let h = is in cc in e) (n text refl)
    by (Word k) n is = absurd (let no : ⊥ = let h = is in cc in no)
    by (Number v) n is = absurd (let no : ⊥ = let h = is in cc in no)
    by (Text s) n is = absurd (let no : ⊥ = let h = is in cc in no)
    by (Sign k) n is = absurd (let no : ⊥ = let h = is in cc in no)

abbrev arc_word_at : ArcKind → Spot → ArcWord
arc_word_at kind spot = record { kind = kind; spot = spot }

word_kept : (t : Token) (w : ArcWord) → arc_word t ≡ Some w → IsWArcKind w.kind
word_kept t w is = by t.kind is
  where
    at : (a b c : Bool) → option_map (λ kind. arc_word_at kind t.spot) (cond a (Some Input) (cond b (Some Output) (cond c (Some Inhibit) None))) ≡ Some w → IsWArcKind w.kind
    at true b c is = subst (λ (v : ArcWord). IsWArcKind v.kind) (let e : arc_word_at Input t.spot ≡ w = let h = is in cc in e) (inl refl)
    at false true c is = subst (λ (v : ArcWord). IsWArcKind v.kind) (let e : arc_word_at Output t.spot ≡ w = let h = is in cc in e) (inr (inl refl))
    at false false true is = subst (λ (v : ArcWord). IsWArcKind v.kind) (let e : arc_word_at Inhibit t.spot ≡ w = let h = is in cc in e) (inr (inr refl))
    at false false false is = absurd (let no : ⊥ = let h = is in cc in no)

    by : (kind : TokenKind) → arc_word_of t.spot kind ≡ Some w → IsWArcKind w.kind
    by (Word k) is = at (nat_eq k word.IN) (nat_eq k word.OUT) (nat_eq k word.INHIBIT) is
    by (Name text) is = absurd (let no : ⊥ = let h = is in cc in no)
    by (Number v) is = absurd (let no : ⊥ = let h = is in cc in no)
    by (Text s) is = absurd (let no : ⊥ = let h = is in cc in no)
    by (Sign k) is = absurd (let no : ⊥ = let h = is in cc in no)

number_kept : (opens : ℕ) → Keeps (NumberUpTo opens) (λ w. Unit {0})
number_kept opens =
    then_keeps (Maybe (read.sign opens) (One read.number)) (λ number. Then (One (read.sign sign.SEMICOLON)) (λ s. Done number)) (λ w. Unit {0}) (λ w. Unit {0})
    (maybe_keeps (read.sign opens) (One read.number) (one_keeps read.number (λ w. Unit {0}) (λ t a n is. tt)))
    (λ number u. one_then (read.sign sign.SEMICOLON) (λ s. Done number) (λ w. Unit {0}) (λ s. done_keeps number (λ w. Unit {0}) tt))

weight_kept : (b : Bool) → Keeps (WeightUpTo b) (λ w. b ≡ true → w ≡ None)
weight_kept true = one_then (read.sign sign.SEMICOLON) (λ s. Done None) (λ (w : Option Numeral). true ≡ true → w ≡ None) (λ s. done_keeps None (λ (w : Option Numeral). true ≡ true → w ≡ None) (λ e. refl))
weight_kept false = λ ts a rest names x. ((λ e. absurd (false≢true e)), (number_kept sign.STAR ts a rest names x).1)

-- an arc is of a kind of weighted nets, and an inhibitor arc has no weight
abbrev pub ArcIs : PtArc → Type 0
ArcIs arc = IsWArcKind arc.word.kind × (inhibits arc.word.kind ≡ true → arc.weight ≡ None)

arc_kept : Keeps IsPtArc ArcIs
arc_kept =
    then_keeps (One arc_word) (λ word. Then (One read.name) (λ place. Then (WeightUpTo (inhibits word.kind)) (λ weight. Done (arc_of word place weight)))) (λ word. IsWArcKind word.kind) ArcIs
    (one_keeps arc_word (λ word. IsWArcKind word.kind) (λ t w n is. word_kept t w is))
    (λ word kind. one_then read.name (λ place. Then (WeightUpTo (inhibits word.kind)) (λ weight. Done (arc_of word place weight))) ArcIs
    (λ place. then_keeps (WeightUpTo (inhibits word.kind)) (λ weight. Done (arc_of word place weight)) (λ w. inhibits word.kind ≡ true → w ≡ None) ArcIs
    (weight_kept (inhibits word.kind))
    (λ weight none. done_keeps (arc_of word place weight) ArcIs (kind, none))))

-- phrases up to a closing brace
closed_kept : {A : Type 0} (X : Phrases A) (Q : A → Type 0) → Keeps X Q → Keeps (Then (Many X) (λ all. Then (One (read.sign sign.RIGHT_BRACE)) (λ s. Done all))) (Each Q)
closed_kept X Q k =
    then_keeps (Many X) (λ all. Then (One (read.sign sign.RIGHT_BRACE)) (λ s. Done all)) (Each Q) (Each Q) (many_keeps X Q k)
    (λ all each. one_then (read.sign sign.RIGHT_BRACE) (λ s. Done all) (Each Q) (λ s. done_keeps all (Each Q) each))

arcs_kept : Keeps ArcsUpTo (Each ArcIs)
arcs_kept = closed_kept IsPtArc ArcIs arc_kept

abbrev pub PlaceIs : PtPlace → Type 0
PlaceIs place = IsName place.name.text

place_kept : Keeps IsPtPlace PlaceIs
place_kept =
    one_then (read.word word.PLACE) (λ s. Then (One read.name) (λ name. Then (NumberUpTo sign.EQUALS) (λ initial. Done (place_of name initial)))) PlaceIs
    (λ s. then_keeps (One read.name) (λ name. Then (NumberUpTo sign.EQUALS) (λ initial. Done (place_of name initial))) (λ name. IsName name.text) PlaceIs
    (one_keeps read.name (λ name. IsName name.text) name_kept)
    (λ name good. then_keeps (NumberUpTo sign.EQUALS) (λ initial. Done (place_of name initial)) (λ w. Unit {0}) PlaceIs (number_kept sign.EQUALS)
    (λ initial u. done_keeps (place_of name initial) PlaceIs good)))

abbrev pub TransitionIs : PtTransition → Type 0
TransitionIs t = IsName t.name.text × Each ArcIs t.arcs

transition_kept : Keeps IsPtTransition TransitionIs
transition_kept =
    one_then (read.word word.TRANS) (λ s. Then (One read.name) (λ name. Then (One (read.sign sign.LEFT_BRACE)) (λ s. Then ArcsUpTo (λ arcs. Done (transition_of name arcs))))) TransitionIs
    (λ s. then_keeps (One read.name) (λ name. Then (One (read.sign sign.LEFT_BRACE)) (λ s. Then ArcsUpTo (λ arcs. Done (transition_of name arcs)))) (λ name. IsName name.text) TransitionIs
    (one_keeps read.name (λ name. IsName name.text) name_kept)
    (λ name good. one_then (read.sign sign.LEFT_BRACE) (λ s. Then ArcsUpTo (λ arcs. Done (transition_of name arcs))) TransitionIs
    (λ s. then_keeps ArcsUpTo (λ arcs. Done (transition_of name arcs)) (Each ArcIs) TransitionIs arcs_kept
    (λ arcs each. done_keeps (transition_of name arcs) TransitionIs (good, each)))))

-- each name is a name, and each arc as it has to be
abbrev pub NetIs : PtNet → Type 0
NetIs net = Each PlaceIs net.places × Each TransitionIs net.transitions

parts_kept : Keeps PartsUpTo NetIs
parts_kept =
    then_keeps (Many IsPtPlace) (λ places. Then TransitionsUpTo (λ transitions. Done (weighted_net_of places transitions))) (Each PlaceIs) NetIs (many_keeps IsPtPlace PlaceIs place_kept)
    (λ places good. then_keeps TransitionsUpTo (λ transitions. Done (weighted_net_of places transitions)) (Each TransitionIs) NetIs (closed_kept IsPtTransition TransitionIs transition_kept)
    (λ transitions each. done_keeps (weighted_net_of places transitions) NetIs (good, each)))

pub net_kept : Keeps IsPtNet NetIs
net_kept = one_then pt_word (λ s. Then (One (read.sign sign.LEFT_BRACE)) (λ s. PartsUpTo)) NetIs (λ s. one_then (read.sign sign.LEFT_BRACE) (λ s. PartsUpTo) NetIs (λ s. parts_kept))
