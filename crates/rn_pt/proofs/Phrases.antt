-- The phrases of weighted nets as sorts, of each of which there is one whatever follows it, and with
-- which tokens they begin.
use Rattle.std.proofs.Common.{◌≡◌, ℕ, Bool, true, false, List, [], ◌∷◌, refl, sym, ◌∙◌, arith, Option, Some, None, if◌then◌else◌}
use Rattle.std.proofs.lemmas.Bool.Decides.{nat_tests}
use Rattle.std.specs.Prelude.{codes}
use Rattle.rn_notation.specs.declared.sign.TheConstants as sign
use Rattle.rn_notation.specs.declared.word.TheConstants as word
use Rattle.rn_notation.specs.declared.token.Spot.{Spot}
use Rattle.rn_notation.specs.declared.token.Token.{Token}
use Rattle.rn_notation.specs.declared.token.TokenKind.{TokenKind}
use Rattle.rn_notation.specs.declared.token.TokenKind.TheVariants.{Name, Word, Number, Text, Sign}
use Rattle.rn_model.specs.declared.system.ArcKind.TheVariants.{Input}
use Rattle.rn_reading.specs.declared.named.Named.{Named}
use Rattle.rn_reading.specs.declared.named.Numeral.{Numeral}
use Rattle.rn_reading.specs.Phrases.{Many}
use Rattle.rn_reading.specs.Single as read
use Rattle.rn_reading.specs.link.Stages.{Sort, CanEnd, done}
use Rattle.rn_reading.proofs.Sorts.{Single, Others, any, one, and_then, maybe, many, sign_of, word_of, a_name, a_number}
use Rattle.rn_pt.specs.declared.plain.ArcWord.{ArcWord}
use Rattle.rn_pt.specs.declared.plain.PtArc.{PtArc}
use Rattle.rn_pt.specs.declared.plain.PtPlace.{PtPlace}
use Rattle.rn_pt.specs.declared.plain.PtTransition.{PtTransition}
use Rattle.rn_pt.specs.declared.plain.PtNet.{PtNet}
use Rattle.rn_pt.specs.Words.{arc_word, pt_word}
use Rattle.rn_pt.specs.Grammar.{place_of, arc_of, transition_of, weighted_net_of, inhibits, WeightUpTo, IsPtTransition}

abbrev pub semicolon : Single Spot
semicolon = sign_of sign.SEMICOLON

abbrev pub open_brace : Single Spot
open_brace = sign_of sign.LEFT_BRACE

abbrev pub close_brace : Single Spot
close_brace = sign_of sign.RIGHT_BRACE

abbrev pub an_arc_word : Single ArcWord
an_arc_word = record { read = arc_word; token = any (Word word.IN); value = record { kind = Input; spot = (any (Word word.IN)).spot }; reads = refl }

abbrev pub a_pt : Single Spot
a_pt = record { read = pt_word; token = any (Name (codes "pt")); value = (any (Name (codes "pt"))).spot; reads = refl }

-- a number after a sign, and the semicolon
abbrev pub number_end : Option Numeral → Sort (Option Numeral)
number_end n = and_then (one semicolon) (λ s. done n)

abbrev pub number_up_to : ℕ → Sort (Option Numeral)
number_up_to opens = and_then (maybe (sign_of opens) (one a_number)) number_end

pub weight_ends : (b : Bool) → CanEnd (WeightUpTo b)
weight_ends true = (number_end None).ends
weight_ends false = (number_up_to sign.STAR).ends

abbrev pub weight_up_to : Bool → Sort (Option Numeral)
weight_up_to b = record { is = WeightUpTo b; ends = weight_ends b }

abbrev pub arc_end : ArcWord → Named → Sort PtArc
arc_end word place = and_then (weight_up_to (inhibits word.kind)) (λ weight. done (arc_of word place weight))

abbrev pub arc_place : ArcWord → Sort PtArc
arc_place word = and_then (one a_name) (arc_end word)

abbrev pub arc : Sort PtArc
arc = and_then (one an_arc_word) arc_place

abbrev pub closed : {A : Type 0} → List A → Sort (List A)
closed all = and_then (one close_brace) (λ s. done all)

abbrev pub arcs_up_to : Sort (List PtArc)
arcs_up_to = and_then (many arc) closed

abbrev pub place_end : Named → Sort PtPlace
place_end name = and_then (number_up_to sign.EQUALS) (λ initial. done (place_of name initial))

abbrev pub place_name : Sort PtPlace
place_name = and_then (one a_name) place_end

abbrev pub place : Sort PtPlace
place = and_then (one (word_of word.PLACE)) (λ s. place_name)

abbrev pub transition_end : Named → Sort PtTransition
transition_end name = and_then arcs_up_to (λ arcs. done (transition_of name arcs))

abbrev pub transition_open : Named → Sort PtTransition
transition_open name = and_then (one open_brace) (λ s. transition_end name)

abbrev pub transition_name : Sort PtTransition
transition_name = and_then (one a_name) transition_open

abbrev pub transition : Sort PtTransition
transition = and_then (one (word_of word.TRANS)) (λ s. transition_name)

abbrev pub transitions_up_to : Sort (List PtTransition)
transitions_up_to = and_then (many transition) closed

abbrev pub parts_end : List PtPlace → Sort PtNet
parts_end places = and_then transitions_up_to (λ transitions. done (weighted_net_of places transitions))

abbrev pub parts_up_to : Sort PtNet
parts_up_to = and_then (many place) parts_end

abbrev pub net_open : Sort PtNet
net_open = and_then (one open_brace) (λ s. parts_up_to)

abbrev pub net : Sort PtNet
net = and_then (one a_pt) (λ s. net_open)

-- a sign is no other sign, and no word
sign-other : (j k : ℕ) (spot s : Spot) (kind : TokenKind) → (k ≡ j → ⊥) → (if read.is_sign j kind then Some spot else None) ≡ Some s → (if read.is_sign k kind then Some spot else None) ≡ None
sign-other j k spot s (Sign n) apart is = grind (arith, nat_tests)
sign-other j k spot s (Name x) apart is = refl
sign-other j k spot s (Word x) apart is = refl
sign-other j k spot s (Number x) apart is = refl
sign-other j k spot s (Text x) apart is = refl

sign-no-word : (j k : ℕ) (spot s : Spot) (kind : TokenKind) → (if read.is_sign j kind then Some spot else None) ≡ Some s → (if read.is_word k kind then Some spot else None) ≡ None
sign-no-word j k spot s (Sign n) is = refl
sign-no-word j k spot s (Name x) is = refl
sign-no-word j k spot s (Word x) is = absurd (let h = is in cc)
sign-no-word j k spot s (Number x) is = refl
sign-no-word j k spot s (Text x) is = refl

sign-no-arc : (j : ℕ) (spot s : Spot) (t : Token) → read.sign j t ≡ Some s → arc_word t ≡ None
sign-no-arc j spot s t is = by t.kind is
  where
    by : (kind : TokenKind) → (if read.is_sign j kind then Some t.spot else None) ≡ Some s → arc_word (record { kind = kind; start = t.start; end = t.end; spot = t.spot }) ≡ None
    by (Sign n) is = refl
    by (Name x) is = refl
    by (Word x) is = absurd (let h = is in cc)
    by (Number x) is = refl
    by (Text x) is = refl

word-other : (j k : ℕ) (spot s : Spot) (kind : TokenKind) → (k ≡ j → ⊥) → (if read.is_word j kind then Some spot else None) ≡ Some s → (if read.is_word k kind then Some spot else None) ≡ None
word-other j k spot s (Word n) apart is = grind (arith, nat_tests)
word-other j k spot s (Name x) apart is = refl
word-other j k spot s (Sign x) apart is = refl
word-other j k spot s (Number x) apart is = refl
word-other j k spot s (Text x) apart is = refl

-- what follows begins with another token
pub no_number : (opens : ℕ) → (opens ≡ sign.SEMICOLON → ⊥) → Others (read.sign opens) (number_end None).is
no_number opens apart ts e rest x = (x.2.0, x.1, x.2.1, sign-other sign.SEMICOLON opens x.2.0.spot x.0 x.2.0.kind apart x.2.2)

pub no_arc : (all : List PtArc) → Others arc_word (closed all).is
no_arc all ts e rest x = (x.2.0, x.1, x.2.1, sign-no-arc sign.RIGHT_BRACE x.0 x.0 x.2.0 x.2.2)

pub no_transition : (all : List PtTransition) → Others (read.word word.TRANS) (closed all).is
no_transition all ts e rest x = (x.2.0, x.1, x.2.1, sign-no-word sign.RIGHT_BRACE word.TRANS x.2.0.spot x.0 x.2.0.kind x.2.2)

pub no_place : (all : List PtPlace) → Others (read.word word.PLACE) (parts_end all).is
no_place all ts e rest x = by x.0 x.1 x.2.0 x.2.1 x.2.2 x.2.3
  where
    by : (transitions : List PtTransition) (end : List Token) (more : List PtTransition) (mid : List Token) → Many IsPtTransition ts more mid → (closed more).is mid transitions end →
        (t : Token) × (us : List Token) × (ts ≡ t ∷ us) × (read.word word.PLACE t ≡ None)
    by transitions end [] mid m y = (y.2.0, y.1, sym m ∙ y.2.1, sign-no-word sign.RIGHT_BRACE word.PLACE y.2.0.spot y.0 y.2.0.kind y.2.2)
    by transitions end (t ∷ more) mid m y = (m.1.2.0, m.1.1, m.1.2.1, word-other word.TRANS word.PLACE m.1.2.0.spot m.1.0 m.1.2.0.kind (λ e. omega (arith, e)) m.1.2.2)

-- each begins with its word
pub arc_begins : (ts : List Token) (a : PtArc) (rest : List Token) → arc.is ts a rest → (t : Token) × (us : List Token) × (ts ≡ t ∷ us) × (b : ArcWord) × (arc_word t ≡ Some b)
arc_begins ts a rest x = (x.2.0, x.1, x.2.1, x.0, x.2.2)

pub transition_begins : (ts : List Token) (a : PtTransition) (rest : List Token) → transition.is ts a rest → (t : Token) × (us : List Token) × (ts ≡ t ∷ us) × (b : Spot) × (read.word word.TRANS t ≡ Some b)
transition_begins ts a rest x = (x.2.0, x.1, x.2.1, x.0, x.2.2)

pub place_begins : (ts : List Token) (a : PtPlace) (rest : List Token) → place.is ts a rest → (t : Token) × (us : List Token) × (ts ≡ t ∷ us) × (b : Spot) × (read.word word.PLACE t ≡ Some b)
place_begins ts a rest x = (x.2.0, x.1, x.2.1, x.0, x.2.2)
