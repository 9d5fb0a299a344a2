-- The tokens of the translation: the grammar reads it from them, whatever their places in a text.
use Rattle.std.proofs.Common.{◌≡◌, ℕ, zero, suc, Bool, true, false, List, [], ◌∷◌, ◌++◌, map, length, refl, sym, subst, codes, append-nil, append_assoc}
use Rattle.std.specs.Prelude.{◌≢◌, Some, All, nat_lt, replicate}
use Rattle.rn_model.specs.declared.system.ArcKind.{ArcKind}
use Rattle.rn_model.specs.declared.system.ArcKind.TheVariants.{Input, Output, FlexInput, FlexOutput, Inhibit}
use Rattle.rn_notation.specs.declared.word.TheConstants as word
use Rattle.rn_notation.specs.declared.token.Token.{Token}
use Rattle.rn_notation.specs.declared.token.TokenKind.{TokenKind}
use Rattle.rn_notation.specs.declared.token.TokenKind.TheVariants.{Name, Word}
use Rattle.rn_inscript.specs.declared.exprs.PExpr.{PExpr}
use Rattle.rn_inscript.specs.declared.inscriptions.PName.{PName}
use Rattle.rn_inscript.specs.declared.inscriptions.PInscribed.{PInscribed}
use Rattle.rn_inscript.specs.declared.inscriptions.PInscribed.TheVariants as I
use Rattle.rn_inscript.specs.declared.inscriptions.PInscription.{PInscription}
use Rattle.rn_inscript.specs.Expressions.{IsExpr, IsTerms, IsProduct, IsFactors, IsUnary, IsPrimary, IsListed, IsExprs, IsMoreExprs, token_at}
use Rattle.rn_inscript.specs.Inscriptions.{IsInscribed}
use Rattle.rn_inscript.specs.Signs.{open_brace, close_brace, open_bracket, close_bracket, comma, colon, equals, arc_of}
use Rattle.rn_net.specs.declared.constants.PConst.{PConst}
use Rattle.rn_net.specs.declared.plain.PPlace.{PPlace}
use Rattle.rn_net.specs.declared.plain.PTransition.{PTransition}
use Rattle.rn_net.specs.declared.plain.PNet.{PNet}
use Rattle.rn_net.specs.Words.{semicolon, net_word, place_word, trans_word}
use Rattle.rn_net.specs.Kinds.{IsKind, AreListed}
use Rattle.rn_net.specs.Constants.{IsConstant, AreItems, AreConstants, AreMoreConstants}
use Rattle.rn_net.specs.Nets.{IsKindOfPlace, IsCapacity, AreInitial, IsPlace, AreInscribed, AreInscriptions, IsTransition, AreParts, IsNet, IsSystem, plain_net_of}
use Rattle.rn_net.specs.Nets as Nets
use Rattle.rn_weighted.specs.declared.weighted.Weighted.{Weighted}
use Rattle.rn_weighted.specs.declared.weighted.WPlace.{WPlace}
use Rattle.rn_weighted.specs.declared.weighted.WTransition.{WTransition}
use Rattle.rn_weighted.specs.declared.weighted.WArc.{WArc}
use Rattle.rn_weighted.specs.Weighted.{IsWArc, IsWTransition, IsWeighted}
use Rattle.rn_translated.specs.TranslatedSystem.{flexible}
use Rattle.rn_translated.specs.Translation.{first, named, black_token, black_expr, black_list, place_name, plain_place, arc_at, plain_arc, plain_transition, plain_net, translated}
use Rattle.rn_translated.proofs.ArcDemands.{by_kind, above_one}
use Rattle.std.proofs.lemmas.List.Elements.{All-head, All-tail}
use Rattle.rn_translated.proofs.FormsOfNets.{form_kind}

abbrev pub tok : TokenKind → Token
tok kind = token_at first kind

-- so many further black tokens, each after a comma
abbrev pub more_blacks : ℕ → List Token → List Token
more_blacks zero rest = rest
more_blacks (suc n) rest = tok comma ∷ tok open_bracket ∷ tok close_bracket ∷ more_blacks n rest

constant : {rest : List Token} → IsConstant (tok open_bracket ∷ tok close_bracket ∷ rest) black_token rest
constant = IsConstant.tuple refl (AreItems.nothing refl)

constants : (n : ℕ) (before : List PConst) (rest : List Token) →
    AreMoreConstants before (more_blacks n rest) (before ++ replicate n black_token) rest
constants zero before rest =
    subst (λ all. AreMoreConstants before rest all rest) (sym (append-nil before))
    AreMoreConstants.no_more_constants
constants (suc n) before rest =
    subst
    (λ all. AreMoreConstants before (more_blacks (suc n) rest) all rest)
    (append_assoc before (black_token ∷ []) (replicate n black_token))
    (AreMoreConstants.more_constants refl constant (constants n (before ++ black_token ∷ []) rest))

abbrev pub initial_tokens : ℕ → List Token → List Token
initial_tokens zero rest = rest
initial_tokens (suc n) rest =
    tok equals ∷ tok open_bracket ∷ tok close_bracket ∷ more_blacks n rest

initial : (n : ℕ) (rest : List Token) →
    AreInitial (initial_tokens n rest) (replicate n black_token) rest
initial zero rest = AreInitial.none
initial (suc n) rest =
    AreInitial.some refl (AreConstants.constants constant (constants n (black_token ∷ []) rest))

abbrev pub place_tokens : WPlace → List Token → List Token
place_tokens wp rest =
    tok place_word ∷ tok (Name wp.name) ∷ tok colon ∷ tok open_bracket ∷ tok close_bracket
    ∷ initial_tokens wp.initial (tok semicolon ∷ rest)

place : (wp : WPlace) (rest : List Token) → IsPlace (place_tokens wp rest) (plain_place wp) rest
place wp rest =
    IsPlace.place refl refl (IsKindOfPlace.given refl (IsKind.tuple refl (AreListed.nothing refl)))
    IsCapacity.none (initial wp.initial (tok semicolon ∷ rest)) refl

-- expressions
expr : {rest : List Token} → IsExpr (tok open_bracket ∷ tok close_bracket ∷ rest) black_expr rest
expr =
    IsExpr.sum
    (IsProduct.product (IsUnary.primary (IsPrimary.tuple refl (IsListed.nothing refl)))
    IsFactors.no_more_factors) IsTerms.no_more_terms

exprs : (n : ℕ) (before : List PExpr) (rest : List Token) →
    IsMoreExprs before (more_blacks n rest) (before ++ replicate n black_expr) rest
exprs zero before rest =
    subst (λ all. IsMoreExprs before rest all rest) (sym (append-nil before))
    IsMoreExprs.no_more_exprs
exprs (suc n) before rest =
    subst (λ all. IsMoreExprs before (more_blacks (suc n) rest) all rest)
    (append_assoc before (black_expr ∷ []) (replicate n black_expr))
    (IsMoreExprs.more_exprs refl expr (exprs n (before ++ black_expr ∷ []) rest))

abbrev pub list_tokens : ℕ → List Token → List Token
list_tokens zero rest = tok open_brace ∷ tok close_brace ∷ rest
list_tokens (suc n) rest =
    tok open_brace ∷ tok open_bracket ∷ tok close_bracket ∷ more_blacks n (tok close_brace ∷ rest)

listed : (n : ℕ) (rest : List Token) →
    IsListed close_brace (tok open_bracket ∷ tok close_bracket ∷ more_blacks n (tok close_brace ∷ rest))
    (replicate (suc n) black_expr) rest
listed n rest =
    IsListed.some (IsExprs.exprs expr (exprs n (black_expr ∷ []) (tok close_brace ∷ rest))) refl

list : (n : ℕ) (rest : List Token) → IsExpr (list_tokens n rest) (black_list n) rest
list zero rest =
    IsExpr.sum
    (IsProduct.product (IsUnary.primary (IsPrimary.list refl (IsListed.nothing refl)))
    IsFactors.no_more_factors) IsTerms.no_more_terms
list (suc n) rest =
    IsExpr.sum
    (IsProduct.product (IsUnary.primary (IsPrimary.list refl (listed n rest)))
    IsFactors.no_more_factors) IsTerms.no_more_terms

-- arcs
abbrev pub arc_word : ArcKind → TokenKind
arc_word Input = Word word.IN
arc_word Output = Word word.OUT
arc_word FlexInput = Word word.FLEXIN
arc_word FlexOutput = Word word.FLEXOUT
arc_word _ = Word word.INHIBIT

abbrev pub inscription_tokens : Bool → ℕ → List Token → List Token
inscription_tokens true n rest = list_tokens n rest
inscription_tokens false n rest = tok open_bracket ∷ tok close_bracket ∷ rest

abbrev pub formed_tokens : List WPlace → WArc → Bool → List Token → List Token
formed_tokens wps a more rest =
    tok (arc_word (form_kind more a.kind)) ∷ tok (Name (place_name wps a.place)) ∷ tok colon
    ∷ inscription_tokens more a.weight (tok semicolon ∷ rest)

abbrev pub arc_tokens : List WPlace → WArc → List Token → List Token
arc_tokens wps a rest = formed_tokens wps a (nat_lt 1 a.weight) rest

abbrev formed_arc : List WPlace → WArc → Bool → PInscribed
formed_arc wps a true =
    I.Arc (flexible a.kind) (named (place_name wps a.place)) (Some (black_list a.weight))
formed_arc wps a false = I.Arc a.kind (named (place_name wps a.place)) (Some black_expr)

formed_read : (wps : List WPlace) (a : WArc) (more : Bool) (rest : List Token) →
    IsWArc (length wps) a → nat_lt 1 a.weight ≡ more →
    IsInscribed (formed_tokens wps a more rest) (formed_arc wps a more) (tok semicolon ∷ rest)
formed_read wps a true rest is above =
    let word : arc_of (arc_word (flexible a.kind)) ≡ Some (flexible a.kind) =
    by_kind
    (λ kind. kind ≢ Inhibit → arc_of (arc_word (flexible kind)) ≡ Some (flexible kind))
    a.kind is.kind (λ other. refl) (λ other. refl) (λ other. absurd (other refl))
    (λ inhibit. above_one a.weight above (is.inhibits inhibit)) in
    IsInscribed.arc word refl refl (list a.weight (tok semicolon ∷ rest))
formed_read wps a false rest is above =
    let word : arc_of (arc_word a.kind) ≡ Some a.kind =
    by_kind (λ kind. arc_of (arc_word kind) ≡ Some kind) a.kind is.kind refl refl refl in
    IsInscribed.arc word refl refl expr

formed_same : (wps : List WPlace) (a : WArc) (more : Bool) → nat_lt 1 a.weight ≡ more →
    formed_arc wps a more ≡ arc_at (named (place_name wps a.place)) a
formed_same wps a true above = rw above refl
formed_same wps a false above = rw above refl

arc_read : (wps : List WPlace) (a : WArc) (rest : List Token) → IsWArc (length wps) a →
    IsInscribed (arc_tokens wps a rest) (arc_at (named (place_name wps a.place)) a)
    (tok semicolon ∷ rest)
arc_read wps a rest is =
    let more = nat_lt 1 a.weight in
    subst (λ form. IsInscribed (arc_tokens wps a rest) form (tok semicolon ∷ rest))
    (formed_same wps a more refl) (formed_read wps a more rest is refl)

abbrev pub arcs_tokens : List WPlace → List WArc → List Token → List Token
arcs_tokens wps [] rest = rest
arcs_tokens wps (a ∷ arcs) rest = arc_tokens wps a (arcs_tokens wps arcs rest)

arcs_read : (wps : List WPlace) (arcs : List WArc) (before : List PInscription)
    (rest : List Token) → All (IsWArc (length wps)) arcs →
    AreInscriptions 1 before (arcs_tokens wps arcs rest) (before ++ map (plain_arc wps) arcs) rest
arcs_read wps [] before rest are =
    subst (λ all. AreInscriptions 1 before rest all rest) (sym (append-nil before))
    AreInscriptions.no_more_inscriptions
arcs_read wps (a ∷ arcs) before rest are =
    let after = arcs_tokens wps arcs rest in
    subst (λ all. AreInscriptions 1 before (arc_tokens wps a after) all rest)
    (append_assoc before (plain_arc wps a ∷ []) (map (plain_arc wps) arcs))
    (AreInscriptions.more_inscriptions
    (AreInscribed.one (arc_read wps a after (All-head (IsWArc (length wps)) a arcs are))) refl
    (arcs_read wps arcs (before ++ plain_arc wps a ∷ []) rest
    (All-tail (IsWArc (length wps)) a arcs are)))

-- transitions and nets
abbrev pub transition_tokens : List WPlace → WTransition → List Token → List Token
transition_tokens wps wt rest =
    tok trans_word ∷ tok (Name wt.name) ∷ tok open_brace
    ∷ arcs_tokens wps wt.arcs (tok close_brace ∷ rest)

transition : (wps : List WPlace) (wt : WTransition) (rest : List Token) →
    IsWTransition (length wps) wt →
    IsTransition 1 (transition_tokens wps wt rest) (plain_transition wps wt) rest
transition wps wt rest is =
    IsTransition.transition refl refl refl (arcs_read wps wt.arcs [] (tok close_brace ∷ rest) is.arcs)
    refl

abbrev pub transitions_tokens : List WPlace → List WTransition → List Token → List Token
transitions_tokens wps [] rest = rest
transitions_tokens wps (wt ∷ wts) rest =
    transition_tokens wps wt (transitions_tokens wps wts rest)

abbrev pub places_tokens : List WPlace → List Token → List Token
places_tokens [] rest = rest
places_tokens (wp ∷ wps) rest = place_tokens wp (places_tokens wps rest)

transitions_read : (wps : List WPlace) (name : PName) (ps : List PPlace) (wts : List WTransition)
    (before : List PTransition) (rest : List Token) → All (IsWTransition (length wps)) wts →
    AreParts 1 (plain_net_of name [] ps before) (transitions_tokens wps wts rest)
    (plain_net_of name [] ps (before ++ map (plain_transition wps) wts)) rest
transitions_read wps name ps [] before rest are =
    subst (λ all. AreParts 1 (plain_net_of name [] ps before) rest (plain_net_of name [] ps all) rest)
    (sym (append-nil before)) AreParts.no_more_parts
transitions_read wps name ps (wt ∷ wts) before rest are =
    let after = transitions_tokens wps wts rest in
    subst
    (λ all. AreParts 1 (plain_net_of name [] ps before) (transition_tokens wps wt after)
    (plain_net_of name [] ps all) rest)
    (append_assoc before (plain_transition wps wt ∷ []) (map (plain_transition wps) wts))
    (AreParts.and_transition
    (transition wps wt after (All-head (IsWTransition (length wps)) wt wts are))
    (transitions_read wps name ps wts (before ++ plain_transition wps wt ∷ []) rest
    (All-tail (IsWTransition (length wps)) wt wts are)))

places_read : (name : PName) (wps : List WPlace) (before : List PPlace) (net : PNet)
    (mid rest : List Token) →
    AreParts 1 (plain_net_of name [] (before ++ map plain_place wps) []) mid net rest →
    AreParts 1 (plain_net_of name [] before []) (places_tokens wps mid) net rest
places_read name [] before net mid rest after =
    subst (λ ps. AreParts 1 (plain_net_of name [] ps []) mid net rest) (append-nil before) after
places_read name (wp ∷ wps) before net mid rest after =
    AreParts.and_place (place wp (places_tokens wps mid))
    (places_read name wps (before ++ plain_place wp ∷ []) net mid rest
    (subst (λ ps. AreParts 1 (plain_net_of name [] ps []) mid net rest)
    (sym (append_assoc before (plain_place wp ∷ []) (map plain_place wps))) after))

abbrev pub net_tokens : Weighted → List Token
net_tokens net =
    tok net_word ∷ tok (Name (codes "main")) ∷ tok open_brace
    ∷ places_tokens net.places
    (transitions_tokens net.places net.transitions (tok close_brace ∷ []))

-- the grammar reads the translation
pub reads : (net : Weighted) → IsWeighted net → IsSystem (net_tokens net) (translated net)
reads net good =
    IsSystem.first
    (Nets.AreItems.and_net
    (IsNet.net refl refl refl
    (places_read (named (codes "main")) net.places [] (plain_net net)
    (transitions_tokens net.places net.transitions (tok close_brace ∷ [])) (tok close_brace ∷ [])
    (transitions_read net.places (named (codes "main")) (map plain_place net.places)
    net.transitions [] (tok close_brace ∷ []) good.transitions))
    refl)
    Nets.AreItems.no_more_items)
