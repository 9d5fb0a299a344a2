-- The canonical text of a system that some text spells is read back.
use Rattle.std.proofs.Common.{◌≡◌, ℕ, ◌≤◌, List, [], ◌∷◌, ◌++◌, length, inr, refl, sym, ap, ◌∙◌, subst}
use Rattle.rn_notation.specs.Limits.{longest_net_text}
use Rattle.rn_notation.specs.Tokens.{IsToken}
use Rattle.rn_notation.specs.Reading.{Piece, gap, token, ArePieces, tokens_after, Tokens}
use Rattle.rn_notation.specs.declared.token.Token.{Token}
use Rattle.rn_notation.specs.declared.token.TokenKind.{TokenKind}
use Rattle.rn_net.specs.declared.plain.Plain.{Plain}
use Rattle.rn_net.specs.Nets.{plain_of}
use Rattle.rn_net.specs.Texts.{Spells}
use Rattle.rn_net.specs.Laws.{OneSpelled, SpelledIsNotRefused}
use Rattle.rn_print.specs.Nets.{canonical_text, in_notation}
use Rattle.rn_print.specs.SameButSpots.{SameButSpots, unplaced}
use Rattle.rn_print.specs.Laws.{TextsAreReadBack, SpotsDoNotCount, TextsAreFixed, TextsTellApart, WhatIsReadIsSame, TextsAreNotRefused, MigratedTextsAreRead}
use Rattle.rn_print.specs.ReadingBack.{SpellsButSpots}
use Rattle.rn_print.proofs.Trees.{tokens_in, tokens_whole}
use Rattle.rn_print.proofs.Atoms.{Legal}
use Rattle.rn_print.proofs.SpelledExpressions.{AllLegal}
use Rattle.rn_print.proofs.SpelledSystems.{IsNotation, notation_of, reads_back}
use Rattle.rn_print.proofs.SameTexts.{same_text}

-- the tokens of a text are legal
token_legal : {kind : TokenKind} {prefix rest : List ℕ} → IsToken kind prefix rest → Legal kind
token_legal (IsToken.name is stops none) = (is, none)
token_legal (IsToken.word is stops at) = tt
token_legal (IsToken.number is stops low) = (_, refl, low)
token_legal (IsToken.text parts are) = (parts, are, refl)
token_legal (IsToken.sign at longest code) = tt

pieces_legal : (before text : List ℕ) (ps : List Piece) (rest : List ℕ) → ArePieces text ps rest →
    AllLegal (tokens_after before ps)
pieces_legal before text [] rest stand = tt
pieces_legal before text (gap prefix ∷ ps) rest (after, e, fits, others) =
    pieces_legal (before ++ prefix) after ps rest others
pieces_legal before text (token kind prefix ∷ ps) rest (after, e, fits, others) =
    (token_legal fits, pieces_legal (before ++ prefix) after ps rest others)

tokens_legal : {text : List ℕ} {tokens : List Token} → Tokens text tokens → AllLegal tokens
tokens_legal {text = text} t =
    subst AllLegal (sym t.among) (pieces_legal [] text t.pieces [] t.stand)

-- a text that spells a plain form, and the same form in either notation
spelled : (bytes : List ℕ) (p : Plain) → Spells bytes p → (notation : ℕ) → IsNotation notation →
    length (canonical_text (plain_of notation p.channels p.nets)) ≤ longest_net_text →
    SpellsButSpots (canonical_text (plain_of notation p.channels p.nets))
    (plain_of notation p.channels p.nets)
spelled bytes p is notation known fits =
    let text = canonical_text (plain_of notation p.channels p.nets) in
    let r = reads_back is.system (tokens_legal is.read) is.within notation known in (
      r.other,
      record {
        tokens = tokens_in [] r.tree [];
        fits = fits;
        read = tokens_whole r.tree text r.spells r.stands;
        system = r.system;
        within = r.within;
      },
      r.same,
    )

-- what spells a plain form spells what is the same but for spots
moved : (p q : Plain) → SameButSpots p q →
    (length (canonical_text p) ≤ longest_net_text → SpellsButSpots (canonical_text p) p) →
    length (canonical_text q) ≤ longest_net_text → SpellsButSpots (canonical_text q) q
moved p q same spells fits =
    let e : canonical_text p ≡ canonical_text q = same_text p q same in
    let r = spells (subst (λ text. length text ≤ longest_net_text) (sym e) fits) in
    (r.0, subst (λ text. Spells text r.0) e r.1, r.2 ∙ same)

pub texts_are_read_back : TextsAreReadBack
texts_are_read_back plain (bytes, (p, is, same)) fits =
    moved p plain same (spelled bytes p is p.notation (notation_of is.system)) fits

pub migrated_texts_are_read : MigratedTextsAreRead
migrated_texts_are_read plain (bytes, (p, is, same)) fits =
    moved (in_notation 2 p) (in_notation 2 plain) (ap (in_notation 2) same)
    (spelled bytes p is 2 (inr refl)) fits

pub spots_do_not_count : SpotsDoNotCount
spots_do_not_count = same_text

pub texts_are_fixed : OneSpelled → TextsAreFixed
texts_are_fixed one p q spelled is =
    let r = texts_are_read_back p spelled is.fits in
    let same : q ≡ r.0 = one (canonical_text p) q r.0 is r.1 in
    same_text q p (ap unplaced same ∙ r.2)

pub texts_tell_apart : OneSpelled → TextsTellApart
texts_tell_apart one p q first second same fits =
    let r = texts_are_read_back p first fits in
    let s = texts_are_read_back q second (subst (λ text. length text ≤ longest_net_text) same fits) in
    let read : Spells (canonical_text p) s.0 = subst (λ text. Spells text s.0) (sym same) s.1 in
    sym r.2 ∙ ap unplaced (one (canonical_text p) r.0 s.0 r.1 read) ∙ s.2

pub what_is_read : OneSpelled → WhatIsReadIsSame
what_is_read one plain q spelled s =
    let r = texts_are_read_back plain spelled s.fits in
    ap unplaced (one (canonical_text plain) q r.0 s r.1) ∙ r.2

pub not_refused : SpelledIsNotRefused → TextsAreNotRefused
not_refused none plain refusal spelled fits why =
    let r = texts_are_read_back plain spelled fits in
    none (canonical_text plain) r.0 refusal r.1 why
