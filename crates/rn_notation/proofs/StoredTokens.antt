-- Kept tokens, to which one more comes.
use Rattle.rn_notation.proofs.Names.{◌≡◌, List, [], ◌∷◌, ◌++◌, length, map, get_or, Some, slice_get, ap, ◌∙◌, AllByRecursion, token_stored, IsStored, IsPrefixOf, Token, TokenKind, Word}
use Rattle.std.proofs.lemmas.Option.{get_or_from_slice_get}
use Rattle.std.proofs.Math.ListN.{get_or-append}
use Rattle.rn_notation.specs.declared.tokens.Stored.{Stored}

abbrev pub of_kind : Stored → TokenKind → Token
of_kind s kind = record { kind = kind; start = s.start; end = s.end; spot = s.spot }

pub one_more : (kinds longer : List TokenKind) (ss : List Stored) (s : Stored) (kind : TokenKind) →
    IsPrefixOf kinds longer → AllByRecursion (IsStored (length kinds)) ss → slice_get longer s.kind ≡ Some kind →
    map (token_stored longer) (ss ++ s ∷ []) ≡ map (token_stored kinds) ss ++ of_kind s kind ∷ []
one_more kinds longer [] s kind on all at = ap (λ k. of_kind s k ∷ []) (get_or_from_slice_get longer s.kind kind (Word 0) at)
one_more kinds longer (t ∷ ts) s kind (more, on) (inside, all) at =
    let same : get_or longer t.kind (Word 0) ≡ get_or kinds t.kind (Word 0) =
    ap (λ ks. get_or ks t.kind (Word 0)) on ∙ get_or-append kinds more (Word 0) t.kind inside in
    ap (λ u. u ∷ map (token_stored longer) (ts ++ s ∷ [])) (ap (of_kind t) same)
    ∙ ap (λ us. token_stored kinds t ∷ us) (one_more kinds longer ts s kind (more, on) all at)
