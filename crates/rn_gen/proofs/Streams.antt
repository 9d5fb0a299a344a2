-- Tokens of which only the kinds are known.
use Rattle.std.proofs.Common.{◌≡◌, ℕ, zero, suc, Bool, true, not, ◌&&◌, List, [], ◌∷◌, map, refl, ap, get_or}
use Rattle.std.proofs.lemmas.Bool.{not-true}
use Rattle.rn_items.proofs.Bools.{both_true}
use Rattle.rn_notation.specs.declared.token.Token.{Token}
use Rattle.rn_notation.specs.declared.token.TokenKind.{TokenKind}
use Rattle.rn_net.specs.Levels.{Region, IsShallow, after, is_too_deep}

-- the tokens of a stream from its start on, with these kinds in place of their own
abbrev pub with_kinds : (ℕ → Token) → List TokenKind → List Token
with_kinds all [] = []
with_kinds all (kind ∷ kinds) =
    record (all 0) { kind = kind } ∷ with_kinds (λ i. all (suc i)) kinds

-- the stream without so many tokens at its start
abbrev pub past : ℕ → (ℕ → Token) → ℕ → Token
past zero all = all
past (suc k) all = past k (λ i. all (suc i))

-- tokens are those of a stream with their kinds
pub in_stream : (other : Token) (tokens : List Token) →
    with_kinds (λ i. get_or tokens i other) (map (λ t. t.kind) tokens) ≡ tokens
in_stream other [] = refl
in_stream other (t ∷ tokens) = ap (λ ts. t ∷ ts) (in_stream other tokens)

-- whether no token of these kinds is too deep
abbrev pub are_shallow : Region → List TokenKind → Bool
are_shallow r [] = true
are_shallow r (kind ∷ kinds) = not (is_too_deep r kind) && are_shallow (after r kind) kinds

pub is_shallow : (r : Region) (tokens : List Token) →
    are_shallow r (map (λ t. t.kind) tokens) ≡ true → IsShallow r tokens
is_shallow r [] h = tt
is_shallow r (t ∷ tokens) h =
    let deep = is_too_deep r t.kind in
    let both = both_true (not deep) (are_shallow (after r t.kind) (map (λ u. u.kind) tokens)) h in
    (not-true deep both.0, is_shallow (after r t.kind) tokens both.1)
