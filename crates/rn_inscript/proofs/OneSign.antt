-- One sign as a sort of signs.
use Rattle.rn_inscript.proofs.Names.{◌≡◌, ℕ, List, refl, ◌∙◌, ap, nat_eq, if◌then◌else◌, arith, Option, Some, None, ⊤, nat_tests, common_steps, Token, TokenKind, Sign, Level, IsNextOne, IsNotNext, IsNextSign, IsNotNextSign, ready}
use Rattle.rn_inscript.proofs.Chains.{Separates}

abbrev pub sign_of : ℕ → TokenKind → Option ⊤
sign_of k (Sign m) = if nat_eq m k then Some tt else None
sign_of k _ = None

pub sign-is : (k : ℕ) (kind : TokenKind) (u : ⊤) → sign_of k kind ≡ Some u → kind ≡ Sign k
sign-is k (Sign m) u h = let e : m ≡ k = grind (arith, nat_tests, common_steps) in ap Sign e
sign-is k _ u h = cc

here : (k : ℕ) → sign_of k (Sign k) ≡ Some tt
here k = grind (arith, nat_tests, common_steps)

pub sign-some : (k : ℕ) (kind : TokenKind) → kind ≡ Sign k → sign_of k kind ≡ Some tt
sign-some k kind h = ap (sign_of k) h ∙ here k

pub sign-none : (k : ℕ) (kind : TokenKind) → (kind ≡ Sign k → ⊥) → sign_of k kind ≡ None
sign-none k (Sign m) h = let ne : (m ≡ k → ⊥) = λ e. h (ap Sign e) in grind (arith, nat_tests, common_steps)
sign-none k _ h = refl

pub next-of : (k : ℕ) (tokens : List Token) (at : ℕ) → IsNextSign tokens at k → IsNextOne (λ t. sign_of k t.kind) tokens at tt
next-of k tokens at next = (next.0, next.1, sign-some k next.0.kind next.2)

pub none-of : (k : ℕ) (tokens : List Token) (at : ℕ) → IsNotNextSign tokens at k → IsNotNext (λ t. sign_of k t.kind) tokens at
none-of k tokens at other = λ t others is. sign-none k t.kind (λ h. other t others is h)

-- a comma closes minuses alone
pub comma_separates : (around : List Level) (operators : ℕ) → Separates (sign_of 6) around operators operators
comma_separates around operators kind sign levels is here = rw (sign-is 6 kind sign is) (refl, ap (λ ls. ready ls operators) here)
