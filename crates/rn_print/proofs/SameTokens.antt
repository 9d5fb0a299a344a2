-- Tokens of declarations beside those of a text: the same but for minuses, so that they open no
-- level more.
use Rattle.std.proofs.Common.{◌≡◌, ℕ, false, List, ◌∷◌, refl, sym, subst}
use Rattle.rn_notation.specs.declared.token.Token.{Token}
use Rattle.rn_notation.specs.declared.token.TokenKind.{TokenKind}
use Rattle.rn_inscript.specs.Signs.{minus}
use Rattle.rn_net.specs.Words.{semicolon}
use Rattle.rn_net.specs.Levels.{is_semicolon, open_after, after, is_too_deep, IsShallow}
use Rattle.rn_net.specs.Levels.Region.{between, declaring}

-- The second tokens are the first up to a semicolon, but for minuses that are left out.
pub data SameTokens (ending later : List Token) : List Token → List Token → Type 0 where
  done : {t u : Token} → t.kind ≡ semicolon → u.kind ≡ semicolon →
      SameTokens ending later (t ∷ ending) (u ∷ later)
  same : {t u : Token} {ts us : List Token} → u.kind ≡ t.kind → is_semicolon t.kind ≡ false →
      SameTokens ending later ts us → SameTokens ending later (t ∷ ts) (u ∷ us)
  minus_alone : {t : Token} {ts us : List Token} → t.kind ≡ minus → SameTokens ending later ts us →
      SameTokens ending later (t ∷ ts) us

stays : (n : ℕ) (kind : TokenKind) → is_semicolon kind ≡ false →
    after (declaring n) kind ≡ declaring (open_after n kind)
stays n kind goes_on = rw goes_on refl

-- the first tokens end, and where what comes after both is within the limits, so are the second
pub shallow : {ending later ts us : List Token} → SameTokens ending later ts us → (n : ℕ) →
    IsShallow (declaring n) ts →
    IsShallow between ending × (IsShallow between later → IsShallow (declaring n) us)
shallow {ending = ending} {later = later} (SameTokens.done a b) n h = (
  subst (λ kind. IsShallow (after (declaring n) kind) ending) a h.1,
  λ x. subst
      (λ kind. (is_too_deep (declaring n) kind ≡ false) × IsShallow (after (declaring n) kind) later)
      (sym b) (refl, x),
)
shallow (SameTokens.same {t = t} {ts = ts} {us = us} is goes_on x) n h =
    let e = stays n t.kind goes_on in
    let p = shallow x (open_after n t.kind) (subst (λ r. IsShallow r ts) e h.1) in (
      p.0,
      λ y. subst (λ kind. (is_too_deep (declaring n) kind ≡ false) × IsShallow (after (declaring n) kind) us)
          (sym is) (h.0, subst (λ r. IsShallow r us) (sym e) (p.1 y)),
    )
shallow (SameTokens.minus_alone {ts = ts} is x) n h =
    shallow x n (subst (λ kind. IsShallow (after (declaring n) kind) ts) is h.1)
