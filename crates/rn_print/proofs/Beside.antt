-- How tokens stand beside those of a text, where a phrase begins, where it ends, and right after the
-- bracket that opens it.
use Rattle.std.proofs.Common.{◌≡◌, ℕ, Bool, true, false, List, ◌∷◌, refl}
use Rattle.rn_notation.specs.declared.token.Token.{Token}
use Rattle.rn_notation.specs.declared.token.TokenKind.{TokenKind}
use Rattle.rn_notation.specs.declared.token.TokenKind.TheVariants.{Name, Word, Number, Text, Sign}
use Rattle.rn_inscript.specs.Levels.{closes}
use Rattle.rn_net.specs.Levels.{is_semicolon}
use Rattle.std.proofs.lemmas.Bool.Decides.{nat_tests}
use Rattle.std.proofs.lemmas.Grind.{common_steps}
use Rattle.std.proofs.Common.{arith}
use Rattle.rn_print.proofs.Trees.{Tree, tokens_in}
use Rattle.rn_print.proofs.LeftOut.{LeftOut, is_plain, at_operand, at_bracket, at_end}
use Rattle.rn_print.proofs.SameTokens.{SameTokens}

-- A comparison of tokens with those of a text, by what is open there: what is so where a phrase
-- begins, where it has ended, and after its opening bracket.
pub record Beside (Q : Type 0) : Type 1 where
  pub First : Q → List Token → List Token → Type 0
  pub Last : Q → List Token → List Token → Type 0
  pub Opened : Q → List Token → List Token → Type 0
  pub push : Q → Q
  pub inside : (q : Q) (ts us : List Token) → First (push q) ts us → Opened q ts us
  pub empty : (q : Q) (t u : Token) (ts us : List Token) → u.kind ≡ t.kind → closes t.kind ≡ true →
      Last q ts us → Opened q (t ∷ ts) (u ∷ us)
  pub closing : (q : Q) (t u : Token) (ts us : List Token) → u.kind ≡ t.kind →
      closes t.kind ≡ true → Last q ts us → Last (push q) (t ∷ ts) (u ∷ us)
  pub joins : (q : Q) (t u : Token) (ts us : List Token) → u.kind ≡ t.kind →
      is_plain t.kind ≡ true → First q ts us → Last q (t ∷ ts) (u ∷ us)

-- the tokens of a tree stand so beside some, where those after both do
abbrev pub Follows : {Q : Type 0} → (Q → List Token → List Token → Type 0) →
    (Q → List Token → List Token → Type 0) → List Token → List Token → Tree → Type 0
Follows {Q = Q} First Last ts rest tree =
    (before : List ℕ) (q : Q) (us : List Token) → Last q rest us →
    First q ts (tokens_in before tree us)

-- what comes after both statements, and the brackets that are open
abbrev pub Opens : Type 0
Opens = List Token × List Token × List Bool

abbrev pub First : Opens → List Token → List Token → Type 0
First q ts us = LeftOut q.0 q.1 at_operand q.2 ts us

abbrev pub Last : Opens → List Token → List Token → Type 0
Last q ts us = LeftOut q.0 q.1 at_end q.2 ts us

abbrev pub Opened : Opens → List Token → List Token → Type 0
Opened q ts us = LeftOut q.0 q.1 at_bracket (true ∷ q.2) ts us

-- the same brackets and one more, which both have, or the text alone
abbrev pub pushed : Opens → Opens
pushed q = (q.0, q.1, true ∷ q.2)

abbrev pub pushed_alone : Opens → Opens
pushed_alone q = (q.0, q.1, false ∷ q.2)

abbrev pub inscribed : Beside Opens
inscribed = record {
  First = First;
  Last = Last;
  Opened = Opened;
  push = pushed;
  inside = λ q ts us x. LeftOut.inside x;
  empty = λ q t u ts us same is x. LeftOut.empty same is x;
  closing = λ q t u ts us same is x. LeftOut.closing same is x;
  joins = λ q t u ts us same is x. LeftOut.joining same is x;
}

-- what comes after both declarations
abbrev pub Ends : Type 0
Ends = List Token × List Token

abbrev pub Same : Ends → List Token → List Token → Type 0
Same q ts us = SameTokens q.0 q.1 ts us

pub plain_goes_on : (kind : TokenKind) → is_plain kind ≡ true → is_semicolon kind ≡ false
plain_goes_on (Sign k) h = grind (arith, nat_tests, common_steps)
plain_goes_on (Word k) h = refl
plain_goes_on (Name s) h = refl
plain_goes_on (Number n) h = refl
plain_goes_on (Text s) h = refl

pub closing_goes_on : (kind : TokenKind) → closes kind ≡ true → is_semicolon kind ≡ false
closing_goes_on (Sign k) h = grind (arith, nat_tests, common_steps)
closing_goes_on (Word k) h = refl
closing_goes_on (Name s) h = refl
closing_goes_on (Number n) h = refl
closing_goes_on (Text s) h = refl

abbrev pub declared : Beside Ends
declared = record {
  First = Same;
  Last = Same;
  Opened = Same;
  push = λ q. q;
  inside = λ q ts us x. x;
  empty = λ q t u ts us same is x. SameTokens.same same (closing_goes_on t.kind is) x;
  closing = λ q t u ts us same is x. SameTokens.same same (closing_goes_on t.kind is) x;
  joins = λ q t u ts us same is x. SameTokens.same same (plain_goes_on t.kind is) x;
}
