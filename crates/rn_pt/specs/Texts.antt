-- Texts, the weighted nets that they spell, and why a text spells none.
use Rattle.std.specs.Prelude.{◌≡◌, ℕ, ◌<◌, ◌≤◌, List, [], length, Result, Err}
use Rattle.rn_notation.specs.Limits.{longest_net_text}
use Rattle.rn_notation.specs.Reading.{Tokens, FirstFault}
use Rattle.rn_notation.specs.Spots.{spot_after}
use Rattle.rn_notation.specs.declared.token.Token.{Token}
use Rattle.rn_notation.specs.declared.token.Spot.{Spot}
use Rattle.rn_notation.specs.declared.token.LexFault.{LexFault}
use Rattle.rn_reading.specs.Counting.{uncounted}
use Rattle.rn_reading.specs.Texts as Whole
use Rattle.rn_weighted.specs.declared.weighted.Weighted.{Weighted}
use Rattle.rn_weighted.specs.TextLength.{text_length}
use Rattle.rn_pt.specs.declared.plain.PtNet.{PtNet}
use Rattle.rn_pt.specs.declared.fault.Broken.{Broken}
use Rattle.rn_pt.specs.declared.fault.PtFault.{PtFault}
use Rattle.rn_pt.specs.declared.fault.PtFault.TheVariants as Why
use Rattle.rn_pt.specs.Grammar.{IsPtNet}
use Rattle.rn_pt.specs.Faults.{report_of, IsFirstOf}
use Rattle.rn_pt.specs.Rules.{net_broken}
use Rattle.rn_pt.specs.Meaning.{weighted_of}

-- The text isn't too long, and is tokens, which say this.
pub record Says (bytes : List ℕ) (plain : PtNet) : Type 0 where
  pub tokens : List Token
  pub fits : length bytes ≤ longest_net_text
  pub read : Tokens bytes tokens
  pub whole : IsPtNet tokens plain []

-- The text spells this net: it says it, and breaks no rule, and the text of the reference net that
-- stands for it isn't too long either.
pub record Spells (bytes : List ℕ) (net : Weighted) : Type 0 where
  pub plain : PtNet
  pub says : Says bytes plain
  pub unbroken : net_broken plain ≡ []
  pub means : net ≡ weighted_of plain
  pub short : text_length net ≤ longest_net_text

-- each of the tokens can follow those before it
abbrev pub AreFine : List Token → Type 0
AreFine tokens = Whole.IsBeginning IsPtNet tokens

-- the report of a fault in the tokens
abbrev pub report_lexical : LexFault → PtFault
report_lexical (LexFault.P1 spot) = Why.P1 spot
report_lexical (LexFault.P3 spot) = Why.P3 spot
report_lexical (LexFault.P4 spot) = Why.P4 spot
report_lexical (LexFault.P7 spot) = Why.P7 spot

-- Why a text is refused: it is too long; one of the tokens before its first fault can't follow; it
-- has a fault, and all tokens before it can follow; all of its tokens can follow, and are no whole
-- net; it is a net, and this is the first rule that it breaks; or it breaks none, and the text of
-- the reference net is too long.
pub data IsRefused : List ℕ → PtFault → Type 0 where
  too_long : {bytes : List ℕ} → longest_net_text < length bytes →
      IsRefused bytes (Why.P6 (record { line = 1; column = 1 }))
  stopped : {bytes : List ℕ} {tokens : List Token} {spot : Spot} →
      length bytes ≤ longest_net_text → Whole.AreTokensOf bytes tokens →
      Whole.IsStopped uncounted tt IsPtNet tokens spot → IsRefused bytes (Why.N1 spot)
  faulty : {bytes : List ℕ} {tokens : List Token} {fault : LexFault} →
      length bytes ≤ longest_net_text → FirstFault bytes tokens fault → AreFine tokens →
      IsRefused bytes (report_lexical fault)
  unfinished : {bytes : List ℕ} {tokens : List Token} →
      length bytes ≤ longest_net_text → Tokens bytes tokens → AreFine tokens →
      ((plain : PtNet) → IsPtNet tokens plain [] → ⊥) → IsRefused bytes (Why.N1 (spot_after bytes))
  breaks : {bytes : List ℕ} {plain : PtNet} {first : Broken} →
      Says bytes plain → IsFirstOf (net_broken plain) first → IsRefused bytes (report_of first)
  grows : {bytes : List ℕ} {plain : PtNet} →
      Says bytes plain → net_broken plain ≡ [] →
      longest_net_text < text_length (weighted_of plain) →
      IsRefused bytes (Why.N5 (record { line = 1; column = 1 }))

-- this is the answer, unless memory ran out
abbrev pub Answers : Result Weighted PtFault → Result Weighted PtFault → Type 0
Answers (Err (Why.NoMemory _)) expected = Unit {0}
Answers result expected = result ≡ expected

-- this refusal is right; want of memory is the one without a cause
abbrev pub IsReason : List ℕ → PtFault → Type 0
IsReason bytes (Why.NoMemory _) = Unit {0}
IsReason bytes fault = IsRefused bytes fault
