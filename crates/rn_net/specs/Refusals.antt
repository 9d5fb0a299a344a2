-- Why a text is refused.
use Rattle.std.specs.Prelude.{◌≡◌, ℕ, ◌<◌, ◌≤◌, List, [], length, Result, Err}
use Rattle.rn_notation.specs.Limits.{longest_net_text}
use Rattle.rn_notation.specs.Reading.{Tokens, FirstFault}
use Rattle.rn_notation.specs.Spots.{spot_after}
use Rattle.rn_notation.specs.declared.token.Token.{Token}
use Rattle.rn_notation.specs.declared.token.Spot.{Spot}
use Rattle.rn_notation.specs.declared.token.LexFault.{LexFault}
use Rattle.rn_reading.specs.Phrases.{Phrases}
use Rattle.rn_reading.specs.Texts as Texts
use Rattle.rn_reading.specs.Texts.{AreTokensOf}
use Rattle.rn_net.specs.declared.plain.Plain.{Plain}
use Rattle.rn_net.specs.declared.refusal.Refusal.{Refusal}
use Rattle.rn_net.specs.declared.refusal.Refusal.TheVariants as R
use Rattle.rn_net.specs.Levels.{net_counting}
use Rattle.rn_net.specs.Levels.Region.{between}
use Rattle.rn_net.specs.Nets.{IsSystem}

-- the tokens are a system, and nothing comes after it
abbrev pub IsText : Phrases Plain
IsText tokens plain rest = IsSystem tokens plain × (rest ≡ [])

-- some tokens continue these to a system
abbrev pub IsBeginning : List Token → Type 0
IsBeginning taken = Texts.IsBeginning IsText taken

-- A token can't follow: those before it begin a system, and with it they begin none. None before it
-- is too deep.
abbrev pub IsStopped : List Token → Spot → Type 0
IsStopped tokens spot = Texts.IsStopped net_counting between IsText tokens spot

-- A token that can follow opens level 65, or is the 257th operator of its inscription, and none
-- before it does.
abbrev pub IsDeep : List Token → Spot → Type 0
IsDeep tokens spot = Texts.IsDeep net_counting between IsText tokens spot

-- each of the tokens can follow those before it, and none is too deep
abbrev pub AreFine : List Token → Type 0
AreFine tokens = Texts.AreFine net_counting between IsText tokens

-- the refusal of a fault in the tokens
abbrev pub refusal_of : LexFault → Refusal
refusal_of (LexFault.P1 spot) = R.P1 spot
refusal_of (LexFault.P3 spot) = R.P3 spot
refusal_of (LexFault.P4 spot) = R.P4 spot
refusal_of (LexFault.P7 spot) = R.P7 spot

-- Why a text is refused: it is too long; one of the tokens before its first fault can't follow, or
-- goes too deep; it has a fault, and all tokens before it are fine; or all of its tokens are fine,
-- and they are no system.
pub data IsRefused : List ℕ → Refusal → Type 0 where
  too_long : {bytes : List ℕ} → longest_net_text < length bytes →
      IsRefused bytes (R.P6 (record { line = 1; column = 1 }))
  stopped : {bytes : List ℕ} {tokens : List Token} {spot : Spot} →
      length bytes ≤ longest_net_text → AreTokensOf bytes tokens → IsStopped tokens spot →
      IsRefused bytes (R.P2 spot)
  deep : {bytes : List ℕ} {tokens : List Token} {spot : Spot} →
      length bytes ≤ longest_net_text → AreTokensOf bytes tokens → IsDeep tokens spot →
      IsRefused bytes (R.P5 spot)
  faulty : {bytes : List ℕ} {tokens : List Token} {fault : LexFault} →
      length bytes ≤ longest_net_text → FirstFault bytes tokens fault → AreFine tokens →
      IsRefused bytes (refusal_of fault)
  unfinished : {bytes : List ℕ} {tokens : List Token} →
      length bytes ≤ longest_net_text → Tokens bytes tokens → AreFine tokens →
      ((plain : Plain) → IsSystem tokens plain → ⊥) → IsRefused bytes (R.P2 (spot_after bytes))

-- this is the answer, unless memory ran out
abbrev pub Answers : Result Plain Refusal → Result Plain Refusal → Type 0
Answers (Err (R.NoMemory _)) expected = Unit {0}
Answers result expected = result ≡ expected

-- this refusal is right; want of memory is the one without a cause
abbrev pub IsReason : List ℕ → Refusal → Type 0
IsReason bytes (R.NoMemory _) = Unit {0}
IsReason bytes refusal = IsRefused bytes refusal
