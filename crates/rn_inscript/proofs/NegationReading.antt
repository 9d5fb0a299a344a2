-- The stages of reading negations.
use Rattle.rn_inscript.proofs.Names.{◌≡◌, ℕ, ◌+◌, ◌<◌, ◌≤◌, inl, inr, true, List, ◌∷◌, length, drop, refl, subst, Err, Token, Seen, ReadFault, PSimple, open_paren, close_paren, IsCond, IsSimple, Level, bracket, Phrases, Then, CanEnd, Takes, Stage, Reads, IsNextSign, IsBadOpening, ready, past, past_operator}
use Rattle.rn_reading.specs.declared.fault.ReadFault.TheVariants as Fault
use Rattle.rn_inscript.specs.declared.conds.PSimple.TheVariants as S
use Rattle.rn_inscript.specs.Signs.{not_sign}
use Rattle.rn_inscript.proofs.StageLemmas.{begin, change}
use Rattle.rn_inscript.proofs.CountSteps.{le-false, le-true}
use Rattle.rn_inscript.proofs.WithTokens.{WithKind, with_kind_ends, not_kind}
use Rattle.rn_inscript.proofs.Passing.{pass, far_next, stuck_next}
use Rattle.rn_inscript.proofs.BracketSteps.{can_end_then, can_end_takes, can_end_by, opening-paren, opening_passed, opening_far}
use Rattle.rn_inscript.proofs.ConditionPhrases.{zero-cond}
use Rattle.rn_inscript.proofs.OperandPhrases.{begins_expr, expr-begins}

-- what can follow `!`
abbrev pub NotOpen : Phrases PSimple
NotOpen = WithKind open_paren (Then IsCond (λ c. Takes close_paren (S.Not c)))

not-on : {t : Token} → t.kind ≡ not_sign → (ts : List Token) (e : PSimple) (rest : List Token) → NotOpen ts e rest → IsSimple (t ∷ ts) e rest
not-on is ts e rest z = rw (z.2, z.4.3.3) (IsSimple.negation is z.3 (rw z.4.3.1 at z.4.2) z.4.3.2)

pub not-only : {t : Token} {ts rest : List Token} {e : PSimple} → t.kind ≡ not_sign → IsSimple (t ∷ ts) e rest → NotOpen ts e rest
not-only k (IsSimple.bare x) = absurd (let a : begins_expr not_sign ≡ true = subst (λ kind. begins_expr kind ≡ true) k (expr-begins x) in cc)
not-only k (IsSimple.compare x is y) = absurd (let a : begins_expr not_sign ≡ true = subst (λ kind. begins_expr kind ≡ true) k (expr-begins x) in cc)
not-only k (IsSimple.negation n p x c) = (_, _, refl, p, (_, _, x, (_, refl, c, refl)))

open-on : {u : Token} → u.kind ≡ open_paren → (ts : List Token) (e : PSimple) (rest : List Token) → Then IsCond (λ c. Takes close_paren (S.Not c)) ts e rest → NotOpen (u ∷ ts) e rest
open-on {u = u} is ts e rest y = (u, ts, refl, is, y)

inside-ends : CanEnd (Then IsCond (λ c. Takes close_paren (S.Not c)))
inside-ends = can_end_then IsCond (λ c. Takes close_paren (S.Not c)) zero-cond (λ c. can_end_takes close_paren (S.Not c))

open-ends : CanEnd NotOpen
open-ends = with_kind_ends open_paren (Then IsCond (λ c. Takes close_paren (S.Not c))) inside-ends

not_stage : (tokens : List Token) (seen then : Seen) (around : List Level) → IsNextSign tokens seen.at 23 → seen.operators < 256 → then ≡ past_operator seen →
    Stage 3 IsSimple (drop seen.at tokens) (ready around seen.operators) NotOpen (drop then.at tokens) (ready around then.operators)
not_stage tokens seen then around next few is = rw is (
    change NotOpen (pass tokens seen.at not_sign (ready around (seen.operators + 1)) (begin _ _ _ _) next.1 next.2 (le-false 256 seen.operators few) refl) (not-on next.2) (λ ts e rest alike ends x. not-only next.2 x))

pub not_far : (tokens : List Token) (seen : Seen) (around : List Level) → IsNextSign tokens seen.at 23 → 256 ≤ seen.operators → Reads 3 IsSimple tokens seen around (Err (Fault.TooFar seen.at))
not_far tokens seen around next far =
    far_next tokens seen.at not_sign (begin 3 IsSimple (drop seen.at tokens) (ready around seen.operators)) next.1 next.2
    (can_end_by NotOpen (λ ts. IsSimple (next.0 ∷ ts)) open-ends (not-on next.2)) (le-true 256 seen.operators far)

-- no parenthesis follows, or one that opens a level too many
pub opening_fails : (tokens : List Token) (seen then : Seen) (around : List Level) (levels : ℕ) (e : ReadFault) → IsNextSign tokens seen.at 23 → seen.operators < 256 → then ≡ past_operator seen → then.at ≤ length tokens → levels + length around ≡ 64 →
    IsBadOpening tokens then levels e → Reads 3 IsSimple tokens seen around (Err e)
opening_fails tokens seen then around levels e next few is inside fits bad = elim bad [
  | inl b ↦ rw b.1 (stuck_next tokens then.at (not_stage tokens seen then around next few is) inside open-ends (not_kind _ tokens then.at b.0))
  | inr b ↦ rw b.2 (opening_far tokens then.at opening-paren (not_stage tokens seen then around next few is) b.0.1 b.0.2 refl fits b.1
      (can_end_by (Then IsCond (λ c. Takes close_paren (S.Not c))) (λ ts. NotOpen (b.0.0 ∷ ts)) inside-ends (open-on b.0.2)))
]

-- after `!(`
pub inside_stage : (tokens : List Token) (seen then inside : Seen) (around : List Level) (levels : ℕ) →
    IsNextSign tokens seen.at 23 → seen.operators < 256 → then ≡ past_operator seen → IsNextSign tokens then.at 4 → 0 < levels → inside ≡ past then → levels + length around ≡ 64 →
    Stage 3 IsSimple (drop seen.at tokens) (ready around seen.operators) (Then IsCond (λ c. Takes close_paren (S.Not c))) (drop inside.at tokens) (ready (bracket ∷ around) inside.operators)
inside_stage tokens seen then inside around levels next few is paren some inside_is fits = rw inside_is (
    change (Then IsCond (λ c. Takes close_paren (S.Not c))) (opening_passed tokens then.at opening-paren (not_stage tokens seen then around next few is) paren.1 paren.2 refl fits some)
    (open-on paren.2) (λ ts e rest alike ends z. rw (let h : ts ≡ z.1 = let d = z.2 in cc in h) z.4))
