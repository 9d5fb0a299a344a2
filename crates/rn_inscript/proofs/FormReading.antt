-- The stages of reading the forms of inscriptions.
use Rattle.rn_inscript.proofs.Names.{◌≡◌, ℕ, ◌⊎◌, inl, false, List, [], drop, refl, ap, arith, nat_eq, Some, nat_tests, common_steps, Token, TokenKind, Word, ArcKind, Seen, PName, PInscribed, equals, guard_word, action_word, print_word, arc_of, IsExpr, IsCond, IsInscribed, Count, goes_too_far, after_token, Phrases, Then, Done, CanEnd, IsNext, Stage, IsNextKind, ready, past, IsNotNextKind, alike-cons}
use Rattle.rn_inscript.specs.declared.inscriptions.PInscribed.TheVariants as I
use Rattle.rn_inscript.proofs.StageLemmas.{begin, change, first_left, second_left}
use Rattle.rn_inscript.proofs.Passing.{pass}
use Rattle.rn_inscript.proofs.BracketSteps.{can_end_then, can_end_done}
use Rattle.rn_inscript.proofs.ExpressionPhrases.{zero-expr}
use Rattle.rn_inscript.proofs.WithTokens.{WithName, with_kind_ends, with_kind_read, not_kind}
use Rattle.rn_inscript.proofs.InscriptionPhrases.{ArcEnd, PrintEnd, SetEnd, arc-only, arc-on, guard-only, guard-on, action-only, action-on}

-- the start of an inscription
abbrev pub starts : List Token → Seen → Phrases PInscribed → List Token → Count → Type 0
starts tokens seen Y left now = Stage 0 IsInscribed (drop seen.at tokens) (ready [] seen.operators) Y left now

pub begins : (tokens : List Token) (seen : Seen) → starts tokens seen IsInscribed (drop seen.at tokens) (ready [] seen.operators)
begins tokens seen = begin 0 IsInscribed (drop seen.at tokens) (ready [] seen.operators)

-- words that begin arcs open and end nothing
arc-passed : (kind : TokenKind) (a : ArcKind) (operators : ℕ) → arc_of kind ≡ Some a → (goes_too_far (ready [] operators) kind ≡ false) × (after_token (ready [] operators) kind ≡ ready [] operators)
arc-passed (Word k) a operators h = (refl, let e : nat_eq k 17 ≡ false = grind (arith, nat_tests, common_steps) in ap (λ b. record { levels = []; ended = b; operators = operators }) e)
arc-passed _ a operators h = (cc, cc)

-- an arc
pub arc-end-ends : (a : ArcKind) (p : PName) → CanEnd (ArcEnd a p)
arc-end-ends a p = ([], _, λ rest. inl (refl, refl))

pub arc_word : (tokens : List Token) (seen then : Seen) (a : ArcKind) {t : Token} → IsNext tokens seen.at t → arc_of t.kind ≡ Some a → then ≡ past seen →
    starts tokens seen (WithName (ArcEnd a)) (drop then.at tokens) (ready [] then.operators)
arc_word tokens seen then a {t = t} next is there = rw there (
    let passed = arc-passed t.kind a seen.operators is in
    change (WithName (ArcEnd a)) (pass tokens seen.at t.kind _ (begins tokens seen) next refl passed.0 passed.1) (arc-on a is) (λ ts e rest alike ends x. arc-only a is x))

-- a guard
pub guard_word_read : (tokens : List Token) (seen then : Seen) {t : Token} → IsNext tokens seen.at t → t.kind ≡ guard_word → then ≡ past seen →
    starts tokens seen (Then IsCond (λ c. Done (I.Guard c))) (drop then.at tokens) (ready [] then.operators)
guard_word_read tokens seen then next is there = rw there (
    change (Then IsCond (λ c. Done (I.Guard c))) (pass tokens seen.at guard_word _ (begins tokens seen) next is refl refl) (guard-on is) (λ ts e rest alike ends x. guard-only is x))

-- an action
action_word_read : (tokens : List Token) (seen then : Seen) {t : Token} → IsNext tokens seen.at t → t.kind ≡ action_word → then ≡ past seen →
    starts tokens seen (λ ts e rest. PrintEnd ts e rest ⊎ WithName SetEnd ts e rest) (drop then.at tokens) (ready [] then.operators)
action_word_read tokens seen then next is there = rw there (
    change (λ ts e rest. PrintEnd ts e rest ⊎ WithName SetEnd ts e rest) (pass tokens seen.at action_word _ (begins tokens seen) next is refl refl) (action-on is) (λ ts e rest alike ends x. action-only is x))

pub print_word_read : (tokens : List Token) (seen after then : Seen) {t : Token} → IsNext tokens seen.at t → t.kind ≡ action_word → after ≡ past seen → IsNextKind tokens after.at print_word → then ≡ past after →
    starts tokens seen (Then IsExpr (λ x. Done (I.Print x))) (drop then.at tokens) (ready [] then.operators)
print_word_read tokens seen after then next is there print last = with_kind_read tokens after then
    (first_left (action_word_read tokens seen after next is there) (λ ts e rest alike y.
    let first = alike-cons (drop after.at tokens) y.0 y.1 (rw y.3 at alike) in let a = first.1 in let b = print.1.0 in let same : y.0 ≡ print.0 = cc in let c = y.4 in let d = print.2 in cc))
    print last refl refl

pub set_stage : (tokens : List Token) (seen after : Seen) {t : Token} → IsNext tokens seen.at t → t.kind ≡ action_word → after ≡ past seen → IsNotNextKind tokens after.at print_word →
    starts tokens seen (WithName SetEnd) (drop after.at tokens) (ready [] after.operators)
set_stage tokens seen after next is there other = second_left (action_word_read tokens seen after next is there) (not_kind _ tokens after.at other)

pub set-end-ends : (p : PName) → CanEnd (SetEnd p)
set-end-ends p = with_kind_ends equals (Then IsExpr (λ x. Done (I.Set p x))) (can_end_then IsExpr (λ x. Done (I.Set p x)) zero-expr (λ x. can_end_done (I.Set p x)))
