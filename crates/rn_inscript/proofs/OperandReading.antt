-- The stages of reading primary and unary expressions.
use Rattle.rn_inscript.proofs.Names.{◌≡◌, ℕ, ◌+◌, ◌<◌, ◌≤◌, ◌⊎◌, true, false, ◌||◌, List, [], ◌∷◌, length, drop, refl, ◌∙◌, ap, arith, nat_le, Result, Err, nat_tests, Token, TokenKind, Sign, PExpr, Seen, ReadFault, minus, open_paren, close_paren, open_bracket, close_bracket, IsExpr, IsUnary, IsPrimary, IsListed, at_spot, Level, Count, bracket, negative, goes_too_far, after_token, Phrases, Then, Done, CanEnd, IsNext, HasNoNext, Takes, Stage, IsSoFar, Reads, ready, ended, past, past_operator, alike-cons}
use Rattle.rn_inscript.specs.declared.exprs.PForm.TheVariants as F
use Rattle.rn_reading.specs.declared.fault.ReadFault.TheVariants as Fault
use Rattle.rn_inscript.proofs.StageLemmas.{begin, change, so_far}
use Rattle.rn_inscript.proofs.CountSteps.{le-false}
use Rattle.rn_inscript.proofs.Passing.{pass, far_next, stuck_next, not_alike}
use Rattle.rn_inscript.proofs.BracketSteps.{any, can_end_then, can_end_takes, can_end_done, can_end_by, whole_reads, opening-bracket, opening-paren, opening_passed}
use Rattle.rn_inscript.proofs.ExpressionPhrases.{zero-expr, zero-unary, zero-primary}
use Rattle.rn_inscript.proofs.OperandPhrases.{begins_primary, primary-begins, primary-some, paren-only, bracket-only, minus-only, no-minus}

-- a primary expression of one token
pub leaf_read : (tokens : List Token) (seen : Seen) (around : List Level) {t : Token} (kind : TokenKind) (a : PExpr) →
    IsNext tokens seen.at t → t.kind ≡ kind →
    (goes_too_far (ready around seen.operators) kind ≡ false) → (after_token (ready around seen.operators) kind ≡ ended around seen.operators) →
    ((rest : List Token) → IsPrimary (t ∷ rest) a rest) →
    ((ts : List Token) (e : PExpr) (rest : List Token) → IsPrimary (t ∷ ts) e rest → Done a ts e rest) →
    IsSoFar 6 IsPrimary tokens seen (ready around seen.operators) around (Done a) (past seen)
leaf_read tokens seen around kind a next is small after on only =
    so_far (change (Done a) (pass tokens seen.at kind _ (begin _ _ _ _) next is small after) (λ ts e rest d. rw (d.0, d.1) (on ts)) (λ ts e rest alike ends x. only ts e rest x))

-- the next token begins no primary expression
pub none_begins : (tokens : List Token) (seen : Seen) (around : List Level) {t : Token} (kind : TokenKind) →
    IsNext tokens seen.at t → t.kind ≡ kind → begins_primary kind ≡ false → Reads 6 IsPrimary tokens seen around (Err (Fault.Stopped seen.at))
none_begins tokens seen around {t = t} kind next is none =
    stuck_next tokens seen.at (begin 6 IsPrimary _ _) (omega (arith, next.1)) zero-primary (not_alike IsPrimary (λ e rest x. primary-some x) (λ u us others e rest here x.
    let same : u ≡ t = let a = next.0 in cc in let yes = primary-begins x in let not : begins_primary u.kind ≡ false = ap (λ v. begins_primary v.kind) same ∙ ap begins_primary is ∙ none in cc))

-- no token is next
pub none_next : (tokens : List Token) (seen : Seen) (around : List Level) → seen.at ≤ length tokens → HasNoNext tokens seen.at → Reads 6 IsPrimary tokens seen around (Err (Fault.Stopped seen.at))
none_next tokens seen around inside none =
    stuck_next tokens seen.at (begin 6 IsPrimary _ _) inside zero-primary (not_alike IsPrimary (λ e rest x. primary-some x) (λ u us others e rest here x. let a = none in cc))

-- an expression in parentheses
paren-on : {t : Token} → t.kind ≡ open_paren → (ts : List Token) (e : PExpr) (rest : List Token) → Then IsExpr (Takes close_paren) ts e rest → IsPrimary (t ∷ ts) e rest
paren-on is ts e rest y = rw y.3.3 (IsPrimary.parentheses is (rw y.3.1 at y.2) y.3.2)

pub paren-ends : {t : Token} → t.kind ≡ open_paren → CanEnd (λ ts. IsPrimary (t ∷ ts))
paren-ends {t = t} is = can_end_by (Then IsExpr (Takes close_paren)) (λ ts. IsPrimary (t ∷ ts)) (can_end_then IsExpr (Takes close_paren) zero-expr (can_end_takes close_paren)) (paren-on is)

pub paren_stage : (tokens : List Token) (seen then : Seen) (around : List Level) (levels : ℕ) {t : Token} → IsNext tokens seen.at t → t.kind ≡ open_paren → levels + length around ≡ 64 → 0 < levels → then ≡ past seen →
    Stage 6 IsPrimary (drop seen.at tokens) (ready around seen.operators) (Then IsExpr (Takes close_paren)) (drop then.at tokens) (ready (bracket ∷ around) then.operators)
paren_stage tokens seen then around levels next is fits some there = rw there (
    change (Then IsExpr (Takes close_paren)) (opening_passed tokens seen.at opening-paren (begin _ _ _ _) next is refl fits some) (paren-on is) (λ ts e rest alike ends x. paren-only is x))

-- a tuple
tuple-on : {t : Token} → t.kind ≡ open_bracket → (ts : List Token) (e : PExpr) (rest : List Token) → Then (IsListed close_bracket) (λ es. Done (at_spot t.spot (F.Tuple es))) ts e rest → IsPrimary (t ∷ ts) e rest
tuple-on is ts e rest y = rw y.3.0 (IsPrimary.tuple is (rw (← y.3.1) at y.2))

pub empty-listed : (k : ℕ) → CanEnd (IsListed (Sign k))
empty-listed k = (any (Sign k) ∷ [], [], λ rest. IsListed.nothing refl)

pub tuple-ends : {t : Token} → t.kind ≡ open_bracket → CanEnd (λ ts. IsPrimary (t ∷ ts))
tuple-ends {t = t} is = can_end_by (Then (IsListed close_bracket) (λ es. Done (at_spot t.spot (F.Tuple es)))) (λ ts. IsPrimary (t ∷ ts)) (can_end_then (IsListed close_bracket) (λ es. Done (at_spot t.spot (F.Tuple es))) (empty-listed 3) (λ es. can_end_done (at_spot t.spot (F.Tuple es)))) (tuple-on is)

pub tuple_stage : (tokens : List Token) (seen then : Seen) (around : List Level) (levels : ℕ) {t : Token} → IsNext tokens seen.at t → t.kind ≡ open_bracket → levels + length around ≡ 64 → 0 < levels → then ≡ past seen →
    Stage 6 IsPrimary (drop seen.at tokens) (ready around seen.operators) (Then (IsListed close_bracket) (λ es. Done (at_spot t.spot (F.Tuple es)))) (drop then.at tokens) (ready (bracket ∷ around) then.operators)
tuple_stage tokens seen then around levels {t = t} next is fits some there = rw there (
    change (Then (IsListed close_bracket) (λ es. Done (at_spot t.spot (F.Tuple es)))) (opening_passed tokens seen.at opening-bracket (begin _ _ _ _) next is refl fits some) (tuple-on is) (λ ts e rest alike ends x. bracket-only is x))

-- a unary minus
minus-on : {t : Token} → t.kind ≡ minus → (ts : List Token) (e : PExpr) (rest : List Token) → Then IsUnary (λ e. Done (at_spot t.spot (F.Neg e))) ts e rest → IsUnary (t ∷ ts) e rest
minus-on is ts e rest y = rw y.3.0 (IsUnary.negative is (rw (← y.3.1) at y.2))

pub minus_stage : (tokens : List Token) (seen then : Seen) (around : List Level) (levels : ℕ) {t : Token} → IsNext tokens seen.at t → t.kind ≡ minus → levels + length around ≡ 64 → 0 < levels → seen.operators < 256 → then ≡ past_operator seen →
    Stage 6 IsUnary (drop seen.at tokens) (ready around seen.operators) (Then IsUnary (λ e. Done (at_spot t.spot (F.Neg e)))) (drop then.at tokens) (ready (negative ∷ around) then.operators)
minus_stage tokens seen then around levels {t = t} next is fits some few there = rw there (
    change (Then IsUnary (λ e. Done (at_spot t.spot (F.Neg e)))) (pass tokens seen.at minus (ready (negative ∷ around) (seen.operators + 1)) (begin _ _ _ _) next is
    (ap (λ b. b || nat_le 256 seen.operators) (le-false 64 (length around) (omega (arith, fits, some))) ∙ le-false 256 seen.operators few) refl)
    (minus-on is) (λ ts e rest alike ends x. minus-only is x))

minus-too-far : (around : List Level) (levels operators : ℕ) → levels + length around ≡ 64 → (levels ≡ 0) ⊎ (256 ≤ operators) → (nat_le 64 (length around) || nat_le 256 operators) ≡ true
minus-too-far around levels operators fits far = grind (arith, nat_tests)

pub minus_far : (tokens : List Token) (seen : Seen) (around : List Level) (levels : ℕ) {t : Token} → IsNext tokens seen.at t → t.kind ≡ minus → levels + length around ≡ 64 → (levels ≡ 0) ⊎ (256 ≤ seen.operators) →
    Reads 6 IsUnary tokens seen around (Err (Fault.TooFar seen.at))
minus_far tokens seen around levels {t = t} next is fits far =
    far_next tokens seen.at minus (begin 6 IsUnary _ _) next is
    (can_end_by (Then IsUnary (λ e. Done (at_spot t.spot (F.Neg e)))) (λ ts. IsUnary (t ∷ ts)) (can_end_then IsUnary (λ e. Done (at_spot t.spot (F.Neg e))) zero-unary (λ e. can_end_done (at_spot t.spot (F.Neg e)))) (minus-on is))
    (minus-too-far around levels seen.operators fits far)

-- the level of a minus is closed where its operand has ended
pub minus_closed : {A : Type 0} {n : ℕ} {X Y : Phrases A} {tokens : List Token} {before now : Seen} {first : Count} {around : List Level} → IsSoFar n X tokens before first (negative ∷ around) Y now → IsSoFar n X tokens before first around Y now
minus_closed p = record { open_now = p.open_now; closed = p.closed; stage = p.stage }

-- no minus is next
pub primary_reads : (tokens : List Token) (seen : Seen) (around : List Level) (r : Result (PExpr × Seen) ReadFault) →
    ((t : Token) (us : List Token) → drop seen.at tokens ≡ t ∷ us → t.kind ≡ minus → ⊥) → Reads 6 IsPrimary tokens seen around r → Reads 6 IsUnary tokens seen around r
primary_reads tokens seen around r other p = whole_reads tokens seen (ready around seen.operators) around r
    (change (Then IsPrimary Done) (begin _ _ _ _) (λ ts e rest y. rw (y.3.0, y.3.1) (IsUnary.primary y.2))
    (λ ts e rest alike ends x. (e, rest, no-minus (λ t us is h. let next = alike-cons (drop seen.at tokens) t us (rw is at alike) in other t next.0 next.1 h) x, (refl, refl)))) p
