-- The stages of reading lists of expressions, variables and `step()`.
use Rattle.rn_inscript.proofs.Names.{◌≡◌, ℕ, ◌+◌, ◌<◌, ◌⊎◌, inl, inr, false, List, [], ◌∷◌, length, drop, refl, ◌∙◌, ap, subst, arith, codes, Spot, Token, TokenKind, Name, Sign, PExpr, Seen, open_paren, close_paren, open_brace, close_brace, IsExpr, IsPrimary, IsListed, IsExprs, at_spot, Level, bracket, Count, Phrases, Then, Done, BeginAlike, CanEnd, IsNext, Takes, Ends, Stage, IsSoFar, IsNextSign, IsNotNextSign, IsClose, strength, ready, ended, past, alike-cons}
use Rattle.rn_inscript.specs.declared.exprs.PForm.TheVariants as F
use Rattle.rn_inscript.proofs.StageLemmas.{begin, change, inner_read, so_far, first_left, second_left}
use Rattle.rn_inscript.proofs.WithTokens.{with_kind_read, not_kind}
use Rattle.rn_inscript.proofs.Passing.{pass, not_sign, not_alike}
use Rattle.rn_inscript.proofs.BracketSteps.{can_end_takes, can_end_by, takes_follow, opening-brace, opening-paren, opening_passed}
use Rattle.rn_inscript.proofs.BracketSteps.{IsClosing, closing-brace, closing-bracket, closing-paren, close_first}
use Rattle.rn_inscript.proofs.OperandPhrases.{begins_expr, name-only, brace-only, StepEnd, ListEnd, ListInside, ListedInside, listed-only, listed-on, exprs-begin, exprs-some}

-- what stands after an opening bracket
listed_begins : (k : ℕ) (start : List Token) (first : Count) → Stage 6 (IsListed (Sign k)) start first (ListedInside (Sign k)) start first
listed_begins k start first = change (ListedInside (Sign k)) (begin _ _ _ _) (λ ts e rest y. listed-on y) (λ ts e rest alike ends x. listed-only x)

pub close-closing : (k : ℕ) → IsClose k → IsClosing k
close-closing k is = elim is [ inl h ↦ rw h closing-bracket | inr h ↦ rw h closing-paren ]

close-begins-none : (k : ℕ) → IsClose k → begins_expr (Sign k) ≡ false
close-begins-none k is = elim is [ inl h ↦ ap (λ k. begins_expr (Sign k)) h | inr h ↦ ap (λ k. begins_expr (Sign k)) h ]

-- expressions don't begin with a token that begins none
exprs-not : (tokens : List Token) (at : ℕ) (kind : TokenKind) {t : Token} → IsNext tokens at t → t.kind ≡ kind → begins_expr kind ≡ false →
    (ts : List Token) (es : List PExpr) (rest : List Token) → BeginAlike (drop at tokens) ts → IsExprs ts es rest → ⊥
exprs-not tokens at kind {t = t} next is none = not_alike IsExprs (λ es rest x. exprs-some x refl) (λ u us others es rest here x.
    let same : u ≡ t = let a = next.0 in cc in let yes = exprs-begin x in let not : begins_expr u.kind ≡ false = ap (λ v. begins_expr v.kind) same ∙ ap begins_expr is ∙ none in cc)

pub listed_empty : (tokens : List Token) (seen : Seen) (around : List Level) (k : ℕ) → IsClose k → IsNextSign tokens seen.at k →
    IsSoFar 6 (IsListed (Sign k)) tokens seen (ready (bracket ∷ around) seen.operators) around (Done []) (past seen)
listed_empty tokens seen around k is next = close_first tokens seen seen (close-closing k is)
    (first_left (listed_begins k _ _) (λ ts e rest alike y. exprs-not tokens seen.at (Sign k) next.1 next.2 (close-begins-none k is) ts y.0 y.1 alike y.2)) next

pub listed_stage : (tokens : List Token) (seen : Seen) (first : Count) (k : ℕ) → IsNotNextSign tokens seen.at k →
    Stage 6 (IsListed (Sign k)) (drop seen.at tokens) first (Then IsExprs (λ es. Takes (Sign k) es)) (drop seen.at tokens) first
listed_stage tokens seen first k other = second_left (listed_begins k _ _) (not_sign tokens seen.at k other)

-- a list
brace-on : {t : Token} → t.kind ≡ open_brace → (ts : List Token) (e : PExpr) (rest : List Token) → ListInside t.spot ts e rest → IsPrimary (t ∷ ts) e rest
brace-on is ts e rest x = elim x [
  | inl y ↦ rw (y.3, y.1) (IsPrimary.list is (IsListed.nothing y.2))
  | inr z ↦ elim z.3 [
    | inl y ↦ rw y.3 (IsPrimary.list is (IsListed.some (rw y.1 at z.2) y.2))
    | inr y ↦ rw y.4.3.3 (IsPrimary.list_with_tail is (rw y.2 at z.2) y.3 (rw y.4.3.1 at y.4.2) y.4.3.2)
  ]
]

pub list_end-ends : (spot : Spot) (es : List PExpr) → CanEnd (ListEnd spot es)
list_end-ends spot es = can_end_by (Takes close_brace (at_spot spot (F.List es))) (ListEnd spot es) (can_end_takes close_brace (at_spot spot (F.List es))) (λ ts e rest y. inl y)

pub list_end-follow : (spot : Spot) (es : List PExpr) (ts : List Token) (e : PExpr) (rest : List Token) → ListEnd spot es ts e rest → Ends 3 ts
list_end-follow spot es ts e rest x = elim x [
  | inl y ↦ takes_follow 3 (omega arith) ts e rest y
  | inr y ↦ rw (y.2, y.3) (omega arith)
]

pub list-ends : {t : Token} → t.kind ≡ open_brace → CanEnd (λ ts. IsPrimary (t ∷ ts))
list-ends {t = t} is = can_end_by (Takes close_brace (at_spot t.spot (F.List []))) (λ ts. IsPrimary (t ∷ ts)) (can_end_takes close_brace (at_spot t.spot (F.List []))) (λ ts e rest y. brace-on is ts e rest (inl y))

-- after the opening brace
pub list_stage : (tokens : List Token) (seen then : Seen) (around : List Level) (levels : ℕ) {t : Token} → IsNext tokens seen.at t → t.kind ≡ open_brace → levels + length around ≡ 64 → 0 < levels → then ≡ past seen →
    Stage 6 IsPrimary (drop seen.at tokens) (ready around seen.operators) (ListInside t.spot) (drop then.at tokens) (ready (bracket ∷ around) then.operators)
list_stage tokens seen then around levels {t = t} next is fits some there = rw there (
    change (ListInside t.spot) (opening_passed tokens seen.at opening-brace (begin _ _ _ _) next is refl fits some) (brace-on is) (λ ts e rest alike ends x. brace-only is x))

pub list_empty : (tokens : List Token) (seen then : Seen) {first : Count} {around : List Level} {spot : Spot} →
    Stage 6 IsPrimary (drop seen.at tokens) first (ListInside spot) (drop then.at tokens) (ready (bracket ∷ around) then.operators) → IsNextSign tokens then.at 1 → IsSoFar 6 IsPrimary tokens seen first around (Done (at_spot spot (F.List []))) (past then)
list_empty tokens seen then s next = close_first tokens seen then closing-brace (first_left s (λ ts e rest alike y. exprs-not tokens then.at close_brace next.1 next.2 refl ts y.0 y.1 alike y.2)) next

pub elements_stage : (tokens : List Token) (seen then : Seen) {first : Count} {around : List Level} {spot : Spot} →
    Stage 6 IsPrimary (drop seen.at tokens) first (ListInside spot) (drop then.at tokens) (ready (bracket ∷ around) then.operators) → IsNotNextSign tokens then.at 1 →
    Stage 6 IsPrimary (drop seen.at tokens) first (Then IsExprs (ListEnd spot)) (drop then.at tokens) (ready (bracket ∷ around) then.operators)
elements_stage tokens seen then s other = second_left s (not_sign tokens then.at 1 other)

-- the elements were read
pub elements_read : (tokens : List Token) (seen then : Seen) {after : Seen} {first : Count} {around : List Level} {spot : Spot} {es : List PExpr} →
    Stage 6 IsPrimary (drop seen.at tokens) first (ListInside spot) (drop then.at tokens) (ready (bracket ∷ around) then.operators) → IsNotNextSign tokens then.at 1 →
    IsSoFar 3 IsExprs tokens then (ready (bracket ∷ around) then.operators) (bracket ∷ around) (Done es) after → IsSoFar 6 IsPrimary tokens seen first (bracket ∷ around) (ListEnd spot es) after
elements_read tokens seen then {spot = spot} s other p = inner_read (ListEnd spot) (elements_stage tokens seen then s other) (λ es ts e rest ends y. list_end-follow spot es ts e rest y) p

-- a tail follows
pub tail_stage : {tokens : List Token} {seen after then : Seen} {first : Count} {around : List Level} {spot : Spot} (es : List PExpr) →
    IsSoFar 6 IsPrimary tokens seen first (bracket ∷ around) (ListEnd spot es) after → IsNextSign tokens after.at 8 → then ≡ past after →
    Stage 6 IsPrimary (drop seen.at tokens) first (Then IsExpr (λ tail. Takes close_brace (at_spot spot (F.Cons es tail)))) (drop then.at tokens) (ready (bracket ∷ around) then.operators)
tail_stage {tokens = tokens} {after = after} {then = then} es p next there = with_kind_read tokens after then
    (second_left p.stage (λ ts e rest alike y.
    let first = alike-cons (drop after.at tokens) y.0 rest (rw y.1 at alike) in let a = first.1 in let b = next.1.0 in let same : y.0 ≡ next.0 = cc in let c = y.2 in let d = next.2 in cc))
    next there refl (ap (λ ls. ready ls after.operators) p.closed)

-- no tail follows
pub list_end : {tokens : List Token} {seen after : Seen} {first : Count} {around : List Level} {spot : Spot} (es : List PExpr) →
    IsSoFar 6 IsPrimary tokens seen first around (ListEnd spot es) after → IsNotNextSign tokens after.at 8 → IsSoFar 6 IsPrimary tokens seen first around (Takes close_brace (at_spot spot (F.List es))) after
list_end {tokens = tokens} {after = after} es p other = record { open_now = p.open_now; closed = p.closed; stage = first_left p.stage (not_kind _ tokens after.at other) }

-- a name, which may be that of `step()`
abbrev pub NameEnd : Spot → List ℕ → Phrases PExpr
NameEnd spot s ts e rest = Done (at_spot spot (F.Name s)) ts e rest ⊎ ((s ≡ codes "step") × StepEnd spot ts e rest)

name-on : {t : Token} (s : List ℕ) → t.kind ≡ Name s → (ts : List Token) (e : PExpr) (rest : List Token) → NameEnd t.spot s ts e rest → IsPrimary (t ∷ ts) e rest
name-on s is ts e rest x = elim x [
  | inl d ↦ rw (d.0, d.1) (IsPrimary.name is)
  | inr y ↦ let z = y.1 in rw (z.4.3, z.2, z.4.1) (IsPrimary.step (is ∙ ap Name y.0) z.3 z.4.2)
]

pub name_stage : (tokens : List Token) (seen then : Seen) (around : List Level) {t : Token} (s : List ℕ) → IsNext tokens seen.at t → t.kind ≡ Name s → then ≡ past seen →
    Stage 6 IsPrimary (drop seen.at tokens) (ready around seen.operators) (NameEnd t.spot s) (drop then.at tokens) (ended around then.operators)
name_stage tokens seen then around {t = t} s next is there = rw there (
    change (NameEnd t.spot s) (pass tokens seen.at (Name s) _ (begin _ _ _ _) next is refl refl) (name-on s is) (λ ts e rest alike ends x. name-only s is x))

-- it is a name alone
pub name_read : (tokens : List Token) (seen then : Seen) (around : List Level) {t : Token} (s : List ℕ) → IsNext tokens seen.at t → t.kind ≡ Name s → then ≡ past seen →
    (s ≡ codes "step" → IsNotNextSign tokens then.at 4) →
    IsSoFar 6 IsPrimary tokens seen (ready around seen.operators) around (Done (at_spot t.spot (F.Name s))) then
name_read tokens seen then around {t = t} s next is there other =
    so_far (first_left (name_stage tokens seen then around s next is there) (λ ts e rest alike y. not_kind (Takes close_paren (at_spot t.spot F.Step)) tokens then.at (other y.0) ts e rest alike y.1))

-- it is `step`, and a parenthesis follows
pub step-ends : {spot : Spot} {u : Token} {s : List ℕ} → s ≡ codes "step" → u.kind ≡ open_paren → CanEnd (λ ts. NameEnd spot s (u ∷ ts))
step-ends {spot = spot} {u = u} {s = s} step is = can_end_by (Takes close_paren (at_spot spot F.Step)) (λ ts. NameEnd spot s (u ∷ ts)) (can_end_takes close_paren (at_spot spot F.Step)) (λ ts e rest y. inr (step, (u, ts, refl, is, y)))

pub step_inside : (tokens : List Token) (seen : Seen) {after then : Seen} {first : Count} {around : List Level} {levels : ℕ} {spot : Spot} {s : List ℕ} →
    Stage 6 IsPrimary (drop seen.at tokens) first (NameEnd spot s) (drop after.at tokens) (ended around after.operators) → s ≡ codes "step" → IsNextSign tokens after.at 4 →
    levels + length around ≡ 64 → 0 < levels → then ≡ past after →
    Stage 6 IsPrimary (drop seen.at tokens) first (Takes close_paren (at_spot spot F.Step)) (drop then.at tokens) (ready (bracket ∷ around) then.operators)
step_inside tokens seen {after = after} {spot = spot} p step paren fits some there = rw there (
    change (Takes close_paren (at_spot spot F.Step)) (opening_passed tokens after.at opening-paren p paren.1 paren.2 refl fits some)
    (λ ts e rest y. inr (step, (paren.0, ts, refl, paren.2, y)))
    (λ ts e rest alike ends x. elim x [
      | inl d ↦ absurd (let small : Ends 6 (paren.0 ∷ ts) = subst (Ends 6) d.1 ends in let strong : strength paren.0.kind ≡ 6 = ap strength paren.2 in omega (arith, strong, small))
      | inr y ↦ let z = y.1 in rw (let h : ts ≡ z.1 = let d = z.2 in cc in h) z.4
    ]))
