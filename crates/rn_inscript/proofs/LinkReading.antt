-- The stages of reading calls, links and equalities.
use Rattle.rn_inscript.proofs.Names.{◌≡◌, ℕ, ◌+◌, ◌<◌, ◌≤◌, ◌⊎◌, inl, inr, true, false, List, [], ◌∷◌, ◌++◌, length, drop, refl, sym, ◌∙◌, ap, subst, arith, nat_eq, Some, Result, Ok, Err, nat_tests, common_steps, Token, TokenKind, Name, Word, Seen, ReadFault, PExpr, PForm, PName, PInscribed, colon, equals, open_paren, close_paren, new_word, target_of, IsExpr, IsListed, at_spot, IsInscribed, IsCall, name_at, Level, Count, goes_too_far, after_token, Phrases, Then, Done, BeginAlike, CanEnd, IsNext, HasNoNext, Ends, Stage, IsSoFar, Reads, IsNextKind, strength, ready, ended, past, IsNotNextKind, IsEquality, IsNoCreation, alike-append, alike-cons, IsPrimary, IsUnary, IsProduct, IsFactors, IsTerms, plus_of, times_of}
use Rattle.rn_reading.specs.declared.fault.ReadFault.TheVariants as Fault
use Rattle.rn_inscript.specs.declared.inscriptions.PInscribed.TheVariants as I
use Rattle.rn_inscript.proofs.StageLemmas.{begin, change, inner_read, first_left, second_left}
use Rattle.rn_inscript.proofs.Passing.{pass, stuck_next, not_alike}
use Rattle.rn_inscript.proofs.BracketSteps.{any, can_end_then, can_end_done, can_end_by}
use Rattle.rn_inscript.proofs.ExpressionPhrases.{zero-expr}
use Rattle.rn_inscript.specs.declared.exprs.PForm.TheVariants as F
use Rattle.rn_inscript.proofs.FormReading.{starts, begins}
use Rattle.rn_inscript.proofs.ExpressionPhrases.{products, sums}
use Rattle.rn_inscript.proofs.InscriptionPhrases.{not-target, leads, other-only, word-only, inscribed-some}
use Rattle.rn_inscript.proofs.OperandPhrases.{expr-some, name-only, this-only}
use Rattle.rn_inscript.proofs.OperandReading.{empty-listed}
use Rattle.rn_inscript.proofs.Chains.{one-item}
use Rattle.rn_inscript.proofs.BracketSteps.{whole_reads}
use Rattle.rn_inscript.proofs.WithTokens.{WithKind, WithName, with_kind_ends, with_kind_read, not_kind}
use Rattle.rn_inscript.proofs.InscriptionPhrases.{CallEnd, NewEnd, DownEnd, call-only, call-on, uplink-only, uplink-on, target-only, new-on, down-on, equality-on}

-- a target is a name or `this`
targets : (kind : TokenKind) (form : PForm) → target_of kind ≡ Some form → ((s : List ℕ) × (kind ≡ Name s) × (form ≡ F.Name s)) ⊎ ((kind ≡ Word 17) × (form ≡ F.This))
targets (Name s) form h = inl (s, refl, cc)
targets (Word k) form h = let e : k ≡ 17 = grind (arith, nat_tests, common_steps) in inr (ap Word e, let a : target_of (Word 17) ≡ Some form = ap (λ n. target_of (Word n)) (sym e) ∙ h in cc)
targets _ form h = cc

-- a target that a colon follows is a whole expression
target-primary : {t u : Token} {ts mid : List Token} {a : PExpr} (form : PForm) → target_of t.kind ≡ Some form → u.kind ≡ colon → IsPrimary (t ∷ u ∷ ts) a mid → mid ≡ u ∷ ts
target-primary {t = t} {u = u} form k c x = elim (targets t.kind form k) [
  | inl n ↦ elim (name-only n.0 n.1 x) [ inl d ↦ d.1 | inr y ↦ absurd (let z = y.1 in let same : u ≡ z.0 = let d = z.2 in cc in let a = z.3 in let b = c in cc) ]
  | inr w ↦ (this-only w.0 x).1
]

target-unary : {t u : Token} {ts mid : List Token} {a : PExpr} (form : PForm) → target_of t.kind ≡ Some form → u.kind ≡ colon → IsUnary (t ∷ u ∷ ts) a mid → mid ≡ u ∷ ts
target-unary form k c (IsUnary.negative h x) = absurd (not-target h refl k)
target-unary form k c (IsUnary.primary x) = target-primary form k c x

target-product : {t u : Token} {ts mid : List Token} {a : PExpr} (form : PForm) → target_of t.kind ≡ Some form → u.kind ≡ colon → IsProduct (t ∷ u ∷ ts) a mid → mid ≡ u ∷ ts
target-product form k c x = let y = products.part x in one-item products.chain (target-unary form k c y.2) (ap times_of c) y.3

pub target-expr : {t u : Token} {ts mid : List Token} {a : PExpr} (form : PForm) → target_of t.kind ≡ Some form → u.kind ≡ colon → IsExpr (t ∷ u ∷ ts) a mid → mid ≡ u ∷ ts
target-expr form k c x = let y = sums.part x in one-item sums.chain (target-product form k c y.2) (ap plus_of c) y.3

-- a call of a channel
pub call_begins : (start : List Token) (first : Count) → Stage 1 IsCall start first (WithName CallEnd) start first
call_begins start first = change (WithName CallEnd) (begin 1 IsCall start first) call-on (λ ts e rest alike ends x. call-only x)

pub call-end-ends : (p : PName) → CanEnd (CallEnd p)
call-end-ends p = with_kind_ends open_paren (Then (IsListed close_paren) (λ es. Done (p, es))) (can_end_then (IsListed close_paren) (λ es. Done (p, es)) (empty-listed 5) (λ es. can_end_done (p, es)))

-- an uplink
pub uplink_stage : (tokens : List Token) (seen then : Seen) {t : Token} → IsNext tokens seen.at t → t.kind ≡ colon → then ≡ past seen →
    starts tokens seen (Then IsCall (λ c. Done (I.Uplink c.0 c.1))) (drop then.at tokens) (ready [] then.operators)
uplink_stage tokens seen then next is there = rw there (
    change (Then IsCall (λ c. Done (I.Uplink c.0 c.1))) (pass tokens seen.at colon _ (begins tokens seen) next is refl refl) (uplink-on is) (λ ts e rest alike ends x. uplink-only is x))

-- after a target and a colon
abbrev LinkEnd : Token → PForm → Phrases PInscribed
LinkEnd t form us e rest = ((x : List ℕ) × (t.kind ≡ Name x) × NewEnd (name_at t.spot x) us e rest) ⊎ DownEnd (at_spot t.spot form) us e rest

link-on : {t u : Token} (form : PForm) → target_of t.kind ≡ Some form → u.kind ≡ colon → (ts : List Token) (e : PInscribed) (rest : List Token) → LinkEnd t form ts e rest → IsInscribed (t ∷ u ∷ ts) e rest
link-on form k c ts e rest x = elim x [ inl y ↦ new-on y.0 y.1 c ts e rest y.2 | inr y ↦ down-on form k c ts e rest y ]

target-small : (kind : TokenKind) (form : PForm) (operators : ℕ) → target_of kind ≡ Some form → (goes_too_far (ready [] operators) kind ≡ false) × (after_token (ready [] operators) kind ≡ ended [] operators)
target-small (Word k) form operators h = (refl, let e : nat_eq k 17 ≡ true = grind (arith, nat_tests, common_steps) in ap (λ b. record { levels = []; ended = b; operators = operators }) e)
target-small (Name s) form operators h = (refl, refl)
target-small _ form operators h = (cc, cc)

link_stage : (tokens : List Token) (seen : Seen) {t : Token} (form : PForm) → IsNext tokens seen.at t → target_of t.kind ≡ Some form → IsNextKind tokens (seen.at + 1) colon →
    starts tokens seen (LinkEnd t form) (drop (seen.at + 1 + 1) tokens) (ready [] seen.operators)
link_stage tokens seen {t = t} form next is follows =
    change (LinkEnd t form)
    (pass tokens (seen.at + 1) colon (ready [] seen.operators)
    (pass tokens seen.at t.kind (ended [] seen.operators) (begins tokens seen) next refl (target-small t.kind form seen.operators is).0 (target-small t.kind form seen.operators is).1)
    follows.1 follows.2 refl refl)
    (link-on form is follows.2)
    (λ ts e rest alike ends x. elim (target-only form is x) [
      | inl y ↦ absurd (no-equality ts y.2 y.4 y.5)
      | inr z ↦ subst (λ us. LinkEnd t form us e rest) (let h : z.1 ≡ ts = let d = z.2 in cc in h) z.4
    ])
  where
    no-equality : (ts : List Token) {us : List Token} {a : PExpr} (v : Token) → IsExpr (t ∷ follows.0 ∷ ts) a (v ∷ us) → v.kind ≡ equals → ⊥
    no-equality ts v x q = let m = target-expr form is follows.2 x in let same : v ≡ follows.0 = cc in let a : v.kind ≡ colon = ap (λ w. w.kind) same ∙ follows.2 in cc

pub new-stage : (tokens : List Token) (seen then : Seen) {t : Token} (x : List ℕ) → IsNext tokens seen.at t → t.kind ≡ Name x → IsNextKind tokens (seen.at + 1) colon → IsNextKind tokens (seen.at + 1 + 1) new_word →
    then ≡ past (past (past seen)) → starts tokens seen (WithName (λ net. Done (I.New (name_at t.spot x) net))) (drop then.at tokens) (ready [] then.operators)
new-stage tokens seen then {t = t} x next is follows new there = with_kind_read tokens (past (past seen)) then
    (change (NewEnd (name_at t.spot x)) (first_left (link_stage tokens seen (F.Name x) next (ap target_of is) follows) (λ ts e rest alike z. no-call z.2 alike)) (λ ts e rest y. (x, is, y))
    (λ ts e rest alike ends z. subst (λ s. NewEnd (name_at t.spot s) ts e rest) (let h : z.0 ≡ x = let a = z.1 in let b = is in cc in h) z.2))
    new there refl refl
  where
    no-call : {ts rest : List Token} {c : PName × List PExpr} → IsCall ts c rest → BeginAlike (drop (seen.at + 1 + 1) tokens) ts → ⊥
    no-call (IsCall.call {t = u} {u = v} {ts = us} h p y) alike = let a = rw new.1.0 at alike in let b = h in let c = new.2 in let d : u.kind ≡ new_word = ap (λ w. w.kind) (sym a) ∙ c in cc

pub down-stage : (tokens : List Token) (seen then : Seen) {t : Token} (form : PForm) → IsNext tokens seen.at t → target_of t.kind ≡ Some form → IsNextKind tokens (seen.at + 1) colon → IsNoCreation tokens (seen.at + 1 + 1) t → then ≡ past (past seen) →
    starts tokens seen (DownEnd (at_spot t.spot form)) (drop then.at tokens) (ready [] then.operators)
down-stage tokens seen then {t = t} form next is follows other there = rw there (
    second_left (link_stage tokens seen form next is follows) (λ ts e rest alike z. not_kind (WithName (λ net. Done (I.New (name_at t.spot z.0) net))) tokens (seen.at + 1 + 1) (other z.0 z.1) ts e rest alike z.2))

-- an equality
abbrev EqualsEnd : PExpr → Phrases PInscribed
EqualsEnd a = WithKind equals (Then IsExpr (λ b. Done (I.Equality a b)))

equality-from : (ts : List Token) (e : PInscribed) (rest : List Token) → Then IsExpr EqualsEnd ts e rest → IsEquality ts e rest
equality-from ts e rest y = let z = y.3 in (y.0, z.4.0, z.0, z.1, subst (λ us. IsExpr ts y.0 us) z.2 y.2, z.3, subst (λ us. IsExpr z.1 z.4.0 us) (sym z.4.3.1) z.4.2, z.4.3.0)

pub equality_begins : (start : List Token) (first : Count) → Stage 0 IsEquality start first (Then IsExpr EqualsEnd) start first
equality_begins start first = change (Then IsExpr EqualsEnd) (begin 0 IsEquality start first)
    equality-from
    (λ ts e rest alike ends x. (x.0, x.2 ∷ x.3, x.4, (x.2, x.3, refl, x.5, (x.1, rest, x.6, (x.7, refl)))))

pub equals-end-ends : (a : PExpr) → CanEnd (EqualsEnd a)
equals-end-ends a = with_kind_ends equals (Then IsExpr (λ b. Done (I.Equality a b))) (can_end_then IsExpr (λ b. Done (I.Equality a b)) zero-expr (λ b. can_end_done (I.Equality a b)))

pub equals-follow : (a : PExpr) (ts : List Token) (e : PInscribed) (rest : List Token) → Ends 0 rest → EqualsEnd a ts e rest → Ends 4 ts
equals-follow a ts e rest ends z = subst (Ends 4) (sym z.2) (subst (λ k. strength k < 4) (sym z.3) (omega arith))

pub left_side : {tokens : List Token} {seen after : Seen} {first : Count} {around : List Level} {a : PExpr} → IsSoFar 4 IsExpr tokens seen first around (Done a) after → IsSoFar 0 IsEquality tokens seen first around (EqualsEnd a) after
left_side {tokens = tokens} {seen = seen} {first = first} p = inner_read EqualsEnd (equality_begins (drop seen.at tokens) first) equals-follow p

pub equals_read : {tokens : List Token} {seen after then : Seen} {first : Count} {a : PExpr} → IsSoFar 0 IsEquality tokens seen first [] (EqualsEnd a) after → IsNextKind tokens after.at equals → then ≡ past after →
    Stage 0 IsEquality (drop seen.at tokens) first (Then IsExpr (λ b. Done (I.Equality a b))) (drop then.at tokens) (ready [] then.operators)
equals_read {tokens = tokens} {after = after} {then = then} p next there = with_kind_read tokens after then p.stage next there refl (ap (λ ls. ready ls after.operators) p.closed)

-- an inscription that can only be an equality
zero-equality : CanEnd IsEquality
zero-equality = can_end_by (Then IsExpr EqualsEnd) IsEquality (can_end_then IsExpr EqualsEnd zero-expr equals-end-ends) equality-from

zero-inscribed : CanEnd IsInscribed
zero-inscribed = can_end_by IsEquality IsInscribed zero-equality equality-on

pub other_reads : (tokens : List Token) (seen : Seen) {t : Token} (r : Result (PInscribed × Seen) ReadFault) → IsNext tokens seen.at t → leads t.kind ≡ false → Reads 0 IsEquality tokens seen [] r → Reads 0 IsInscribed tokens seen [] r
other_reads tokens seen {t = t} r next none p = whole_reads tokens seen (ready [] seen.operators) [] r
    (change (Then IsEquality Done) (begins tokens seen)
    (λ ts e rest y. equality-on ts e rest (subst (λ b. IsEquality ts b rest) (sym y.3.0) (subst (λ us. IsEquality ts y.0 us) (sym y.3.1) y.2)))
    (λ ts e rest alike ends x. (e, rest, only ts (subst (λ us. BeginAlike us ts) next.0 alike) x, (refl, refl)))) p
  where
    only : (ts : List Token) {e : PInscribed} {rest : List Token} → BeginAlike (t ∷ drop (seen.at + 1) tokens) ts → IsInscribed ts e rest → IsEquality ts e rest
    only [] alike x = absurd (inscribed-some x)
    only (u ∷ us) alike x = other-only (ap (λ v. leads v.kind) (sym alike) ∙ none) x

-- no inscription begins with a word
pub no_word : (tokens : List Token) (seen : Seen) {t : Token} (k : ℕ) → IsNext tokens seen.at t → t.kind ≡ Word k → leads (Word k) ≡ false → Reads 0 IsInscribed tokens seen [] (Err (Fault.Stopped seen.at))
no_word tokens seen {t = t} k next is none = stuck_next tokens seen.at (begins tokens seen) (omega (arith, next.1)) zero-inscribed
    (not_alike _ (λ e rest x. inscribed-some x) (λ u us others e rest here x. let first : u ≡ t = let a = next.0 in cc in word-only k (ap (λ v. v.kind) first ∙ is) none x))

pub no_token : (tokens : List Token) (seen : Seen) → seen.at ≤ length tokens → HasNoNext tokens seen.at → Reads 0 IsInscribed tokens seen [] (Err (Fault.Stopped seen.at))
no_token tokens seen inside none = stuck_next tokens seen.at (begins tokens seen) inside zero-inscribed (not_alike _ (λ e rest x. inscribed-some x) (λ u us others e rest here x. let a = none in cc))

-- The first token may begin an equality, a creation or a downlink, and no colon follows it. So the
-- second decides, and an equality's first token is always taken.
agree_two : (t : Token) (others : List Token) → List Token → Type 0
agree_two t others [] = ⊥
agree_two t others (u ∷ us) = (t ≡ u) × BeginAlike others us

agrees : (t : Token) (others taken left ts : List Token) → t ∷ others ≡ taken ++ left → (taken ≡ [] → ⊥) → BeginAlike left ts → agree_two t others (taken ++ ts)
unfolding agree_two
agrees t others [] left ts whole some alike = absurd (some refl)
agrees t others (u ∷ us) left ts whole some alike = (let h : t ≡ u = cc in h, subst (λ vs. BeginAlike vs (us ++ ts)) (let h : us ++ left ≡ others = cc in h) (alike-append us left ts alike))

target-equality : (tokens : List Token) (seen : Seen) (t : Token) (form : PForm) → target_of t.kind ≡ Some form → IsNotNextKind tokens (seen.at + 1) colon →
    (ts : List Token) (e : PInscribed) (rest : List Token) → agree_two t (drop (seen.at + 1) tokens) ts → IsInscribed ts e rest → IsEquality ts e rest
unfolding agree_two
target-equality tokens seen t form is other [] e rest agree x = absurd agree
target-equality tokens seen t form is other (u ∷ us) e rest agree x = elim (target-only form (ap (λ v. target_of v.kind) (sym agree.0) ∙ is) x) [
  | inl y ↦ y
  | inr z ↦ absurd (let next = alike-cons (drop (seen.at + 1) tokens) z.0 z.1 (subst (λ vs. BeginAlike (drop (seen.at + 1) tokens) vs) z.2 agree.1) in other z.0 next.0 next.1 z.3)
]

-- a target can begin an equality
target-can : {t : Token} (form : PForm) → target_of t.kind ≡ Some form → CanEnd (λ ts. IsEquality (t ∷ ts))
target-can {t = t} form is = (
  any equals ∷ zero-expr.0,
  I.Equality (at_spot t.spot form) zero-expr.1,
  λ rest.
      (at_spot t.spot form, zero-expr.1, any equals, zero-expr.0 ++ rest, IsExpr.sum (IsProduct.product (IsUnary.primary (alone rest)) IsFactors.no_more_factors) IsTerms.no_more_terms, refl, zero-expr.2 rest, refl),
)
  where
    alone : (rest : List Token) → IsPrimary (t ∷ any equals ∷ (zero-expr.0 ++ rest)) (at_spot t.spot form) (any equals ∷ (zero-expr.0 ++ rest))
    alone rest = elim (targets t.kind form is) [
      | inl n ↦ subst (λ f. IsPrimary (t ∷ any equals ∷ (zero-expr.0 ++ rest)) (at_spot t.spot f) (any equals ∷ (zero-expr.0 ++ rest))) (sym n.2) (IsPrimary.name n.1)
      | inr w ↦ subst (λ f. IsPrimary (t ∷ any equals ∷ (zero-expr.0 ++ rest)) (at_spot t.spot f) (any equals ∷ (zero-expr.0 ++ rest))) (sym w.1) (IsPrimary.this w.0)
    ]

equality-some : {e : PInscribed} {rest : List Token} → IsEquality [] e rest → ⊥
equality-some y = expr-some y.4 refl

pub target_reads : (tokens : List Token) (seen : Seen) {t : Token} (form : PForm) (r : Result (PInscribed × Seen) ReadFault) → IsNext tokens seen.at t → target_of t.kind ≡ Some form → IsNotNextKind tokens (seen.at + 1) colon →
    Reads 0 IsEquality tokens seen [] r → Reads 0 IsInscribed tokens seen [] r
target_reads tokens seen {t = t} form (Ok (a, after)) next is other p = record {
  open_now = p.open_now;
  closed = p.closed;
  stage = record {
    taken = p.stage.taken;
    whole = p.stage.whole;
    on = λ ts e rest d. equality-on (p.stage.taken ++ ts) e rest (p.stage.on ts e rest d);
    only = λ ts e rest alike ends x. p.stage.only ts e rest alike ends (target-equality tokens seen t form is other (p.stage.taken ++ ts) e rest
        (agrees t (drop (seen.at + 1) tokens) p.stage.taken (drop after.at tokens) ts (sym next.0 ∙ p.stage.whole) (λ none. equality-some (subst (λ us. IsEquality (us ++ []) a []) none (p.stage.on [] a [] (refl, refl)))) alike) x);
    within = p.stage.within;
    count = p.stage.count;
  };
}
target_reads tokens seen {t = t} form (Err (Fault.Stopped k)) next is other f = let p = f.1 in (
  f.0,
  record {
    taken = p.taken;
    whole = p.whole;
    begins = (p.begins.0, p.begins.1, λ rest. equality-on (p.taken ++ (p.begins.0 ++ rest)) p.begins.1 rest (p.begins.2 rest));
    none = λ ts e rest alike ends x. p.none ts e rest alike ends (target-equality tokens seen t form is other (p.taken ++ ts) e rest
        (agrees t (drop (seen.at + 1) tokens) p.taken f.0 ts (sym next.0 ∙ p.whole) (λ none.
        let can = target-can form is in
        p.none (t ∷ (can.0 ++ [])) can.1 [] (subst (λ us. BeginAlike us (t ∷ (can.0 ++ []))) (sym next.0 ∙ p.whole ∙ ap (λ us. us ++ f.0) none) refl) tt
        (subst (λ us. IsEquality (us ++ (t ∷ (can.0 ++ []))) can.1 []) (sym none) (can.2 []))) alike) x);
    within = p.within;
  },
  f.2,
)
target_reads tokens seen form (Err (Fault.TooFar k)) next is other f = let p = f.1 in (
  f.0,
  record {
    taken = p.taken;
    token = p.token;
    others = p.others;
    next = p.next;
    whole = p.whole;
    begins = (p.begins.0, p.begins.1, λ rest. equality-on (p.taken ++ (p.token ∷ (p.begins.0 ++ rest))) p.begins.1 rest (p.begins.2 rest));
    within = p.within;
    far = p.far;
  },
  f.2,
)
target_reads tokens seen form (Err (Fault.NoMemory _)) next is other f = tt
