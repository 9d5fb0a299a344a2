-- From the items of a text to its answer.
use Rattle.rn_net.proofs.Names.{◌≡◌, ℕ, pos, zero, suc, ◌+◌, ◌<◌, ◌≤◌, inl, inr, List, [], ◌∷◌, ◌++◌, length, drop, refl, sym, ◌∙◌, ap, subst, append_assoc, arith, drop-append_seam, Result, Ok, Err, Option, IfOk, IfErr, IfSome, IfNone, longest_net_text, OneReading, OneFault, NoFaultInTokens, Tokens, FirstFault, IsSlice, Spot, Token, TokenKind, Number, LexFault, Lexed, ReadFault, TextFault, BeginAlike, IsNext, HasNoNext, IsAlone, AreTokensOf, WholeOf, after_tokens, append-nil, IsTold, stopped-ends, deep-ends, ends-fine, same_tokens, lexed_of, Plain, Refusal, IsShallow, net_counting, between, IsSystem, HaveNaturals, Spells, IsText, IsStopped, IsDeep, AreFine, IsRefused, IsReason, Answers, refusal_of, Top, Halts, Sinks, SystemAnswer, report, answer_of}
use Rattle.std.proofs.Common.{ℤ}
use Rattle.std.specs.Prelude.{Some, None}
use Rattle.std.specs.List.{AllByRecursion}
use Rattle.rn_notation.specs.Spots.{spot_after}
use Rattle.rn_notation.specs.Tokens.{IsToken}
use Rattle.rn_notation.specs.Words.{number_of}
use Rattle.rn_reading.specs.declared.fault.ReadFault.TheVariants as Fault
use Rattle.rn_reading.specs.declared.fault.TextFault.TheVariants as Why
use Rattle.rn_reading.specs.Texts as Texts
use Rattle.rn_net.specs.declared.refusal.Refusal.TheVariants as R
use Rattle.rn_net.proofs.Systems.{items-split, no-item}

abbrev pub Explains : Lexed → TextFault → Type 0
Explains lexed why = Texts.Explains net_counting between IsText lexed why

abbrev pub Settles : Lexed → Result Plain TextFault → Type 0
Settles lexed text = Texts.Settles net_counting between IsText lexed text

pub one_system : (tokens : List Token) (p q : Plain) → Top tokens [] p → IsSystem tokens q → q ≡ p
one_system tokens p q s x = elim (items-split p.notation {p = p} {e = q} {ts = []} (s.only [] q tt (subst (λ us. IsSystem us q) s.whole x))) as (λ w. q ≡ p) [
  | inl d ↦ d.1
  | inr g ↦ absurd (no-item p.notation g.0 g.1 g.2)
]

shallow : (tokens : List Token) (p : Plain) → Top tokens [] p → IsShallow between tokens
shallow tokens p s = subst (IsShallow between) (sym (s.whole ∙ append-nil s.taken)) s.within

fine : (tokens : List Token) (p : Plain) → Top tokens [] p → IsSystem tokens p → AreFine tokens
fine tokens p s x = (([], p, (subst (λ us. IsSystem us p) (sym (append-nil tokens)) x, refl)), shallow tokens p s)

-- what is left after the tokens taken
left-of : (tokens before left : List Token) (k : ℕ) → tokens ≡ before ++ left → k ≡ length before → drop k tokens ≡ left
left-of tokens before left k parts stands = ap (λ n. drop n tokens) stands ∙ ap (drop (length before)) parts ∙ drop-append_seam before left

halts-at : (tokens : List Token) (k : ℕ) (t : Token) → Halts tokens k → IsNext tokens k t → IsStopped tokens t.spot
halts-at tokens k t h next = record {
  before = h.before;
  token = t;
  left = drop (k + 1) tokens;
  parts = h.parts ∙ ap (λ us. h.before ++ us) here;
  begins = h.begins;
  none = λ b. h.none (t ∷ b.0) b.1 (subst (λ us. BeginAlike us (t ∷ b.0)) (sym here) refl) (λ e. absurd (let f = e in cc)) (subst (λ us. IsSystem us b.1) (append_assoc h.before (t ∷ []) b.0) b.2.0);
  within = h.within;
  stands = refl;
}
  where
    here : h.left ≡ t ∷ drop (k + 1) tokens
    here = sym (left-of tokens h.before h.left k h.parts h.stands) ∙ next.0

halts-end : (tokens : List Token) (k : ℕ) → Halts tokens k → HasNoNext tokens k → AreFine tokens × ((p : Plain) → IsText tokens p [] → ⊥)
halts-end tokens k h none = (
  (subst (Texts.IsBeginning IsText) same h.begins, subst (IsShallow between) same h.within),
  λ p x. h.none [] p tt (λ e. here) (subst (λ us. IsSystem us p) (h.parts ∙ ap (λ us. h.before ++ us) here) x.0),
)
  where
    here : h.left ≡ []
    here = sym (left-of tokens h.before h.left k h.parts h.stands) ∙ none

    same : h.before ≡ tokens
    same = sym (h.parts ∙ ap (λ us. h.before ++ us) here ∙ append-nil h.before)

sinks-at : (tokens : List Token) (k : ℕ) (t : Token) → Sinks tokens k → IsNext tokens k t → IsDeep tokens t.spot
sinks-at tokens k t s next = record {
  before = s.before;
  token = s.token;
  left = s.left;
  parts = s.parts;
  begins = s.begins;
  within = s.within;
  far = s.deep;
  stands = ap (λ u. u.spot) (let h : t ≡ s.token = let a = left-of tokens s.before (s.token ∷ s.left) k s.parts s.stands in let b = next.0 in cc in h);
}

-- what comes after tokens that are fine and no system
after-fine : (lexed : Lexed) (fault : Option LexFault) → lexed.fault ≡ fault → AreFine lexed.tokens → ((p : Plain) → IsText lexed.tokens p [] → ⊥) → Explains lexed (after_tokens fault lexed.end)
after-fine lexed (Some f) is x none = (is, x)
after-fine lexed None is x none = inr (is, refl, x, none)

-- the answer for the tokens of a text
pub text_settles : (lexed : Lexed) (read : Result (Plain × ℕ) ReadFault) (text : Result Plain TextFault) → SystemAnswer lexed.tokens read → WholeOf lexed read text → Settles lexed text
text_settles lexed (Ok (p, end)) (Ok q) s w = subst (IsAlone net_counting between IsText lexed) (sym w.0)
    (record { faultless = w.2; whole = (s.1, refl); only = λ e x. one_system lexed.tokens p e s.0 x.0; within = shallow lexed.tokens p s.0 })
text_settles lexed (Ok (p, end)) (Err why) s w = elim w as (λ u. Explains lexed why) [
  | inl n ↦ absurd (omega (arith, n.1.1, s.2))
  | inr n ↦ subst (Explains lexed) (sym n.3) (n.2, fine lexed.tokens p s.0 s.1)
]
text_settles lexed (Err (Fault.Stopped k)) (Err why) s w = elim w as (λ u. Explains lexed why) [
  | inl n ↦ subst (Explains lexed) (sym n.2) (inl (halts-at lexed.tokens k n.0 s n.1))
  | inr n ↦ (let r = halts-end lexed.tokens k s n.0 in subst (Explains lexed) (sym n.1) (after-fine lexed lexed.fault refl r.0 r.1))
]
text_settles lexed (Err (Fault.TooFar k)) (Err why) s w = elim w as (λ u. Explains lexed why) [
  | inl n ↦ subst (Explains lexed) (sym n.2) (sinks-at lexed.tokens k n.0 s n.1)
  | inr n ↦ absurd (let a = left-of lexed.tokens s.before (s.token ∷ s.left) k s.parts s.stands in let b = n in cc)
]
text_settles lexed (Err (Fault.NoMemory _)) (Err why) s w = subst (Explains lexed) (sym w) tt
text_settles lexed (Err (Fault.Stopped k)) (Ok q) s w = absurd w
text_settles lexed (Err (Fault.TooFar k)) (Ok q) s w = absurd w
text_settles lexed (Err (Fault.NoMemory _)) (Ok q) s w = absurd w

-- the numbers of a text aren't negative
all-drop : (P : Token → Type 0) (at : ℕ) (ts : List Token) → AllByRecursion P ts → AllByRecursion P (drop at ts)
all-drop P zero ts h = h
all-drop P (suc n) [] h = h
all-drop P (suc n) (t ∷ ts) h = all-drop P n ts h.1

natural : {kind : TokenKind} {word rest : List ℕ} (n : ℤ) → IsToken kind word rest → kind ≡ Number n → (m : ℕ) × (n ≡ pos m)
natural n (IsToken.name a b c) e = absurd (let f = e in cc)
natural n (IsToken.word a b c) e = absurd (let f = e in cc)
natural n (IsToken.number {digits = digits} a b c) e = (number_of digits, let f = e in cc)
natural n (IsToken.text parts a) e = absurd (let f = e in cc)
natural n (IsToken.sign a b c) e = absurd (let f = e in cc)

pub naturals : (bytes : List ℕ) (tokens : List Token) → AllByRecursion (IsSlice bytes) tokens → HaveNaturals tokens
naturals bytes tokens all = λ at t n next is.
    let h = subst (AllByRecursion (IsSlice bytes)) next.0 (all-drop (IsSlice bytes) at tokens all) in natural n h.0.stands is

-- what was lexed of a text
pub record LexedOf (bytes : List ℕ) (lexed : Lexed) : Type 0 where
  pub fits : length bytes ≤ longest_net_text
  pub tokens : IfNone lexed.fault (Tokens bytes lexed.tokens)
  pub fault : IfSome lexed.fault (FirstFault bytes lexed.tokens)
  pub end : lexed.end ≡ spot_after bytes

pub tokens_of : {bytes : List ℕ} {lexed : Lexed} → LexedOf bytes lexed → AreTokensOf bytes lexed.tokens
tokens_of {lexed = lexed} of = lexed_of lexed.fault of.tokens of.fault

pub told_refused : (bytes : List ℕ) (lexed : Lexed) (why : TextFault) → LexedOf bytes lexed → IsTold why → Explains lexed why → IsRefused bytes (report why)
told_refused bytes lexed (Why.Stopped spot) of told (inl x) = IsRefused.stopped of.fits (tokens_of of) x
told_refused bytes lexed (Why.Stopped spot) of told (inr x) = subst (λ s. IsRefused bytes (R.P2 s)) (sym (x.1 ∙ of.end))
    (IsRefused.unfinished of.fits (subst (λ o. IfNone o (Tokens bytes lexed.tokens)) x.0 of.tokens) x.2 (λ p y. x.3 p (y, refl)))
told_refused bytes lexed (Why.TooFar spot) of told x = IsRefused.deep of.fits (tokens_of of) x
told_refused bytes lexed (Why.Lexical fault) of told x = IsRefused.faulty of.fits (subst (λ o. IfSome o (FirstFault bytes lexed.tokens)) x.0 of.fault) x.1
told_refused bytes lexed (Why.NoMemory _) of told x = absurd told

-- what is said of each refusal but for want of memory
reasoned : (bytes : List ℕ) (q : Refusal) → IsRefused bytes q → IsReason bytes q
reasoned bytes (R.P1 s) x = x
reasoned bytes (R.P2 s) x = x
reasoned bytes (R.P3 s) x = x
reasoned bytes (R.P4 s) x = x
reasoned bytes (R.P5 s) x = x
reasoned bytes (R.P6 s) x = x
reasoned bytes (R.P7 s) x = x
reasoned bytes (R.NoMemory _) x = tt

pub text_refused : (bytes : List ℕ) (lexed : Lexed) (text : Result Plain TextFault) → LexedOf bytes lexed → Settles lexed text → IfErr (answer_of text) (λ refusal. IsReason bytes refusal)
text_refused bytes lexed (Ok p) of s = tt
text_refused bytes lexed (Err (Why.Stopped x)) of s = told_refused bytes lexed (Why.Stopped x) of tt s
text_refused bytes lexed (Err (Why.TooFar x)) of s = told_refused bytes lexed (Why.TooFar x) of tt s
text_refused bytes lexed (Err (Why.Lexical f)) of s = reasoned bytes (refusal_of f) (told_refused bytes lexed (Why.Lexical f) of tt s)
text_refused bytes lexed (Err (Why.NoMemory _)) of s = tt

pub text_read : (bytes : List ℕ) (lexed : Lexed) (text : Result Plain TextFault) → LexedOf bytes lexed → Settles lexed text → IfOk (answer_of text) (λ plain. Spells bytes plain)
text_read bytes lexed (Ok p) of s = record { tokens = lexed.tokens; fits = of.fits; read = subst (λ o. IfNone o (Tokens bytes lexed.tokens)) s.faultless of.tokens; system = s.whole.0; within = s.within }
text_read bytes lexed (Err why) of s = tt

pub spelled-alone : OneReading → OneFault → NoFaultInTokens → {bytes : List ℕ} {p : Plain} {r : Refusal} → Spells bytes p → IsRefused bytes r → ⊥
spelled-alone one only apart {bytes = bytes} {p = p} s x = by x
  where
    fine-in : (ts : List Token) → AreTokensOf bytes ts → AreFine ts
    fine-in ts of = subst AreFine (same_tokens one only apart bytes s.tokens ts (inl s.read) of)
        (([], p, (subst (λ us. IsSystem us p) (sym (append-nil s.tokens)) s.system, refl)), s.within)

    by : {r : Refusal} → IsRefused bytes r → ⊥
    by (IsRefused.too_long h) = let f = s.fits in omega (arith, h, f)
    by (IsRefused.stopped {tokens = ts} fits of y) = ends-fine net_counting between IsText (stopped-ends net_counting between IsText y) (fine-in ts of)
    by (IsRefused.deep {tokens = ts} fits of y) = ends-fine net_counting between IsText (deep-ends net_counting between IsText y) (fine-in ts of)
    by (IsRefused.faulty {tokens = ts} {fault = f} fits y z) = apart bytes s.tokens ts f s.read y
    by (IsRefused.unfinished {tokens = ts} fits y z none) = none p (subst (λ us. IsSystem us p) (one bytes s.tokens ts s.read y) s.system)

pub text_reads : OneReading → OneFault → NoFaultInTokens → (bytes : List ℕ) (lexed : Lexed) (text : Result Plain TextFault) → LexedOf bytes lexed → Settles lexed text → (plain : Plain) → Spells bytes plain → Answers (answer_of text) (Ok plain)
text_reads one only apart bytes lexed (Ok q) of s plain x =
    ap Ok (sym (s.only plain (subst (λ us. IsSystem us plain) (same_tokens one only apart bytes x.tokens lexed.tokens (inl x.read) (tokens_of of)) x.system, refl)))
text_reads one only apart bytes lexed (Err (Why.NoMemory _)) of s plain x = tt
text_reads one only apart bytes lexed (Err (Why.Stopped y)) of s plain x = absurd (spelled-alone one only apart x (told_refused bytes lexed (Why.Stopped y) of tt s))
text_reads one only apart bytes lexed (Err (Why.TooFar y)) of s plain x = absurd (spelled-alone one only apart x (told_refused bytes lexed (Why.TooFar y) of tt s))
text_reads one only apart bytes lexed (Err (Why.Lexical f)) of s plain x = absurd (spelled-alone one only apart x (told_refused bytes lexed (Why.Lexical f) of tt s))

pub long_reads : (bytes : List ℕ) (spot : Spot) → longest_net_text < length bytes → (plain : Plain) → Spells bytes plain → Answers (Err (R.P6 spot)) (Ok plain)
long_reads bytes spot long plain x = absurd (let f = x.fits in omega (arith, long, f))
