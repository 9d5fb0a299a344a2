-- Whole texts: what was read of the tokens decides, and no two reasons of a text differ.
use Rattle.std.proofs.Common.{◌≡◌, ℕ, ◌+◌, ◌⊎◌, inl, inr, true, false, List, [], ◌∷◌, ◌++◌, length, drop, refl, sym, ◌∙◌, ap, subst, append_assoc, arith, Option, Some, None}
use Rattle.std.specs.Prelude.{Result, Ok, Err, IfSome, IfNone}
use Rattle.std.proofs.Math.ListN.{length-append}
use Rattle.rn_notation.specs.Laws.{OneReading, OneFault, NoFaultInTokens}
use Rattle.rn_notation.specs.Reading.{Tokens, FirstFault}
use Rattle.rn_notation.specs.declared.token.Token.{Token}
use Rattle.rn_notation.specs.declared.token.Spot.{Spot}
use Rattle.rn_notation.specs.declared.token.LexFault.{LexFault}
use Rattle.rn_notation.specs.declared.token.Lexed.{Lexed}
use Rattle.rn_reading.specs.declared.fault.ReadFault.{ReadFault}
use Rattle.rn_reading.specs.declared.fault.ReadFault.TheVariants as Fault
use Rattle.rn_reading.specs.declared.fault.TextFault.{TextFault}
use Rattle.rn_reading.specs.declared.fault.TextFault.TheVariants as Why
use Rattle.rn_reading.specs.Phrases.{Phrases}
use Rattle.rn_reading.specs.Counting.{Counting, count_after, IsWithin}
use Rattle.rn_reading.specs.link.Stages.{Following, Stage, IsStuck, IsTooFar, Reads, done, BeginAlike, IsNext, HasNoNext}
use Rattle.rn_reading.specs.Texts.{IsWhole, IsBeginning, IsStopped, IsDeep, AreFine, AreTokensOf, Explains, IsAlone, Settles, WholeOf, after_tokens}
use Rattle.rn_reading.proofs.Steps.{append-nil}

-- one list is the beginning of another, or the other of it
pub split-at : (a b c d : List Token) → a ++ b ≡ c ++ d →
    ((m : List Token) × (c ≡ a ++ m) × (b ≡ m ++ d)) ⊎ ((u : Token) × (m : List Token) × (a ≡ c ++ u ∷ m) × (d ≡ u ∷ (m ++ b)))
split-at [] b c d e = inl (c, refl, e)
split-at (x ∷ a) b [] d e = inr (x, a, refl, sym e)
split-at (x ∷ a) b (y ∷ c) d e =
    let same : x ≡ y = let h = e in cc in
    let tail : a ++ b ≡ c ++ d = let h = e in cc in
    elim (split-at a b c d tail) as (λ w. ((m : List Token) × (y ∷ c ≡ (x ∷ a) ++ m) × (b ≡ m ++ d)) ⊎ ((u : Token) × (m : List Token) × (x ∷ a ≡ (y ∷ c) ++ u ∷ m) × (d ≡ u ∷ (m ++ b)))) [
      | inl g ↦ inl (g.0, (let h = same in let k = g.1 in cc), g.2)
      | inr g ↦ inr (g.0, g.1, (let h = same in let k = g.2 in cc), g.3)
    ]

pub begins-front : {A : Type 0} (X : Phrases A) (a b : List Token) → IsBeginning X (a ++ b) → IsBeginning X a
begins-front X a b x = (b ++ x.0, x.1, subst (λ us. X us x.1 []) (append_assoc a b x.0) x.2)

pub within-at : (C : Counting) (c : C.Count) (a : List Token) (t : Token) (m : List Token) → IsWithin C c (a ++ t ∷ m) → C.is_too_far (count_after C c a) t.kind ≡ false
within-at C c [] t m h = h.0
within-at C c (x ∷ a) t m h = within-at C (C.after c x.kind) a t m h.1

-- a token at which reading ends: with it the tokens are no beginning, or it goes too far
pub record Ends (C : Counting) (first : C.Count) {A : Type 0} (X : Phrases A) (tokens : List Token) (spot : Spot) : Type 0 where
  pub before : List Token
  pub token : Token
  pub left : List Token
  pub parts : tokens ≡ before ++ token ∷ left
  pub begins : IsBeginning X before
  pub within : IsWithin C first before
  pub why : (IsBeginning X (before ++ token ∷ []) → ⊥) ⊎ (C.is_too_far (count_after C first before) token.kind ≡ true)
  pub stands : spot ≡ token.spot

unfoldable pub stopped-ends : (C : Counting) (first : C.Count) {A : Type 0} (X : Phrases A) {tokens : List Token} {spot : Spot} → IsStopped C first X tokens spot → Ends C first X tokens spot
stopped-ends C first X s = record { before = s.before; token = s.token; left = s.left; parts = s.parts; begins = s.begins; within = s.within; why = inl s.none; stands = s.stands }

unfoldable pub deep-ends : (C : Counting) (first : C.Count) {A : Type 0} (X : Phrases A) {tokens : List Token} {spot : Spot} → IsDeep C first X tokens spot → Ends C first X tokens spot
deep-ends C first X s = record { before = s.before; token = s.token; left = s.left; parts = s.parts; begins = begins-front X s.before (s.token ∷ []) s.begins; within = s.within; why = inr s.far; stands = s.stands }

not-on : (C : Counting) (first : C.Count) {A : Type 0} (X : Phrases A) {tokens : List Token} {spot : Spot} (e : Ends C first X tokens spot) (m ts : List Token) → ts ≡ e.before ++ e.token ∷ m → IsBeginning X ts → IsWithin C first ts → ⊥
not-on C first X e m ts is b w = elim e.why as (λ x. ⊥) [
  | inl none ↦ none (begins-front X (e.before ++ e.token ∷ []) m (subst (IsBeginning X) (is ∙ sym (append_assoc e.before (e.token ∷ []) m)) b))
  | inr deep ↦ (let no = within-at C first e.before e.token m (subst (IsWithin C first) is w) in let yes = deep in cc)
]

pub ends-fine : (C : Counting) (first : C.Count) {A : Type 0} (X : Phrases A) {tokens : List Token} {spot : Spot} → Ends C first X tokens spot → AreFine C first X tokens → ⊥
ends-fine C first X {tokens = tokens} e f = not-on C first X e e.left tokens e.parts f.0 f.1

-- two tokens at which reading ends are one
same-end : (C : Counting) (first : C.Count) {A : Type 0} (X : Phrases A) {tokens : List Token} {s t : Spot} (e : Ends C first X tokens s) (f : Ends C first X tokens t) → (e.before ≡ f.before) × (e.token ≡ f.token)
same-end C first X e f = elim (split-at e.before (e.token ∷ e.left) f.before (f.token ∷ f.left) (sym e.parts ∙ f.parts)) as (λ w. (e.before ≡ f.before) × (e.token ≡ f.token)) [
  | inl g ↦ at g.0 g.1 g.2
  | inr g ↦ absurd (not-on C first X f g.1 e.before (g.2 ∙ ap (λ u. f.before ++ u ∷ g.1) (let h : g.0 ≡ f.token = let is = g.3 in cc in h)) e.begins e.within)
]
  where
    at : (m : List Token) → f.before ≡ e.before ++ m → e.token ∷ e.left ≡ m ++ f.token ∷ f.left → (e.before ≡ f.before) × (e.token ≡ f.token)
    at [] is next = (sym (is ∙ append-nil e.before), (let h : e.token ≡ f.token = let n = next in cc in h))
    at (x ∷ m) is next = absurd (not-on C first X e m f.before (is ∙ ap (λ u. e.before ++ u ∷ m) (let h : x ≡ e.token = let n = next in cc in h)) f.begins f.within)

both-stopped : (C : Counting) (first : C.Count) {A : Type 0} (X : Phrases A) {tokens : List Token} {s t : Spot} → IsStopped C first X tokens s → IsStopped C first X tokens t → s ≡ t
unfolding stopped-ends
both-stopped C first X x y = x.stands ∙ ap (λ u. u.spot) (same-end C first X (stopped-ends C first X x) (stopped-ends C first X y)).1 ∙ sym y.stands

both-deep : (C : Counting) (first : C.Count) {A : Type 0} (X : Phrases A) {tokens : List Token} {s t : Spot} → IsDeep C first X tokens s → IsDeep C first X tokens t → s ≡ t
unfolding deep-ends
both-deep C first X x y = x.stands ∙ ap (λ u. u.spot) (same-end C first X (deep-ends C first X x) (deep-ends C first X y)).1 ∙ sym y.stands

not-both : (C : Counting) (first : C.Count) {A : Type 0} (X : Phrases A) {tokens : List Token} {s t : Spot} → IsStopped C first X tokens s → IsDeep C first X tokens t → ⊥
unfolding stopped-ends deep-ends
not-both C first X x y = let same = same-end C first X (stopped-ends C first X x) (deep-ends C first X y) in
    x.none (subst (λ us. IsBeginning X (us ++ x.token ∷ [])) (sym same.0) (subst (λ u. IsBeginning X (y.before ++ u ∷ [])) (sym same.1) y.begins))

stopped-fine : (C : Counting) (first : C.Count) {A : Type 0} (X : Phrases A) {tokens : List Token} {s : Spot} → IsStopped C first X tokens s → AreFine C first X tokens → ⊥
stopped-fine C first X x f = ends-fine C first X (stopped-ends C first X x) f

deep-fine : (C : Counting) (first : C.Count) {A : Type 0} (X : Phrases A) {tokens : List Token} {s : Spot} → IsDeep C first X tokens s → AreFine C first X tokens → ⊥
deep-fine C first X x f = ends-fine C first X (deep-ends C first X x) f

-- what is reported of a text but for want of memory
abbrev pub IsTold : TextFault → Type 0
IsTold (Why.NoMemory _) = ⊥
IsTold _ = Unit {0}

-- a text is refused for one reason
pub one_reason : (C : Counting) (first : C.Count) {A : Type 0} (X : Phrases A) (lexed : Lexed) (r q : TextFault) → IsTold r → IsTold q → Explains C first X lexed r → Explains C first X lexed q → r ≡ q
one_reason C first X lexed (Why.Stopped s) (Why.Stopped t) told also (inl x) (inl y) = ap Why.Stopped (both-stopped C first X x y)
one_reason C first X lexed (Why.Stopped s) (Why.Stopped t) told also (inl x) (inr y) = absurd (stopped-fine C first X x y.2)
one_reason C first X lexed (Why.Stopped s) (Why.Stopped t) told also (inr x) (inl y) = absurd (stopped-fine C first X y x.2)
one_reason C first X lexed (Why.Stopped s) (Why.Stopped t) told also (inr x) (inr y) = ap Why.Stopped (x.1 ∙ sym y.1)
one_reason C first X lexed (Why.Stopped s) (Why.TooFar t) told also (inl x) y = absurd (not-both C first X x y)
one_reason C first X lexed (Why.Stopped s) (Why.TooFar t) told also (inr x) y = absurd (deep-fine C first X y x.2)
one_reason C first X lexed (Why.Stopped s) (Why.Lexical f) told also (inl x) y = absurd (stopped-fine C first X x y.1)
one_reason C first X lexed (Why.Stopped s) (Why.Lexical f) told also (inr x) y = absurd (let a = x.0 in let b = y.0 in cc)
one_reason C first X lexed (Why.TooFar s) (Why.Stopped t) told also x (inl y) = absurd (not-both C first X y x)
one_reason C first X lexed (Why.TooFar s) (Why.Stopped t) told also x (inr y) = absurd (deep-fine C first X x y.2)
one_reason C first X lexed (Why.TooFar s) (Why.TooFar t) told also x y = ap Why.TooFar (both-deep C first X x y)
one_reason C first X lexed (Why.TooFar s) (Why.Lexical f) told also x y = absurd (deep-fine C first X x y.1)
one_reason C first X lexed (Why.Lexical f) (Why.Stopped t) told also x (inl y) = absurd (stopped-fine C first X y x.1)
one_reason C first X lexed (Why.Lexical f) (Why.Stopped t) told also x (inr y) = absurd (let a = x.0 in let b = y.0 in cc)
one_reason C first X lexed (Why.Lexical f) (Why.TooFar t) told also x y = absurd (deep-fine C first X y x.1)
one_reason C first X lexed (Why.Lexical f) (Why.Lexical g) told also x y = ap Why.Lexical (let h : f ≡ g = let a = x.0 in let b = y.0 in cc in h)
one_reason C first X lexed (Why.NoMemory _) q told also x y = absurd told
one_reason C first X lexed r (Why.NoMemory _) told also x y = absurd also

-- a text that is a whole phrase is refused for no reason
pub alone_refused : (C : Counting) (first : C.Count) {A : Type 0} (X : Phrases A) (lexed : Lexed) (a : A) (q : TextFault) → IsTold q → lexed.fault ≡ None → IsWhole X lexed.tokens a → IsWithin C first lexed.tokens → Explains C first X lexed q → ⊥
alone_refused C first X lexed a q told faultless whole within x = by q told x
  where
    fine : AreFine C first X lexed.tokens
    fine = (([], a, subst (λ us. X us a []) (sym (append-nil lexed.tokens)) whole), within)

    by : (q : TextFault) → IsTold q → Explains C first X lexed q → ⊥
    by (Why.Stopped s) told (inl y) = stopped-fine C first X y fine
    by (Why.Stopped s) told (inr y) = y.3 a whole
    by (Why.TooFar s) told y = deep-fine C first X y fine
    by (Why.Lexical f) told y = let h = y.0 in let g = faultless in cc
    by (Why.NoMemory _) told y = told

-- what is left after the tokens taken
drop-append : (before left : List Token) → drop (length before) (before ++ left) ≡ left
drop-append [] left = refl
drop-append (t ∷ before) left = drop-append before left

taken-length : (tokens taken left : List Token) (k : ℕ) → tokens ≡ taken ++ left → k + length left ≡ length tokens → k ≡ length taken
taken-length tokens taken left k whole total = let h : length tokens ≡ length taken + length left = ap length whole ∙ length-append taken left in omega (arith, h, total)

left-of : (tokens taken left : List Token) (k : ℕ) → tokens ≡ taken ++ left → k + length left ≡ length tokens → drop k tokens ≡ left
left-of tokens taken left k whole total = ap (λ n. drop n tokens) (taken-length tokens taken left k whole total) ∙ ap (drop (length taken)) whole ∙ drop-append taken left

-- reading got stuck at a token, or at the end
stuck-at : (C : Counting) (F : Following) (first : C.Count) {A : Type 0} (X : Phrases A) (tokens left : List Token) (k : ℕ) (t : Token) → F [] → IsStuck C F X tokens first left → k + length left ≡ length tokens → IsNext tokens k t → IsStopped C first X tokens t.spot
stuck-at C F first X tokens left k t ends s total next = record {
  before = s.taken;
  token = t;
  left = drop (k + 1) tokens;
  parts = s.whole ∙ ap (λ us. s.taken ++ us) here;
  begins = (s.begins.0, s.begins.1, subst (λ us. X (s.taken ++ us) s.begins.1 []) (append-nil s.begins.0) (s.begins.2 []));
  none = λ b. s.none (t ∷ b.0) b.1 [] (subst (λ us. BeginAlike us (t ∷ b.0)) (sym here) refl) ends (subst (λ us. X us b.1 []) (append_assoc s.taken (t ∷ []) b.0) b.2);
  within = s.within;
  stands = refl;
}
  where
    here : left ≡ t ∷ drop (k + 1) tokens
    here = sym (left-of tokens s.taken left k s.whole total) ∙ next.0

stuck-end : (C : Counting) (F : Following) (first : C.Count) {A : Type 0} (X : Phrases A) (tokens left : List Token) (k : ℕ) → F [] → IsStuck C F X tokens first left → k + length left ≡ length tokens → HasNoNext tokens k →
    AreFine C first X tokens × ((a : A) → IsWhole X tokens a → ⊥)
stuck-end C F first X tokens left k ends s total none = (
  (subst (IsBeginning X) same (s.begins.0, s.begins.1, subst (λ us. X (s.taken ++ us) s.begins.1 []) (append-nil s.begins.0) (s.begins.2 [])), subst (IsWithin C first) same s.within),
  λ a x. s.none [] a [] tt ends (subst (λ us. X us a []) (s.whole ∙ ap (λ us. s.taken ++ us) here) x),
)
  where
    here : left ≡ []
    here = sym (left-of tokens s.taken left k s.whole total) ∙ none

    same : s.taken ≡ tokens
    same = sym (s.whole ∙ ap (λ us. s.taken ++ us) here ∙ append-nil s.taken)

far-at : (C : Counting) (first : C.Count) {A : Type 0} (X : Phrases A) (tokens left : List Token) (k : ℕ) (t : Token) → IsTooFar C X tokens first left → k + length left ≡ length tokens → IsNext tokens k t → IsDeep C first X tokens t.spot
far-at C first X tokens left k t s total next = record {
  before = s.taken;
  token = s.token;
  left = s.others;
  parts = s.whole ∙ ap (λ us. s.taken ++ us) s.next;
  begins = (s.begins.0, s.begins.1, subst (λ us. X us s.begins.1 []) (sym (append_assoc s.taken (s.token ∷ []) s.begins.0)) (subst (λ us. X (s.taken ++ s.token ∷ us) s.begins.1 []) (append-nil s.begins.0) (s.begins.2 [])));
  within = s.within;
  far = s.far;
  stands = ap (λ u. u.spot) (let h : t ≡ s.token = let a = left-of tokens s.taken left k s.whole total in let b = next.0 in let c = s.next in cc in h);
}

far-somewhere : (C : Counting) (first : C.Count) {A : Type 0} (X : Phrases A) (tokens left : List Token) (k : ℕ) → IsTooFar C X tokens first left → k + length left ≡ length tokens → HasNoNext tokens k → ⊥
far-somewhere C first X tokens left k s total none = let a = left-of tokens s.taken left k s.whole total in let b = none in let c = s.next in cc

-- a phrase was read, up to a token or up to the end
read-at : (C : Counting) (F : Following) (first last : C.Count) {A : Type 0} (X : Phrases A) (tokens : List Token) (end : ℕ) (a : A) (t : Token) → F [] → Stage C F X tokens first (done a) (drop end tokens) last → IsNext tokens end t → IsStopped C first X tokens t.spot
read-at C F first last X tokens end a t ends s next = record {
  before = s.taken;
  token = t;
  left = drop (end + 1) tokens;
  parts = s.whole ∙ ap (λ us. s.taken ++ us) next.0;
  begins = ([], a, s.on [] a [] (refl, refl));
  none = λ b. (let d = s.only (t ∷ b.0) b.1 [] (subst (λ us. BeginAlike us (t ∷ b.0)) (sym next.0) refl) ends (subst (λ us. X us b.1 []) (append_assoc s.taken (t ∷ []) b.0) b.2) in let e = d.1 in cc);
  within = s.within;
  stands = refl;
}

read-end : (C : Counting) (F : Following) (first last : C.Count) {A : Type 0} (X : Phrases A) (tokens : List Token) (end : ℕ) (a : A) → F [] → Stage C F X tokens first (done a) (drop end tokens) last → HasNoNext tokens end →
    IsWhole X tokens a × ((b : A) → IsWhole X tokens b → b ≡ a) × IsWithin C first tokens
read-end C F first last X tokens end a ends s none = (
  subst (λ us. X us a []) (sym whole) (s.on [] a [] (refl, refl)),
  (λ b x. (s.only [] b [] tt ends (subst (λ us. X us b []) whole x)).0),
  subst (IsWithin C first) same s.within,
)
  where
    whole : tokens ≡ s.taken ++ []
    whole = s.whole ∙ ap (λ us. s.taken ++ us) none

    same : s.taken ≡ tokens
    same = sym (whole ∙ append-nil s.taken)

-- what comes after tokens that are fine and no whole phrase
after-fine : (C : Counting) (first : C.Count) {A : Type 0} (X : Phrases A) (lexed : Lexed) (fault : Option LexFault) → lexed.fault ≡ fault → AreFine C first X lexed.tokens → ((fault ≡ None) → (a : A) → IsWhole X lexed.tokens a → ⊥) →
    Explains C first X lexed (after_tokens fault lexed.end)
after-fine C first X lexed (Some f) is fine none = (is, fine)
after-fine C first X lexed None is fine none = inr (is, refl, fine, none refl)

-- the answer for a whole text is right
pub whole_settles : (C : Counting) (F : Following) (first last : C.Count) {A : Type 0} (X : Phrases A) (lexed : Lexed) (read : Result (A × ℕ) ReadFault) (result : Result A TextFault) → F [] →
    Reads C F X lexed.tokens 0 first last read → WholeOf lexed read result → Settles C first X lexed result
whole_settles C F first last X lexed (Ok (a, end)) (Ok b) ends s w =
    let r = read-end C F first last X lexed.tokens end a ends s w.1 in
    subst (IsAlone C first X lexed) (sym w.0) (record { faultless = w.2; whole = r.0; only = r.1; within = r.2 })
whole_settles C F first last X lexed (Ok (a, end)) (Err why) ends s w = elim w as (λ u. Explains C first X lexed why) [
  | inl n ↦ subst (Explains C first X lexed) (sym n.2) (inl (read-at C F first last X lexed.tokens end a n.0 ends s n.1))
  | inr n ↦ (let r = read-end C F first last X lexed.tokens end a ends s n.1 in
      subst (Explains C first X lexed) (sym n.3) (n.2, (([], a, subst (λ us. X us a []) (sym (append-nil lexed.tokens)) r.0), r.2)))
]
whole_settles C F first last X lexed (Err (Fault.Stopped k)) (Err why) ends s w = elim w as (λ u. Explains C first X lexed why) [
  | inl n ↦ subst (Explains C first X lexed) (sym n.2) (inl (stuck-at C F first X lexed.tokens s.0 k n.0 ends s.1 s.2 n.1))
  | inr n ↦ (let r = stuck-end C F first X lexed.tokens s.0 k ends s.1 s.2 n.0 in
      subst (Explains C first X lexed) (sym n.1) (after-fine C first X lexed lexed.fault refl r.0 (λ is. r.1)))
]
whole_settles C F first last X lexed (Err (Fault.TooFar k)) (Err why) ends s w = elim w as (λ u. Explains C first X lexed why) [
  | inl n ↦ subst (Explains C first X lexed) (sym n.2) (far-at C first X lexed.tokens s.0 k n.0 s.1 s.2 n.1)
  | inr n ↦ absurd (far-somewhere C first X lexed.tokens s.0 k s.1 s.2 n)
]
whole_settles C F first last X lexed (Err (Fault.NoMemory _)) (Err why) ends s w = subst (Explains C first X lexed) (sym w) tt
whole_settles C F first last X lexed (Err (Fault.Stopped k)) (Ok b) ends s w = absurd w
whole_settles C F first last X lexed (Err (Fault.TooFar k)) (Ok b) ends s w = absurd w
whole_settles C F first last X lexed (Err (Fault.NoMemory _)) (Ok b) ends s w = absurd w

-- the tokens of a text up to its first fault are one list
pub same_tokens : OneReading → OneFault → NoFaultInTokens → (bytes : List ℕ) (s t : List Token) → AreTokensOf bytes s → AreTokensOf bytes t → s ≡ t
same_tokens one only apart bytes s t (inl x) (inl y) = one bytes s t x y
same_tokens one only apart bytes s t (inl x) (inr y) = absurd (apart bytes s t y.0 x y.1)
same_tokens one only apart bytes s t (inr x) (inl y) = absurd (apart bytes t s x.0 y x.1)
same_tokens one only apart bytes s t (inr x) (inr y) = (only bytes s t x.0 y.0 x.1 y.1).0

-- tokens without a fault, or up to the first one, are those of the text
pub lexed_of : {bytes : List ℕ} {tokens : List Token} (fault : Option LexFault) → IfNone fault (Tokens bytes tokens) → IfSome fault (FirstFault bytes tokens) → AreTokensOf bytes tokens
lexed_of None none some = inl none
lexed_of (Some f) none some = inr (f, some)
