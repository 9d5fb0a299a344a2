-- How the stages of a reading follow one another.
use Rattle.std.proofs.Common.{◌≡◌, ℕ, ◌+◌, ◌<◌, ◌≤◌, inl, inr, true, false, List, [], ◌∷◌, ◌++◌, length, drop, refl, sym, ◌∙◌, ap, subst, append_assoc, arith, Option, Some, None, slice_get}
use Rattle.std.specs.Prelude.{Result, Err, MatchOption}
use Rattle.std.specs.Option.{option_map}
use Rattle.std.specs.Result.{IsErrAnd}
use Rattle.std.proofs.lemmas.Result.{err_from_is_err_and}
use Rattle.std.proofs.lemmas.Option.{slice_get_within, get_or_from_slice_get, slice_get_cases}
use Rattle.std.proofs.lemmas.List.{drop_more, drop_all}
use Rattle.std.proofs.Math.ListN.{length-drop}
use Rattle.rn_notation.specs.StoredTokens.{lent}
use Rattle.rn_notation.specs.declared.token.Token.{Token}
use Rattle.rn_notation.specs.declared.token.TokenRef.{TokenRef}
use Rattle.rn_reading.specs.declared.fault.ReadFault.{ReadFault}
use Rattle.rn_reading.specs.declared.fault.ReadFault.TheVariants as Fault
use Rattle.rn_reading.specs.Phrases.{Phrases, Then, Done}
use Rattle.rn_reading.specs.Counting.{Counting, count_after, IsWithin}
use Rattle.rn_reading.specs.link.Stages.{Following, Progress, Stage, IsStuck, IsTooFar, Fails, Reads, done, BeginAlike, CanEnd, IsNext, HasNoNext}

-- the next token, as a list of tokens lends it
pub next_lent : (tokens : List Token) (at : ℕ) (t : Option TokenRef) → option_map lent t ≡ slice_get tokens at →
    MatchOption t (HasNoNext tokens at) (λ t. IsNext tokens at (lent t))
next_lent tokens at None is = elim (slice_get_cases tokens at).1 as (λ w. drop at tokens ≡ []) [
  | inl d ↦ absurd (let some = d.2 in cc)
  | inr d ↦ drop_all at tokens d.0
]
next_lent tokens at (Some t) is =
    let within : at < length tokens = slice_get_within tokens at (lent t) (sym is) in
    (drop_more tokens at (lent t) within ∙ ap (λ x. x ∷ drop (at + 1) tokens) (get_or_from_slice_get tokens at (lent t) (lent t) (sym is)), within)

pub index-of : (at : ℕ) (tokens : List Token) → at ≤ length tokens → at + length (drop at tokens) ≡ length tokens
index-of at tokens h = omega (arith, length-drop at tokens)

pub append-nil : {A : Type 0} (xs : List A) → xs ++ [] ≡ xs
append-nil [] = refl
append-nil (x ∷ xs) = ap (λ ys. x ∷ ys) (append-nil xs)

pub alike-cons : (ts : List Token) (u : Token) (us : List Token) → BeginAlike ts (u ∷ us) → (others : List Token) × (ts ≡ u ∷ others)
alike-cons [] u us alike = absurd alike
alike-cons (t ∷ ts) u us alike = (ts, ap (λ x. x ∷ ts) alike)

pub alike-append : (ts us vs : List Token) → BeginAlike us vs → BeginAlike (ts ++ us) (ts ++ vs)
alike-append [] us vs alike = alike
alike-append (t ∷ ts) us vs alike = refl

pub count-append : (C : Counting) (c : C.Count) (ts us : List Token) → count_after C c (ts ++ us) ≡ count_after C (count_after C c ts) us
count-append C c [] us = refl
count-append C c (t ∷ ts) us = count-append C (C.after c t.kind) ts us

pub within-append : (C : Counting) (c : C.Count) (ts us : List Token) → IsWithin C c ts → IsWithin C (count_after C c ts) us → IsWithin C c (ts ++ us)
within-append C c [] us first second = second
within-append C c (t ∷ ts) us first second = (first.0, within-append C (C.after c t.kind) ts us first.1 second)

-- nothing was taken; the phrase in other words
pub begin : (C : Counting) (F : Following) {A : Type 0} {X : Phrases A} (Y : Phrases A) (start : List Token) (first : C.Count) →
    ((ts : List Token) (e : A) (rest : List Token) → Y ts e rest → X ts e rest) →
    ((ts : List Token) (e : A) (rest : List Token) → BeginAlike start ts → X ts e rest → Y ts e rest) →
    Progress C F X start first Y start first
begin C F Y start first on only = record {
  taken = [];
  whole = refl;
  on = on;
  only = λ ts e rest alike follows x. only ts e rest alike x;
  within = tt;
  count = refl;
}

-- nothing was taken of such a phrase
pub begin_itself : (C : Counting) (F : Following) {A : Type 0} (Y : Phrases A) (start : List Token) (first : C.Count) → Progress C F Y start first Y start first
begin_itself C F Y start first = begin C F Y start first (λ ts e rest x. x) (λ ts e rest alike x. x)

-- what is left is said in other words, which the next token may decide, and what may follow
pub change : (C : Counting) (F : Following) {A : Type 0} {X Y : Phrases A} {start left : List Token} {first now : C.Count} (Z : Phrases A) →
    Progress C F X start first Y left now →
    ((ts : List Token) (e : A) (rest : List Token) → Z ts e rest → Y ts e rest) →
    ((ts : List Token) (e : A) (rest : List Token) → BeginAlike left ts → F rest → Y ts e rest → Z ts e rest) →
    Progress C F X start first Z left now
change C F Z s on only = record {
  taken = s.taken;
  whole = s.whole;
  on = λ ts e rest z. s.on ts e rest (on ts e rest z);
  only = λ ts e rest alike follows x. only ts e rest alike follows (s.only ts e rest alike follows x);
  within = s.within;
  count = s.count;
}

-- the next token is taken
pub take : (C : Counting) (F : Following) {A : Type 0} {X Y : Phrases A} {start others : List Token} {first now : C.Count} {t : Token} →
    Progress C F X start first Y (t ∷ others) now → (C.is_too_far now t.kind ≡ false) →
    Progress C F X start first (λ ts. Y (t ∷ ts)) others (C.after now t.kind)
take C F {X = X} {others = others} {first = first} {t = t} s small = record {
  taken = s.taken ++ t ∷ [];
  whole = s.whole ∙ sym (append_assoc s.taken (t ∷ []) others);
  on = λ ts e rest y. subst (λ us. X us e rest) (sym (append_assoc s.taken (t ∷ []) ts)) (s.on (t ∷ ts) e rest y);
  only = λ ts e rest alike follows x. s.only (t ∷ ts) e rest refl follows (subst (λ us. X us e rest) (append_assoc s.taken (t ∷ []) ts) x);
  within = within-append C first s.taken (t ∷ []) s.within (subst (λ c. C.is_too_far c t.kind ≡ false) (sym s.count) small, tt);
  count = count-append C first s.taken (t ∷ []) ∙ ap (λ c. C.after c t.kind) s.count;
}

-- nothing that is left goes on so
pub stuck : (C : Counting) (F : Following) {A : Type 0} {X Y : Phrases A} {start : List Token} {first now : C.Count} (tokens : List Token) (at : ℕ) →
    Progress C F X start first Y (drop at tokens) now → at ≤ length tokens → CanEnd Y →
    ((ts : List Token) (e : A) (rest : List Token) → BeginAlike (drop at tokens) ts → Y ts e rest → ⊥) →
    Fails C F X start first (length tokens) (Fault.Stopped at)
stuck C F tokens at s inside end none = (
  drop at tokens,
  record {
    taken = s.taken;
    whole = s.whole;
    begins = (end.0, end.1, λ rest. s.on (end.0 ++ rest) end.1 rest (end.2 rest));
    none = λ ts e rest alike follows x. none ts e rest alike (s.only ts e rest alike follows x);
    within = s.within;
  },
  index-of at tokens inside,
)

-- the next token can follow, and goes too far
pub too_far : (C : Counting) (F : Following) {A : Type 0} {X Y : Phrases A} {start : List Token} {first now : C.Count} (tokens : List Token) (at : ℕ) {t : Token} →
    Progress C F X start first Y (drop at tokens) now → IsNext tokens at t → CanEnd (λ ts. Y (t ∷ ts)) → C.is_too_far now t.kind ≡ true →
    Fails C F X start first (length tokens) (Fault.TooFar at)
too_far C F tokens at {t = t} s next end far = (
  drop at tokens,
  record {
    taken = s.taken;
    token = t;
    others = drop (at + 1) tokens;
    next = next.0;
    whole = s.whole;
    begins = (end.0, end.1, λ rest. s.on (t ∷ (end.0 ++ rest)) end.1 rest (end.2 rest));
    within = s.within;
    far = subst (λ c. C.is_too_far c t.kind ≡ true) (sym s.count) far;
  },
  index-of at tokens (omega (arith, next.1)),
)

-- what follows a phrase that another follows
abbrev pub Follow : Following → {A B : Type 0} → Following → (A → Phrases B) → Type 0
Follow G {A = A} {B = B} F Y = (a : A) (ts : List Token) (b : B) (rest : List Token) → Y a ts b rest → F rest → G ts

-- a phrase was taken that another has to follow
pub inner : (C : Counting) (F G : Following) {A B : Type 0} {X : Phrases A} {Z : Phrases B} {start mid left : List Token} {first now last : C.Count} {a : A} (Y : A → Phrases B) → Follow G F Y →
    Progress C F Z start first (Then X Y) mid now →
    Progress C G X mid now (Done a) left last →
    Progress C F Z start first (Y a) left last
inner C F G {X = X} {Z = Z} {start = start} {mid = mid} {left = left} {first = first} {a = a} Y follow s p = record {
  taken = s.taken ++ p.taken;
  whole = s.whole ∙ ap (λ us. s.taken ++ us) p.whole ∙ sym (append_assoc s.taken p.taken left);
  on = λ ts e rest y. subst (λ us. Z us e rest) (sym (append_assoc s.taken p.taken ts)) (s.on (p.taken ++ ts) e rest (a, ts, p.on ts a ts (refl, refl), y));
  only = λ ts e rest alike follows z.
      let x = s.only (p.taken ++ ts) e rest (subst (λ us. BeginAlike us (p.taken ++ ts)) (sym p.whole) (alike-append p.taken left ts alike)) follows (subst (λ us. Z us e rest) (append_assoc s.taken p.taken ts) z) in
      let d = p.only ts x.0 x.1 alike (follow x.0 x.1 e rest x.3 follows) x.2 in
      subst (λ us. Y a us e rest) d.1 (subst (λ b. Y b x.1 e rest) d.0 x.3);
  within = within-append C first s.taken p.taken s.within (subst (λ c. IsWithin C c p.taken) (sym s.count) p.within);
  count = count-append C first s.taken p.taken ∙ ap (λ c. count_after C c p.taken) s.count ∙ p.count;
}

inner_stuck : (C : Counting) (F G : Following) {A B : Type 0} {X : Phrases A} {Z : Phrases B} {start mid left : List Token} {first now : C.Count} (Y : A → Phrases B) → Follow G F Y → ((a : A) → CanEnd (Y a)) →
    Progress C F Z start first (Then X Y) mid now →
    IsStuck C G X mid now left → IsStuck C F Z start first left
inner_stuck C F G {X = X} {Z = Z} {left = left} {first = first} Y follow ends s p = record {
  taken = s.taken ++ p.taken;
  whole = s.whole ∙ ap (λ us. s.taken ++ us) p.whole ∙ sym (append_assoc s.taken p.taken left);
  begins =
      let end = ends p.begins.1 in (
        p.begins.0 ++ end.0,
        end.1,
        λ rest.
            let x = s.on (p.taken ++ (p.begins.0 ++ (end.0 ++ rest))) end.1 rest (p.begins.1, end.0 ++ rest, p.begins.2 (end.0 ++ rest), end.2 rest) in
            subst (λ us. Z us end.1 rest) (ap (λ us. s.taken ++ (p.taken ++ us)) (sym (append_assoc p.begins.0 end.0 rest)) ∙ sym (append_assoc s.taken p.taken ((p.begins.0 ++ end.0) ++ rest))) x,
      );
  none = λ ts e rest alike follows z.
      let x = s.only (p.taken ++ ts) e rest (subst (λ us. BeginAlike us (p.taken ++ ts)) (sym p.whole) (alike-append p.taken left ts alike)) follows (subst (λ us. Z us e rest) (append_assoc s.taken p.taken ts) z) in
      p.none ts x.0 x.1 alike (follow x.0 x.1 e rest x.3 follows) x.2;
  within = within-append C first s.taken p.taken s.within (subst (λ c. IsWithin C c p.taken) (sym s.count) p.within);
}

inner_far : (C : Counting) (F : Following) {A B : Type 0} {X : Phrases A} {Z : Phrases B} {start mid left : List Token} {first now : C.Count} (Y : A → Phrases B) → ((a : A) → CanEnd (Y a)) →
    Progress C F Z start first (Then X Y) mid now →
    IsTooFar C X mid now left → IsTooFar C Z start first left
inner_far C F {X = X} {Z = Z} {left = left} {first = first} Y ends s p = record {
  taken = s.taken ++ p.taken;
  token = p.token;
  others = p.others;
  next = p.next;
  whole = s.whole ∙ ap (λ us. s.taken ++ us) p.whole ∙ sym (append_assoc s.taken p.taken left);
  begins =
      let end = ends p.begins.1 in (
        p.begins.0 ++ end.0,
        end.1,
        λ rest.
            let x = s.on (p.taken ++ (p.token ∷ (p.begins.0 ++ (end.0 ++ rest)))) end.1 rest (p.begins.1, end.0 ++ rest, p.begins.2 (end.0 ++ rest), end.2 rest) in
            subst (λ us. Z us end.1 rest) (ap (λ us. s.taken ++ (p.taken ++ p.token ∷ us)) (sym (append_assoc p.begins.0 end.0 rest)) ∙ sym (append_assoc s.taken p.taken (p.token ∷ ((p.begins.0 ++ end.0) ++ rest)))) x,
      );
  within = within-append C first s.taken p.taken s.within (subst (λ c. IsWithin C c p.taken) (sym s.count) p.within);
  far = subst (λ c. C.is_too_far c p.token.kind ≡ true) (ap (λ c. count_after C c p.taken) (sym s.count) ∙ sym (count-append C first s.taken p.taken)) p.far;
}

pub inner_fails : (C : Counting) (F G : Following) {A B : Type 0} {X : Phrases A} {Z : Phrases B} {start mid : List Token} {first now : C.Count} (Y : A → Phrases B) (total : ℕ) (e : ReadFault) → Follow G F Y → ((a : A) → CanEnd (Y a)) →
    Progress C F Z start first (Then X Y) mid now →
    Fails C G X mid now total e → Fails C F Z start first total e
inner_fails C F G Y total (Fault.Stopped k) follow ends s f = (f.0, inner_stuck C F G Y follow ends s f.1, f.2)
inner_fails C F G Y total (Fault.TooFar k) follow ends s f = (f.0, inner_far C F Y ends s f.1, f.2)
inner_fails C F G Y total (Fault.NoMemory _) follow ends s f = tt

-- what a reader returns where a reader that it calls fails
pub failed : (C : Counting) (F : Following) {A : Type 0} (X : Phrases A) (tokens : List Token) (at : ℕ) (first last : C.Count) (r : Result (A × ℕ) ReadFault) (e : ReadFault) →
    IsErrAnd r (λ y. y ≡ e) → Fails C F X (drop at tokens) first (length tokens) e → Reads C F X tokens at first last r
failed C F X tokens at first last r e is f =
    let p = err_from_is_err_and r is in subst (Reads C F X tokens at first last) (sym (p.1 ∙ ap Err p.2)) f

-- what was read, in other words
pub same_end : (C : Counting) (F : Following) {A : Type 0} {X : Phrases A} {start : List Token} {first last : C.Count} {a b : A} {left : List Token} →
    a ≡ b → Stage C F X start first (done b) left last → Stage C F X start first (done a) left last
same_end C F {X = X} {start = start} {first = first} {last = last} {left = left} same s = subst (λ x. Stage C F X start first (done x) left last) (sym same) s
