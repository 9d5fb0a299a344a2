-- Sorts of phrases made of others, and the steps along them.
use Rattle.std.proofs.Common.{◌≡◌, ℕ, ◌+◌, ◌≤◌, inl, inr, true, false, List, [], ◌∷◌, ◌++◌, length, drop, refl, sym, ◌∙◌, ap, subst, append_assoc, arith, Option, Some, None, pos, nat_eq, if◌then◌else◌}
use Rattle.std.specs.Prelude.{Result, Ok, Err}
use Rattle.rn_notation.specs.declared.token.Token.{Token}
use Rattle.rn_notation.specs.declared.token.TokenKind.{TokenKind}
use Rattle.std.proofs.lemmas.Bool.Decides.{nat_tests}
use Rattle.rn_notation.specs.declared.token.Spot.{Spot}
use Rattle.rn_notation.specs.declared.token.TokenKind.TheVariants.{Name, Word, Number, Sign}
use Rattle.rn_reading.specs.declared.named.Named.{Named}
use Rattle.rn_reading.specs.declared.named.Numeral.{Numeral}
use Rattle.rn_reading.specs.Single.{sign, word, name, number}
use Rattle.rn_reading.specs.declared.fault.ReadFault.{ReadFault}
use Rattle.rn_reading.specs.declared.fault.ReadFault.TheVariants as Fault
use Rattle.rn_reading.specs.Phrases.{Phrases, Then, One, Maybe, Many}
use Rattle.rn_reading.specs.Counting.{Counting}
use Rattle.rn_reading.specs.link.Stages.{Following, Sort, Stage, Fails, Reads, done, BeginAlike, IsNextOne, IsNotNext, Steps}
use Rattle.rn_reading.proofs.Steps.{append-nil, alike-cons, begin, change, take, stuck, too_far, inner, inner_fails, Follow}

-- one token that is read as this
pub record Single (A : Type 0) : Type 0 where
  pub read : Token → Option A
  pub token : Token
  pub value : A
  pub reads : read token ≡ Some value

abbrev pub one : {A : Type 0} → Single A → Sort A
one r = record { is = One r.read; ends = (r.token ∷ [], r.value, λ rest. (r.token, refl, r.reads)) }

-- a phrase, and then one that may depend on it
abbrev pub and_then : {A B : Type 0} → Sort A → (A → Sort B) → Sort B
and_then X Y = let y = (Y X.ends.1).ends in
    record { is = Then X.is (λ a. (Y a).is); ends = (X.ends.0 ++ y.0, y.1, λ rest. (X.ends.1, y.0 ++ rest, subst (λ us. X.is us X.ends.1 (y.0 ++ rest)) (sym (append_assoc X.ends.0 y.0 rest)) (X.ends.2 (y.0 ++ rest)), y.2 rest)) }

-- a phrase that a token opens, or nothing
abbrev pub maybe : {A B : Type 0} → Single B → Sort A → Sort (Option A)
maybe r X = record { is = Maybe r.read X.is; ends = ([], None, λ rest. inl (refl, refl)) }

-- any number of phrases
abbrev pub many : {A : Type 0} → Sort A → Sort (List A)
many X = record { is = Many X.is; ends = ([], [], λ rest. refl) }

-- the next token is read so
pub one_read : (C : Counting) (F : Following) {A B : Type 0} {Z : Phrases B} {start : List Token} {first now : C.Count} {a : A} (r : Single A) (Y : A → Sort B) (tokens : List Token) (at next : ℕ) (last : C.Count) →
    Stage C F Z start first (and_then (one r) Y) (drop at tokens) now → IsNextOne r.read tokens at a → next ≡ at + 1 →
    ((t : Token) → r.read t ≡ Some a → (C.is_too_far now t.kind ≡ false) × (C.after now t.kind ≡ last)) →
    Stage C F Z start first (Y a) (drop next tokens) last
one_read C F {Z = Z} {start = start} {first = first} {now = now} {a = a} r Y tokens at next last s here there counts =
    let kept = counts here.0 here.2 in
    subst (λ n. Stage C F Z start first (Y a) (drop n tokens) last) (sym there)
    (subst (λ c. Stage C F Z start first (Y a) (drop (at + 1) tokens) c) kept.1
    (change C F (Y a).is (take C F (subst (λ us. Stage C F Z start first (and_then (one r) Y) us now) here.1.0 s) kept.0)
    (λ ts e rest y. (a, ts, (here.0, refl, here.2), y))
    (λ ts e rest alike follows x.
    let same : x.2.0 ≡ here.0 = let d = x.2.1 in cc in
    let left : x.1 ≡ ts = let d = x.2.1 in cc in
    let is : Some x.0 ≡ Some a = sym (ap r.read (sym same) ∙ x.2.2) ∙ here.2 in
    subst (λ us. (Y a).is us e rest) left (subst (λ b. (Y b).is x.1 e rest) (let g : x.0 ≡ a = let h = is in cc in g) x.3))))

-- no token is next, or one that isn't read so
pub one_stuck : (C : Counting) (F : Following) {A B : Type 0} {Z : Phrases B} {start : List Token} {first now : C.Count} (r : Single A) (Y : A → Sort B) (tokens : List Token) (at : ℕ) →
    Stage C F Z start first (and_then (one r) Y) (drop at tokens) now → at ≤ length tokens → IsNotNext r.read tokens at →
    Fails C F Z start first (length tokens) (Fault.Stopped at)
one_stuck C F r Y tokens at s inside other = stuck C F tokens at s inside (and_then (one r) Y).ends (λ ts e rest alike x.
    let next = alike-cons (drop at tokens) x.2.0 x.1 (subst (λ us. BeginAlike (drop at tokens) us) x.2.1 alike) in
    let none = other x.2.0 next.0 next.1 in let some = x.2.2 in cc)

-- the next token is read so, and goes too far
pub one_far : (C : Counting) (F : Following) {A B : Type 0} {Z : Phrases B} {start : List Token} {first now : C.Count} {a : A} (r : Single A) (Y : A → Sort B) (tokens : List Token) (at : ℕ) →
    Stage C F Z start first (and_then (one r) Y) (drop at tokens) now → (here : IsNextOne r.read tokens at a) → C.is_too_far now here.0.kind ≡ true →
    Fails C F Z start first (length tokens) (Fault.TooFar at)
one_far C F {a = a} r Y tokens at s here far =
    let y = (Y a).ends in
    too_far C F tokens at s here.1 (y.0, y.1, λ rest. (a, y.0 ++ rest, (here.0, refl, here.2), y.2 rest)) far

-- a step past one token reads the phrase of that token, where it doesn't go too far
pub step_reads : (C : Counting) (F : Following) {A : Type 0} (r : Single A) (tokens : List Token) (at : ℕ) (now last : C.Count) (result : Result (A × ℕ) ReadFault) →
    at ≤ length tokens → ((t : Token) (a : A) → r.read t ≡ Some a → (C.is_too_far now t.kind ≡ false) × (C.after now t.kind ≡ last)) →
    Steps r.read tokens at result → Reads C F (One r.read) tokens at now last result
step_reads C F {A = A} r tokens at now last result inside counts steps = by result steps
  where
    start : Stage C F (One r.read) (drop at tokens) now (and_then (one r) done) (drop at tokens) now
    start = begin C F (and_then (one r) done).is (drop at tokens) now
        (λ ts e rest x. subst (λ b. One r.read ts b rest) (sym x.3.0) (subst (λ us. One r.read ts x.0 us) (sym x.3.1) x.2))
        (λ ts e rest alike x. (e, rest, x, (refl, refl)))

    by : (result : Result (A × ℕ) ReadFault) → Steps r.read tokens at result → Reads C F (One r.read) tokens at now last result
    by (Ok (a, end)) s = one_read C F r done tokens at end last start s.0 s.1 (λ t is. counts t a is)
    by (Err (Fault.Stopped k)) s = subst (λ n. Fails C F (One r.read) (drop at tokens) now (length tokens) (Fault.Stopped n)) (sym s.1) (one_stuck C F r done tokens at start inside s.0)
    by (Err (Fault.TooFar k)) s = absurd s
    by (Err (Fault.NoMemory _)) s = tt

-- a phrase is read, or fails
pub then_read : (C : Counting) (F G : Following) {A B : Type 0} (X : Sort A) {Z : Phrases B} {start mid left : List Token} {first now last : C.Count} {a : A} (Y : A → Sort B) → Follow G F (λ a. (Y a).is) →
    Stage C F Z start first (and_then X Y) mid now → Stage C G X.is mid now (done a) left last → Stage C F Z start first (Y a) left last
then_read C F G X Y follow s p = inner C F G (λ a. (Y a).is) follow s p

pub then_fails : (C : Counting) (F G : Following) {A B : Type 0} (X : Sort A) {Z : Phrases B} {start mid : List Token} {first now : C.Count} (Y : A → Sort B) (total : ℕ) (e : ReadFault) → Follow G F (λ a. (Y a).is) →
    Stage C F Z start first (and_then X Y) mid now → Fails C G X.is mid now total e → Fails C F Z start first total e
then_fails C F G X Y total e follow s f = inner_fails C F G (λ a. (Y a).is) total e follow (λ a. (Y a).ends) s f

-- phrases that begin with a token that isn't read so
abbrev pub Others : {A B : Type 0} → (Token → Option B) → Phrases A → Type 0
Others {A = A} read X = (ts : List Token) (e : A) (rest : List Token) → X ts e rest → (t : Token) × (us : List Token) × (ts ≡ t ∷ us) × (read t ≡ None)

-- the first token of tokens that begin like those at an index
pub next_is : {B : Type 0} (read : Token → Option B) {b : B} (tokens : List Token) (at : ℕ) {ts : List Token} (t : Token) (us : List Token) →
    IsNextOne read tokens at b → BeginAlike (drop at tokens) ts → ts ≡ t ∷ us → read t ≡ Some b
next_is read tokens at t us here alike is =
    let n = alike-cons (drop at tokens) t us (subst (λ vs. BeginAlike (drop at tokens) vs) is alike) in
    ap read (let h : t ≡ here.0 = let a = n.1 in let b = here.1.0 in cc in h) ∙ here.2

pub next_isnt : {B : Type 0} (read : Token → Option B) (tokens : List Token) (at : ℕ) {ts : List Token} (t : Token) (us : List Token) →
    IsNotNext read tokens at → BeginAlike (drop at tokens) ts → ts ≡ t ∷ us → read t ≡ None
next_isnt read tokens at t us other alike is =
    let n = alike-cons (drop at tokens) t us (subst (λ vs. BeginAlike (drop at tokens) vs) is alike) in other t n.0 n.1

pub none-some : {B : Type 0} {b : B} {x : Option B} → x ≡ None → x ≡ Some b → ⊥
none-some none some = let n = none in let s = some in cc

-- the token that opens a phrase is next
pub maybe_some : (C : Counting) (F : Following) {A B D : Type 0} {Z : Phrases D} {start : List Token} {first now : C.Count} (r : Single B) (X : Sort A) (Y : Option A → Sort D) (tokens : List Token) (at : ℕ) {b : B} →
    Others r.read (Y None).is → Stage C F Z start first (and_then (maybe r X) Y) (drop at tokens) now → IsNextOne r.read tokens at b →
    Stage C F Z start first (and_then (one r) (λ b. and_then X (λ a. Y (Some a)))) (drop at tokens) now
maybe_some C F r X Y tokens at apart s here = change C F (and_then (one r) (λ b. and_then X (λ a. Y (Some a)))).is s
    (λ ts e rest x. (Some x.3.0, x.3.1, inr (x.0, x.1, x.2, (x.3.0, x.3.1, x.3.2, (refl, refl))), x.3.3))
    (λ ts e rest alike follows x. elim x.2 as (λ w. (and_then (one r) (λ b. and_then X (λ a. Y (Some a)))).is ts e rest) [
      | inl d ↦ absurd (
          let y = apart ts e rest (subst (λ us. (Y None).is us e rest) d.1 (subst (λ o. (Y o).is x.1 e rest) d.0 x.3)) in
          none-some y.3 (next_is r.read tokens at y.0 y.1 here alike y.2))
      | inr y ↦ (y.0, y.1, y.2, (y.3.0, y.3.1, y.3.2, subst (λ us. (Y (Some y.3.0)).is us e rest) y.3.3.1 (subst (λ o. (Y o).is x.1 e rest) y.3.3.0 x.3)))
    ])

-- it isn't next
pub maybe_none : (C : Counting) (F : Following) {A B D : Type 0} {Z : Phrases D} {start : List Token} {first now : C.Count} (r : Single B) (X : Sort A) (Y : Option A → Sort D) (tokens : List Token) (at : ℕ) →
    Stage C F Z start first (and_then (maybe r X) Y) (drop at tokens) now → IsNotNext r.read tokens at →
    Stage C F Z start first (Y None) (drop at tokens) now
maybe_none C F r X Y tokens at s other = change C F (Y None).is s
    (λ ts e rest x. (None, ts, inl (refl, refl), x))
    (λ ts e rest alike follows x. elim x.2 as (λ w. (Y None).is ts e rest) [
      | inl d ↦ subst (λ us. (Y None).is us e rest) d.1 (subst (λ o. (Y o).is x.1 e rest) d.0 x.3)
      | inr y ↦ absurd (none-some (next_isnt r.read tokens at y.2.0 y.1 other alike y.2.1) y.2.2)
    ])

-- one more phrase begins: what follows the last begins with another token
pub many_next : (C : Counting) (F : Following) {A B D : Type 0} {Z : Phrases D} {start : List Token} {first now : C.Count} (read : Token → Option B) (X : Sort A) (Y : List A → Sort D) (all : List A) (tokens : List Token) (at : ℕ) {b : B} →
    Others read (Y all).is → Stage C F Z start first (and_then (many X) (λ more. Y (all ++ more))) (drop at tokens) now → IsNextOne read tokens at b →
    Stage C F Z start first (and_then X (λ a. and_then (many X) (λ more. Y ((all ++ a ∷ []) ++ more)))) (drop at tokens) now
many_next C F {D = D} read X Y all tokens at apart s here = change C F (and_then X (λ a. and_then (many X) (λ more. Y ((all ++ a ∷ []) ++ more)))).is s
    (λ ts e rest x. (x.0 ∷ x.3.0, x.3.1, (x.1, x.2, x.3.2), subst (λ more. (Y more).is x.3.1 e rest) (append_assoc all (x.0 ∷ []) x.3.0) x.3.3))
    (λ ts e rest alike follows x. only ts e rest alike x.0 x.1 x.2 x.3)
  where
    only : (ts : List Token) (e : D) (rest : List Token) → BeginAlike (drop at tokens) ts → (more : List _) (mid : List Token) → Many X.is ts more mid → (Y (all ++ more)).is mid e rest →
        (and_then X (λ a. and_then (many X) (λ more. Y ((all ++ a ∷ []) ++ more)))).is ts e rest
    only ts e rest alike [] mid m y = absurd (
        let z = apart ts e rest (subst (λ us. (Y all).is us e rest) m (subst (λ more. (Y more).is mid e rest) (append-nil all) y)) in
        none-some z.3 (next_is read tokens at z.0 z.1 here alike z.2))
    only ts e rest alike (a ∷ more) mid m y = (a, m.0, m.1, (more, mid, m.2, subst (λ bs. (Y bs).is mid e rest) (sym (append_assoc all (a ∷ []) more)) y))

-- no more begins
pub many_end : (C : Counting) (F : Following) {A B D : Type 0} {Z : Phrases D} {start : List Token} {first now : C.Count} (read : Token → Option B) (X : Sort A) (Y : List A → Sort D) (all : List A) (tokens : List Token) (at : ℕ) →
    ((ts : List Token) (a : A) (rest : List Token) → X.is ts a rest → (t : Token) × (us : List Token) × (ts ≡ t ∷ us) × (b : B) × (read t ≡ Some b)) →
    Stage C F Z start first (and_then (many X) (λ more. Y (all ++ more))) (drop at tokens) now → IsNotNext read tokens at →
    Stage C F Z start first (Y all) (drop at tokens) now
many_end C F {D = D} read X Y all tokens at begins s other = change C F (Y all).is s
    (λ ts e rest x. ([], ts, refl, subst (λ more. (Y more).is ts e rest) (sym (append-nil all)) x))
    (λ ts e rest alike follows x. only ts e rest alike x.0 x.1 x.2 x.3)
  where
    only : (ts : List Token) (e : D) (rest : List Token) → BeginAlike (drop at tokens) ts → (more : List _) (mid : List Token) → Many X.is ts more mid → (Y (all ++ more)).is mid e rest → (Y all).is ts e rest
    only ts e rest alike [] mid m y = subst (λ us. (Y all).is us e rest) m (subst (λ more. (Y more).is mid e rest) (append-nil all) y)
    only ts e rest alike (a ∷ more) mid m y = absurd (
        let z = begins ts a m.0 m.1 in none-some (next_isnt read tokens at z.0 z.1 other alike z.2) z.4)

-- a token of a kind, wherever it stands
abbrev pub any : TokenKind → Token
any kind = record { kind = kind; start = 0; end = 0; spot = record { line = 1; column = 1 } }

pub same-number : (k : ℕ) → nat_eq k k ≡ true
same-number k = grind (arith, nat_tests)

-- the sign, or the reserved word, with this number; a name; a number
abbrev pub sign_of : ℕ → Single Spot
sign_of k = record { read = sign k; token = any (Sign k); value = (any (Sign k)).spot; reads = ap (λ b. if b then Some (any (Sign k)).spot else None) (same-number k) }

abbrev pub word_of : ℕ → Single Spot
word_of k = record { read = word k; token = any (Word k); value = (any (Word k)).spot; reads = ap (λ b. if b then Some (any (Word k)).spot else None) (same-number k) }

abbrev pub a_name : Single Named
a_name = record { read = name; token = any (Name []); value = record { text = []; spot = (any (Name [])).spot }; reads = refl }

abbrev pub a_number : Single Numeral
a_number = record { read = number; token = any (Number (pos 0)); value = record { value = pos 0; spot = (any (Number (pos 0))).spot }; reads = refl }
