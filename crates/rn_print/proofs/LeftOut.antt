-- Tokens of inscriptions beside those of a text that has more parentheses: they open no level more.
use Rattle.std.proofs.Common.{◌≡◌, ℕ, zero, suc, ◌+◌, ◌-◌, ◌≤◌, Bool, true, false, not, ◌&&◌, ◌||◌, List, [], ◌∷◌, length, drop, ◌⊎◌, inl, inr, refl, sym, ap, ◌∙◌, subst, arith, nat_eq, nat_le, if◌then◌else◌}
use Rattle.std.proofs.Math.Bool.{and-false, or-false}
use Rattle.std.proofs.lemmas.Bool.Decides.{nat_tests}
use Rattle.std.proofs.lemmas.Grind.{common_steps}
use Rattle.rn_notation.specs.declared.token.Token.{Token}
use Rattle.rn_notation.specs.declared.token.TokenKind.{TokenKind}
use Rattle.rn_notation.specs.declared.token.TokenKind.TheVariants.{Name, Word, Number, Text, Sign}
use Rattle.rn_inscript.specs.Signs.{open_paren, close_paren, open_bracket, close_bracket, comma, colon}
use Rattle.rn_inscript.specs.Levels.{Level, bracket, negative, Count, at_first, opens, closes, is_minus, is_paren, is_operator, ends_operand, without_minuses, levels_at, opens_level, after_token, goes_too_far}
use Rattle.rn_inscript.specs.link.Stages.{ready, ended}
use Rattle.rn_net.specs.Words.{semicolon}
use Rattle.rn_net.specs.Levels.{is_semicolon, is_comma, open_after, after, IsShallow}
use Rattle.rn_net.specs.Levels.Region.{inscribing}

-- where a token stands: where an operand has to begin, right after an opening bracket, or where an
-- operand has ended
pub data Stand : Type 0 where
  at_operand : Stand
  at_bracket : Stand
  at_end : Stand

-- a comma, a colon, `=`, an operator or a word: neither an operand nor a bracket
abbrev pub is_plain : TokenKind → Bool
is_plain (Sign k) = nat_eq k 6 || nat_le 8 k
is_plain (Word k) = not (nat_eq k 17)
is_plain _ = false

-- a number, a text, a name or `this`
abbrev pub is_operand : TokenKind → Bool
is_operand (Sign k) = false
is_operand (Word k) = nat_eq k 17
is_operand _ = true

-- what ends an inscription: a semicolon, or a comma and another inscription
abbrev pub EndsOne : TokenKind → Type 0
EndsOne kind = (kind ≡ semicolon) ⊎ (kind ≡ comma)

-- the tokens begin with that
abbrev pub EndsHere : List Token → Type 0
EndsHere ts = (t : Token) × (us : List Token) × (ts ≡ t ∷ us) × EndsOne t.kind

-- where an inscription has ended, its count no longer matters
pub any_count : (c d : Count) (ts : List Token) → EndsHere ts → IsShallow (inscribing 0 c) ts →
    IsShallow (inscribing 0 d) ts
any_count c d ts (t, us, e, kind) h =
    let here = subst (IsShallow (inscribing 0 c)) e h in
    subst (IsShallow (inscribing 0 d)) (sym e) (elim kind [
      | inl is ↦ by semicolon is refl refl here
      | inr is ↦ by comma is refl refl here
    ])
  where
    by : (kind : TokenKind) → t.kind ≡ kind →
        after (inscribing 0 d) kind ≡ after (inscribing 0 c) kind → goes_too_far d kind ≡ false →
        IsShallow (inscribing 0 c) (t ∷ us) → IsShallow (inscribing 0 d) (t ∷ us)
    by kind is same near h =
        let here = subst (λ kind. IsShallow (after (inscribing 0 c) kind) us) is h.1 in
        subst (λ kind. (goes_too_far d kind ≡ false) × IsShallow (after (inscribing 0 d) kind) us) (sym is)
        (near, subst (λ r. IsShallow r us) (sym same) here)

-- The second tokens are the first up to their end, but for parentheses that are left out, and for
-- `: []` before the end. Of each bracket that is open it is said whether both have it. What comes
-- from the end on is given.
pub data LeftOut (ending later : List Token) : Stand → List Bool → List Token → List Token → Type 0 where
  done : EndsHere ending → EndsHere later → LeftOut ending later at_end [] ending later
  operand : {s : List Bool} {t u : Token} {ts us : List Token} →
      u.kind ≡ t.kind → is_operand t.kind ≡ true → LeftOut ending later at_end s ts us →
      LeftOut ending later at_operand s (t ∷ ts) (u ∷ us)
  leading : {s : List Bool} {t u : Token} {ts us : List Token} →
      u.kind ≡ t.kind → is_plain t.kind ≡ true → LeftOut ending later at_operand s ts us →
      LeftOut ending later at_operand s (t ∷ ts) (u ∷ us)
  joining : {s : List Bool} {t u : Token} {ts us : List Token} →
      u.kind ≡ t.kind → is_plain t.kind ≡ true → LeftOut ending later at_operand s ts us →
      LeftOut ending later at_end s (t ∷ ts) (u ∷ us)
  opening : {s : List Bool} {t u : Token} {ts us : List Token} →
      u.kind ≡ t.kind → opens t.kind ≡ true → LeftOut ending later at_bracket (true ∷ s) ts us →
      LeftOut ending later at_operand s (t ∷ ts) (u ∷ us)
  calling : {s : List Bool} {name : List ℕ} {t u v w : Token} {ts us : List Token} →
      t.kind ≡ Name name → u.kind ≡ open_paren → v.kind ≡ Name name → w.kind ≡ open_paren →
      LeftOut ending later at_bracket (true ∷ s) ts us →
      LeftOut ending later at_operand s (t ∷ u ∷ ts) (v ∷ w ∷ us)
  inside : {s : List Bool} {ts us : List Token} → LeftOut ending later at_operand (true ∷ s) ts us →
      LeftOut ending later at_bracket (true ∷ s) ts us
  empty : {s : List Bool} {t u : Token} {ts us : List Token} →
      u.kind ≡ t.kind → closes t.kind ≡ true → LeftOut ending later at_end s ts us →
      LeftOut ending later at_bracket (true ∷ s) (t ∷ ts) (u ∷ us)
  closing : {s : List Bool} {t u : Token} {ts us : List Token} →
      u.kind ≡ t.kind → closes t.kind ≡ true → LeftOut ending later at_end s ts us →
      LeftOut ending later at_end (true ∷ s) (t ∷ ts) (u ∷ us)
  opening_alone : {s : List Bool} {t : Token} {ts us : List Token} →
      t.kind ≡ open_paren → LeftOut ending later at_operand (false ∷ s) ts us →
      LeftOut ending later at_operand s (t ∷ ts) us
  closing_alone : {s : List Bool} {t : Token} {ts us : List Token} →
      t.kind ≡ close_paren → LeftOut ending later at_end s ts us →
      LeftOut ending later at_end (false ∷ s) (t ∷ ts) us
  nothing_said : {u v w : Token} {ts us : List Token} →
      u.kind ≡ colon → v.kind ≡ open_bracket → w.kind ≡ close_bracket →
      LeftOut ending later at_end [] ts us → LeftOut ending later at_end [] ts (u ∷ v ∷ w ∷ us)

-- The levels of both: brackets that only the first has, and minuses that only it has, are left out.
pub data Covers : List Bool → List Level → List Level → Type 0 where
  none : Covers [] [] []
  kept : {s : List Bool} {L M : List Level} → Covers s L M →
      Covers (true ∷ s) (bracket ∷ L) (bracket ∷ M)
  alone : {s : List Bool} {L M : List Level} → Covers s L M → Covers (false ∷ s) (bracket ∷ L) M
  minuses : {s : List Bool} {L M : List Level} → Covers s L M →
      Covers s (negative ∷ L) (negative ∷ M)
  minus : {s : List Bool} {L M : List Level} → Covers s L M → Covers s (negative ∷ L) M

no_longer : {s : List Bool} {L M : List Level} → Covers s L M → length M ≤ length L
no_longer Covers.none = omega arith
no_longer (Covers.kept c) = let h = no_longer c in omega (arith, h)
no_longer (Covers.alone c) = let h = no_longer c in omega (arith, h)
no_longer (Covers.minuses c) = let h = no_longer c in omega (arith, h)
no_longer (Covers.minus c) = let h = no_longer c in omega (arith, h)

fewer : {s : List Bool} {L M : List Level} → Covers s L M → Covers s L (without_minuses M)
fewer Covers.none = Covers.none
fewer (Covers.kept c) = Covers.kept c
fewer (Covers.alone c) = Covers.alone (fewer c)
fewer (Covers.minuses c) = Covers.minus (fewer c)
fewer (Covers.minus c) = Covers.minus (fewer c)

without : {s : List Bool} {L M : List Level} → Covers s L M →
    Covers s (without_minuses L) (without_minuses M)
without Covers.none = Covers.none
without (Covers.kept c) = Covers.kept c
without (Covers.alone c) = Covers.alone (fewer c)
without (Covers.minuses c) = without c
without (Covers.minus c) = without c

without-twice : (L : List Level) → without_minuses (without_minuses L) ≡ without_minuses L
without-twice [] = refl
without-twice (bracket ∷ L) = refl
without-twice (negative ∷ L) = without-twice L

-- the newest level is a minus
abbrev Newest : List Level → Type 0
Newest (negative ∷ L) = Unit {0}
Newest _ = ⊥

not-newest : (L : List Level) → Newest (without_minuses L) → ⊥
not-newest [] h = h
not-newest (bracket ∷ L) h = h
not-newest (negative ∷ L) h = not-newest L h

closed_both : {s : List Bool} {A B : List Level} → Covers (true ∷ s) A B →
    Covers s (drop 1 A) (drop 1 B) ⊎ Newest A
closed_both (Covers.kept c) = inl c
closed_both (Covers.minuses c) = inr tt
closed_both (Covers.minus c) = inr tt

closed_one : {s : List Bool} {A B : List Level} → Covers (false ∷ s) A B →
    Covers s (drop 1 A) B ⊎ Newest A
closed_one (Covers.alone c) = inl c
closed_one (Covers.minuses c) = inr tt
closed_one (Covers.minus c) = inr tt

none_open : {A B : List Level} → Covers [] A B → (B ≡ []) ⊎ Newest B
none_open Covers.none = inl refl
none_open (Covers.minuses c) = inr tt
none_open (Covers.minus c) = none_open c

-- the counts of both where they stand alike
pub data Matches : Stand → List Bool → Count → Count → Type 0 where
  operands : {s : List Bool} {L M : List Level} {o p : ℕ} → Covers s L M → p ≤ o →
      Matches at_operand s (ready L o) (ready M p)
  brackets : {s : List Bool} {L M : List Level} {o p : ℕ} → Covers s L M → p ≤ o →
      Matches at_bracket (true ∷ s) (ready (bracket ∷ L) o) (ready (bracket ∷ M) p)
  ends : {s : List Bool} {L M : List Level} {o p : ℕ} →
      Covers s (without_minuses L) (without_minuses M) → p ≤ o →
      Matches at_end s (ended L o) (ended M p)

-- what a token of a sort does
record Plain (kind : TokenKind) : Type 0 where
  pub no_opening : opens kind ≡ false
  pub no_closing : closes kind ≡ false
  pub no_paren : is_paren kind ≡ false
  pub no_end : ends_operand kind ≡ false
  pub goes_on : is_semicolon kind ≡ false

plain : (kind : TokenKind) → is_plain kind ≡ true → Plain kind
plain (Sign k) h = record {
  no_opening = grind (arith, nat_tests, common_steps);
  no_closing = grind (arith, nat_tests, common_steps);
  no_paren = grind (arith, nat_tests, common_steps);
  no_end = grind (arith, nat_tests, common_steps);
  goes_on = grind (arith, nat_tests, common_steps);
}
plain (Word k) h = record {
  no_opening = refl;
  no_closing = refl;
  no_paren = refl;
  no_end = grind (arith, common_steps);
  goes_on = refl;
}
plain (Name s) h = absurd (let no : ⊥ = cc in no)
plain (Number n) h = absurd (let no : ⊥ = cc in no)
plain (Text s) h = absurd (let no : ⊥ = cc in no)

record Operand (kind : TokenKind) (L : List Level) (o : ℕ) : Type 0 where
  pub next : after_token (ready L o) kind ≡ ended L o
  pub near : goes_too_far (ready L o) kind ≡ false
  pub goes_on : is_semicolon kind ≡ false
  pub no_comma : is_comma kind ≡ false
  pub depth : (n : ℕ) → open_after n kind ≡ n

operand_kind : (kind : TokenKind) (L : List Level) (o : ℕ) → is_operand kind ≡ true → Operand kind L o
operand_kind (Sign k) L o h = absurd (let no : ⊥ = cc in no)
operand_kind (Word k) L o h = record { next = rw h refl; near = refl; goes_on = refl; no_comma = refl; depth = λ n. refl }
operand_kind (Name s) L o h = record { next = refl; near = refl; goes_on = refl; no_comma = refl; depth = λ n. refl }
operand_kind (Number n) L o h = record { next = refl; near = refl; goes_on = refl; no_comma = refl; depth = λ n. refl }
operand_kind (Text s) L o h = record { next = refl; near = refl; goes_on = refl; no_comma = refl; depth = λ n. refl }

record Opening (kind : TokenKind) (L : List Level) (o : ℕ) : Type 0 where
  pub next : after_token (ready L o) kind ≡ ready (bracket ∷ L) o
  pub far : goes_too_far (ready L o) kind ≡ nat_le 64 (length L)
  pub goes_on : is_semicolon kind ≡ false
  pub no_comma : is_comma kind ≡ false
  pub depth : (n : ℕ) → open_after n kind ≡ suc n

opening_kind : (kind : TokenKind) (L : List Level) (o : ℕ) → opens kind ≡ true → Opening kind L o
opening_kind (Sign k) L o h =
    let no_end : closes (Sign k) ≡ false = grind (arith, nat_tests, common_steps) in
    let no_operator : is_operator (Sign k) ≡ false = grind (arith, nat_tests, common_steps) in
    record {
      next = rw (h, no_end, no_operator) refl;
      far = rw (h, no_operator) (or-false (nat_le 64 (length L)));
      goes_on = grind (arith, nat_tests, common_steps);
      no_comma = grind (arith, nat_tests, common_steps);
      depth = λ n. rw h (let one : n + 1 ≡ suc n = omega arith in one);
    }
opening_kind (Word k) L o h = absurd (let no : ⊥ = cc in no)
opening_kind (Name s) L o h = absurd (let no : ⊥ = cc in no)
opening_kind (Number n) L o h = absurd (let no : ⊥ = cc in no)
opening_kind (Text s) L o h = absurd (let no : ⊥ = cc in no)

record Closing (kind : TokenKind) : Type 0 where
  pub no_opening : opens kind ≡ false
  pub end : ends_operand kind ≡ true
  pub no_paren : is_paren kind ≡ false
  pub no_minus : is_minus kind ≡ false
  pub no_operator : is_operator kind ≡ false
  pub goes_on : is_semicolon kind ≡ false
  pub no_comma : is_comma kind ≡ false
  pub depth : (n : ℕ) → open_after (suc n) kind ≡ n

closing_kind : (kind : TokenKind) → closes kind ≡ true → Closing kind
closing_kind (Sign k) h =
    let no_open : opens (Sign k) ≡ false = grind (arith, nat_tests, common_steps) in record {
      no_opening = no_open;
      end = h;
      no_paren = grind (arith, nat_tests, common_steps);
      no_minus = grind (arith, nat_tests, common_steps);
      no_operator = grind (arith, nat_tests, common_steps);
      goes_on = grind (arith, nat_tests, common_steps);
      no_comma = grind (arith, nat_tests, common_steps);
      depth = λ n. rw (no_open, h) (let one : suc n - 1 ≡ n = omega arith in one);
    }
closing_kind (Word k) h = absurd (let no : ⊥ = cc in no)
closing_kind (Name s) h = absurd (let no : ⊥ = cc in no)
closing_kind (Number n) h = absurd (let no : ⊥ = cc in no)
closing_kind (Text s) h = absurd (let no : ⊥ = cc in no)

-- what goes too far nowhere doesn't among fewer levels and operators
low : (k m n : ℕ) → m ≤ n → nat_le k n ≡ false → nat_le k m ≡ false
low k m n h is = grind (arith, nat_tests, common_steps)

nearer : (p q : Bool) (m n a b : ℕ) → m ≤ n → b ≤ a →
    ((p && nat_le 64 n) || (q && nat_le 256 a)) ≡ false →
    ((p && nat_le 64 m) || (q && nat_le 256 b)) ≡ false
nearer p q m n a b small few h =
    grind (arith, common_steps, low 64 m n small, low 256 b a few)

pushed : (b : Bool) (o p : ℕ) → p ≤ o → (if b then p + 1 else p) ≤ (if b then o + 1 else o)
pushed true o p h = omega (arith, h)
pushed false o p h = h

signed : {s : List Bool} {L M : List Level} (b : Bool) → Covers s L M →
    Covers s (if b then negative ∷ L else L) (if b then negative ∷ M else M)
signed true c = Covers.minuses c
signed false c = c

-- how many brackets are open in the second tokens
abbrev pub kept_brackets : List Bool → ℕ
kept_brackets [] = 0
kept_brackets (true ∷ s) = suc (kept_brackets s)
kept_brackets (false ∷ s) = kept_brackets s

-- without a bracket, minuses are all that is open
only_minuses : {s : List Bool} {L M : List Level} → Covers s L M → kept_brackets s ≡ 0 →
    Covers s L []
only_minuses Covers.none h = Covers.none
only_minuses (Covers.kept c) h = absurd (let no : ⊥ = omega (arith, h) in no)
only_minuses (Covers.alone c) h = Covers.alone (only_minuses c h)
only_minuses (Covers.minuses c) h = Covers.minus (only_minuses c h)
only_minuses (Covers.minus c) h = Covers.minus (only_minuses c h)

-- the first tokens end, and where what comes after both is within the limits, so are the second
abbrev Ends : List Token → List Token → ℕ → Count → List Token → Type 0
Ends ending later n d us =
    IsShallow (inscribing 0 at_first) ending
    × (IsShallow (inscribing 0 at_first) later → IsShallow (inscribing n d) us)

region : (n m : ℕ) (c e : Count) (kind : TokenKind) → is_semicolon kind ≡ false →
    is_comma kind ≡ false → open_after n kind ≡ m → after_token c kind ≡ e →
    after (inscribing n c) kind ≡ inscribing m e
region n m c e kind goes_on no_comma depth next =
    let here : after (inscribing n c) kind ≡ inscribing (open_after n kind) (after_token c kind) =
    rw (goes_on, no_comma) refl in
    here ∙ ap (λ n. inscribing n (after_token c kind)) depth ∙ ap (inscribing m) next

came : (n m : ℕ) (c e : Count) (kind : TokenKind) (ts : List Token) → is_semicolon kind ≡ false →
    is_comma kind ≡ false → open_after n kind ≡ m → after_token c kind ≡ e →
    IsShallow (after (inscribing n c) kind) ts → IsShallow (inscribing m e) ts
came n m c e kind ts goes_on no_comma depth next h =
    subst (λ r. IsShallow r ts) (region n m c e kind goes_on no_comma depth next) h

goes_to : (ending later : List Token) (n m : ℕ) (d e : Count) (t u : Token) (us : List Token) →
    u.kind ≡ t.kind → goes_too_far d t.kind ≡ false →
    after (inscribing n d) t.kind ≡ inscribing m e →
    Ends ending later m e us → Ends ending later n d (u ∷ us)
goes_to ending later n m d e t u us same near next (first, second) = (
  first,
  λ h. subst (λ kind. (goes_too_far d kind ≡ false) × IsShallow (after (inscribing n d) kind) us)
      (sym same) (near, subst (λ r. IsShallow r us) (sym next) (second h)),
)

goes : (ending later : List Token) (n m : ℕ) (d e : Count) (t u : Token) (us : List Token) →
    u.kind ≡ t.kind → is_semicolon t.kind ≡ false → is_comma t.kind ≡ false →
    goes_too_far d t.kind ≡ false → open_after n t.kind ≡ m → after_token d t.kind ≡ e →
    Ends ending later m e us → Ends ending later n d (u ∷ us)
goes ending later n m d e t u us same goes_on no_comma near depth next =
    goes_to ending later n m d e t u us same near (region n m d e t.kind goes_on no_comma depth next)

-- past a comma: outside of all brackets the count begins anew
outside : (c : Count) (kind : TokenKind) → is_semicolon kind ≡ false → is_comma kind ≡ true →
    after (inscribing 0 c) kind ≡ inscribing 0 at_first
outside c kind goes_on is = rw (goes_on, is) refl

within : (n : ℕ) (c e : Count) (kind : TokenKind) → is_semicolon kind ≡ false →
    is_comma kind ≡ true → open_after (suc n) kind ≡ suc n → after_token c kind ≡ e →
    after (inscribing (suc n) c) kind ≡ inscribing (suc n) e
within n c e kind goes_on is depth next =
    let apart : nat_eq (suc n) 0 ≡ false = grind (arith, nat_tests, common_steps) in
    let here : after (inscribing (suc n) c) kind ≡ inscribing (open_after (suc n) kind) (after_token c kind) =
    rw (goes_on, is, apart) refl in
    here ∙ ap (λ n. inscribing n (after_token c kind)) depth ∙ ap (inscribing (suc n)) next

same_open : {kind : TokenKind} (n : ℕ) → Plain kind → open_after n kind ≡ n
same_open n is = rw (is.no_opening, is.no_closing) refl

-- past a comma, an operator or a word
past_plain : (ending later : List Token) (s : List Bool) (c d : Count) (t u : Token)
    (ts us : List Token) (L M : List Level) (o p : ℕ) → u.kind ≡ t.kind → Plain t.kind →
    after_token c t.kind ≡ ready L o → after_token d t.kind ≡ ready M p →
    goes_too_far d t.kind ≡ false → Covers s L M → p ≤ o →
    IsShallow (after (inscribing (length s) c) t.kind) ts →
    ((L M : List Level) (o p : ℕ) → Covers s L M → p ≤ o →
    IsShallow (inscribing (length s) (ready L o)) ts →
    Ends ending later (kept_brackets s) (ready M p) us) →
    Ends ending later (kept_brackets s) d (u ∷ us)
past_plain ending later s c d t u ts us L M o p same is first second near covers few h go =
    by (is_comma t.kind) refl
  where
    as_few : 0 ≤ 0
    as_few = omega arith

    at_comma : is_comma t.kind ≡ true → (s : List Bool) (n : ℕ) → kept_brackets s ≡ n →
        Covers s L M → IsShallow (after (inscribing (length s) c) t.kind) ts →
        ((L M : List Level) (o p : ℕ) → Covers s L M → p ≤ o →
        IsShallow (inscribing (length s) (ready L o)) ts →
        Ends ending later (kept_brackets s) (ready M p) us) →
        Ends ending later n d (u ∷ us)
    at_comma here [] zero k covers h go =
        goes_to ending later 0 0 d at_first t u us same near (outside d t.kind is.goes_on here)
        (go [] [] 0 0 Covers.none as_few
        (subst (λ r. IsShallow r ts) (outside c t.kind is.goes_on here) h))
    at_comma here [] (suc n) k covers h go = absurd (let no : ⊥ = omega (arith, k) in no)
    at_comma here (b ∷ s) zero k covers h go =
        let n = length s in
        let x = go L [] o 0 (only_minuses covers k) (let low : 0 ≤ o = omega arith in low)
        (subst (λ r. IsShallow r ts)
        (within n c (ready L o) t.kind is.goes_on here (same_open (suc n) is) first) h) in
        goes_to ending later 0 0 d at_first t u us same near (outside d t.kind is.goes_on here)
        (subst (λ n. Ends ending later n at_first us) k x)
    at_comma here (b ∷ s) (suc m) k covers h go =
        let n = length s in
        let x = go L M o p covers few
        (subst (λ r. IsShallow r ts)
        (within n c (ready L o) t.kind is.goes_on here (same_open (suc n) is) first) h) in
        goes_to ending later (suc m) (suc m) d (ready M p) t u us same near
        (within m d (ready M p) t.kind is.goes_on here (same_open (suc m) is) second)
        (subst (λ n. Ends ending later n (ready M p) us) k x)

    by : (b : Bool) → is_comma t.kind ≡ b → Ends ending later (kept_brackets s) d (u ∷ us)
    by true here = at_comma here s (kept_brackets s) refl covers h go
    by false here =
        let n = length s in
        let m = kept_brackets s in
        goes ending later m m d (ready M p) t u us same is.goes_on here near (same_open m is) second
        (go L M o p covers few
        (came n n c (ready L o) t.kind ts is.goes_on here (same_open n is) first h))

prefixed : {kind : TokenKind} (L : List Level) (o : ℕ) → Plain kind →
    after_token (ready L o) kind
    ≡ ready (if is_minus kind && true then negative ∷ L else L) (if is_operator kind then o + 1 else o)
prefixed L o is = rw (is.no_opening, is.no_closing, is.no_end) refl

infixed : {kind : TokenKind} (L : List Level) (o : ℕ) → Plain kind →
    after_token (ended L o) kind ≡ ready (without_minuses L) (if is_operator kind then o + 1 else o)
infixed {kind = kind} L o is =
    rw (is.no_opening, is.no_closing, is.no_end, is.no_paren, and-false (is_minus kind)) refl

closed_ready : (kind : TokenKind) (L : List Level) (o : ℕ) → closes kind ≡ true →
    after_token (ready (bracket ∷ L) o) kind ≡ ended L o
closed_ready kind L o h =
    let is = closing_kind kind h in rw (is.no_opening, h, is.end, is.no_operator) refl

closed_ended : (kind : TokenKind) (L : List Level) (o : ℕ) → closes kind ≡ true →
    after_token (ended L o) kind ≡ ended (drop 1 (without_minuses L)) o
closed_ended kind L o h =
    let is = closing_kind kind h in rw (is.no_opening, h, is.end, is.no_operator, is.no_paren) refl

closing_near : (kind : TokenKind) (c : Count) → closes kind ≡ true → goes_too_far c kind ≡ false
closing_near kind c h =
    let is = closing_kind kind h in rw (is.no_opening, is.no_minus, is.no_operator) refl

-- Where the first tokens open no level too many, and are not too many operators, the second neither
-- do nor are.
pub shallow : {ending later ts us : List Token} {at : Stand} {s : List Bool} {c d : Count} →
    LeftOut ending later at s ts us → Matches at s c d → IsShallow (inscribing (length s) c) ts →
    Ends ending later (kept_brackets s) d us
shallow {ending = ending} {later = later} (LeftOut.done a b) (Matches.ends {L = L} {M = M} {o = o} {p = p} c f) h = (
  any_count (ended L o) at_first ending a h,
  λ x. any_count at_first (ended M p) later b x,
)
shallow (LeftOut.operand {s = s} {t = t} {u = u} same is x) (Matches.operands {L = L} {M = M} {o = o} {p = p} c f) h =
    let n = length s in
    let m = kept_brackets s in
    let a = operand_kind t.kind L o is in
    let b = operand_kind t.kind M p is in
    goes _ _ m m (ready M p) _ t u _ same b.goes_on b.no_comma b.near (b.depth m) b.next
    (shallow x (Matches.ends (without c) f)
    (came n n (ready L o) _ t.kind _ a.goes_on a.no_comma (a.depth n) a.next h.1))
shallow (LeftOut.leading {s = s} {t = t} {u = u} {ts = ts} {us = us} same is x) (Matches.operands {L = L} {M = M} {o = o} {p = p} c f) h =
    let a = plain t.kind is in
    past_plain _ _ s (ready L o) (ready M p) t u ts us _ _ _ _ same a (prefixed L o a) (prefixed M p a)
    (nearer (opens_level (ready L o) t.kind) (is_operator t.kind) (length M) (length L) o p (no_longer c) f h.0)
    (signed (is_minus t.kind && true) c) (pushed (is_operator t.kind) o p f) h.1
    (λ L M o p c f h. shallow x (Matches.operands c f) h)
shallow (LeftOut.joining {s = s} {t = t} {u = u} {ts = ts} {us = us} same is x) (Matches.ends {L = L} {M = M} {o = o} {p = p} c f) h =
    let a = plain t.kind is in
    let small : length (levels_at (ended M p) t.kind) ≤ length (levels_at (ended L o) t.kind) =
    rw (a.no_paren) (no_longer c) in
    past_plain _ _ s (ended L o) (ended M p) t u ts us _ _ _ _ same a (infixed L o a) (infixed M p a)
    (nearer (opens_level (ended L o) t.kind) (is_operator t.kind) (length (levels_at (ended M p) t.kind))
    (length (levels_at (ended L o) t.kind)) o p small f h.0)
    c (pushed (is_operator t.kind) o p f) h.1
    (λ L M o p c f h. shallow x (Matches.operands c f) h)
shallow (LeftOut.opening {s = s} {t = t} {u = u} same is x) (Matches.operands {L = L} {M = M} {o = o} {p = p} c f) h =
    let n = length s in
    let m = kept_brackets s in
    let a = opening_kind t.kind L o is in
    let b = opening_kind t.kind M p is in
    goes _ _ m (suc m) (ready M p) _ t u _ same b.goes_on b.no_comma
    (b.far ∙ low 64 (length M) (length L) (no_longer c) (sym a.far ∙ h.0)) (b.depth m) b.next
    (shallow x (Matches.brackets c f)
    (came n (suc n) (ready L o) _ t.kind _ a.goes_on a.no_comma (a.depth n) a.next h.1))
shallow (LeftOut.calling {s = s} {t = t} {u = u} {v = v} {w = w} {ts = ts} {us = us} i j k l x) (Matches.operands {L = L} {M = M} {o = o} {p = p} c f) h =
    let n = length s in
    let m = kept_brackets s in
    let named : IsShallow (inscribing n (ended L o)) (u ∷ ts) =
    came n n (ready L o) _ t.kind (u ∷ ts) (ap is_semicolon i) (ap is_comma i) (ap (open_after n) i)
    (ap (after_token (ready L o)) i) h.1 in
    let near : goes_too_far (ended L o) open_paren ≡ false = sym (ap (goes_too_far (ended L o)) j) ∙ named.0 in
    let one : (k : ℕ) → k + 1 ≡ suc k = λ k. omega arith in
    goes _ _ m m (ready M p) _ v v (w ∷ us) refl (ap is_semicolon k) (ap is_comma k)
    (ap (goes_too_far (ready M p)) k) (ap (open_after m) k) (ap (after_token (ready M p)) k)
    (goes _ _ m (suc m) (ended M p) _ w w _ refl (ap is_semicolon l) (ap is_comma l)
    (ap (goes_too_far (ended M p)) l
    ∙ nearer true false (length M) (length L) o p (no_longer c) f near)
    (ap (open_after m) l ∙ one m) (ap (after_token (ended M p)) l)
    (shallow x (Matches.brackets c f)
    (came n (suc n) (ended L o) _ u.kind _ (ap is_semicolon j) (ap is_comma j)
    (ap (open_after n) j ∙ one n) (ap (after_token (ended L o)) j) named.1)))
shallow (LeftOut.inside x) (Matches.brackets c f) h = shallow x (Matches.operands (Covers.kept c) f) h
shallow (LeftOut.empty {s = s} {t = t} {u = u} same is x) (Matches.brackets {L = L} {M = M} {o = o} {p = p} c f) h =
    let n = length s in
    let m = kept_brackets s in
    let a = closing_kind t.kind is in
    goes _ _ (suc m) m (ready (bracket ∷ M) p) _ t u _ same a.goes_on a.no_comma
    (closing_near t.kind (ready (bracket ∷ M) p) is) (a.depth m) (closed_ready t.kind M p is)
    (shallow x (Matches.ends (without c) f)
    (came (suc n) n (ready (bracket ∷ L) o) _ t.kind _ a.goes_on a.no_comma (a.depth n)
    (closed_ready t.kind L o is) h.1))
shallow (LeftOut.closing {s = s} {t = t} {u = u} same is x) (Matches.ends {L = L} {M = M} {o = o} {p = p} c f) h =
    let n = length s in
    let m = kept_brackets s in
    let a = closing_kind t.kind is in
    goes _ _ (suc m) m (ended M p) _ t u _ same a.goes_on a.no_comma
    (closing_near t.kind (ended M p) is) (a.depth m) (closed_ended t.kind M p is) (elim (closed_both c) [
      | inl both ↦
          shallow x (Matches.ends (without both) f)
          (came (suc n) n (ended L o) _ t.kind _ a.goes_on a.no_comma (a.depth n)
          (closed_ended t.kind L o is) h.1)
      | inr n ↦ absurd (not-newest L n)
    ])
shallow (LeftOut.opening_alone {s = s} {t = t} i x) (Matches.operands {L = L} {o = o} c f) h =
    let n = length s in
    let one : n + 1 ≡ suc n = omega arith in
    shallow x (Matches.operands (Covers.alone c) f)
    (came n (suc n) (ready L o) _ t.kind _ (ap is_semicolon i) (ap is_comma i)
    (ap (open_after n) i ∙ one) (ap (after_token (ready L o)) i) h.1)
shallow (LeftOut.closing_alone {s = s} {t = t} i x) (Matches.ends {L = L} {M = M} {o = o} c f) h =
    let n = length s in
    let less : suc n - 1 ≡ n = omega arith in
    elim (closed_one c) [
      | inl one ↦
          shallow x
          (Matches.ends (subst (Covers s (without_minuses (drop 1 (without_minuses L)))) (without-twice M) (without one)) f)
          (came (suc n) n (ended L o) _ t.kind _ (ap is_semicolon i) (ap is_comma i)
          (ap (open_after (suc n)) i ∙ less) (ap (after_token (ended L o)) i) h.1)
      | inr n ↦ absurd (not-newest L n)
    ]
shallow (LeftOut.nothing_said {u = u} {v = v} {w = w} {us = us} i j k x) (Matches.ends {L = L} {M = M} {o = o} {p = p} c f) h =
    let N = without_minuses M in
    let none : N ≡ [] = elim (none_open c) [
      | inl e ↦ e
      | inr n ↦ absurd (not-newest M n)
    ] in
    goes _ _ 0 0 (ended M p) _ u u (v ∷ w ∷ us) refl (ap is_semicolon i) (ap is_comma i)
    (ap (goes_too_far (ended M p)) i) (ap (open_after 0) i) (ap (after_token (ended M p)) i)
    (goes _ _ 0 1 (ready N p) _ v v (w ∷ us) refl (ap is_semicolon j) (ap is_comma j)
    (ap (goes_too_far (ready N p)) j ∙ ap (λ K. goes_too_far (ready K p) open_bracket) none)
    (ap (open_after 0) j) (ap (after_token (ready N p)) j)
    (goes _ _ 1 0 (ready (bracket ∷ N) p) _ w w _ refl (ap is_semicolon k) (ap is_comma k)
    (ap (goes_too_far (ready (bracket ∷ N) p)) k) (ap (open_after 1) k)
    (ap (after_token (ready (bracket ∷ N) p)) k)
    (shallow x (Matches.ends (subst (Covers [] (without_minuses L)) (sym (without-twice M)) c) f) h)))
