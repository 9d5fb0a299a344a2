-- A token is passed, or can't be.
use Rattle.rn_inscript.proofs.Names.{◌≡◌, ℕ, ◌+◌, ◌≤◌, true, false, List, [], ◌∷◌, length, drop, sym, ◌∙◌, ap, subst, Token, TokenKind, Sign, Count, inscript_counting, after_token, goes_too_far, Phrases, BeginAlike, CanEnd, IsNext, Takes, Ends, Stage, Fails, IsNotNextSign, alike-cons, take, stuck, too_far}
use Rattle.rn_reading.specs.declared.fault.ReadFault.TheVariants as Fault

-- the next token is of this kind, and is taken
pub pass : {A : Type 0} {n : ℕ} {X Y : Phrases A} {start : List Token} {first now : Count} (tokens : List Token) (at : ℕ) {t : Token} (kind : TokenKind) (then : Count) →
    Stage n X start first Y (drop at tokens) now → IsNext tokens at t → t.kind ≡ kind →
    goes_too_far now kind ≡ false → after_token now kind ≡ then →
    Stage n X start first (λ ts. Y (t ∷ ts)) (drop (at + 1) tokens) then
pass {n = n} {X = X} {Y = Y} {start = start} {first = first} {now = now} tokens at {t = t} kind then s next is small after =
    subst (λ c. Stage n X start first (λ ts. Y (t ∷ ts)) (drop (at + 1) tokens) c) (ap (after_token now) is ∙ after)
    (take inscript_counting (Ends n) (subst (λ us. Stage n X start first Y us now) next.0 s) (subst (λ k. goes_too_far now k ≡ false) (sym is) small))

-- the next token is of this kind, can follow and goes too far
pub far_next : {A : Type 0} {n : ℕ} {X Y : Phrases A} {start : List Token} {first now : Count} (tokens : List Token) (at : ℕ) {t : Token} (kind : TokenKind) →
    Stage n X start first Y (drop at tokens) now → IsNext tokens at t → t.kind ≡ kind →
    CanEnd (λ ts. Y (t ∷ ts)) → goes_too_far now kind ≡ true →
    Fails n X start first (length tokens) (Fault.TooFar at)
far_next {n = n} {now = now} tokens at kind s next is end far =
    too_far inscript_counting (Ends n) tokens at s next end (subst (λ k. goes_too_far now k ≡ true) (sym is) far)

-- what is left goes on in no way with the next token, or at the end
pub stuck_next : {A : Type 0} {n : ℕ} {X Y : Phrases A} {start : List Token} {first now : Count} (tokens : List Token) (at : ℕ) →
    Stage n X start first Y (drop at tokens) now → at ≤ length tokens → CanEnd Y →
    ((ts : List Token) (e : A) (rest : List Token) → BeginAlike (drop at tokens) ts → Y ts e rest → ⊥) →
    Fails n X start first (length tokens) (Fault.Stopped at)
stuck_next {n = n} tokens at s inside end none = stuck inscript_counting (Ends n) tokens at s inside end none

-- a sign isn't next
pub not_sign : {A : Type 0} {a : A} (tokens : List Token) (at k : ℕ) → IsNotNextSign tokens at k →
    (ts : List Token) (e : A) (rest : List Token) → BeginAlike (drop at tokens) ts → Takes (Sign k) a ts e rest → ⊥
not_sign tokens at k other ts e rest alike y = let next = alike-cons (drop at tokens) y.0 rest (rw y.1 at alike) in other y.0 next.0 next.1 y.2

-- a sign has to come that isn't next
pub stuck_sign : {A : Type 0} {n : ℕ} {X : Phrases A} {a : A} {start : List Token} {first now : Count} (tokens : List Token) (at k : ℕ) →
    Stage n X start first (Takes (Sign k) a) (drop at tokens) now → at ≤ length tokens → CanEnd (Takes (Sign k) a) →
    IsNotNextSign tokens at k → Fails n X start first (length tokens) (Fault.Stopped at)
stuck_sign tokens at k s inside end other = stuck_next tokens at s inside end (not_sign tokens at k other)

-- phrases none of which is empty, or begins with the next token
pub not_alike : {A : Type 0} {left : List Token} (Y : Phrases A) → ((e : A) (rest : List Token) → Y [] e rest → ⊥) →
    ((u : Token) (us others : List Token) (e : A) (rest : List Token) → left ≡ u ∷ others → Y (u ∷ us) e rest → ⊥) →
    (ts : List Token) (e : A) (rest : List Token) → BeginAlike left ts → Y ts e rest → ⊥
not_alike Y empty first [] e rest alike x = empty e rest x
not_alike {left = left} Y empty first (u ∷ us) e rest alike x = let next = alike-cons left u us alike in first u us next.0 e rest next.1 x
