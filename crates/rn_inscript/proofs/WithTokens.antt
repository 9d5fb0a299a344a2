-- Phrases that begin with a token of a kind or with a name.
use Rattle.rn_inscript.proofs.Names.{◌≡◌, ℕ, ◌≤◌, ◌⊎◌, inl, inr, false, List, [], ◌∷◌, ◌++◌, length, drop, refl, ap, subst, arith, Token, TokenKind, Name, Seen, ReadFault, PName, name_at, Level, Count, goes_too_far, after_token, Phrases, Done, BeginAlike, CanEnd, Ends, Stage, Fails, IsNextKind, strength, ready, ended, past, IsNotNextKind, IsNextName, IsNoName, alike-cons}
use Rattle.rn_reading.specs.declared.fault.ReadFault.TheVariants as Fault
use Rattle.rn_inscript.proofs.StageLemmas.{change}
use Rattle.rn_inscript.proofs.Passing.{pass, stuck_next}
use Rattle.rn_inscript.proofs.BracketSteps.{any}

-- a token of a kind, and then a phrase
abbrev pub WithKind : {A : Type 0} → TokenKind → Phrases A → Phrases A
WithKind kind Y ts e rest = (t : Token) × (us : List Token) × (ts ≡ t ∷ us) × (t.kind ≡ kind) × Y us e rest

-- a name, and then a phrase that may depend on it
abbrev pub WithName : {A : Type 0} → (PName → Phrases A) → Phrases A
WithName Y ts e rest = (t : Token) × (us : List Token) × (p : List ℕ) × (ts ≡ t ∷ us) × (t.kind ≡ Name p) × Y (name_at t.spot p) us e rest

pub with_kind_ends : {A : Type 0} (kind : TokenKind) (Y : Phrases A) → CanEnd Y → CanEnd (WithKind kind Y)
with_kind_ends kind Y y = (any kind ∷ y.0, y.1, λ rest. (any kind, y.0 ++ rest, refl, refl, y.2 rest))

pub with_name_ends : {A : Type 0} (Y : PName → Phrases A) → ((p : PName) → CanEnd (Y p)) → CanEnd (WithName Y)
with_name_ends Y ends =
    let y = ends (name_at (any (Name [])).spot []) in (any (Name []) ∷ y.0, y.1, λ rest. (any (Name []), y.0 ++ rest, [], refl, refl, y.2 rest))

-- the token is next, and is taken
pub with_kind_read : {A : Type 0} {n : ℕ} {X Y : Phrases A} {kind : TokenKind} {start : List Token} {first now : Count} {levels : List Level} (tokens : List Token) (seen after : Seen) →
    Stage n X start first (WithKind kind Y) (drop seen.at tokens) now → IsNextKind tokens seen.at kind → after ≡ past seen →
    goes_too_far now kind ≡ false → after_token now kind ≡ ready levels seen.operators → Stage n X start first Y (drop after.at tokens) (ready levels after.operators)
with_kind_read {Y = Y} {kind = kind} tokens seen after s next there small counted = rw there (
    change Y (pass tokens seen.at kind _ s next.1 next.2 small counted)
    (λ ts e rest y. (next.0, ts, refl, next.2, y))
    (λ ts e rest alike ends x. subst (λ us. Y us e rest) (let h : x.1 ≡ ts = let d = x.2 in cc in h) x.4))

-- the token is next, and what was read is no whole phrase before it
pub or_kind_read : {A : Type 0} {n : ℕ} {X Y : Phrases A} {a : A} {kind : TokenKind} {start : List Token} {first now : Count} {levels : List Level} (tokens : List Token) (seen after : Seen) →
    Stage n X start first (λ ts e rest. Done a ts e rest ⊎ WithKind kind Y ts e rest) (drop seen.at tokens) now → IsNextKind tokens seen.at kind → after ≡ past seen → n ≤ strength kind →
    goes_too_far now kind ≡ false → after_token now kind ≡ ready levels seen.operators → Stage n X start first Y (drop after.at tokens) (ready levels after.operators)
or_kind_read {n = n} {Y = Y} {kind = kind} tokens seen after s next there binds small counted = rw there (
    change Y (pass tokens seen.at kind _ s next.1 next.2 small counted)
    (λ ts e rest y. inr (next.0, ts, refl, next.2, y))
    (λ ts e rest alike ends x. elim x [
      | inl d ↦ absurd (let low : Ends n (next.0 ∷ ts) = subst (Ends n) d.1 ends in let same : strength next.0.kind ≡ strength kind = ap strength next.2 in omega (arith, binds, low, same))
      | inr y ↦ subst (λ us. Y us e rest) (let h : y.1 ≡ ts = let d = y.2 in cc in h) y.4
    ]))

-- the token isn't next
pub not_kind : {A : Type 0} {kind : TokenKind} (Y : Phrases A) (tokens : List Token) (at : ℕ) → IsNotNextKind tokens at kind →
    (ts : List Token) (e : A) (rest : List Token) → BeginAlike (drop at tokens) ts → WithKind kind Y ts e rest → ⊥
not_kind Y tokens at other ts e rest alike x = let next = alike-cons (drop at tokens) x.0 x.1 (rw x.2 at alike) in other x.0 next.0 next.1 x.3

pub with_kind_stuck : {A : Type 0} {n : ℕ} {X Y : Phrases A} {kind : TokenKind} {start : List Token} {first now : Count} (tokens : List Token) (at : ℕ) →
    Stage n X start first (WithKind kind Y) (drop at tokens) now → at ≤ length tokens → CanEnd (WithKind kind Y) → IsNotNextKind tokens at kind →
    Fails n X start first (length tokens) (Fault.Stopped at)
with_kind_stuck {Y = Y} tokens at s inside end other = stuck_next tokens at s inside end (not_kind Y tokens at other)

pub with_name_read : {A : Type 0} {n : ℕ} {X : Phrases A} {start : List Token} {first : Count} {levels : List Level} (Y : PName → Phrases A) (tokens : List Token) (seen after : Seen) (name : PName) →
    Stage n X start first (WithName Y) (drop seen.at tokens) (ready levels seen.operators) → IsNextName tokens seen.at name → after ≡ past seen →
    Stage n X start first (Y name) (drop after.at tokens) (ended levels after.operators)
with_name_read Y tokens seen after name s next there = rw (there, next.4) (
    change (Y (name_at next.0.spot next.1)) (pass tokens seen.at (Name next.1) _ s next.2 next.3 refl refl)
    (λ ts e rest y. (next.0, ts, next.1, refl, next.3, y))
    (λ ts e rest alike ends x. subst (λ us. Y (name_at next.0.spot next.1) us e rest) (let h : x.1 ≡ ts = let d = x.3 in cc in h)
    (subst (λ p. Y p x.1 e rest) (let h : name_at x.0.spot x.2 ≡ name_at next.0.spot next.1 = let d = x.3 in let f = x.4 in let g = next.3 in cc in h) x.5)))

pub with_name_fails : {A : Type 0} {n : ℕ} {X : Phrases A} {start : List Token} {first now : Count} (Y : PName → Phrases A) (tokens : List Token) (at : ℕ) (e : ReadFault) →
    Stage n X start first (WithName Y) (drop at tokens) now → at ≤ length tokens → ((p : PName) → CanEnd (Y p)) → IsNoName tokens at e →
    Fails n X start first (length tokens) e
with_name_fails Y tokens at (Fault.Stopped k) s inside ends bad = rw bad.1 (stuck_next tokens at s inside (with_name_ends Y ends) (λ ts e rest alike x.
    let next = alike-cons (drop at tokens) x.0 x.1 (rw x.3 at alike) in bad.0 x.0 next.0 x.2 next.1 x.4))
with_name_fails Y tokens at (Fault.TooFar k) s inside ends bad = absurd bad
with_name_fails Y tokens at (Fault.NoMemory _) s inside ends bad = tt
