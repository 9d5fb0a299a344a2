-- Sorts of phrases made of others, and the steps along them.
use Rattle.rn_net.proofs.Names.{◌≡◌, ℕ, ◌+◌, ◌≤◌, true, false, List, [], ◌∷◌, ◌++◌, length, drop, refl, sym, ◌∙◌, ap, subst, pos, Spot, Token, TokenKind, Name, Word, Number, Text, Sign, ReadFault, Phrases, Done, BeginAlike, Sort, PName, name_at, IsNotNextKind, IsNextName, IsNoName, Region, is_too_deep, after, net_counting, Stage, Fails, HasNext, IsNoNumber, Anything, alike-cons, too_far, any}
use Rattle.std.proofs.Common.{ℤ}
use Rattle.rn_reading.specs.declared.fault.ReadFault.TheVariants as Fault
use Rattle.rn_net.proofs.Steps.{change, take, stuck}

-- phrases that begin with a token of a kind, or with a name
abbrev pub WithKind : {A : Type 0} → TokenKind → (Spot → Phrases A) → Phrases A
WithKind kind Y ts e rest = (t : Token) × (us : List Token) × (ts ≡ t ∷ us) × (t.kind ≡ kind) × Y t.spot us e rest

abbrev pub WithName : {A : Type 0} → (PName → Phrases A) → Phrases A
WithName Y ts e rest = (t : Token) × (us : List Token) × (p : List ℕ) × (ts ≡ t ∷ us) × (t.kind ≡ Name p) × Y (name_at t.spot p) us e rest

-- a token of a kind, and then a phrase that may depend on its spot
abbrev pub kind_then : {A : Type 0} → TokenKind → (Spot → Sort A) → Sort A
kind_then kind Y = let y = (Y (any kind).spot).ends in
    record { is = WithKind kind (λ spot. (Y spot).is); ends = (any kind ∷ y.0, y.1, λ rest. (any kind, y.0 ++ rest, refl, refl, y.2 rest)) }

-- a name, and then a phrase that may depend on it
abbrev pub name_then : {A : Type 0} → (PName → Sort A) → Sort A
name_then Y = let y = (Y (name_at (any (Name [])).spot [])).ends in
    record { is = WithName (λ p. (Y p).is); ends = (any (Name []) ∷ y.0, y.1, λ rest. (any (Name []), y.0 ++ rest, [], refl, refl, y.2 rest)) }

-- the token of the kind is next
pub kind_read : {A : Type 0} {X : Phrases A} {start : List Token} {first now : Region} {kind : TokenKind} {spot : Spot} (Y : Spot → Sort A) (tokens : List Token) (at next : ℕ) (last : Region) →
    Stage X start first (kind_then kind Y) (drop at tokens) now → HasNext tokens at kind spot → next ≡ at + 1 →
    is_too_deep now kind ≡ false → after now kind ≡ last →
    Stage X start first (Y spot) (drop next tokens) last
kind_read {X = X} {start = start} {first = first} {now = now} {kind = kind} {spot = spot} Y tokens at next last s here there small there_now =
    subst (λ n. Stage X start first (Y spot) (drop n tokens) last) (sym there)
    (subst (λ r. Stage X start first (Y spot) (drop (at + 1) tokens) r) (ap (after now) here.2 ∙ there_now)
    (subst (λ w. Stage X start first (Y w) (drop (at + 1) tokens) (after now here.0.kind)) (sym here.3)
    (take (Y here.0.spot) (subst (λ us. Stage X start first (kind_then kind Y) us now) here.1.0 s) (subst (λ k. is_too_deep now k ≡ false) (sym here.2) small)
    (λ ts e rest y. (here.0, ts, refl, here.2, y))
    (λ ts e rest alike x. subst (λ us. (Y here.0.spot).is us e rest) (let h : x.1 ≡ ts = let d = x.2 in cc in h)
    (subst (λ w. (Y w).is x.1 e rest) (let h : x.0.spot ≡ here.0.spot = ap (λ u. u.spot) (let g : x.0 ≡ here.0 = let d = x.2 in cc in g) in h) x.4)))))

-- another token is next, or none
pub kind_stuck : {A : Type 0} {X : Phrases A} {start : List Token} {first now : Region} {kind : TokenKind} (Y : Spot → Sort A) (tokens : List Token) (at : ℕ) →
    Stage X start first (kind_then kind Y) (drop at tokens) now → at ≤ length tokens → IsNotNextKind tokens at kind →
    Fails X start first (length tokens) (Fault.Stopped at)
kind_stuck {kind = kind} Y tokens at s inside other = stuck (kind_then kind Y) tokens at s inside (λ ts e rest alike x.
    let next = alike-cons (drop at tokens) x.0 x.1 (subst (λ us. BeginAlike (drop at tokens) us) x.2 alike) in other x.0 next.0 next.1 x.3)

-- the token of the kind is next, and too deep
pub kind_far : {A : Type 0} {X : Phrases A} {start : List Token} {first now : Region} {kind : TokenKind} {spot : Spot} (Y : Spot → Sort A) (tokens : List Token) (at : ℕ) →
    Stage X start first (kind_then kind Y) (drop at tokens) now → HasNext tokens at kind spot → is_too_deep now kind ≡ true →
    Fails X start first (length tokens) (Fault.TooFar at)
kind_far {now = now} Y tokens at s here deep =
    let y = (Y here.0.spot).ends in
    too_far net_counting Anything tokens at s here.1 (y.0, y.1, λ rest. (here.0, y.0 ++ rest, refl, here.2, y.2 rest)) (subst (λ k. is_too_deep now k ≡ true) (sym here.2) deep)

-- a name is next, or none
pub name_read : {A : Type 0} {X : Phrases A} {start : List Token} {first now : Region} (Y : PName → Sort A) (tokens : List Token) (at next : ℕ) (last : Region) (name : PName) →
    Stage X start first (name_then Y) (drop at tokens) now → IsNextName tokens at name → next ≡ at + 1 →
    ((s : List ℕ) → is_too_deep now (Name s) ≡ false) → ((s : List ℕ) → after now (Name s) ≡ last) →
    Stage X start first (Y name) (drop next tokens) last
name_read {X = X} {start = start} {first = first} {now = now} Y tokens at next last name s here there small there_now =
    subst (λ n. Stage X start first (Y name) (drop n tokens) last) (sym there)
    (subst (λ r. Stage X start first (Y name) (drop (at + 1) tokens) r) (ap (after now) here.3 ∙ there_now here.1)
    (take (Y name) (subst (λ us. Stage X start first (name_then Y) us now) here.2.0 s) (subst (λ k. is_too_deep now k ≡ false) (sym here.3) (small here.1))
    (λ ts e rest y. (here.0, ts, here.1, refl, here.3, subst (λ p. (Y p).is ts e rest) here.4 y))
    (λ ts e rest alike x. subst (λ us. (Y name).is us e rest) (let h : x.1 ≡ ts = let d = x.3 in cc in h)
    (subst (λ p. (Y p).is x.1 e rest) (let h : name_at x.0.spot x.2 ≡ name_at here.0.spot here.1 = let d = x.3 in let f = x.4 in let g = here.3 in cc in h ∙ sym here.4) x.5))))

pub name_fails : {A : Type 0} {X : Phrases A} {start : List Token} {first now : Region} (Y : PName → Sort A) (tokens : List Token) (at : ℕ) (e : ReadFault) →
    Stage X start first (name_then Y) (drop at tokens) now → at ≤ length tokens → IsNoName tokens at e →
    Fails X start first (length tokens) e
name_fails {X = X} {start = start} {first = first} Y tokens at (Fault.Stopped k) s inside bad =
    subst (λ x. Fails X start first (length tokens) (Fault.Stopped x)) (sym bad.1) (stuck (name_then Y) tokens at s inside (λ ts e rest alike x.
    let next = alike-cons (drop at tokens) x.0 x.1 (subst (λ us. BeginAlike (drop at tokens) us) x.3 alike) in bad.0 x.0 next.0 x.2 next.1 x.4))
name_fails Y tokens at (Fault.TooFar k) s inside bad = absurd bad
name_fails Y tokens at (Fault.NoMemory _) s inside bad = tt

-- what is read is done
pub from_done : {A : Type 0} (X : A → List Token → Type 0) {a e : A} {mid rest : List Token} → Done a mid e rest → X a mid → X e rest
from_done X {a = a} {rest = rest} d x = subst (λ b. X b rest) (sym d.0) (subst (λ r. X a r) (sym d.1) x)

-- the first token of tokens that begin like those at an index
pub next_is : {kind : TokenKind} {spot : Spot} (tokens : List Token) (at : ℕ) {ts : List Token} (t : Token) (us : List Token) →
    HasNext tokens at kind spot → BeginAlike (drop at tokens) ts → ts ≡ t ∷ us → t.kind ≡ kind
next_is tokens at t us here alike is =
    let n = alike-cons (drop at tokens) t us (subst (λ vs. BeginAlike (drop at tokens) vs) is alike) in
    ap (λ u. u.kind) (let h : t ≡ here.0 = let a = n.1 in let b = here.1.0 in cc in h) ∙ here.2

-- words and signs are told apart by a number
abbrev pub tell : TokenKind → ℕ
tell (Word k) = k
tell (Sign k) = 100 + k
tell (Number n) = 1000
tell (Text s) = 2000
tell (Name s) = 3000

pub tell_apart : (j k : TokenKind) → j ≡ k → (tell j ≡ tell k → ⊥) → ⊥
tell_apart j k same differ = differ (ap tell same)

-- a number, and then a phrase that may depend on it and on its spot
abbrev pub WithNumber : {A : Type 0} → (Spot → ℤ → Phrases A) → Phrases A
WithNumber Y ts e rest = (t : Token) × (us : List Token) × (n : ℤ) × (ts ≡ t ∷ us) × (t.kind ≡ Number n) × Y t.spot n us e rest

abbrev pub number_then : {A : Type 0} → (Spot → ℤ → Sort A) → Sort A
number_then Y = let y = (Y (any (Number (pos 0))).spot (pos 0)).ends in
    record { is = WithNumber (λ spot n. (Y spot n).is); ends = (any (Number (pos 0)) ∷ y.0, y.1, λ rest. (any (Number (pos 0)), y.0 ++ rest, pos 0, refl, refl, y.2 rest)) }

pub number_read : {A : Type 0} {X : Phrases A} {start : List Token} {first now : Region} {spot : Spot} {n : ℤ} (Y : Spot → ℤ → Sort A) (tokens : List Token) (at next : ℕ) (last : Region) →
    Stage X start first (number_then Y) (drop at tokens) now → HasNext tokens at (Number n) spot → next ≡ at + 1 →
    is_too_deep now (Number n) ≡ false → after now (Number n) ≡ last →
    Stage X start first (Y spot n) (drop next tokens) last
number_read {n = n} Y tokens at next last s here there small there_now = kind_read (λ spot. Y spot n) tokens at next last
    (change (kind_then (Number n) (λ spot. Y spot n)) s
    (λ ts e rest x. (x.0, x.1, n, x.2, x.3, x.4))
    (λ ts e rest alike x. (x.0, x.1, x.3, next_is tokens at x.0 x.1 here alike x.3, subst (λ m. (Y x.0.spot m).is x.1 e rest) (let h : x.2 ≡ n = let f : x.0.kind ≡ Number n = next_is tokens at x.0 x.1 here alike x.3 in let g = x.4 in cc in h) x.5)))
    here there small there_now

pub number_stuck : {A : Type 0} {X : Phrases A} {start : List Token} {first now : Region} (Y : Spot → ℤ → Sort A) (tokens : List Token) (at : ℕ) →
    Stage X start first (number_then Y) (drop at tokens) now → at ≤ length tokens → IsNoNumber tokens at →
    Fails X start first (length tokens) (Fault.Stopped at)
number_stuck Y tokens at s inside other = stuck (number_then Y) tokens at s inside (λ ts e rest alike x.
    let next = alike-cons (drop at tokens) x.0 x.1 (subst (λ us. BeginAlike (drop at tokens) us) x.3 alike) in other x.0 next.0 x.2 next.1 x.4)
