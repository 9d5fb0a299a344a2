-- The steps of rn_reading with levels and operators counted.
use Rattle.rn_inscript.proofs.Names.{ℕ, ◌≤◌, ◌⊎◌, inl, inr, List, [], ◌∷◌, drop, refl, arith, Token, ReadFault, Phrases, Then, Done, BeginAlike, CanEnd, Seen, Level, Count, inscript_counting, Ends, Stage, Fails, IsSoFar, ended}
use Rattle.rn_reading.proofs.Steps as Steps

-- nothing was taken
pub begin : {A : Type 0} (n : ℕ) (X : Phrases A) (start : List Token) (first : Count) → Stage n X start first X start first
begin n X start first = Steps.begin_itself inscript_counting (Ends n) X start first

-- what is left is said in other words, which the next token may decide
pub change : {A : Type 0} {n : ℕ} {X Y : Phrases A} {start left : List Token} {first now : Count} (Z : Phrases A) →
    Stage n X start first Y left now →
    ((ts : List Token) (e : A) (rest : List Token) → Z ts e rest → Y ts e rest) →
    ((ts : List Token) (e : A) (rest : List Token) → BeginAlike left ts → Ends n rest → Y ts e rest → Z ts e rest) →
    Stage n X start first Z left now
change {n = n} Z s on only = Steps.change inscript_counting (Ends n) Z s on only

-- a phrase was taken that another has to follow
pub inner : {A B : Type 0} {n m : ℕ} {X : Phrases A} {Z : Phrases B} {start mid left : List Token} {first now then : Count} {a : A} (Y : A → Phrases B) →
    Stage n Z start first (Then X Y) mid now →
    Stage m X mid now (Done a) left then →
    ((b : A) (ts : List Token) (e : B) (rest : List Token) → Ends n rest → Y b ts e rest → Ends m ts) →
    Stage n Z start first (Y a) left then
inner {n = n} {m = m} Y s p follow = Steps.inner inscript_counting (Ends n) (Ends m) Y (λ b ts e rest y ends. follow b ts e rest ends y) s p

-- the phrase in which a reading fails is one that another has to follow
pub inner_fails : {A B : Type 0} {n m : ℕ} {X : Phrases A} {Y : A → Phrases B} {Z : Phrases B} {start mid : List Token} {first now : Count} (total : ℕ) (e : ReadFault) →
    Stage n Z start first (Then X Y) mid now →
    ((b : A) (ts : List Token) (e : B) (rest : List Token) → Ends n rest → Y b ts e rest → Ends m ts) →
    ((b : A) → CanEnd (Y b)) →
    Fails m X mid now total e → Fails n Z start first total e
inner_fails {n = n} {m = m} {Y = Y} total e s follow ends f = Steps.inner_fails inscript_counting (Ends n) (Ends m) Y total e (λ b ts x rest y fit. follow b ts x rest fit y) ends s f

pub inner_read : {A B : Type 0} {n m : ℕ} {X : Phrases A} {Z : Phrases B} {tokens : List Token} {before then after : Seen} {first now : Count} {around : List Level} {a : A} (Y : A → Phrases B) →
    Stage n Z (drop before.at tokens) first (Then X Y) (drop then.at tokens) now →
    ((b : A) (ts : List Token) (e : B) (rest : List Token) → Ends n rest → Y b ts e rest → Ends m ts) →
    IsSoFar m X tokens then now around (Done a) after → IsSoFar n Z tokens before first around (Y a) after
inner_read Y s follow p = record { open_now = p.open_now; closed = p.closed; stage = inner Y s p.stage follow }

pub so_far : {A : Type 0} {n : ℕ} {X Y : Phrases A} {tokens : List Token} {before now : Seen} {first : Count} {levels : List Level} →
    Stage n X (drop before.at tokens) first Y (drop now.at tokens) (ended levels now.operators) → IsSoFar n X tokens before first levels Y now
so_far {levels = levels} s = record { open_now = levels; closed = refl; stage = s }

-- what a stronger sign can't go on with, a weaker one can't
pub weaker : (n m : ℕ) (ts : List Token) → n ≤ m → Ends n ts → Ends m ts
weaker n m [] le ends = tt
weaker n m (t ∷ ts) le ends = omega (arith, le, ends)

-- of two phrases that may be left, the next token rules one out
pub first_left : {A : Type 0} {n : ℕ} {X Y Z : Phrases A} {start left : List Token} {first now : Count} →
    Stage n X start first (λ ts e rest. Y ts e rest ⊎ Z ts e rest) left now →
    ((ts : List Token) (e : A) (rest : List Token) → BeginAlike left ts → Z ts e rest → ⊥) → Stage n X start first Y left now
first_left {Y = Y} s none = change Y s (λ ts e rest y. inl y) (λ ts e rest alike ends x. elim x [ inl y ↦ y | inr z ↦ absurd (none ts e rest alike z) ])

pub second_left : {A : Type 0} {n : ℕ} {X Y Z : Phrases A} {start left : List Token} {first now : Count} →
    Stage n X start first (λ ts e rest. Y ts e rest ⊎ Z ts e rest) left now →
    ((ts : List Token) (e : A) (rest : List Token) → BeginAlike left ts → Y ts e rest → ⊥) → Stage n X start first Z left now
second_left {Z = Z} s none = change Z s (λ ts e rest z. inr z) (λ ts e rest alike ends x. elim x [ inl y ↦ absurd (none ts e rest alike y) | inr z ↦ z ])
