-- The steps along phrases where nothing is counted, and anything may follow.
use Rattle.std.proofs.Common.{◌≡◌, ℕ, ◌≤◌, List, [], ◌∷◌, ◌++◌, length, drop, refl, sym, subst, Option, Some, None}
use Rattle.std.specs.Prelude.{Result, Ok, Err}
use Rattle.std.specs.Result.{IsErrAnd}
use Rattle.rn_notation.specs.declared.token.Token.{Token}
use Rattle.rn_reading.specs.declared.fault.ReadFault.{ReadFault}
use Rattle.rn_reading.specs.declared.fault.ReadFault.TheVariants as Fault
use Rattle.rn_reading.specs.Phrases.{Phrases}
use Rattle.rn_reading.specs.Counting.{uncounted}
use Rattle.rn_reading.specs.link.Stages.{Anything, Sort, Stage, Fails, ReadsUncounted, done, IsNextOne, IsNotNext, Steps}
use Rattle.rn_reading.proofs.Steps.{begin_itself, change, failed, same_end}
use Rattle.rn_reading.proofs.Sorts.{Single, Others, one, and_then, maybe, many, one_read, one_stuck, then_read, then_fails, maybe_some, maybe_none, many_next, many_end}

-- what is left of a phrase from an index on, and how its reading fails
abbrev pub At : {D : Type 0} → Phrases D → List Token → List Token → Sort D → ℕ → Type 0
At Z from tokens Y at = Stage uncounted Anything Z from tt Y (drop at tokens) tt

abbrev pub Failed : {D : Type 0} → Phrases D → List Token → List Token → ReadFault → Type 0
Failed Z from tokens e = Fails uncounted Anything Z from tt (length tokens) e

-- at the start all of the phrase is left
pub started : {D : Type 0} (Y : Sort D) (tokens : List Token) (start : ℕ) → At Y.is (drop start tokens) tokens Y start
started Y tokens start = begin_itself uncounted Anything Y.is (drop start tokens) tt

-- one token is read, or not
pub goes : {A D : Type 0} {Z : Phrases D} {from : List Token} {a : A} (r : Single A) (Y : A → Sort D) (tokens : List Token) (at end : ℕ) →
    At Z from tokens (and_then (one r) Y) at → Steps r.read tokens at (Ok (a, end)) → At Z from tokens (Y a) end
goes r Y tokens at end s steps = one_read uncounted Anything r Y tokens at end tt s steps.0 steps.1 (λ t is. (refl, refl))

-- where it isn't, the whole fails with that fault
pub stops : {A D : Type 0} {Z : Phrases D} {from : List Token} (r : Single A) (Y : A → Sort D) (tokens : List Token) (at : ℕ) (e : ReadFault) →
    At Z from tokens (and_then (one r) Y) at → at ≤ length tokens → Steps r.read tokens at (Err e) → Failed Z from tokens e
stops {Z = Z} {from = from} r Y tokens at (Fault.Stopped k) s inside steps = subst (λ n. Failed Z from tokens (Fault.Stopped n)) (sym steps.1) (one_stuck uncounted Anything r Y tokens at s inside steps.0)
stops r Y tokens at (Fault.TooFar k) s inside steps = absurd steps
stops r Y tokens at (Fault.NoMemory _) s inside steps = tt

-- a phrase is read, or fails
pub reads : {A D : Type 0} {Z : Phrases D} {from : List Token} {a : A} (X : Sort A) (Y : A → Sort D) (tokens : List Token) (at end : ℕ) →
    At Z from tokens (and_then X Y) at → ReadsUncounted X.is tokens at (Ok (a, end)) → At Z from tokens (Y a) end
reads X Y tokens at end s p = then_read uncounted Anything Anything X Y (λ a ts b rest y f. tt) s p

-- where it fails, the whole fails with its fault
pub fails : {A D : Type 0} {Z : Phrases D} {from : List Token} (X : Sort A) (Y : A → Sort D) (tokens : List Token) (at : ℕ) (e : ReadFault) →
    At Z from tokens (and_then X Y) at → ReadsUncounted X.is tokens at (Err e) → Failed Z from tokens e
fails X Y tokens at e s f = then_fails uncounted Anything Anything X Y (length tokens) e (λ a ts b rest y f. tt) s f

-- a token that opens a phrase is next, or not
pub opens : {A B D : Type 0} {Z : Phrases D} {from : List Token} {b : B} (r : Single B) (X : Sort A) (Y : Option A → Sort D) (tokens : List Token) (at : ℕ) →
    Others r.read (Y None).is → At Z from tokens (and_then (maybe r X) Y) at → IsNextOne r.read tokens at b → At Z from tokens (and_then (one r) (λ b. and_then X (λ a. Y (Some a)))) at
opens r X Y tokens at apart s here = maybe_some uncounted Anything r X Y tokens at apart s here

-- where none is next, the phrase isn't there
pub skips : {A B D : Type 0} {Z : Phrases D} {from : List Token} (r : Single B) (X : Sort A) (Y : Option A → Sort D) (tokens : List Token) (at : ℕ) →
    At Z from tokens (and_then (maybe r X) Y) at → IsNotNext r.read tokens at → At Z from tokens (Y None) at
skips r X Y tokens at s other = maybe_none uncounted Anything r X Y tokens at s other

-- one more phrase begins, or none
pub another : {A B D : Type 0} {Z : Phrases D} {from : List Token} {b : B} (read : Token → Option B) (X : Sort A) (Y : List A → Sort D) (all : List A) (tokens : List Token) (at : ℕ) →
    Others read (Y all).is → At Z from tokens (and_then (many X) (λ more. Y (all ++ more))) at → IsNextOne read tokens at b →
    At Z from tokens (and_then X (λ a. and_then (many X) (λ more. Y ((all ++ a ∷ []) ++ more)))) at
another read X Y all tokens at apart s here = many_next uncounted Anything read X Y all tokens at apart s here

-- where none begins, those that were read are all
pub no_more : {A B D : Type 0} {Z : Phrases D} {from : List Token} (read : Token → Option B) (X : Sort A) (Y : List A → Sort D) (all : List A) (tokens : List Token) (at : ℕ) →
    ((ts : List Token) (a : A) (rest : List Token) → X.is ts a rest → (t : Token) × (us : List Token) × (ts ≡ t ∷ us) × (b : B) × (read t ≡ Some b)) →
    At Z from tokens (and_then (many X) (λ more. Y (all ++ more))) at → IsNotNext read tokens at → At Z from tokens (Y all) at
no_more read X Y all tokens at begins s other = many_end uncounted Anything read X Y all tokens at begins s other

-- what a reader returns where one that it calls fails
pub so_fails : {D : Type 0} (Z : Phrases D) (tokens : List Token) (start : ℕ) (r : Result (D × ℕ) ReadFault) (e : ReadFault) →
    IsErrAnd r (λ y. y ≡ e) → Failed Z (drop start tokens) tokens e → ReadsUncounted Z tokens start r
so_fails Z tokens start r e is f = failed uncounted Anything Z tokens start tt tt r e is f

-- what was read, in other words
pub so_reads : {D : Type 0} {Z : Phrases D} {from : List Token} {a b : D} (tokens : List Token) (end : ℕ) → a ≡ b → At Z from tokens (done b) end → At Z from tokens (done a) end
so_reads tokens end same s = same_end uncounted Anything same s

-- a reader whose answer is that of another, for what is left
pub itself : {D : Type 0} (X : Sort D) (Z : Phrases D) (tokens : List Token) (start at : ℕ) (r : Result (D × ℕ) ReadFault) →
    At Z (drop start tokens) tokens X at → ReadsUncounted X.is tokens at r → ReadsUncounted Z tokens start r
itself {D = D} X Z tokens start at r s p = by r p
  where
    left : At Z (drop start tokens) tokens (and_then X done) at
    left = change uncounted Anything (and_then X done).is s
        (λ ts e rest x. subst (λ b. X.is ts b rest) (sym x.3.0) (subst (λ us. X.is ts x.0 us) (sym x.3.1) x.2))
        (λ ts e rest alike follows x. (e, rest, x, (refl, refl)))

    by : (r : Result (D × ℕ) ReadFault) → ReadsUncounted X.is tokens at r → ReadsUncounted Z tokens start r
    by (Ok (a, end)) p = reads X done tokens at end left p
    by (Err e) p = fails X done tokens at e left p
