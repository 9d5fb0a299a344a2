-- The steps of rn_reading along phrases of net texts, which anything may follow.
use Rattle.rn_net.proofs.Names.{◌≡◌, ℕ, ◌≤◌, false, List, ◌∷◌, length, drop, refl, sym, subst, Result, Ok, Err, Token, Phrases, ReadFault, Anything, BeginAlike, Progress, Sort, done, and_then, Region, net_counting, is_too_deep, after, Stage, Fails, Reads}
use Rattle.std.specs.Result.{IsErrAnd}
use Rattle.rn_reading.specs.declared.fault.ReadFault.TheVariants as Fault
use Rattle.rn_reading.proofs.Steps as Steps
use Rattle.rn_reading.proofs.Sorts as Sorts

pub begin : {A : Type 0} {X : Phrases A} (Y : Sort A) (start : List Token) (first : Region) →
    ((ts : List Token) (e : A) (rest : List Token) → Y.is ts e rest → X ts e rest) →
    ((ts : List Token) (e : A) (rest : List Token) → BeginAlike start ts → X ts e rest → Y.is ts e rest) → Stage X start first Y start first
begin Y start first on only = Steps.begin net_counting Anything Y.is start first on only

pub change : {A : Type 0} {X Y : Phrases A} {start left : List Token} {first now : Region} (Z : Sort A) → Progress net_counting Anything X start first Y left now →
    ((ts : List Token) (e : A) (rest : List Token) → Z.is ts e rest → Y ts e rest) →
    ((ts : List Token) (e : A) (rest : List Token) → BeginAlike left ts → Y ts e rest → Z.is ts e rest) → Stage X start first Z left now
change Z s on only = Steps.change net_counting Anything Z.is s on (λ ts e rest alike follows x. only ts e rest alike x)

pub take : {A : Type 0} {X Y : Phrases A} {start others : List Token} {first now : Region} {t : Token} (Z : Sort A) → Progress net_counting Anything X start first Y (t ∷ others) now → is_too_deep now t.kind ≡ false →
    ((ts : List Token) (e : A) (rest : List Token) → Z.is ts e rest → Y (t ∷ ts) e rest) →
    ((ts : List Token) (e : A) (rest : List Token) → BeginAlike others ts → Y (t ∷ ts) e rest → Z.is ts e rest) → Stage X start first Z others (after now t.kind)
take Z s small on only = change Z (Steps.take net_counting Anything s small) on only

pub stuck : {A : Type 0} {X : Phrases A} {start : List Token} {first now : Region} (Y : Sort A) (tokens : List Token) (at : ℕ) → Stage X start first Y (drop at tokens) now → at ≤ length tokens →
    ((ts : List Token) (e : A) (rest : List Token) → BeginAlike (drop at tokens) ts → Y.is ts e rest → ⊥) → Fails X start first (length tokens) (Fault.Stopped at)
stuck Y tokens at s inside none = Steps.stuck net_counting Anything tokens at s inside Y.ends none

-- a phrase is read, or fails
pub then_read : {A B : Type 0} (X : Sort A) {Z : Phrases B} {start mid left : List Token} {first now last : Region} {a : A} (Y : A → Sort B) →
    Stage Z start first (and_then X Y) mid now → Stage X.is mid now (done a) left last → Stage Z start first (Y a) left last
then_read X Y s p = Sorts.then_read net_counting Anything Anything X Y (λ a ts b rest y f. tt) s p

pub then_fails : {A B : Type 0} (X : Sort A) {Z : Phrases B} {start mid : List Token} {first now : Region} (Y : A → Sort B) (total : ℕ) (e : ReadFault) →
    Stage Z start first (and_then X Y) mid now → Fails X.is mid now total e → Fails Z start first total e
then_fails X Y total e s f = Sorts.then_fails net_counting Anything Anything X Y total e (λ a ts b rest y f. tt) s f

-- what a reader returns where a reader that it calls fails
pub failed : {A : Type 0} (X : Phrases A) (tokens : List Token) (at : ℕ) (first last : Region) (r : Result (A × ℕ) ReadFault) (e : ReadFault) →
    IsErrAnd r (λ y. y ≡ e) → Fails X (drop at tokens) first (length tokens) e → Reads X tokens at first last r
failed X tokens at first last r e is f = Steps.failed net_counting Anything X tokens at first last r e is f

pub failed_as : {A : Type 0} (X : Phrases A) (tokens : List Token) (at : ℕ) (first last : Region) (r : Result (A × ℕ) ReadFault) (e d : ReadFault) →
    IsErrAnd r (λ y. y ≡ e) → e ≡ d → Fails X (drop at tokens) first (length tokens) d → Reads X tokens at first last r
failed_as X tokens at first last r e d is same f = failed X tokens at first last r e is (subst (Fails X (drop at tokens) first (length tokens)) (sym same) f)

-- what was read, in other words
pub same_end : {A : Type 0} {X : Phrases A} {start : List Token} {first last : Region} {a b : A} {left : List Token} → a ≡ b → Stage X start first (done b) left last → Stage X start first (done a) left last
same_end same s = Steps.same_end net_counting Anything same s

-- a reader whose answer is that of another reader
pub whole_reads : {A : Type 0} {Z : Phrases A} (W : Sort A) (tokens : List Token) (at mid : ℕ) (first now last : Region) (r : Result (A × ℕ) ReadFault) →
    Stage Z (drop at tokens) first W (drop mid tokens) now → Reads W.is tokens mid now last r → Reads Z tokens at first last r
whole_reads {A = A} {Z = Z} W tokens at mid first now last r s reads = by r reads
  where
    left : Stage Z (drop at tokens) first (and_then W done) (drop mid tokens) now
    left = change (and_then W done) s
        (λ ts e rest x. subst (λ b. W.is ts b rest) (sym x.3.0) (subst (λ us. W.is ts x.0 us) (sym x.3.1) x.2))
        (λ ts e rest alike x. (e, rest, x, (refl, refl)))

    by : (r : Result (A × ℕ) ReadFault) → Reads W.is tokens mid now last r → Reads Z tokens at first last r
    by (Ok (a, end)) p = then_read W done left p
    by (Err e) f = then_fails W done (length tokens) e left f
