-- What a reader returns where a reader that it calls fails, and in other words.
use Rattle.rn_inscript.proofs.Names.{◌≡◌, ℕ, List, ◌∙◌, ap, Result, Err, Token, Seen, ReadFault, Level, Count, Phrases, Done, IsSoFar, ReadsFrom}
use Rattle.std.specs.Result.{IsErrAnd}
use Rattle.std.proofs.lemmas.Result.{err_from_is_err_and}
use Rattle.rn_reading.specs.declared.fault.ReadFault.TheVariants as Fault
use Rattle.rn_items.specs.declared.memory.NoMemory.{NoMemory}

pub err-of : {A E : Type 0} {r : Result A E} {e : E} → IsErrAnd r (λ y. y ≡ e) → r ≡ Err e
err-of {r = r} is = let p = err_from_is_err_and r is in p.1 ∙ ap Err p.2

-- want of memory is no fault of the tokens
pub out_of_memory : {A : Type 0} (n : ℕ) (X : Phrases A) (tokens : List Token) (before : Seen) (first : Count) (around : List Level) (r : Result (A × Seen) ReadFault) (m : NoMemory) →
    IsErrAnd r (λ y. y ≡ Fault.NoMemory m) → ReadsFrom n X tokens before first around r
out_of_memory n X tokens before first around r m is = rw (err-of is) tt

-- what was read, and where the reader stands, in other words
pub ended_at : {A : Type 0} {n : ℕ} {X : Phrases A} {tokens : List Token} {before now then : Seen} {first : Count} {around : List Level} {a b : A} →
    a ≡ b → now ≡ then → IsSoFar n X tokens before first around (Done b) then → IsSoFar n X tokens before first around (Done a) now
ended_at same there s = rw (same, there) s
