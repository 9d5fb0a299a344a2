-- Whether texts are short, and what a whole is of its parts.
use Rattle.std.proofs.Common.{◌≡◌, ◌<◌, ℕ, List, length, arith}
use Rattle.std.specs.Prelude.{Result, Ok, Err, OnOk, OnErr, min}
use Rattle.rn_window.specs.Windows.{top}

-- a text that isn't counted to the top is short
pub short_first : (part : List ℕ) (n : ℕ) → n ≡ min top (length part) → ¬ (n ≡ top) → length part < top
short_first part n counted below = omega (arith, counted, below)

-- where a call failed
pub on_err : {T E : Type 0} (r : Result T E) (P : Type 0) → P → OnErr r P
on_err (Ok x) P p = tt
on_err (Err e) P p = p

-- where it didn't
pub on_ok : {T E : Type 0} (r : Result T E) (P : Type 0) → P → OnOk r P
on_ok (Ok x) P p = p
on_ok (Err e) P p = tt

-- what follows from it
pub on_ok_by : {T E P Q : Type 0} (r : Result T E) → (P → Q) → OnOk r P → OnOk r Q
on_ok_by (Ok x) f p = f p
on_ok_by (Err e) f p = tt

pub on_err_by : {T E P Q : Type 0} (r : Result T E) → (P → Q) → OnErr r P → OnErr r Q
on_err_by (Ok x) f p = tt
on_err_by (Err e) f p = f p
