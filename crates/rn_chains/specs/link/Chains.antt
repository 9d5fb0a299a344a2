-- Keys in the order in which they came, and the last of them that is so.
use Rattle.std.specs.Prelude.{ℕ, ◌≡◌, ◌<◌, ◌≤◌, ◌+◌, ◌%◌, List, length, get_or}

-- Of the first n keys, told is how many there are up to the last that is so: it is so, and none
-- that comes after it. It is 0 where none is so.
pub record IsUpToLast (IsSo : ℕ → Type 0) (keys : List ℕ) (n told : ℕ) : Type 0 where
  pub within : told ≤ n
  pub so : (i : ℕ) → i + 1 ≡ told → IsSo (get_or keys i 0)
  pub after : (i : ℕ) → told ≤ i → i < n → ¬ IsSo (get_or keys i 0)

-- a key is in the bucket of another, of so many buckets
abbrev pub InBucket : ℕ → ℕ → ℕ → Type 0
InBucket buckets key k = k % buckets ≡ key % buckets

-- each key gives the last before it that is in its bucket
abbrev pub AreLinked : ℕ → List ℕ → List ℕ → Type 0
AreLinked buckets keys befores = (i : ℕ) → i < length keys →
    IsUpToLast (InBucket buckets (get_or keys i 0)) keys i (get_or befores i 0)

-- and each bucket the last that is in it
pub record AreChained (keys befores buckets : List ℕ) : Type 0 where
  pub each : length befores ≡ length keys
  pub room : length keys ≤ length buckets
  pub linked : AreLinked (length buckets) keys befores
  pub heads : (key : ℕ) → 0 < length buckets →
      IsUpToLast (InBucket (length buckets) key) keys (length keys)
      (get_or buckets (key % length buckets) 0)

-- Going back by the keys of a bucket from the last of n keys, none that was passed is this one.
pub record IsBackTo (buckets key : ℕ) (keys : List ℕ) (n at : ℕ) : Type 0 where
  pub within : at ≤ n
  pub so : (i : ℕ) → i + 1 ≡ at → InBucket buckets key (get_or keys i 0)
  pub after : (i : ℕ) → at ≤ i → i < n → ¬ (get_or keys i 0 ≡ key)
