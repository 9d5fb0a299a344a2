-- Lists that get more numbers. It only connects the code to references.
use Rattle.std.specs.Prelude.{ℕ, ◌≡◌, ◌⊎◌, ◌↔◌, Bool, true, List, ◌++◌, Contains}
use Rattle.rn_model.specs.Markings.{Marking}
use Rattle.rn_reach.specs.Reach.{RefersTo}

-- a list gets just the numbers that pass a test
pub record Puts (test : ℕ → Bool) (before after : List ℕ) : Type 0 where
  pub stay : (n : ℕ) → Contains before n → Contains after n
  pub came : (n : ℕ) → Contains after n → Contains before n ⊎ (test n ≡ true)
  pub all : (n : ℕ) → test n ≡ true → Contains after n

-- those numbers of which this holds and that aren't in a list yet come to its end
pub record Joins (Has : ℕ → Type 0) (before after : List ℕ) : Type 0 where
  pub more : (end : List ℕ) × (after ≡ before ++ end)
  pub came : (n : ℕ) → Contains after n → Contains before n ⊎ Has n
  pub all : (n : ℕ) → Has n → Contains after n

-- the numbers that are found from some: these, and each that refers to one that is found
pub data IsFound (m : Marking) (those : List ℕ) : ℕ → Type 0 where
  first : {n : ℕ} → Contains those n → IsFound m those n
  back : {holder n : ℕ} → IsFound m those n → RefersTo m holder n → IsFound m those holder

-- a list has just those numbers
abbrev pub AreFound : Marking → List ℕ → List ℕ → Type 0
AreFound m those found = (n : ℕ) → Contains found n ↔ IsFound m those n
