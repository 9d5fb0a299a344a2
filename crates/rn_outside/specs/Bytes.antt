-- What a source gives and what a sink takes. The bytes of each are known or not: what is left in a
-- source, and what a sink holds, is `Some bytes`, or `None` where it isn't known.
use Rattle.std.specs.Prelude.{◌≡◌, ℕ, ◌+◌, ◌<◌, ◌≤◌, List, [], ◌++◌, length, take, Option, IfSome}
use Rattle.std.specs.Option.{option_map}

-- A source gave `prefix`: what was left is `prefix`, and then what is left now.
abbrev pub Gives : Option (List ℕ) → List ℕ → Option (List ℕ) → Type 0
Gives before prefix after = before ≡ option_map (λ rest. prefix ++ rest) after

-- A source gave some prefix of what was left.
pub record GivesPrefix (before after : Option (List ℕ)) : Type 0 where
  pub prefix : List ℕ
  pub gives : Gives before prefix after

-- A source gave some prefix of what was left, of so many bytes at most.
pub record GivesAtMost (most : ℕ) (before after : Option (List ℕ)) : Type 0 where
  pub prefix : List ℕ
  pub few : length prefix ≤ most
  pub gives : Gives before prefix after

-- No byte is left, where that is known.
abbrev pub IsAtEnd : Option (List ℕ) → Type 0
IsAtEnd left = IfSome left (λ bytes. bytes ≡ [])

-- A source gave `bytes`, and they were all that was left.
pub record GivesAll (before : Option (List ℕ)) (bytes : List ℕ) (after : Option (List ℕ)) : Type 0 where
  pub all : IfSome before (λ left. bytes ≡ left)
  pub none_left : after ≡ option_map (λ _. []) before

-- A sink took `piece`: it holds what it held, and then `piece`.
abbrev pub Appends : Option (List ℕ) → List ℕ → Option (List ℕ) → Type 0
Appends before piece after = after ≡ option_map (λ held. held ++ piece) before

-- A sink took the first of these bytes, and not all of them.
pub record AppendsPrefix (before : Option (List ℕ)) (bytes : List ℕ) (after : Option (List ℕ)) : Type 0 where
  pub taken : ℕ
  pub short : taken < length bytes
  pub appends : Appends before (take taken bytes) after

-- A sink was called at most once for each byte that it took, and once more, where its bytes are known:
-- what it held, what it holds, and how often it was called before and since.
abbrev pub IsCalledSeldom : Option (List ℕ) → Option (List ℕ) → ℕ → ℕ → Type 0
IsCalledSeldom held held_after calls calls_after = IfSome held (λ before. IfSome held_after (λ now.
    calls_after + length before ≤ calls + length now + 1))
