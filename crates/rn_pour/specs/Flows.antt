-- Texts that flow through a window into a sink.
use Rattle.std.specs.Prelude.{ℕ, ◌≡◌, ◌<◌, ◌≤◌, ◌+◌, List, ◌++◌, length, take, Option, IfSome}
use Rattle.std.specs.Option.{option_map}
use Rattle.rn_outside.specs.Bytes.{Appends, IsCalledSeldom}
use Rattle.rn_outside.specs.Faults.{Rose, risen}

-- How a sink stands: what it holds, where that is known, how often it failed, how often it was
-- called, and how often for no bytes.
pub record Standing : Type 0 where
  pub held : Option (List ℕ)
  pub faults : ℕ
  pub writes : ℕ
  pub empty_writes : ℕ

-- what a sink holds, and then bytes that wait in a window
abbrev pub held_with : Option (List ℕ) → List ℕ → Option (List ℕ)
held_with held kept = option_map (λ h. h ++ kept) held

-- A text came behind the bytes that waited in a window: what the sink holds and what waits now is
-- what it held and what waited then, and the text. Each call of the sink took a byte at least, and
-- none failed. Nothing waits now but of these.
pub record Flows (before : Standing) (kept text : List ℕ) (since : Standing) (waits : List ℕ)
    : Type 0 where
  pub holds : held_with since.held waits ≡ held_with before.held (kept ++ text)
  pub within : length waits ≤ length (kept ++ text)
  pub faults : since.faults ≡ before.faults
  pub calls : IfSome before.held (λ then. IfSome since.held (λ now.
      since.writes + length then ≤ before.writes + length now))
  pub none_empty : since.empty_writes ≡ before.empty_writes

-- The sink failed, once, before it had taken all of what waited and of the text. Each other call
-- took a byte at least.
pub record Breaks (before : Standing) (kept text : List ℕ) (since : Standing) : Type 0 where
  pub taken : ℕ
  pub short : taken < length (kept ++ text)
  pub holds : Appends before.held (take taken (kept ++ text)) since.held
  pub faults : since.faults ≡ risen before.faults
  pub cause : Rose before.faults since.faults
  pub calls : IsCalledSeldom before.held since.held before.writes since.writes
  pub none_empty : since.empty_writes ≡ before.empty_writes
