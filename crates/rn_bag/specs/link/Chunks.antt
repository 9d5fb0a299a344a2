-- Chunks of tokens.
use Rattle.std.specs.Prelude.{ℕ, suc, ◌≡◌, ◌<◌, ◌≤◌, ◌+◌, ◌*◌, ◌++◌, ⊤, List, [], ◌∷◌, length, take}
use Rattle.std.specs.Prelude.{drop, refl}
use Rattle.std.specs.Coded.{Coded, code_by, coded×, coded_ℕ, coded_list}
use Rattle.std.specs.List.{flat_map}
use Rattle.rn_value.specs.declared.value.Value.{Value}
use Rattle.rn_value.specs.contracts.value.Value as token
use Rattle.rn_bag.specs.Cuts.{Ascends}
use Rattle.rn_bag.specs.Slots.{there_from}
use Rattle.rn_bag.specs.Words.{has_bit}
use Rattle.rn_bag.specs.declared.words.TheConstants.{ROOM}

-- A chunk: the values of its slots, the set of the slots that hold a token, and how many tokens it
-- says stand in the chunks before it.
pub record Slots : Type 0 where
  pub values : List Value
  pub there : ℕ
  pub before : ℕ

abbrev pub slots_code : Coded Slots
slots_code =
    code_by (List Value × (ℕ × ℕ))
    (coded× (coded_list token.the_row.coded) (coded× coded_ℕ coded_ℕ))
    (λ s. (s.values, (s.there, s.before)))
    (λ p. record { values = p.0; there = p.1.0; before = p.1.1 })
    (λ _. refl)

-- the tokens of a chunk
abbrev pub tokens_in_chunk : Slots → List Value
tokens_in_chunk s = there_from (has_bit s.there) 0 s.values

-- the values of all slots of some chunks
abbrev pub values_in : List Slots → List Value
values_in = flat_map (λ s. s.values)

-- the tokens of some chunks
abbrev pub tokens_in : List Slots → List Value
tokens_in = flat_map tokens_in_chunk

-- a chunk has a slot, and at most 64 of them
pub record HasRoom (values : List Value) : Type 0 where
  pub filled : 0 < length values
  pub small : length values ≤ ROOM

-- the fields of a chunk: it has slots, and counts its tokens
pub record IsChunk (values : List Value) (there count : ℕ) : Type 0 where
  pub room : HasRoom values
  pub counted : count ≡ length (there_from (has_bit there) 0 values)

-- Each chunk says rightly how many tokens stand before it, where n stand before the first, whose
-- index is k; and they are at most 64 for each chunk.
abbrev pub AreCounted : ℕ → ℕ → List Slots → Type 0
AreCounted k n [] = ⊤
AreCounted k n (s ∷ ss) =
    (s.before ≡ n) × (n ≤ ROOM * k) × AreCounted (suc k) (n + length (tokens_in_chunk s)) ss

-- the values of slots ascend over all chunks, also of those without a token, and tokens are counted
pub record AreSound (chunks : List Slots) : Type 0 where
  pub ascend : Ascends (values_in chunks)
  pub counted : AreCounted 0 0 chunks

-- These chunks hold the given tokens, and no other values, in place of the chunk at an index.
pub record Replaces (old : List Slots) (at : ℕ) (given : List Value) (new : List Slots) : Type 0 where
  pub tokens : tokens_in new ≡ tokens_in (take at old) ++ (given ++ tokens_in (drop (suc at) old))
  pub values : values_in new ≡ values_in (take at old) ++ (given ++ values_in (drop (suc at) old))
  pub prefix : take at new ≡ take at old
