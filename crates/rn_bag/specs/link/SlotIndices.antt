-- What stands before and after a slot: the index of its chunk, and its index in the chunk.
use Rattle.std.specs.Prelude.{ℕ, zero, suc, List, [], ◌∷◌, ◌++◌, take, drop}
use Rattle.rn_value.specs.declared.value.Value.{Value}
use Rattle.rn_bag.specs.Slots.{there_from}
use Rattle.rn_bag.specs.link.Chunks.{Slots, tokens_in_chunk, tokens_in, values_in}
use Rattle.rn_bag.specs.Words.{has_bit}

-- the tokens before a slot
abbrev pub tokens_before : List Slots → ℕ → ℕ → List Value
tokens_before [] chunk slot = []
tokens_before (s ∷ ss) zero slot = there_from (has_bit s.there) 0 (take slot s.values)
tokens_before (s ∷ ss) (suc chunk) slot = tokens_in_chunk s ++ tokens_before ss chunk slot

-- the tokens from a slot on
abbrev pub tokens_after : List Slots → ℕ → ℕ → List Value
tokens_after [] chunk slot = []
tokens_after (s ∷ ss) zero slot =
    there_from (has_bit s.there) slot (drop slot s.values) ++ tokens_in ss
tokens_after (s ∷ ss) (suc chunk) slot = tokens_after ss chunk slot

-- the values of all slots before a slot
abbrev pub values_before : List Slots → ℕ → ℕ → List Value
values_before [] chunk slot = []
values_before (s ∷ ss) zero slot = take slot s.values
values_before (s ∷ ss) (suc chunk) slot = s.values ++ values_before ss chunk slot

-- the values of all slots from a slot on
abbrev pub values_after : List Slots → ℕ → ℕ → List Value
values_after [] chunk slot = []
values_after (s ∷ ss) zero slot = drop slot s.values ++ values_in ss
values_after (s ∷ ss) (suc chunk) slot = values_after ss chunk slot
