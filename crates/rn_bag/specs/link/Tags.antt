-- Tags of chunks, whose values stand in the lists of a pool.
use Rattle.std.specs.Prelude.{◌≡◌, ◌<◌, ◌≤◌, List, [], length, take, map, slice_index_or}
use Rattle.std.specs.List.{AllByRecursion}
use Rattle.rn_value.specs.declared.value.Value.{Value}
use Rattle.rn_bag.specs.declared.tag.Tag.{Tag}
use Rattle.rn_bag.specs.link.Chunks.{Slots, IsChunk, tokens_in_chunk}
use Rattle.rn_bag.specs.Slots.{there_from}
use Rattle.rn_bag.specs.Words.{has_bit}

-- the values of a tag's slots: so many of a list, from the first on
abbrev pub values_at : List (List Value) → Tag → List Value
values_at lists tag = take tag.len (slice_index_or lists tag.at [])

-- the chunk of a tag
abbrev pub slots_at : List (List Value) → Tag → Slots
slots_at lists tag = record {
  values = values_at lists tag;
  there = tag.word;
  before = tag.before;
}

-- the chunks of some tags
abbrev pub chunks_of : List (List Value) → List Tag → List Slots
chunks_of lists = map (slots_at lists)

-- a tag has the position of a list that is there and has its values, and counts the tokens of its
-- chunk
pub record IsTag (lists : List (List Value)) (tag : Tag) : Type 0 where
  pub inside : tag.at < length lists
  pub within : tag.len ≤ length (slice_index_or lists tag.at [])
  pub chunk : IsChunk (values_at lists tag) tag.word tag.count

-- these are such tags
abbrev pub AreTags : List (List Value) → List Tag → Type 0
AreTags lists = AllByRecursion (IsTag lists)

-- a chunk has these values, each is a token, and it says that none stands before it
pub record IsFull (tokens : List Value) (chunk : Slots) : Type 0 where
  pub values : chunk.values ≡ tokens
  pub tokens_are : tokens_in_chunk chunk ≡ tokens
  pub first : chunk.before ≡ 0

-- the tag of a chunk of these tokens, which come after the lists of a pool
pub record IsKept (lists : List (List Value)) (tokens : List Value) (tag : Tag) : Type 0 where
  pub last : tag.at ≡ length lists
  pub whole : tag.len ≡ length tokens
  pub chunk : IsChunk tokens tag.word tag.count
  pub full : there_from (has_bit tag.word) 0 tokens ≡ tokens
  pub first : tag.before ≡ 0
