-- What the readers of nodes give, as functions on lists of bytes. (They connect the code to the
-- grammar of `NodeText`; the promise of `read_node` is stated by the grammar alone.)
use Rattle.std.specs.Prelude.{ℕ, zero, suc, List, [], ◌∷◌, length, Option, Some, None}
use Rattle.rn_lines.specs.NodeText.{Given, NodeSaid}
use Rattle.rn_lines.specs.Reading.{◌>>=◌, byte_at, name_at, inst_at, seen_at}

-- a variable with its value
abbrev pub given_at : List ℕ → Option (Given × List ℕ)
given_at bytes =
    byte_at 32 bytes >>= λ word.
    name_at word >>= λ name.
    byte_at 61 name.1 >>= λ text.
    seen_at text >>= λ v.
    Some (record { variable = name.0; value = v.value; named = v.named }, v.rest)

-- variables with their values up to the end, at most this many
abbrev pub all_given_at : ℕ → List ℕ → Option (List Given)
all_given_at most [] = Some []
all_given_at zero (c ∷ bytes) = None
all_given_at (suc most) (c ∷ bytes) =
    given_at (c ∷ bytes) >>= λ g.
    all_given_at most g.1 >>= λ given.
    Some (g.0 ∷ given)

-- a node
abbrev pub node_at : List ℕ → Option NodeSaid
node_at bytes =
    inst_at bytes >>= λ inst.
    byte_at 46 inst.1 >>= λ word.
    name_at word >>= λ name.
    all_given_at (length name.1) name.1 >>= λ given.
    Some (record { inst = inst.0; transition = name.0; given = given })
