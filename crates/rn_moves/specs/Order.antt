-- The order of tokens.
use Rattle.std.specs.Prelude.{ℕ, List}
use Rattle.std.specs.Ordering.{nat_cmp, ordering_then}
use Rattle.std.specs.declared.cmp.Ordering.{Ordering}
use Rattle.rn_value.specs.Order.{value_cmp}
use Rattle.rn_value.specs.Sorting.{count_of}
use Rattle.rn_value.specs.declared.value.Value.{Value}
use Rattle.rn_moves.specs.declared.token.Token.{Token}

-- by instance, place and value
abbrev pub token_cmp : Token → Token → Ordering
token_cmp t u =
    ordering_then (nat_cmp t.inst u.inst)
    (ordering_then (nat_cmp t.place u.place) (value_cmp t.value u.value))

-- how often a value is among the tokens of a place of an instance
abbrev pub token_count : List Token → ℕ → ℕ → Value → ℕ
token_count tokens n place v =
    count_of token_cmp (record { inst = n; place = place; value = v }) tokens
