-- What one token does to the levels and operators.
use Rattle.rn_inscript.proofs.Names.{◌≡◌, ℕ, ◌+◌, ◌<◌, ◌≤◌, true, false, List, nat_le, arith, Some, nat_tests, common_steps, and-false, TokenKind, Sign, OpKind, plus_of, times_of, Level, after_token, goes_too_far, without_minuses, opens, closes, is_operator, is_minus, is_paren, ends_operand, ready, ended, strength}

pub le-false : (m n : ℕ) → n < m → nat_le m n ≡ false
le-false m n h = grind (arith, nat_tests)

pub le-true : (m n : ℕ) → m ≤ n → nat_le m n ≡ true
le-true m n h = grind (arith, nat_tests)

-- an operator that follows an operand
pub record IsBinary (kind : TokenKind) : Type 0 where
  pub opens_none : opens kind ≡ false
  pub closes_none : closes kind ≡ false
  pub no_paren : is_paren kind ≡ false
  pub operator : is_operator kind ≡ true
  pub no_end : ends_operand kind ≡ false

pub binary-sign : (k : ℕ) → 10 ≤ k → IsBinary (Sign k)
binary-sign k h = grind (arith, nat_tests)

pub times-binary : (kind : TokenKind) (op : OpKind) → times_of kind ≡ Some op → IsBinary kind
times-binary (Sign k) op h = binary-sign k (grind (arith, nat_tests, common_steps))
times-binary _ op h = cc

pub plus-binary : (kind : TokenKind) (op : OpKind) → plus_of kind ≡ Some op → IsBinary kind
plus-binary (Sign k) op h = binary-sign k (grind (arith, nat_tests, common_steps))
plus-binary _ op h = cc

pub times-strength : (kind : TokenKind) (op : OpKind) → times_of kind ≡ Some op → strength kind ≡ 5
times-strength (Sign k) op h = grind (arith, nat_tests, common_steps)
times-strength _ op h = cc

pub plus-strength : (kind : TokenKind) (op : OpKind) → plus_of kind ≡ Some op → strength kind ≡ 4
plus-strength (Sign k) op h = grind (arith, nat_tests, common_steps)
plus-strength _ op h = cc

pub binary-small : {kind : TokenKind} (levels : List Level) (operators : ℕ) → IsBinary kind → operators < 256 →
    goes_too_far (ended levels operators) kind ≡ false
binary-small levels operators b h = grind (arith, nat_tests, common_steps, b.opens_none, le-false 256 operators h)

pub binary-far : {kind : TokenKind} (levels : List Level) (operators : ℕ) → IsBinary kind → 256 ≤ operators →
    goes_too_far (ended levels operators) kind ≡ true
binary-far levels operators b h = grind (arith, nat_tests, common_steps, b.operator, le-true 256 operators h)

pub binary-after : {kind : TokenKind} (levels : List Level) {around : List Level} (operators : ℕ) → IsBinary kind → without_minuses levels ≡ around →
    after_token (ended levels operators) kind ≡ ready around (operators + 1)
binary-after {kind = kind} levels operators b h = rw (b.opens_none, b.closes_none, b.no_paren, b.operator, b.no_end, and-false (is_minus kind), h)
