-- Alternatives tried round from a first one are each tried once.
use Rattle.std.proofs.Common.{◌≡◌, ℕ, ◌+◌, ◌-◌, ◌<◌, ◌≤◌, ⊎_elim, arith}
use Rattle.std.proofs.lemmas.Bool.{cases_lt}
use Rattle.std.proofs.lemmas.Bool.Decides.{nat_tests}
use Rattle.rn_choices.specs.Turns.{turned}

early_turn : (first of turn : ℕ) → turn < of - first → turned first of turn ≡ first + turn
early_turn first of turn before = grind (arith, nat_tests)

late_turn : (first of turn : ℕ) → of - first ≤ turn → turned first of turn ≡ turn - (of - first)
late_turn first of turn late = grind (arith, nat_tests)

pub turn_of : (first of d : ℕ) → first ≤ of → d < of → (turn : ℕ) × (turn < of)
    × (turned first of turn ≡ d)
turn_of first of d within below =
    ⊎_elim
    (λ prefix.
    let turn : ℕ = (of - first) + d in
    let late : of - first ≤ turn = omega arith in
    let is = late_turn first of turn late in
    let less : turn < of = omega arith in
    let same : turned first of turn ≡ d = omega arith in
    (turn, less, same))
    (λ late.
    let turn : ℕ = d - first in
    let before : turn < of - first = omega arith in
    let is = early_turn first of turn before in
    let less : turn < of = omega arith in
    let same : turned first of turn ≡ d = omega arith in
    (turn, less, same))
    (cases_lt d first)

-- an alternative is tried at each turn
pub turned_within : (first of turn : ℕ) → first ≤ of → turn < of → turned first of turn < of
turned_within first of turn within below = grind (arith, nat_tests)

-- the turns after one go on with the alternatives after its own, up to the last
pub turned_on : (first of turn t : ℕ) → turn ≤ t → t < of →
    t < turn + (of - turned first of turn) →
    turned first of t ≡ turned first of turn + (t - turn)
turned_on first of turn t later below near =
    ⊎_elim
    (λ early.
    let here = early_turn first of turn early in
    let before : t < of - first = omega arith in
    let there = early_turn first of t before in
    omega arith)
    (λ late.
    let here = late_turn first of turn late in
    let behind : of - first ≤ t = omega arith in
    let there = late_turn first of t behind in
    omega arith)
    (cases_lt turn (of - first))

pub one_turn : (first of i j : ℕ) → first ≤ of → i < of → j < of →
    turned first of i ≡ turned first of j → i ≡ j
one_turn first of i j within low high same = grind (arith, nat_tests)
