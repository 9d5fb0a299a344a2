-- What may still be tried shrinks.
use Rattle.std.proofs.Common.{◌≡◌, ℕ, suc, zero, ◌+◌, ◌-◌, ◌*◌, ◌^◌, ◌<◌, ◌≤◌, ⊎_elim, arith}
use Rattle.std.proofs.Common.{subst, sym}
use Rattle.std.proofs.Math.Nat.{one-le-pow, pow-succ', mul-lt-mul_of_pos_right, mul-le-mul_right}
use Rattle.std.proofs.Math.Nat.{eq-or-lt_of_le}
use Rattle.rn_choices.specs.Waiting.{bulk}

pub bulk_positive : (n : ℕ) → 0 < bulk n
unfolding bulk
bulk_positive n =
    let some : 0 < 2 ^ 64 = omega arith in let least = one-le-pow n (2 ^ 64) some in omega arith

bulk_more : (n : ℕ) → bulk (suc n) ≡ 2 ^ 64 * bulk n
unfolding bulk
bulk_more n = pow-succ' (2 ^ 64) n

bulk_rises : (m n : ℕ) → m ≤ n → bulk m ≤ bulk n
bulk_rises m zero least =
    let none : m ≡ 0 = omega arith in
    let same : bulk 0 ≤ bulk 0 = omega arith in
    subst (λ k. bulk k ≤ bulk 0) (sym none) same
bulk_rises m (suc n) below =
    ⊎_elim
    (λ same. let here : bulk m ≤ bulk m = omega arith in subst (λ k. bulk m ≤ bulk k) same here)
    (λ less.
    let before : m ≤ n = omega arith in
    let rest = bulk_rises m n before in
    let more = bulk_more n in
    omega arith)
    (eq-or-lt_of_le below)

-- all alternatives of a choice together weigh less than the decisions where it was met
pub choice_falls : (n of w : ℕ) → of < 2 ^ 64 → (of - 0) * bulk n + w < bulk (n + 1) + w
choice_falls n of w fits =
    let all : of - 0 ≡ of = omega arith in
    let next : n + 1 ≡ suc n = omega arith in
    let some = bulk_positive n in
    let less : of * bulk n < 2 ^ 64 * bulk n = mul-lt-mul_of_pos_right fits some in
    let is = bulk_more n in
    rw (all, next) (omega arith)

-- what is made weighs no more than its alternative
pub one_taken : (n room a b w : ℕ) → n < room → b + 1 ≤ a →
    bulk (n + 1) + (b * bulk room + w) ≤ a * bulk room + w
one_taken n room a b w deeper less =
    let below : n + 1 ≤ room = omega arith in
    let child = bulk_rises (n + 1) room below in
    let taken : (b + 1) * bulk room ≤ a * bulk room = mul-le-mul_right (bulk room) less in
    grind arith

-- a decision leaves less to be tried
pub one_deeper : (n room : ℕ) → n < room → bulk (n + 1) < bulk (room + 1)
one_deeper n room deeper =
    let below : n + 1 ≤ room = omega arith in
    let child = bulk_rises (n + 1) room below in
    let next : room + 1 ≡ suc room = omega arith in
    let more = bulk_more room in
    let some = bulk_positive room in
    rw next (omega arith)
