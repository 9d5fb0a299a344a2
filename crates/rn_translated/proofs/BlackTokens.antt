-- Lists of black tokens: they are in order, and some less leave as many as the difference.
use Rattle.std.proofs.Common.{◌≡◌, ℕ, zero, suc, ◌-◌, ◌<◌, ◌≤◌, true, false, List, [], ◌∷◌, map, refl, ap, ◌∙◌, arith}
use Rattle.std.specs.Prelude.{Contains, slice_get, slice_index, unwrap_or}
use Rattle.std.specs.Ordering.{is_lt}
use Rattle.rn_value.specs.Order.{value_cmp}
use Rattle.rn_value.specs.link.OrderLaws.{value_cmp-out}
use Rattle.rn_value.specs.declared.value.Value.TheVariants as Value
use Rattle.rn_model.specs.Lists.{same_value, count_of, with_value, ordered_values, without_one, without_each, IsWithin}
use Rattle.rn_model.proofs.ValueLists.{one_if, count_of-cons}
use Rattle.rn_translated.specs.TranslatedSystem.{black, blacks}

pub same_black : same_value black black ≡ true
same_black = simp (value_cmp-out, Value.outs-Tuple)

not_below : is_lt (value_cmp black black) ≡ false
not_below = simp (value_cmp-out, Value.outs-Tuple)

with_black : (n : ℕ) → with_value black (blacks n) ≡ blacks (suc n)
with_black zero = refl
with_black (suc n) = rw not_below refl

pub ordered_blacks : (n : ℕ) → ordered_values (blacks n) ≡ blacks n
ordered_blacks zero = refl
ordered_blacks (suc n) = ap (with_value black) (ordered_blacks n) ∙ with_black n

one_less : (n : ℕ) → without_one (blacks (suc n)) black ≡ blacks n
one_less n = rw same_black refl

pub some_less : (n k : ℕ) → without_each (blacks n) (blacks k) ≡ blacks (n - k)
some_less n zero =
    let all : n ≡ n - 0 = omega arith in
    ap blacks all
some_less zero (suc k) =
    let none : 0 - k ≡ 0 - suc k = omega arith in
    some_less zero k ∙ ap blacks none
some_less (suc n) (suc k) =
    let both : n - k ≡ suc n - suc k = omega arith in
    ap (λ ws. without_each ws (blacks k)) (one_less n) ∙ some_less n k ∙ ap blacks both

pub counted : (n : ℕ) → count_of black (blacks n) ≡ n
counted zero = refl
counted (suc n) =
    let here = count_of-cons black black (blacks n) in
    let one : one_if (same_value black black) ≡ 1 = ap one_if same_black in
    let rest = counted n in
    omega (arith, here, one, rest)

pub fewer_within : (k n : ℕ) → k ≤ n → IsWithin (blacks k) (blacks n)
fewer_within zero n few v = omega arith
fewer_within (suc k) zero few v = absurd (let no : ⊥ = omega (arith, few) in no)
fewer_within (suc k) (suc n) few v =
    let first = count_of-cons v black (blacks k) in
    let second = count_of-cons v black (blacks n) in
    let rest = fewer_within k n (omega (arith, few)) v in
    omega (arith, first, second, rest)

pub within_fewer : (k n : ℕ) → IsWithin (blacks k) (blacks n) → k ≤ n
within_fewer k n within =
    let first = counted k in
    let second = counted n in
    let few = within black in
    omega (arith, first, second, few)

pub black_there : (n : ℕ) → 0 < n → Contains (blacks n) black
black_there zero some = absurd (let no : ⊥ = omega (arith, some) in no)
black_there (suc n) some = (0, omega arith, refl)

-- the tokens of a place, by its number
pub held : (m : List ℕ) (place : ℕ) →
    unwrap_or (slice_get (map blacks m) place) [] ≡ blacks (slice_index m place)
held [] place = refl
held (n ∷ m) zero = refl
held (n ∷ m) (suc place) = held m place
