-- The digits of a number are a numeral of it, its only one, and of no other number.
use Rattle.std.proofs.Common.{◌≡◌, ℕ, zero, suc, ◌+◌, ◌-◌, ◌*◌, ◌/◌, ◌%◌, ◌^◌, ◌<◌, ◌≤◌, ℤ, pos, negsuc, Bool, true, false, cond, ◌&&◌, List, [], ◌∷◌, ◌++◌, map, refl, sym, ap, ◌∙◌, subst, ⊎_elim, arith}
use Rattle.std.proofs.Math.Nat.{div-eq_of_lt, mod-eq_of_lt}
use Rattle.std.proofs.lemmas.Nat.{div-add-mod'}
use Rattle.std.proofs.lemmas.Bool.{cases_lt}
use Rattle.std.proofs.lemmas.List.{map-append}
use Rattle.std.proofs.lemmas.Int.Digits.{digits_of_step, number_push}
use Rattle.std.proofs.lemmas.Fmt.{decimal_digit, decimal-digits_of}
use lib.Signed.{mag}
use Rattle.std.proofs.lemmas.Bool.Decides.{nat_tests}
use Rattle.std.specs.Fmt.{decimal, signed_decimal}
use Rattle.std.specs.Char.{is_ascii_digit}
use Rattle.std.specs.List.{list_all}
use Rattle.std.specs.Int.Digits.{digits_of, number_from_digits}
use Rattle.rn_value.specs.Text.{numeral, whole_number}
use Rattle.rn_value.specs.Grammar.{IsNumeral}
use Rattle.rn_value.specs.Grammar.IsNumeral.{digit, more}
use borrow.Author.Tests.{ne_eqb}

digits_of_digit : (n : ℕ) → 0 < n → n < 10 → digits_of 10 n ≡ n ∷ []
digits_of_digit n low high =
    let prefix : n / 10 ≡ 0 = div-eq_of_lt high in
    let last : n % 10 ≡ n = mod-eq_of_lt high in
    digits_of_step 10 n (omega arith) low ∙ rw (prefix, last) refl

pub numeral_positive : (n : ℕ) → 0 < n → numeral n ≡ map (λ d. 48 + d) (digits_of 10 n)
unfolding numeral
numeral_positive n low = ap (λ t. cond t (48 ∷ []) (map (λ d. 48 + d) (digits_of 10 n))) (ne_eqb n 0 (λ e. omega arith))

-- the numeral of a number below 10 is its one digit
pub numeral_digit : (n : ℕ) → n < 10 → numeral n ≡ (48 + n) ∷ []
unfolding numeral
numeral_digit zero high = refl
numeral_digit (suc n) high = numeral_positive (suc n) (omega arith) ∙ ap (map (λ d. 48 + d)) (digits_of_digit (suc n) (omega arith) high)

-- one more digit after the digits of a number that isn't 0
pub numeral_more : (n d : ℕ) → 0 < n → d < 10 → numeral (n * 10 + d) ≡ numeral n ++ (48 + d) ∷ []
numeral_more n d low high =
    let prefix : (n * 10 + d) / 10 ≡ n = omega arith in
    let last : (n * 10 + d) % 10 ≡ d = omega arith in
    numeral_positive (n * 10 + d) (omega arith)
    ∙ ap (map (λ d. 48 + d)) (digits_of_step 10 (n * 10 + d) (omega arith) (omega arith) ∙ rw (prefix, last) refl)
    ∙ map-append (λ d. 48 + d) (digits_of 10 n) (d ∷ [])
    ∙ ap (λ prefix. prefix ++ (48 + d) ∷ []) (sym (numeral_positive n low))

numeral_step : (n : ℕ) → 10 ≤ n → numeral n ≡ numeral (n / 10) ++ (48 + n % 10) ∷ []
numeral_step n low =
    let e : n / 10 * 10 + n % 10 ≡ n = div-add-mod' n 10 in
    subst (λ m. numeral m ≡ numeral (n / 10) ++ (48 + n % 10) ∷ []) e (numeral_more (n / 10) (n % 10) (omega arith) (omega arith))

IsNumeral-upto : (bound n : ℕ) → n ≤ bound → IsNumeral n (numeral n)
IsNumeral-upto zero n low = subst (IsNumeral n) (sym (numeral_digit n (omega arith))) (digit (omega arith))
IsNumeral-upto (suc bound) n low = ⊎_elim
    (λ small. subst (IsNumeral n) (sym (numeral_digit n small)) (digit small))
    (λ large.
    let e : n / 10 * 10 + n % 10 ≡ n = div-add-mod' n 10 in
    subst (λ m. IsNumeral m (numeral n)) e
    (subst (IsNumeral (n / 10 * 10 + n % 10)) (sym (numeral_step n large)) (more (omega arith) (IsNumeral-upto bound (n / 10) (omega arith)) (omega arith))))
    (cases_lt n 10)

-- a number's digits are a numeral of it
pub IsNumeral-numeral : (n : ℕ) → IsNumeral n (numeral n)
IsNumeral-numeral n = IsNumeral-upto n n (omega arith)

-- and the only one
pub numeral_only : {n : ℕ} {digits : List ℕ} → IsNumeral n digits → digits ≡ numeral n
numeral_only (digit {d = d} small) = sym (numeral_digit d small)
numeral_only (more {n = n} {d = d} low prefix small) = ap (λ prefix. prefix ++ (48 + d) ∷ []) (numeral_only prefix) ∙ sym (numeral_more n d low small)

value : List ℕ → ℕ
value digits = number_from_digits 10 (map (λ c. c - 48) digits)

value_is : {n : ℕ} {digits : List ℕ} → IsNumeral n digits → value digits ≡ n
unfolding value
value_is (digit {d = d} small) = omega arith
value_is (more {n = n} {d = d} {prefix = prefix} low more_prefix small) =
    ap (number_from_digits 10) (map-append (λ c. c - 48) prefix ((48 + d) ∷ []))
    ∙ number_push 10 (map (λ c. c - 48) prefix) (48 + d - 48)
    ∙ (let e = value_is more_prefix in let f : 48 + d - 48 ≡ d = omega arith in rw (e, f) refl)

-- a numeral is one of one number
pub IsNumeral-same : {m n : ℕ} {digits : List ℕ} → IsNumeral m digits → IsNumeral n digits → m ≡ n
IsNumeral-same a b = sym (value_is a) ∙ value_is b

-- what the library writes of a number below 2^64 is its numeral
pub decimal-numeral : (n : ℕ) → n < 2 ^ 64 → decimal n ≡ numeral n
decimal-numeral zero small = decimal_digit 0 (omega arith) ∙ sym (numeral_digit 0 (omega arith))
decimal-numeral (suc n) small = decimal-digits_of (suc n) (omega arith) small ∙ sym (numeral_positive (suc n) (omega arith))

-- what is written of a machine's number
pub signed_decimal-whole_number : (z : ℤ) → mag z < 2 ^ 63 → signed_decimal z ≡ whole_number z
signed_decimal-whole_number (pos n) small = decimal-numeral n (omega arith)
signed_decimal-whole_number (negsuc n) small = ap (λ digits. 45 ∷ digits) (decimal-numeral (suc n) (omega arith))

digit_byte : (d : ℕ) → d < 10 → is_ascii_digit (48 + d) ≡ true
digit_byte d small = grind (arith, nat_tests)

list_all-append : (test : ℕ → Bool) (xs ys : List ℕ) → list_all test xs ≡ true → list_all test ys ≡ true → list_all test (xs ++ ys) ≡ true
list_all-append test [] ys a b = b
list_all-append test (x ∷ xs) ys a b = elim (test x) as (λ t. (t && list_all test xs) ≡ true → (t && list_all test (xs ++ ys)) ≡ true) [ true ↦ λ a. list_all-append test xs ys a b | false ↦ λ a. a ] a

-- each byte of a numeral is a digit
pub IsNumeral-digits : {n : ℕ} {digits : List ℕ} → IsNumeral n digits → list_all is_ascii_digit digits ≡ true
IsNumeral-digits (digit {d = d} small) = rw (digit_byte d small) refl
IsNumeral-digits (more {d = d} {prefix = prefix} low more_prefix small) =
    list_all-append is_ascii_digit prefix ((48 + d) ∷ []) (IsNumeral-digits more_prefix) (rw (digit_byte d small) refl)

-- a numeral has a first byte, which is a digit
pub IsNumeral-first : {n : ℕ} {digits : List ℕ} → IsNumeral n digits → (c : ℕ) × (rest : List ℕ) × (digits ≡ c ∷ rest) × (is_ascii_digit c ≡ true)
IsNumeral-first (digit {d = d} small) = (48 + d, [], refl, digit_byte d small)
IsNumeral-first (more {d = d} low prefix small) =
    let first = IsNumeral-first prefix in
    (first.0, first.1 ++ (48 + d) ∷ [], ap (λ prefix. prefix ++ (48 + d) ∷ []) first.2, first.3)
