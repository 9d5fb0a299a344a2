-- Reading of numerals, and of whole numbers, in both directions.
use Rattle.std.proofs.Common.{◌≡◌, ◌<◌, ◌≤◌, ◌+◌, ◌-◌, ◌*◌, ◌^◌, ℕ, zero, suc, ℤ, pos, negsuc, List, [], ◌∷◌, ◌++◌, take, drop, Bool, true, false, cond, nat_le, nat_eq, ◌&&◌, not, append_assoc, refl, sym, ap, ◌∙◌, subst, arith, length}
use Rattle.std.specs.Prelude.{Option, Some, None, ◌↔◌}
use Rattle.std.specs.List.{list_all, prefix_len}
use Rattle.std.proofs.lemmas.Bool.{false≢true}
use Rattle.std.proofs.lemmas.Bool.Decides.{nat_tests}
use Rattle.std.proofs.lemmas.List.{append-nil, take-append-drop}
use Rattle.std.proofs.lemmas.List.Folds.{length-prefix_len}
use Rattle.std.proofs.lemmas.Option.{cond_some, same_Some, none-some}
use borrow.Author.Tests.{ne_eqb, eq-eqb, eqb-true, leb-true}
use Rattle.rn_items.proofs.Bools.{and_left, and_right}
use Rattle.rn_value.specs.Characters.{is_letter, is_digit, number_after}
use Rattle.rn_value.specs.Grammar.{IsNumeral, IsWholeNumber}
use Rattle.rn_value.specs.Grammar.IsNumeral.{digit, more}
use Rattle.rn_value.specs.Grammar.IsWholeNumber.{positive, negative}
use Rattle.rn_value.proofs.Numerals.{IsNumeral-digits, IsNumeral-first}
use Rattle.rn_value.proofs.Spans.{Stops}
use Rattle.rn_lines.specs.ValueText.{HasSixtyFourBits}
use Rattle.rn_lines.specs.LineReading.{step_at}
use Rattle.rn_lines.specs.Reading as reading
use Rattle.rn_lines.specs.Reading.{◌>>=◌, are_plain, plain_number, numeral_at, whole_at}
use Rattle.rn_lines.proofs.Digits.{some_within}
use Rattle.rn_lines.proofs.Prefixes.{longest_prefix, prefix_is}

pub bind_some : {A B : Type 0} (o : Option A) (f : A → Option B) (y : B) → (o >>= f) ≡ Some y → (x : A) × (o ≡ Some x) × (f x ≡ Some y)
bind_some None f y e = cc
bind_some (Some x) f y e = (x, refl, e)

number_goes_on : (n : ℕ) (a b : List ℕ) → number_after n (a ++ b) ≡ number_after (number_after n a) b
number_goes_on n [] b = refl
number_goes_on n (d ∷ a) b = number_goes_on (n * 10 + (d - 48)) a b

-- a numeral's digits spell its number
pub numeral_value : {n : ℕ} {a : List ℕ} → IsNumeral n a → number_after 0 a ≡ n
numeral_value (digit {d = d} small) = omega arith
numeral_value (more {n = n} {d = d} {prefix = prefix} low p small) =
    let e = numeral_value p in
    number_goes_on 0 prefix ((48 + d) ∷ []) ∙ omega (arith, e)

first_byte : {n : ℕ} {a : List ℕ} → IsNumeral n a → (c : ℕ) × (rest : List ℕ) × (a ≡ c ∷ rest) × (0 < n → nat_eq c 48 ≡ false)
first_byte (digit {d = d} small) = (48 + d, [], refl, λ low. ne_eqb (48 + d) 48 (λ e. omega arith))
first_byte (more {d = d} low p small) =
    let f = first_byte p in
    (f.0, f.1 ++ (48 + d) ∷ [], ap (λ prefix. prefix ++ (48 + d) ∷ []) f.2, λ above. f.3 low)

plain_long : (c : ℕ) (rest : List ℕ) (d : ℕ) → nat_eq c 48 ≡ false → are_plain (c ∷ (rest ++ d ∷ [])) ≡ true
plain_long c [] d e = rw e refl
plain_long c (x ∷ rest) d e = rw e refl

-- and begin with 0 only where it is the one digit
pub plain_numeral : {n : ℕ} {a : List ℕ} → IsNumeral n a → are_plain a ≡ true
plain_numeral (digit small) = refl
plain_numeral (more {d = d} low p small) =
    let f = first_byte p in
    subst (λ prefix. are_plain (prefix ++ (48 + d) ∷ []) ≡ true) (sym f.2) (plain_long f.0 f.1 (48 + d) (f.3 low))

numeral_is : {n : ℕ} {a : List ℕ} → IsNumeral n a → (most : ℕ) → n ≤ most → plain_number most a ≡ Some n
numeral_is {n} {a} p most low =
    ap (λ t. cond (t && nat_le (number_after 0 a) most) (Some (number_after 0 a)) None) (plain_numeral p)
    ∙ ap (λ n. cond (nat_le n most) (Some n) None) (numeral_value p)
    ∙ some_within most n low

pub numeral_reads : {n : ℕ} {a : List ℕ} → IsNumeral n a → (most : ℕ) (rest : List ℕ) → n ≤ most → Stops is_digit rest → numeral_at most (a ++ rest) ≡ Some (n, rest)
numeral_reads {n} {a} p most rest low stops =
    let is = prefix_is is_digit a rest (IsNumeral-digits p) stops in
    (λ i. plain_number most (is.0 i) >>= λ n. Some (n, is.1 i))
    ∙ ap (λ o. o >>= λ n. Some (n, rest)) (numeral_is p most low)

digit_low : (d : ℕ) → is_digit d ≡ true → (48 ≤ d) × (d ≤ 57)
digit_low d h = (grind (arith, nat_tests), grind (arith, nat_tests))

more_digits : (n : ℕ) (prefix ds : List ℕ) → 0 < n → IsNumeral n prefix → list_all is_digit ds ≡ true → IsNumeral (number_after n ds) (prefix ++ ds)
more_digits n prefix [] low p all = subst (IsNumeral n) (sym (append-nil prefix)) p
more_digits n prefix (d ∷ ds) low p all =
    let range = digit_low d (and_left (is_digit d) (list_all is_digit ds) all) in
    let byte : 48 + (d - 48) ≡ d = omega arith in
    let longer : IsNumeral (n * 10 + (d - 48)) (prefix ++ d ∷ []) = subst (λ c. IsNumeral (n * 10 + (d - 48)) (prefix ++ c ∷ [])) byte (more low p (omega arith)) in
    subst (IsNumeral (number_after n (d ∷ ds))) (append_assoc prefix (d ∷ []) ds)
    (more_digits (n * 10 + (d - 48)) (prefix ++ d ∷ []) ds (omega arith) longer (and_right (is_digit d) (list_all is_digit ds) all))

one_digit : (d : ℕ) → is_digit d ≡ true → IsNumeral (d - 48) (d ∷ [])
one_digit d h =
    let range = digit_low d h in
    let byte : 48 + (d - 48) ≡ d = omega arith in
    subst (λ c. IsNumeral (d - 48) (c ∷ [])) byte (digit (omega arith))

plain_first : (d : ℕ) → is_digit d ≡ true → not (nat_eq d 48) ≡ true → 0 < d - 48
plain_first d h plain = grind (arith, nat_tests)

-- plain digits are a numeral of the number that they spell
pub numeral_of : (digits : List ℕ) → are_plain digits ≡ true → list_all is_digit digits ≡ true → IsNumeral (number_after 0 digits) digits
numeral_of [] plain all = absurd (false≢true plain)
numeral_of (d ∷ []) plain all =
    let n : d - 48 ≡ 0 * 10 + (d - 48) = omega arith in
    subst (λ n. IsNumeral n (d ∷ [])) n (one_digit d (and_left (is_digit d) true all))
numeral_of (d ∷ e ∷ ds) plain all =
    let here = and_left (is_digit d) (list_all is_digit (e ∷ ds)) all in
    let n : d - 48 ≡ 0 * 10 + (d - 48) = omega arith in
    subst (λ n. IsNumeral (number_after n (e ∷ ds)) (d ∷ e ∷ ds)) n
    (more_digits (d - 48) (d ∷ []) (e ∷ ds) (plain_first d here plain) (one_digit d here) (and_right (is_digit d) (list_all is_digit (e ∷ ds)) all))

-- the numeral at the start
pub record NumeralAt (most : ℕ) (bytes : List ℕ) (x : ℕ × List ℕ) : Type 0 where
  pub digits : List ℕ
  pub whole : bytes ≡ digits ++ x.1
  pub stands : IsNumeral x.0 digits
  pub low : x.0 ≤ most

pub numeral_read : (most : ℕ) (bytes : List ℕ) (x : ℕ × List ℕ) → numeral_at most bytes ≡ Some x → NumeralAt most bytes x
numeral_read most bytes x e =
    let digits : List ℕ = take (prefix_len is_digit bytes) bytes in
    let rest : List ℕ = drop (prefix_len is_digit bytes) bytes in
    let found = bind_some (plain_number most digits) (λ n. Some (n, rest)) x e in
    let tests = cond_some (are_plain digits && nat_le (number_after 0 digits) most) (number_after 0 digits) found.0 found.1 in
    let stands = numeral_of digits (and_left (are_plain digits) (nat_le (number_after 0 digits) most) tests.0) (longest_prefix is_digit bytes).0 in
    let low : number_after 0 digits ≤ most = leb-true _ _ (and_right (are_plain digits) (nat_le (number_after 0 digits) most) tests.0) in
    let is : (number_after 0 digits, rest) ≡ x = ap (λ (n : ℕ). let y : ℕ × List ℕ = (n, rest) in y) tests.1 ∙ same_Some (found.0, rest) x found.2 in
    subst (NumeralAt most bytes) is (record { digits = digits; whole = sym (take-append-drop (prefix_len is_digit bytes) bytes); stands = stands; low = low })

-- Whole numbers: a digit, or a minus, begins them.
pub digit_apart : (c : ℕ) → is_digit c ≡ true → (nat_eq c 45 ≡ false) × (nat_eq c 91 ≡ false) × (nat_eq c 123 ≡ false) × (nat_eq c 34 ≡ false) × (is_letter c ≡ false)
digit_apart c d = (grind (arith, nat_tests), grind (arith, nat_tests), grind (arith, nat_tests), grind (arith, nat_tests), grind (arith, nat_tests))

positive_reads : {n : ℕ} {a : List ℕ} → IsNumeral n a → (rest : List ℕ) → n < 2 ^ 63 → Stops is_digit rest → whole_at (a ++ rest) ≡ Some (pos n, rest)
positive_reads {n} {a} p rest low stops =
    let first = IsNumeral-first p in
    let apart = digit_apart first.0 first.3 in
    let reads : numeral_at 9223372036854775807 ((first.0 ∷ first.1) ++ rest) ≡ Some (n, rest) = subst (λ a. numeral_at 9223372036854775807 (a ++ rest) ≡ Some (n, rest)) first.2 (numeral_reads p 9223372036854775807 rest (omega arith) stops) in
    subst (λ a. whole_at (a ++ rest) ≡ Some (pos n, rest)) (sym first.2)
    (rw apart.0 (ap (λ o. o >>= λ n. Some (pos n.0, n.1)) reads))

negative_step : (n : ℕ) (rest : List ℕ) → reading.negative (suc n, rest) ≡ Some (negsuc n, rest)
negative_step n rest =
    let one_less : suc n - 1 ≡ n = omega arith in
    let apart : nat_eq (suc n) 0 ≡ false = ne_eqb (suc n) 0 (λ e. omega arith) in
    let y : ℤ × List ℕ = (negsuc (suc n - 1), rest) in
    ap (λ t. cond t None (Some y)) apart ∙ (λ i. Some (negsuc (one_less i), rest))

negative_reads : {n : ℕ} {a : List ℕ} → IsNumeral (suc n) a → (rest : List ℕ) → n < 2 ^ 63 → Stops is_digit rest → whole_at (45 ∷ (a ++ rest)) ≡ Some (negsuc n, rest)
negative_reads {n} {a} p rest low stops =
    ap (λ o. o >>= reading.negative) (numeral_reads p 9223372036854775808 rest (omega arith) stops) ∙ negative_step n rest

pub whole_reads : {n : ℤ} {a : List ℕ} → HasSixtyFourBits n → IsWholeNumber n a → (rest : List ℕ) → Stops is_digit rest → whole_at (a ++ rest) ≡ Some (n, rest)
whole_reads fits (positive p) rest stops = positive_reads p rest fits stops
whole_reads fits (negative p) rest stops = negative_reads p rest fits stops

-- the whole number at the start
pub record WholeAt (bytes : List ℕ) (x : ℤ × List ℕ) : Type 0 where
  pub text : List ℕ
  pub whole : bytes ≡ text ++ x.1
  pub fits : HasSixtyFourBits x.0
  pub stands : IsWholeNumber x.0 text

positive_read : (bytes : List ℕ) (x : ℤ × List ℕ) → (numeral_at 9223372036854775807 bytes >>= λ n. Some (pos n.0, n.1)) ≡ Some x → WholeAt bytes x
positive_read bytes x e =
    let found = bind_some (numeral_at 9223372036854775807 bytes) (λ n. Some (pos n.0, n.1)) x e in
    let n = found.0 in
    let here = numeral_read 9223372036854775807 bytes n found.1 in
    subst (WholeAt bytes) (same_Some (pos n.0, n.1) x found.2) (record { text = here.digits; whole = here.whole; fits = let low = here.low in omega (arith, low); stands = positive here.stands })

negative_is : (n : ℕ) (rest : List ℕ) (x : ℤ × List ℕ) → reading.negative (suc n, rest) ≡ Some x → (negsuc n, rest) ≡ x
negative_is n rest x e = same_Some (negsuc n, rest) x (sym (negative_step n rest) ∙ e)

negative_read : (digits : List ℕ) (x : ℤ × List ℕ) → (numeral_at 9223372036854775808 digits >>= reading.negative) ≡ Some x → WholeAt (45 ∷ digits) x
negative_read digits x e =
    let found = bind_some (numeral_at 9223372036854775808 digits) reading.negative x e in
    by found.0 (numeral_read 9223372036854775808 digits found.0 found.1) found.2
  where
    of : (n : ℕ) (rest : List ℕ) → NumeralAt 9223372036854775808 digits (n, rest) → reading.negative (n, rest) ≡ Some x → WholeAt (45 ∷ digits) x
    of zero rest here f = cc
    of (suc n) rest here f = subst (WholeAt (45 ∷ digits)) (negative_is n rest x f)
        (record { text = 45 ∷ here.digits; whole = ap (λ d. 45 ∷ d) here.whole; fits = let low = here.low in omega (arith, low); stands = negative here.stands })

    by : (y : ℕ × List ℕ) → NumeralAt 9223372036854775808 digits y → reading.negative y ≡ Some x → WholeAt (45 ∷ digits) x
    by y here f = of y.0 y.1 here f

pub whole_read : (bytes : List ℕ) (x : ℤ × List ℕ) → whole_at bytes ≡ Some x → WholeAt bytes x
whole_read [] x e = cc
whole_read (c ∷ bytes) x e = by (nat_eq c 45) refl e
  where
    by : (t : Bool) → nat_eq c 45 ≡ t → cond t (numeral_at 9223372036854775808 bytes >>= reading.negative) (numeral_at 9223372036854775807 (c ∷ bytes) >>= λ n. Some (pos n.0, n.1)) ≡ Some x → WholeAt (c ∷ bytes) x
    by true is e = let minus : c ≡ 45 = eqb-true c 45 is in subst (λ c. WholeAt (c ∷ bytes) x) (sym minus) (negative_read bytes x e)
    by false is e = positive_read (c ∷ bytes) x e

-- Bytes that are all digits, and plain, are the numeral of the number that they spell, and of no other.
all_prefix : (test : ℕ → Bool) (bytes : List ℕ) → length bytes ≤ prefix_len test bytes → list_all test bytes ≡ true
all_prefix test [] long = refl
all_prefix test (c ∷ bytes) long = by (λ l. all_prefix test bytes l) (test c) refl
  where
    by : (length bytes ≤ prefix_len test bytes → list_all test bytes ≡ true) → (t : Bool) → test c ≡ t → list_all test (c ∷ bytes) ≡ true
    by others true is =
        let size : prefix_len test (c ∷ bytes) ≡ 1 + prefix_len test bytes = rw is refl in
        rw is (others (omega (arith, size, long)))
    by others false is = let none : prefix_len test (c ∷ bytes) ≡ 0 = rw is refl in absurd (omega (arith, none, long))

pub all_digits : (bytes : List ℕ) → length bytes ≤ prefix_len is_digit bytes → list_all is_digit bytes ≡ true
all_digits bytes long = all_prefix is_digit bytes long

pub numeral_digits : {n : ℕ} {bytes : List ℕ} → IsNumeral n bytes → (length bytes ≤ prefix_len is_digit bytes) × (are_plain bytes ≡ true)
numeral_digits {n} {bytes} p =
    let parts = prefix_is is_digit bytes [] (IsNumeral-digits p) tt in
    let all : take (prefix_len is_digit bytes) bytes ≡ bytes = ap (λ b. take (prefix_len is_digit b) b) (sym (append-nil bytes)) ∙ parts.0 in
    let size : length (take (prefix_len is_digit bytes) bytes) ≡ prefix_len is_digit bytes = length-prefix_len is_digit bytes in
    (omega (arith, size, ap length all), plain_numeral p)

abbrev spelled : ℕ → List ℕ → Option ℕ
spelled most bytes = cond (nat_le (number_after 0 bytes) most) (Some (number_after 0 bytes)) None

spells : (most n : ℕ) (bytes : List ℕ) → n ≤ most → IsNumeral n bytes → spelled most bytes ≡ Some n
spells most n bytes low p = ap (λ m. cond (nat_le m most) (Some m) None) (numeral_value p) ∙ some_within most n low

pub spelled_same : (most m n : ℕ) (bytes : List ℕ) → n ≤ most → are_plain bytes ≡ true → list_all is_digit bytes ≡ true → Some m ≡ spelled most bytes → (nat_eq m n ≡ true) ↔ IsNumeral n bytes
spelled_same most m n bytes low plain all e = (
  (λ t. subst (λ n. IsNumeral n bytes) ((cond_some (nat_le (number_after 0 bytes) most) (number_after 0 bytes) m (sym e)).1 ∙ eqb-true m n t) (numeral_of bytes plain all)),
  (λ p. eq-eqb m n (same_Some m n (e ∙ spells most n bytes low p))),
)

pub spelled_none : (most n : ℕ) (bytes : List ℕ) → n ≤ most → None ≡ spelled most bytes → IsNumeral n bytes → ⊥
spelled_none most n bytes low e p = none-some n (e ∙ spells most n bytes low p)

-- Numerals of any length.
pub step_reads : {n : ℕ} {step : List ℕ} → IsNumeral n step → (rest : List ℕ) → Stops is_digit rest → step_at (step ++ rest) ≡ Some (step, rest)
step_reads {n} {step} p rest stops =
    let parts = prefix_is is_digit step rest (IsNumeral-digits p) stops in
    let plain : List ℕ → List ℕ → Option (List ℕ × List ℕ) = λ a b. cond (are_plain a) (Some (a, b)) None in
    let read : List ℕ × List ℕ = (step, rest) in
    (λ i. plain (parts.0 i) (parts.1 i)) ∙ ap (λ t. cond t (Some read) None) (plain_numeral p)

pub step_read : (bytes : List ℕ) (x : List ℕ × List ℕ) → step_at bytes ≡ Some x → (bytes ≡ x.0 ++ x.1) × IsNumeral (number_after 0 x.0) x.0
step_read bytes x e =
    let step : List ℕ = take (prefix_len is_digit bytes) bytes in
    let rest : List ℕ = drop (prefix_len is_digit bytes) bytes in
    let read : List ℕ × List ℕ = (step, rest) in
    let tests = cond_some (are_plain step) read x e in
    let P : List ℕ × List ℕ → Type 0 = λ x. (bytes ≡ x.0 ++ x.1) × IsNumeral (number_after 0 x.0) x.0 in
    subst P tests.1 (sym (take-append-drop (prefix_len is_digit bytes) bytes), numeral_of step tests.0 (longest_prefix is_digit bytes).0)
