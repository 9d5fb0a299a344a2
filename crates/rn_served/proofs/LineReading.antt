-- Lines, and the numbers in them.
use Rattle.std.proofs.Common.{◌≡◌, ◌≢◌, ◌+◌, ◌*◌, ◌≤◌, ℕ, zero, suc, Bool, true, false, List, [], ◌∷◌, ◌++◌, refl, ap, add-one, arith}
use Rattle.std.specs.Prelude.{◌-◌, nat_eq, if◌then◌else◌}
use Rattle.std.specs.List.{AllByRecursion}
use Rattle.std.proofs.lemmas.Bool.{eqb-true}
use Rattle.std.proofs.lemmas.Bool.Decides.{nat_tests}
use Rattle.rn_value.specs.Characters.{is_digit}
use Rattle.rn_served.specs.Lines.{in_front, lines_of}

-- a digit counts at most nine
pub digit_units : (d : ℕ) → is_digit d ≡ true → d - 48 ≤ 9
digit_units d h = grind (arith, nat_tests)

-- a byte that is no line feed
front : (c : ℕ) (bytes line : List ℕ) (lines : List (List ℕ)) → c ≢ 10 →
    lines_of bytes ≡ line ∷ lines → lines_of (c ∷ bytes) ≡ (c ∷ line) ∷ lines
front c bytes line lines other is = by (nat_eq c 10) refl
  where
    by : (same : Bool) → nat_eq c 10 ≡ same →
        (if nat_eq c 10 then [] ∷ lines_of bytes else in_front c (lines_of bytes)) ≡ (c ∷ line) ∷ lines
    by true e = absurd (other (eqb-true c 10 e))
    by false e = rw e (ap (in_front c) is)

-- what stands before the first line feed is the first line
pub first_of : (line rest : List ℕ) → AllByRecursion (λ c. c ≢ 10) line →
    lines_of (line ++ 10 ∷ rest) ≡ line ∷ lines_of rest
first_of [] rest all = refl
first_of (c ∷ line) rest all =
    front c (line ++ 10 ∷ rest) line (lines_of rest) all.0 (first_of line rest all.1)

-- without a line feed all is one line
pub one_line : (c : ℕ) (bytes : List ℕ) → AllByRecursion (λ d. d ≢ 10) (c ∷ bytes) →
    lines_of (c ∷ bytes) ≡ (c ∷ bytes) ∷ []
one_line c [] all = by (nat_eq c 10) refl
  where
    by : (same : Bool) → nat_eq c 10 ≡ same →
        (if nat_eq c 10 then [] ∷ lines_of [] else in_front c (lines_of [])) ≡ (c ∷ []) ∷ []
    by true e = absurd (all.0 (eqb-true c 10 e))
    by false e = rw e refl
one_line c (d ∷ bytes) all = front c (d ∷ bytes) (d ∷ bytes) [] all.0 (one_line d bytes all.1)

pub whole_line : (bytes : List ℕ) → bytes ≢ [] → AllByRecursion (λ d. d ≢ 10) bytes →
    lines_of bytes ≡ bytes ∷ []
whole_line [] some all = absurd (some refl)
whole_line (c ∷ bytes) some all = one_line c bytes all

-- the greatest number of so many digits
abbrev pub nines : ℕ → ℕ
nines zero = 0
nines (suc k) = nines k * 10 + 9

pub nines_low : (k : ℕ) → k ≤ 6 → nines k ≤ 999999
nines_low zero within = omega arith
nines_low (suc zero) within = omega arith
nines_low (suc (suc zero)) within = omega arith
nines_low (suc (suc (suc zero))) within = omega arith
nines_low (suc (suc (suc (suc zero)))) within = omega arith
nines_low (suc (suc (suc (suc (suc zero))))) within = omega arith
nines_low (suc (suc (suc (suc (suc (suc zero)))))) within = omega arith
nines_low (suc (suc (suc (suc (suc (suc (suc k))))))) within =
    absurd (let no : ⊥ = omega (arith, within) in no)

-- one digit more
pub more_nines : (n d k : ℕ) → n ≤ nines k → d ≤ 9 → n * 10 + d ≤ nines (k + 1)
more_nines n d k low digit =
    let next : nines (k + 1) ≡ nines k * 10 + 9 = ap nines (add-one k) in
    omega (arith, low, digit, next)
