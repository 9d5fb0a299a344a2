-- Numbers and words, as their bytes are read.
use Rattle.rn_notation.proofs.Names.{◌≡◌, ◌<◌, ◌≤◌, ◌+◌, ◌-◌, ◌*◌, ◌/◌, ℕ, suc, List, [], ◌∷◌, ◌++◌, length, take, drop, Bool, true, false, ◌&&◌, refl, sym, ap, ◌∙◌, subst, arith, ℤ, pos, if◌then◌else◌, list_all, prefix_len, nat_tests, take-append-drop, length-prefix_len, is_digit, number_after, begins_with, number_of, greatest_number, IsToken, IsFault, Cuts, Found, fault, IsSpelledBy, Number, P3}
use Rattle.rn_notation.specs.link.Scanning.{token}
use Rattle.rn_notation.proofs.Runs.{fault_here}

-- the number that the digits at the start of a text spell after a number
abbrev pub leading_number : ℕ → List ℕ → ℕ
leading_number n [] = n
leading_number n (c ∷ text) = if is_digit c then leading_number (n * 10 + (c - 48)) text else n

-- more digits make no number smaller
grows : (n : ℕ) (text : List ℕ) → n ≤ leading_number n text
grows n [] = omega arith
grows n (c ∷ text) = let more = grows (n * 10 + (c - 48)) text in grind (arith, more)

-- the longest prefix of bytes that pass a test
pub longest_prefix : (test : ℕ → Bool) (text : List ℕ) → (list_all test (take (prefix_len test text) text) ≡ true) × (begins_with test (drop (prefix_len test text) text) ≡ false)
longest_prefix test [] = (refl, refl)
longest_prefix test (x ∷ xs) = by (test x) refl (longest_prefix test xs)
  where
    by : (b : Bool) → test x ≡ b → (list_all test (take (prefix_len test xs) xs) ≡ true) × (begins_with test (drop (prefix_len test xs) xs) ≡ false) →
        (list_all test (take (prefix_len test (x ∷ xs)) (x ∷ xs)) ≡ true) × (begins_with test (drop (prefix_len test (x ∷ xs)) (x ∷ xs)) ≡ false)
    by true e h = let long : prefix_len test (x ∷ xs) ≡ suc (prefix_len test xs) = rw e (omega arith) in rw long (rw (e, h.0), h.1)
    by false e h = let none : prefix_len test (x ∷ xs) ≡ 0 = rw e in rw none (refl, e)

-- it isn't empty where the first byte passes
prefix_begins : (first test : ℕ → Bool) → ((c : ℕ) → first c ≡ true → test c ≡ true) → (text : List ℕ) → begins_with first text ≡ true → begins_with first (take (prefix_len test text) text) ≡ true
prefix_begins first test passes [] h = h
prefix_begins first test passes (c ∷ text) h =
    let long : prefix_len test (c ∷ text) ≡ suc (prefix_len test text) = rw (passes c h) (omega arith) in rw long h

-- A text begins with this prefix of n bytes, the first of one kind, and all of which pass the test, and no longer such prefix stands there.
pub record Prefixed (first test : ℕ → Bool) (text prefix : List ℕ) (n : ℕ) : Type 0 where
  pub rest : List ℕ
  pub whole : text ≡ prefix ++ rest
  pub size : n ≡ length prefix
  pub is : (begins_with first prefix && list_all test prefix) ≡ true
  pub stops : begins_with test rest ≡ false

pub prefixed : (first test : ℕ → Bool) (text prefix : List ℕ) (n : ℕ) → ((c : ℕ) → first c ≡ true → test c ≡ true) → begins_with first text ≡ true → prefix ≡ take n text → n ≡ prefix_len test text → Prefixed first test text prefix n
prefixed first test text prefix n passes h e f =
    let longest = longest_prefix test text in
    let same : prefix ≡ take (prefix_len test text) text = rw (e, f) refl in
    record {
      rest = drop (prefix_len test text) text;
      whole = rw same (sym (take-append-drop (prefix_len test text) text));
      size = rw (f, same) (sym (length-prefix_len test text));
      is = rw (same, prefix_begins first test passes text h, longest.0) refl;
      stops = longest.1;
    }

-- the prefix is what it is found to be
pub prefix_cuts : {first test : ℕ → Bool} {text prefix : List ℕ} {n : ℕ} (found : Found) → (w : Prefixed first test text prefix n) → IsSpelledBy found prefix w.rest → Cuts text n found
prefix_cuts {prefix = prefix} found w stands = record { prefix = prefix; rest = w.rest; whole = w.whole; size = w.size; stands = stands }

-- the digits are as many as the longest prefix of them has
leading_is : (n : ℕ) (text : List ℕ) → leading_number n text ≡ number_after n (take (prefix_len is_digit text) text)
leading_is n [] = refl
leading_is n (c ∷ text) = by (is_digit c) refl (leading_is (n * 10 + (c - 48)) text)
  where
    by : (b : Bool) → is_digit c ≡ b → leading_number (n * 10 + (c - 48)) text ≡ number_after (n * 10 + (c - 48)) (take (prefix_len is_digit text) text) →
        leading_number n (c ∷ text) ≡ number_after n (take (prefix_len is_digit (c ∷ text)) (c ∷ text))
    by true e h = let long : prefix_len is_digit (c ∷ text) ≡ suc (prefix_len is_digit text) = rw e (omega arith) in rw (long, e) h
    by false e h = rw e refl

pub number_stands : (text : List ℕ) (n value : ℕ) (z : ℤ) → begins_with is_digit text ≡ true → n ≡ prefix_len is_digit text → value ≡ leading_number 0 text → value ≤ greatest_number → z ≡ pos value → Cuts text n (token (Number z))
number_stands text n value z h size f low e =
    let digits = take n text in
    let w = prefixed is_digit is_digit text digits n (λ d h. h) h refl size in
    let same : value ≡ number_of digits = f ∙ leading_is 0 text ∙ ap (λ n. number_of (take n text)) (sym size) in
    prefix_cuts (token (Number z)) w (subst (λ z. IsToken (Number z) digits w.rest) (sym (e ∙ ap pos same)) (IsToken.number w.is w.stops (omega (arith, same, low))))

pub number_too_great : (text : List ℕ) (d n : ℕ) (others : List ℕ) → begins_with is_digit text ≡ true → is_digit d ≡ true → leading_number n (d ∷ others) ≡ leading_number 0 text → (greatest_number - (d - 48)) / 10 < n → Cuts text 0 (fault P3)
number_too_great text d n others h is whole over =
    let w = prefixed is_digit is_digit text _ _ (λ d h. h) h refl refl in
    let units : d - 48 ≤ 9 = grind (arith, nat_tests) in
    let next : leading_number (n * 10 + (d - 48)) others ≡ leading_number 0 text = rw is at whole in
    let more = grows (n * 10 + (d - 48)) others in
    let value = leading_is 0 text in
    fault_here text P3 (subst (IsFault P3 []) (sym w.whole) (IsFault.too_great _ w.rest w.is w.stops (omega (arith, more, next, value))))
