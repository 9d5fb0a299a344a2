-- Characters at the start of bytes.
use Rattle.rn_notation.proofs.Names.{◌≡◌, ◌<◌, ◌≤◌, ◌+◌, ℕ, List, ◌∷◌, ◌++◌, length, take, Bool, true, false, cond, nat_eq, refl, sym, ap, ◌∙◌, subst, arith, encode_utf8, ◌⊎◌, IsUtf8, IsScalar, AllByRecursion, StartsWithNoChar, IsValidUpTo, nat_tests, encode_same, encode_ascii, length-encode, len_utf8_bounds, IsUtf8-encode, length-append, take-take, take_at, low_scalar, inl, inr}
use lib.Utf8.{encode}
use lib.Dec.{ltb}

pub heads : (a b : ℕ) (r t : List ℕ) → a ∷ r ≡ b ∷ t → a ≡ b
heads a b r t e = cc

pub tails : (a b : ℕ) (r t : List ℕ) → a ∷ r ≡ b ∷ t → r ≡ t
tails a b r t e = cc

-- different numbers
pub other_number : (a b : ℕ) → ¬ (a ≡ b) → nat_eq a b ≡ false
other_number a b h = grind (arith, nat_tests)

-- a low byte is a character
pub ascii_scalar : (c : ℕ) → c < 128 → IsScalar c
ascii_scalar c h = low_scalar c (omega arith)

pub ascii_prefix : (c : ℕ) (text : List ℕ) → c < 128 → c ∷ text ≡ encode_utf8 c ++ text
ascii_prefix c text h = ap (λ bytes. bytes ++ text) (sym (encode_ascii c h))

pub byte_char : (c d : ℕ) (r t : List ℕ) → c < 128 → c ∷ r ≡ encode_utf8 d ++ t → (c ≡ d) × (r ≡ t)
byte_char c d r t h e = encode_same c d r t (sym (ascii_prefix c r h) ∙ e)

pub not_broken : (c : ℕ) (text : List ℕ) → c < 128 → ¬ StartsWithNoChar (c ∷ text)
not_broken c text h none = none c text (ascii_scalar c h) (ascii_prefix c text h)

pub some_bytes : (c : ℕ) → 0 < length (encode_utf8 c)
some_bytes c = let e = length-encode c in let b = len_utf8_bounds c in omega (arith, e, b.0)

pub none_at_empty : (text prefix : List ℕ) (n : ℕ) → prefix ≡ take n text → length prefix ≡ n → (0 < length text → 0 < n) → length prefix ≡ 0 → StartsWithNoChar text
none_at_empty text prefix n e l some none c rest scalar whole =
    let long : length text ≡ length (encode_utf8 c) + length rest = ap length whole ∙ length-append (encode_utf8 c) rest in
    let few = some_bytes c in
    let positive = some (omega arith) in
    omega arith

within : (l n k most : ℕ) → 4 ≤ most → (l < most → n ≡ l) → (most ≤ l → n ≡ most) → k ≤ l → k ≤ 4 → k ≤ n
within l n k most four short long a b = grind arith

pub none_at_fault : (text prefix : List ℕ) (most n m : ℕ) → 4 ≤ most → prefix ≡ take n text → (length text < most → n ≡ length text) → (most ≤ length text → n ≡ most) →
    IsValidUpTo prefix m → m ≡ 0 → StartsWithNoChar text
none_at_fault text prefix most n m four e short long valid zero c rest scalar whole =
    let few = some_bytes c in
    let size = length-encode c in
    let bounds = len_utf8_bounds c in
    let longer : length text ≡ length (encode_utf8 c) + length rest = ap length whole ∙ length-append (encode_utf8 c) rest in
    let within : length (encode_utf8 c) ≤ n = within (length text) n (length (encode_utf8 c)) most four short long (omega arith) (omega arith) in
    let same : take (length (encode_utf8 c)) prefix ≡ encode_utf8 c =
    ap (take (length (encode_utf8 c))) e ∙ take-take (length (encode_utf8 c)) n text within ∙ ap (take (length (encode_utf8 c))) whole ∙ take_at (encode_utf8 c) rest (length (encode_utf8 c)) refl in
    valid.longest (length (encode_utf8 c)) (omega arith) (subst IsUtf8 (sym same) (IsUtf8-encode c scalar))

-- each byte of a character is high, or is the character
pub bytes_of_char : (c : ℕ) → AllByRecursion (λ b. (128 ≤ b) ⊎ (b ≡ c)) (encode_utf8 c)
unfolding encode
bytes_of_char c =
    pick (ltb c 128) _ _ (inr refl, tt)
    (pick (ltb c 2048) _ _ (inl (omega arith), (inl (omega arith), tt))
    (pick (ltb c 65536) _ _ (inl (omega arith), (inl (omega arith), (inl (omega arith), tt))) (inl (omega arith), (inl (omega arith), (inl (omega arith), (inl (omega arith), tt))))))
  where
    P : ℕ → Type 0
    P b = (128 ≤ b) ⊎ (b ≡ c)

    pick : (t : Bool) (xs ys : List ℕ) → AllByRecursion P xs → AllByRecursion P ys → AllByRecursion P (cond t xs ys)
    pick true xs ys a b = a
    pick false xs ys a b = b

pub shorter : (c : ℕ) (more rest : List ℕ) → rest ≡ encode_utf8 c ++ more → length more < length rest
shorter c more rest e = let long = ap length e ∙ length-append (encode_utf8 c) more in let some = some_bytes c in omega (arith, long, some)
