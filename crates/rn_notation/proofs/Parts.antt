-- The parts of a text: its bytes have one reading, and parts don't change whether it is closed.
use Rattle.rn_notation.proofs.Names.{◌≡◌, ◌<◌, ◌≤◌, ℕ, List, [], ◌∷◌, ◌++◌, length, true, false, not, nat_eq, refl, sym, ap, ◌∙◌, arith, append_assoc, Some, encode_utf8, ◌⊎◌, flat_map, AllByRecursion, nat_tests, length-append, encode_same, encode_ascii, begins_with, Part, itself, escape, IsPart, spelled, meaning, AreParts, written, escaped_byte, is_special, is_closed, IsBroken, IsNoEscape, IsInComment, inl, inr}
use Rattle.rn_notation.proofs.Characters.{heads, byte_char, not_broken, bytes_of_char, ascii_prefix, some_bytes}

-- bytes at which none of these stands
abbrev pub NoneAt : {X : Type 0} → (X → List ℕ) → (X → Type 0) → List ℕ → Type 0
NoneAt {X} spelled P stop = (x : X) (rest : List ℕ) → P x → ¬ (stop ≡ spelled x ++ rest)

-- bytes go on as a list of these in one way alone
pub one_list : {X : Type 0} (spelled : X → List ℕ) (P : X → Type 0) → ((x y : X) (r t : List ℕ) → P x → P y → spelled x ++ r ≡ spelled y ++ t → (x ≡ y) × (r ≡ t)) →
    (xs ys : List X) (s t : List ℕ) → AllByRecursion P xs → AllByRecursion P ys → NoneAt spelled P s → NoneAt spelled P t → flat_map spelled xs ++ s ≡ flat_map spelled ys ++ t → (xs ≡ ys) × (s ≡ t)
one_list spelled P one [] [] s t a b ns nt e = (refl, e)
one_list spelled P one [] (y ∷ ys) s t a b ns nt e = absurd (ns y (flat_map spelled ys ++ t) b.0 (e ∙ append_assoc (spelled y) (flat_map spelled ys) t))
one_list spelled P one (x ∷ xs) [] s t a b ns nt e = absurd (nt x (flat_map spelled xs ++ s) a.0 (sym e ∙ append_assoc (spelled x) (flat_map spelled xs) s))
one_list spelled P one (x ∷ xs) (y ∷ ys) s t a b ns nt e =
    let first = one x y (flat_map spelled xs ++ s) (flat_map spelled ys ++ t) a.0 b.0 (sym (append_assoc (spelled x) (flat_map spelled xs) s) ∙ e ∙ append_assoc (spelled y) (flat_map spelled ys) t) in
    let others = one_list spelled P one xs ys s t a.1 b.1 ns nt first.1 in
    (cc, others.1)

-- a special byte begins no character that stands for itself
special_char : (a c : ℕ) (r t : List ℕ) → a < 128 → is_special a ≡ true → is_special c ≡ false → ¬ (a ∷ r ≡ encode_utf8 c ++ t)
special_char a c r t low is isnt e = let same = byte_char a c r t low e in grind (arith, ap is_special same.0)

pub stuck_at_quote : (r : List ℕ) → NoneAt spelled IsPart (34 ∷ r)
stuck_at_quote r (itself c) rest is e = special_char 34 c r rest (omega arith) refl is.1 e
stuck_at_quote r (escape c) rest is e = let same = heads 34 92 r (c ∷ rest) e in omega (arith, same)

pub stuck_at_escape : (stop : List ℕ) → IsNoEscape stop → NoneAt spelled IsPart stop
stuck_at_escape (a ∷ d ∷ r) none (itself c) rest is e = special_char a c (d ∷ r) rest (omega arith) (rw none.0 refl) is.1 e
stuck_at_escape (a ∷ d ∷ r) none (escape c) rest is e = let same : d ≡ c = cc in cc (ap escaped_byte same)
stuck_at_escape (a ∷ []) none p rest is e = absurd none
stuck_at_escape [] none p rest is e = absurd none

pub stuck_at_broken : (stop : List ℕ) → IsBroken stop → NoneAt spelled IsPart stop
stuck_at_broken (a ∷ r) broken (itself c) rest is e = broken c rest is.0 e
stuck_at_broken (a ∷ r) broken (escape c) rest is e = let same : a ≡ 92 = cc in not_broken a r (omega (arith, same)) broken
stuck_at_broken [] broken p rest is e = absurd broken

pub one_part : (p q : Part) (r t : List ℕ) → IsPart p → IsPart q → spelled p ++ r ≡ spelled q ++ t → (p ≡ q) × (r ≡ t)
one_part (itself c) (itself d) r t a b e = let same = encode_same c d r t e in (ap itself same.0, same.1)
one_part (itself c) (escape d) r t a b e = absurd (special_char 92 c (d ∷ t) r (omega arith) refl a.1 (sym e))
one_part (escape c) (itself d) r t a b e = absurd (special_char 92 d (c ∷ r) t (omega arith) refl b.1 e)
one_part (escape c) (escape d) r t a b e = (cc, cc)

-- bytes at which a comment doesn't go on
pub comment_stops : (stop : List ℕ) → begins_with (λ c. not (nat_eq c 10)) stop ≡ false → NoneAt encode_utf8 IsInComment stop
comment_stops [] h c rest is e = let some = some_bytes c in let long = ap length e ∙ length-append (encode_utf8 c) rest in omega (arith, long, some)
comment_stops (d ∷ r) h c rest is e = let ten : d ≡ 10 = grind (arith, nat_tests) in let same = byte_char d c r rest (omega (arith, ten)) e in grind (arith, nat_tests, same.0, is.1)

pub comment_breaks : (stop : List ℕ) → IsBroken stop → NoneAt encode_utf8 IsInComment stop
comment_breaks (a ∷ r) broken c rest is e = broken c rest is.0 e
comment_breaks [] broken c rest is e = absurd broken

closed_byte : (b : ℕ) (s : List ℕ) → is_special b ≡ false → is_closed (b ∷ s) ≡ is_closed s
closed_byte b [] h = grind (arith, nat_tests)
closed_byte b (c ∷ s) h = grind (arith, nat_tests)

closed_bytes : (c : ℕ) (bs s : List ℕ) → is_special c ≡ false → AllByRecursion (λ b. (128 ≤ b) ⊎ (b ≡ c)) bs → is_closed (bs ++ s) ≡ is_closed s
closed_bytes c [] s h all = refl
closed_bytes c (b ∷ bs) s h (inl high, all) = closed_byte b (bs ++ s) (grind (arith, nat_tests)) ∙ closed_bytes c bs s h all
closed_bytes c (b ∷ bs) s h (inr same, all) = closed_byte b (bs ++ s) (ap is_special same ∙ h) ∙ closed_bytes c bs s h all

closed_part : (p : Part) (s : List ℕ) → IsPart p → is_closed (spelled p ++ s) ≡ is_closed s
closed_part (itself c) s is = closed_bytes c (encode_utf8 c) s is.1 (bytes_of_char c)
closed_part (escape c) s is = refl

pub closed_parts : (ps : List Part) (s : List ℕ) → AreParts ps → is_closed (written ps ++ s) ≡ is_closed s
closed_parts [] s are = refl
closed_parts (p ∷ ps) s are = ap is_closed (append_assoc (spelled p) (written ps) s) ∙ closed_part p (written ps ++ s) are.0 ∙ closed_parts ps s are.1

-- what an escape stands for is one ASCII character
pub escape_means : (c byte : ℕ) → escaped_byte c ≡ Some byte → meaning (escape c) ≡ encode_utf8 byte
escape_means c byte e = rw e (sym (encode_ascii byte (grind (arith, nat_tests))))

-- a character stands for itself where its first byte isn't special
pub plain_char : (first c : ℕ) (others rest : List ℕ) → first ∷ others ≡ encode_utf8 c ++ rest → is_special first ≡ false → is_special c ≡ false
plain_char first c others rest e h =
    let same = λ (low : c < 128). ap (begins_with is_special) (ascii_prefix c rest low ∙ sym e) in grind (arith, nat_tests, same)
