-- What stands first in a text is determined by the text: first by the class of its first byte, and then within the class.
use Rattle.rn_notation.proofs.Names.{◌≡◌, ◌<◌, ◌≤◌, ℕ, List, [], ◌∷◌, ◌++◌, length, take, drop, Bool, true, false, not, ◌&&◌, ◌||◌, nat_eq, nat_le, nat_lt, refl, sym, ap, ◌∙◌, subst, arith, append_assoc, Option, Some, None, if◌then◌else◌, pos, encode_utf8, encode_utf8_all, IsScalar, list_all, AllByRecursion, StartsWithNoChar, nat_tests, take_at, drop_at, encode_same, and_right, is_letter, is_digit, is_name_byte, begins_with, is_identifier, index_of, is_blank, are_digits, number_of, greatest_number, is_prefix_of, begins_with_sign, is_longest_sign, opens_comment, Part, IsPart, AreParts, spelled, written, meant, is_closed, IsInComment, IsBroken, IsNoEscape, IsGap, IsToken, IsFault, begins_something, Found, fault, IsSpelledBy, Name, Word, Number, Text, Sign, P1, P3, P4, P7}
use Rattle.rn_value.specs.Words.{reserved_words}
use Rattle.rn_notation.specs.Words.{signs}
use Rattle.rn_notation.specs.link.Scanning.{gap, token}
use Rattle.rn_notation.proofs.WordLemmas.{passes, among_prefixes, prefix_of_itself}
use Rattle.rn_notation.proofs.Characters.{heads, tails, not_broken}
use Rattle.rn_notation.proofs.Parts.{NoneAt, one_list, one_part, stuck_at_quote, stuck_at_escape, stuck_at_broken, comment_stops, comment_breaks, closed_parts}

data Class : Type 0 where
  blanks : Class
  words : Class
  numbers : Class
  opens : Class
  texts : Class
  comments : Class
  others : Class
  nothing : Class

abbrev class_of : List ℕ → Class
class_of [] = nothing
class_of (c ∷ text) =
    if not (nat_lt c 128) then nothing
    else if is_blank c then blanks
    else if is_letter c then words
    else if is_digit c then numbers
    else if nat_eq c 34 then (if is_closed text then texts else opens)
    else if begins_with_sign (c ∷ text) then (if opens_comment (c ∷ text) then comments else others)
    else nothing

-- what is seen, its bytes, and the rest
abbrev pub Outcome : Type 0
Outcome = Found × List ℕ × List ℕ

-- A way in which a text begins: with a thing that is spelled so and fits before the rest, and by which something is seen. The text tells which thing.
record Way : Type 1 where
  Thing : Type 0
  spelling : Thing → List ℕ
  Fits : Thing → List ℕ → Type 0
  seen : Thing → List ℕ → Outcome
  one : (x y : Thing) (r s : List ℕ) → Fits x r → Fits y s → spelling x ++ r ≡ spelling y ++ s → (x ≡ y) × (r ≡ s)

-- a longest prefix has one end
one_run : (test : ℕ → Bool) (v w r s : List ℕ) → list_all test v ≡ true → list_all test w ≡ true → begins_with test r ≡ false → begins_with test s ≡ false → v ++ r ≡ w ++ s → (v ≡ w) × (r ≡ s)
one_run test [] [] r s hv hw nr ns e = (refl, e)
one_run test [] (x ∷ w) r s hv hw nr ns e = absurd (grind (arith, ap (begins_with test) e))
one_run test (x ∷ v) [] r s hv hw nr ns e = absurd (grind (arith, ap (begins_with test) e))
one_run test (x ∷ v) (y ∷ w) r s hv hw nr ns e =
    let first : x ≡ y = cc in
    let more : v ++ r ≡ w ++ s = cc in
    let others = one_run test v w r s (grind arith) (grind arith) nr ns more in
    (cc, others.1)

-- prefixes of one length are one
one_prefix : (v w r s : List ℕ) → length v ≡ length w → v ++ r ≡ w ++ s → (v ≡ w) × (r ≡ s)
one_prefix v w r s l e = (
  sym (take_at v r (length v) refl) ∙ ap (take (length v)) e ∙ take_at w s (length v) (sym l),
  sym (drop_at v r (length v) refl) ∙ ap (drop (length v)) e ∙ drop_at w s (length v) (sym l),
)

no_longer : (sign other text : List ℕ) (k : ℕ) → is_longest_sign sign text ≡ true → is_prefix_of other text ≡ true → index_of signs other ≡ Some k → length other ≤ length sign
no_longer sign other text k longest prefix at =
    let passed = passes (λ other. not (is_prefix_of other text) || nat_le (length other) (length sign)) signs other k longest at in
    grind (arith, nat_tests, prefix, passed)

abbrev word_token : Option ℕ → List ℕ → Found
word_token None w = token (Name w)
word_token (Some k) w = token (Word k)

abbrev sign_token : Option ℕ → Found
sign_token None = gap
sign_token (Some k) = token (Sign k)

-- a sign, before a rest with which it is no longer one
record IsSign (sign rest : List ℕ) : Type 0 where
  k : ℕ
  at : index_of signs sign ≡ Some k
  longest : is_longest_sign sign (sign ++ rest) ≡ true

one_sign : (v w r s : List ℕ) → IsSign v r → IsSign w s → v ++ r ≡ w ++ s → (v ≡ w) × (r ≡ s)
one_sign v w r s a b e =
    let up = no_longer v w (v ++ r) b.k a.longest (ap (is_prefix_of w) e ∙ prefix_of_itself w s) b.at in
    let down = no_longer w v (w ++ s) a.k b.longest (ap (is_prefix_of v) (sym e) ∙ prefix_of_itself v r) a.at in
    one_prefix v w r s (omega (arith, up, down)) e

-- where no token stands, a character is there or none
abbrev IsStray : Bool → List ℕ → Type 0
IsStray true text = (c : ℕ) × (after : List ℕ) × IsScalar c × (text ≡ encode_utf8 c ++ after)
IsStray false text = StartsWithNoChar text

one_stray : (x y : Bool) (r s : List ℕ) → IsStray x r → IsStray y s → r ≡ s → (x ≡ y) × (r ≡ s)
one_stray true true r s a b e = (refl, e)
one_stray true false r s a b e = absurd (b a.0 a.1 a.2 (sym e ∙ a.3))
one_stray false true r s a b e = absurd (a b.0 b.1 b.2 (e ∙ b.3))
one_stray false false r s a b e = (refl, e)

abbrev way : Class → Way
way blanks = record { Thing = ℕ; spelling = λ c. c ∷ []; Fits = λ c rest. Unit; seen = λ c rest. (gap, c ∷ [], rest); one = λ x y r s a b e. (heads x y r s e, tails x y r s e) }
way words = record {
  Thing = List ℕ;
  spelling = λ word. word;
  Fits = λ word rest. (is_identifier word ≡ true) × (begins_with is_name_byte rest ≡ false);
  seen = λ word rest. (word_token (index_of reserved_words word) word, word, rest);
  one = λ v w r s a b e. one_run is_name_byte v w r s (and_right (begins_with is_letter v) _ a.0) (and_right (begins_with is_letter w) _ b.0) a.1 b.1 e;
}
way numbers = record {
  Thing = List ℕ;
  spelling = λ ds. ds;
  Fits = λ ds rest. (are_digits ds ≡ true) × (begins_with is_digit rest ≡ false);
  seen = λ ds rest. if nat_le (number_of ds) greatest_number then (token (Number (pos (number_of ds))), ds, rest) else (fault P3, [], ds ++ rest);
  one = λ v w r s a b e. one_run is_digit v w r s (and_right (begins_with is_digit v) _ a.0) (and_right (begins_with is_digit w) _ b.0) a.1 b.1 e;
}
way opens = record { Thing = Unit; spelling = λ x. []; Fits = λ x rest. Unit; seen = λ x rest. (fault P7, [], rest); one = λ x y r s a b e. (refl, e) }
way texts = record {
  Thing = List Part;
  spelling = λ parts. 34 ∷ written parts;
  Fits = λ parts rest. AreParts parts × NoneAt spelled IsPart rest;
  seen = λ parts rest.
      if begins_with (λ c. nat_eq c 34) rest then (token (Text (meant parts)), 34 ∷ written parts ++ 34 ∷ [], drop 1 rest)
      else (fault (if begins_with (λ c. nat_eq c 92) rest then P1 else P4), 34 ∷ written parts, rest);
  one = λ ps qs r s a b e. one_list spelled IsPart one_part ps qs r s a.0 b.0 a.1 b.1 (tails 34 34 _ _ e);
}
way comments = record {
  Thing = List ℕ;
  spelling = λ cs. 47 ∷ 47 ∷ encode_utf8_all cs;
  Fits = λ cs rest. AllByRecursion IsInComment cs × NoneAt encode_utf8 IsInComment rest;
  seen = λ cs rest. (if begins_with (λ c. not (nat_eq c 10)) rest then fault P4 else gap, 47 ∷ 47 ∷ encode_utf8_all cs, rest);
  one = λ cs ds r s a b e. one_list encode_utf8 IsInComment (λ c d r t x y e. encode_same c d r t e) cs ds r s a.0 b.0 a.1 b.1 (tails 47 47 _ _ (tails 47 47 _ _ e));
}
way others = record { Thing = List ℕ; spelling = λ sign. sign; Fits = IsSign; seen = λ sign rest. (sign_token (index_of signs sign), sign, rest); one = one_sign }
way nothing = record { Thing = Bool; spelling = λ x. []; Fits = IsStray; seen = λ x rest. (fault (if x then P1 else P4), [], rest); one = one_stray }

-- in such a way the text begins, and what is seen by it
record Begins (w : Way) (text : List ℕ) (o : Outcome) : Type 0 where
  thing : w.Thing
  rest : List ℕ
  whole : text ≡ w.spelling thing ++ rest
  fits : w.Fits thing rest
  made : o ≡ w.seen thing rest

one_outcome : (w : Way) (text : List ℕ) (o p : Outcome) → Begins w text o → Begins w text p → o ≡ p
one_outcome w text o p a b =
    let same = w.one a.thing b.thing a.rest b.rest a.fits b.fits (sym a.whole ∙ b.whole) in
    a.made ∙ ap (λ x. w.seen x a.rest) same.0 ∙ ap (λ r. w.seen b.thing r) same.1 ∙ sym b.made

-- a text begins in the way of its class
abbrev Sees : List ℕ → Outcome → Type 0
Sees text o = Begins (way (class_of text)) text o

sees : (class : Class) (thing : (way class).Thing) (rest : List ℕ) (o : Outcome) → class_of ((way class).spelling thing ++ rest) ≡ class → (way class).Fits thing rest → o ≡ (way class).seen thing rest →
    Sees ((way class).spelling thing ++ rest) o
sees class thing rest o e fits made = subst (λ other. Begins (way other) ((way class).spelling thing ++ rest) o) (sym e) record { thing = thing; rest = rest; whole = refl; fits = fits; made = made }

class_blank : (c : ℕ) (text : List ℕ) → is_blank c ≡ true → class_of (c ∷ text) ≡ blanks
class_blank c text h = grind (arith, nat_tests)

class_word : (word rest : List ℕ) → is_identifier word ≡ true → class_of (word ++ rest) ≡ words
class_word [] rest h = cc
class_word (c ∷ word) rest h = let first : is_letter c ≡ true = grind arith in grind (arith, nat_tests)

class_number : (ds rest : List ℕ) → are_digits ds ≡ true → class_of (ds ++ rest) ≡ numbers
class_number [] rest h = cc
class_number (d ∷ ds) rest h = let first : is_digit d ≡ true = grind arith in grind (arith, nat_tests)

class_comment : (text : List ℕ) → class_of (47 ∷ 47 ∷ text) ≡ comments
unfolding signs
class_comment text = refl

-- no sign begins as a blank, a word, a number or a text does
abbrev begins_sign : List ℕ → Bool
begins_sign sign = begins_with (λ c. nat_lt c 128 && not (is_blank c) && not (is_letter c) && not (is_digit c) && not (nat_eq c 34)) sign

signs_begin : list_all begins_sign signs ≡ true
unfolding signs
signs_begin = refl

class_sign : (sign rest : List ℕ) (k : ℕ) → index_of signs sign ≡ Some k → opens_comment (sign ++ rest) ≡ false → class_of (sign ++ rest) ≡ others
class_sign [] rest k at code = let first = passes begins_sign signs [] k signs_begin at in cc
class_sign (c ∷ sign) rest k at code =
    let first = passes begins_sign signs (c ∷ sign) k signs_begin at in
    let some = among_prefixes signs (c ∷ sign) rest k at in
    grind (arith, first, some, code)

class_stray : (text : List ℕ) → begins_something text ≡ false → class_of text ≡ nothing
class_stray [] h = refl
class_stray (c ∷ text) h = grind (arith, nat_tests)

class_broken : (text : List ℕ) → IsBroken text → class_of text ≡ nothing
class_broken [] broken = absurd broken
class_broken (c ∷ text) broken = let high : ¬ (c < 128) = λ low. not_broken c text low broken in grind (arith, nat_tests)

no_char : (rest : List ℕ) → IsBroken rest → StartsWithNoChar rest
no_char [] broken = absurd broken
no_char (c ∷ rest) broken = broken

-- where no character stands, no byte below 128 does
broken_high : (test : ℕ → Bool) (b : Bool) (rest : List ℕ) → IsBroken rest → ((c : ℕ) → 128 ≤ c → test c ≡ b) → begins_with test rest ≡ b
broken_high test b [] broken high = absurd broken
broken_high test b (c ∷ rest) broken high = high c (let low : ¬ (c < 128) = λ low. not_broken c rest low broken in omega (arith, low))

sees_text : (parts : List Part) (rest : List ℕ) (o : Outcome) → AreParts parts → NoneAt spelled IsPart rest → is_closed (written parts ++ rest) ≡ true → o ≡ (way texts).seen parts rest →
    Sees (34 ∷ written parts ++ rest) o
sees_text parts rest o are stuck closed made = sees texts parts rest o (rw closed refl) (are, stuck) made

sees_found : (found : Found) (prefix rest : List ℕ) → IsSpelledBy found prefix rest → Sees (prefix ++ rest) (found, prefix, rest)
sees_found gap prefix rest (IsGap.blank {c = c} h) = sees blanks c rest _ (class_blank c rest h) tt refl
sees_found gap prefix rest (IsGap.comment cs all stops) = sees comments cs rest _ (class_comment (encode_utf8_all cs ++ rest)) (all, comment_stops rest stops) (rw stops refl)
sees_found (token kind) prefix rest (IsToken.name is stops none) = sees words prefix rest _ (class_word prefix rest is) (is, stops) (rw none refl)
sees_found (token kind) prefix rest (IsToken.word is stops at) = sees words prefix rest _ (class_word prefix rest is) (is, stops) (rw at refl)
sees_found (token kind) prefix rest (IsToken.number is stops small) =
    let few : nat_le (number_of prefix) greatest_number ≡ true = grind (arith, nat_tests) in sees numbers prefix rest _ (class_number prefix rest is) (is, stops) (rw few refl)
sees_found (token kind) prefix rest (IsToken.text parts are) = rw (append_assoc (written parts) (34 ∷ []) rest) (sees_text parts (34 ∷ rest) _ are (stuck_at_quote rest) (closed_parts parts (34 ∷ rest) are ∙ closed_quote rest) refl)
  where
    closed_quote : (rest : List ℕ) → is_closed (34 ∷ rest) ≡ true
    closed_quote [] = refl
    closed_quote (c ∷ rest) = refl
sees_found (token kind) prefix rest (IsToken.sign {k = k} at longest code) = sees others prefix rest _ (class_sign prefix rest k at code) record { k = k; at = at; longest = longest } (rw at refl)
sees_found (fault cause) prefix rest (IsFault.stray c after scalar none) = sees nothing true rest _ (class_stray rest none) (c, after, scalar, refl) refl
sees_found (fault cause) prefix rest (IsFault.no_escape parts are none closed) = sees_text parts rest _ are (stuck_at_escape rest none) closed (made rest none)
  where
    made : (rest : List ℕ) → IsNoEscape rest → (fault P1, 34 ∷ written parts, rest) ≡ (way texts).seen parts rest
    made [] none = absurd none
    made (a ∷ []) none = absurd none
    made (a ∷ c ∷ rest) none = rw none.0 refl
sees_found (fault cause) prefix rest (IsFault.too_great ds after is stops great) =
    let many : nat_le (number_of ds) greatest_number ≡ false = grind (arith, nat_tests) in sees numbers ds after _ (class_number ds after is) (is, stops) (rw many refl)
sees_found (fault cause) prefix rest (IsFault.broken broken) = sees nothing false rest _ (class_broken rest broken) (no_char rest broken) refl
sees_found (fault cause) prefix rest (IsFault.broken_comment cs all broken) =
    sees comments cs rest _ (class_comment (encode_utf8_all cs ++ rest)) (all, comment_breaks rest broken) (rw (broken_high (λ c. not (nat_eq c 10)) true rest broken (λ c high. grind (arith, nat_tests))) refl)
sees_found (fault cause) prefix rest (IsFault.broken_text parts are broken closed) =
    let no_quote = broken_high (λ c. nat_eq c 34) false rest broken (λ c high. grind (arith, nat_tests)) in
    let no_backslash = broken_high (λ c. nat_eq c 92) false rest broken (λ c high. grind (arith, nat_tests)) in
    sees_text parts rest _ are (stuck_at_broken rest broken) closed (rw (no_quote, no_backslash) refl)
sees_found (fault cause) prefix rest (IsFault.not_closed {after = after} open_) = sees opens tt rest _ (rw open_ refl) tt refl

-- at most one thing stands first in a text
pub one_stands : (x y : Found) (f g r s : List ℕ) → IsSpelledBy x f r → IsSpelledBy y g s → f ++ r ≡ g ++ s → ◌≡◌ {A = Outcome} (x, f, r) (y, g, s)
one_stands x y f g r s a b e =
    one_outcome (way (class_of (g ++ s))) (g ++ s) (x, f, r) (y, g, s) (subst (λ text. Sees text (x, f, r)) e (sees_found x f r a)) (sees_found y g s b)
