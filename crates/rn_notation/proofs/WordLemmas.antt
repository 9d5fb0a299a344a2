-- Reserved words and signs, as they are read.
use Rattle.rn_notation.proofs.Names.{◌≡◌, ◌<◌, ◌≤◌, ℕ, suc, List, [], ◌∷◌, ◌++◌, length, Bool, true, false, not, ◌&&◌, ◌||◌, nat_le, refl, sym, ap, ◌∙◌, arith, Some, None, bytes_eq, list_all, list_any, nat_tests, true_both, index_of, is_prefix_of, begins_with_sign, opens_comment, IsToken, Cuts, long_sign, ends_in_letter, Sign}
use Rattle.std.proofs.lemmas.Bool.{eq-eqb}
use Rattle.rn_items.proofs.Numbers.{same_numbers, numbers_themselves}
use Rattle.rn_value.specs.Words.{reserved_words}
use Rattle.rn_notation.specs.Words.{signs}
use Rattle.rn_notation.specs.link.Scanning.{token}

-- a test that all of some words pass holds of each of them
pub passes : (test : List ℕ → Bool) (words : List (List ℕ)) (w : List ℕ) (k : ℕ) → list_all test words ≡ true → index_of words w ≡ Some k → test w ≡ true
passes test [] w k all e = cc
passes test (v ∷ words) w k all e =
    let same = λ (e : bytes_eq v w ≡ true). ap test (same_numbers v w e) in
    let more = λ (j : ℕ). passes test words w j in
    grind (arith, same, more)

-- a test that holds of each of some words is one that all of them pass
all_pass : (test : List ℕ → Bool) (words : List (List ℕ)) → ((w : List ℕ) (k : ℕ) → index_of words w ≡ Some k → test w ≡ true) → list_all test words ≡ true
all_pass test [] h = refl
all_pass test (v ∷ words) h = true_both _ _ (h v 0 (rw (numbers_themselves v) refl)) (all_pass test words (λ w k at. let first = h w 0 in let next = h w (suc k) in grind (arith, first, next)))

-- none passes a test where all fail it
none_pass : (test : List ℕ → Bool) (words : List (List ℕ)) → list_any test words ≡ not (list_all (λ w. not (test w)) words)
none_pass test [] = refl
none_pass test (v ∷ words) = let more = none_pass test words in grind arith

-- each reserved word ends in a letter
reserved_ends : list_all ends_in_letter reserved_words ≡ true
unfolding reserved_words
reserved_ends = refl

-- a word that doesn't end in a letter is none of them
pub isnt_reserved : (w : List ℕ) → ends_in_letter w ≡ false → None ≡ index_of reserved_words w
isnt_reserved w other = let ends = λ (k : ℕ). passes ends_in_letter reserved_words w k reserved_ends in grind (arith, ends)

pub prefix_of_itself : (w rest : List ℕ) → is_prefix_of w (w ++ rest) ≡ true
prefix_of_itself [] rest = refl
prefix_of_itself (c ∷ w) rest = rw (eq-eqb c c refl) (prefix_of_itself w rest)

-- where a text begins with one of some words it has one as a prefix
pub among_prefixes : (words : List (List ℕ)) (w rest : List ℕ) (k : ℕ) → index_of words w ≡ Some k → list_any (λ s. is_prefix_of s (w ++ rest)) words ≡ true
among_prefixes words w rest k at =
    let none = none_pass (λ s. is_prefix_of s (w ++ rest)) words in
    let itself = prefix_of_itself w rest in
    let fails = λ (e : list_all (λ s. not (is_prefix_of s (w ++ rest))) words ≡ true). passes (λ s. not (is_prefix_of s (w ++ rest))) words w k e at in
    grind (arith, none, itself, fails)

-- a sign has one byte or two
abbrev short_sign : List ℕ → Bool
short_sign w = nat_le 1 (length w) && nat_le (length w) 2

signs_short : list_all short_sign signs ≡ true
unfolding signs
signs_short = refl

pub sign_not_empty : (sign : List ℕ) (k : ℕ) → index_of signs sign ≡ Some k → 0 < length sign
sign_not_empty sign k e = let short = passes short_sign signs sign k signs_short e in grind (arith, nat_tests, short)

-- where no sign of two bytes stands, a sign that stands is the first byte
lone : (a : ℕ) (rest w : List ℕ) (k : ℕ) → None ≡ long_sign a rest → short_sign w ≡ true → index_of signs w ≡ Some k → is_prefix_of w (a ∷ rest) ≡ true → w ≡ a ∷ []
lone a rest [] k none short at begins = grind (arith, nat_tests)
lone a rest (c ∷ []) k none short at begins = grind (arith, nat_tests)
lone a [] (c ∷ d ∷ []) k none short at begins = grind arith
lone a (b ∷ rest) (c ∷ d ∷ []) k none short at begins =
    let first : c ≡ a = grind (arith, nat_tests) in
    let second : d ≡ b = grind (arith, nat_tests) in
    cc (ap (λ c. index_of signs (c ∷ d ∷ [])) first, ap (λ d. index_of signs (a ∷ d ∷ [])) second)
lone a rest (c ∷ d ∷ e ∷ w) k none short at begins = absurd (grind (arith, nat_tests))

sign_stands : (text sign rest : List ℕ) (k : ℕ) → text ≡ sign ++ rest → opens_comment text ≡ false → Some k ≡ index_of signs sign →
    ((w : List ℕ) (j : ℕ) → index_of signs w ≡ Some j → is_prefix_of w (sign ++ rest) ≡ true → length w ≤ length sign) → Cuts text (length sign) (token (Sign k))
sign_stands text sign rest k whole code at longest = record {
  prefix = sign;
  rest = rest;
  whole = whole;
  size = refl;
  stands = IsToken.sign (sym at) (all_pass (λ other. not (is_prefix_of other (sign ++ rest)) || nat_le (length other) (length sign)) signs
      (λ w j there. let few = longest w j there in grind (arith, nat_tests, few))) (ap opens_comment (sym whole) ∙ code);
}

pub long_sign_stands : (text others : List ℕ) (a k : ℕ) → text ≡ a ∷ others → opens_comment text ≡ false → Some k ≡ long_sign a others → Cuts text 2 (token (Sign k))
long_sign_stands text [] a k whole code at = cc
long_sign_stands text (b ∷ rest) a k whole code at = sign_stands text (a ∷ b ∷ []) rest k whole code at (λ w j there begins. let short = passes short_sign signs w j signs_short there in grind (arith, nat_tests, short))

pub short_sign_stands : (text others : List ℕ) (a k : ℕ) → text ≡ a ∷ others → opens_comment text ≡ false → None ≡ long_sign a others → Some k ≡ index_of signs (a ∷ []) → Cuts text 1 (token (Sign k))
short_sign_stands text others a k whole code none at = sign_stands text (a ∷ []) others k whole code at
    (λ w j there begins. let same = lone a others w j none (passes short_sign signs w j signs_short there) there begins in let long = ap length same in omega (arith, long))

pub no_sign : (text others : List ℕ) (a : ℕ) → text ≡ a ∷ others → None ≡ long_sign a others → None ≡ index_of signs (a ∷ []) → begins_with_sign text ≡ false
no_sign text others a whole long none = ap begins_with_sign whole ∙ none_pass (λ w. is_prefix_of w (a ∷ others)) signs ∙ ap not (all_pass (λ w. not (is_prefix_of w (a ∷ others))) signs (λ w j there.
    let same = λ (e : is_prefix_of w (a ∷ others) ≡ true). ap (index_of signs) (lone a others w j long (passes short_sign signs w j signs_short there) there e) in grind (arith, same, none)))

pub ruleset sign_rules = (long_sign_stands, short_sign_stands, no_sign)
