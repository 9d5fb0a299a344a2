-- How many items a word chooses, and the one of a number.
use Rattle.std.proofs.Common.{◌≡◌, ◌≢◌, ℕ, zero, suc, ◌+◌, ◌-◌, ◌*◌, ◌/◌, ◌^◌, ◌<◌, ◌≤◌, nat_eq, bit_and, min, Bool, true, false, cond, Some, slice_get, List, [], ◌∷◌, ◌++◌, length, take, drop, get_or, set, length-set, length-append, length-take, length-drop, append-nil, refl, sym, ap, ◌∙◌, subst, arith}
use Rattle.std.proofs.lemmas.Nat.{and_le_r}
use Rattle.std.proofs.lemmas.Nat.Bits.{bit_at-suc, bit_at_lowest, bit_at_and, bit_at_ones, bit_at-lt}
use Rattle.std.specs.Int.{bit_at}
use lib.Count.{ones, ones_in, ones_step}
use lib.Pow.{shr_lt}
use Rattle.rn_value.specs.declared.value.Value.{Value}
use Rattle.rn_value.specs.declared.value.Value.TheVariants as Value
use Rattle.rn_bag.specs.Slots.{there_from}
use Rattle.rn_bag.specs.Words.{has_bit}
use Rattle.rn_bag.specs.link.Chunks.{Slots, AreCounted, tokens_in_chunk, tokens_in, values_in}
use Rattle.std.proofs.lemmas.List.{take_more, take-take, get_or-take, get_or-drop}
use Rattle.std.proofs.lemmas.Option.{slice_get-get_or, get_or_from_slice_get}
use Rattle.std.specs.List.{slice_range}
use Rattle.std.proofs.lemmas.List.Concat.{flat_map-append}
use Rattle.std.proofs.Math.Seq.{take-suc-set}
use Rattle.std.proofs.lemmas.Grind.{get_or-set_at}
use Rattle.rn_bag.proofs.SlotLemmas.{there_agrees, there_parts, there_next, there_joined, there_cut, there_skipped, there_whole}
use Rattle.rn_bag.proofs.SlotIndexLemmas.{tokens_parts}
use Rattle.rn_bag.proofs.EditLemmas.{read_at, same_values, replaced_tokens_of}

-- numbers that begin later
there_shifted : (t u : ℕ → Bool) (n : ℕ) (vs : List Value) → ((i : ℕ) → t (suc i) ≡ u i) → there_from t (suc n) vs ≡ there_from u n vs
there_shifted t u n [] same = refl
there_shifted t u n (v ∷ vs) same =
    ap (λ b. cond b (v ∷ there_from t (suc (suc n)) vs) (there_from t (suc (suc n)) vs)) (same n)
    ∙ ap (λ r. cond (u n) (v ∷ r) r) (there_shifted t u (suc n) vs same)

first_counts : (b n : ℕ) (v : Value) (vs : List Value) → b < 2 → length vs ≡ n → length (cond (nat_eq b 1) (v ∷ vs) vs) ≡ b + n
first_counts zero n v vs small size = omega (arith, size)
first_counts (suc zero) n v vs small size = omega (arith, size)
first_counts (suc (suc b)) n v vs small size = absurd (omega arith)

ones_of_zero : ones 0 ≡ 0
unfolding ones ones_in
ones_of_zero = refl

half_below : (w k : ℕ) → w < 2 ^ suc k → w / 2 < 2 ^ k
half_below w k low = shr_lt k 1 (let e : w < 2 ^ (k + 1) = subst (λ j. w < 2 ^ j) (let f : suc k ≡ k + 1 = omega arith in f) low in e)

pub chosen_count : (vs : List Value) (w : ℕ) → w < 2 ^ length vs → length (there_from (has_bit w) 0 vs) ≡ ones w
chosen_count [] w low = let none : 0 ≡ w = omega arith in sym ones_of_zero ∙ ap ones none
chosen_count (v ∷ vs) w low =
    let later : there_from (has_bit w) 1 vs ≡ there_from (has_bit (w / 2)) 0 vs = there_shifted (has_bit w) (has_bit (w / 2)) 0 vs (λ i. ap (λ b. nat_eq b 1) (bit_at-suc w i)) in
    let rest : length (there_from (has_bit w) 1 vs) ≡ ones (w / 2) = ap length later ∙ chosen_count vs (w / 2) (half_below w (length vs) low) in
    first_counts (bit_at w 0) (ones (w / 2)) v (there_from (has_bit w) 1 vs) (bit_at-lt w 0) rest
    ∙ ap (λ b. b + ones (w / 2)) (bit_at_lowest w) ∙ sym (ones_step w)

pub masked_count : (vs : List Value) (word mask n : ℕ) → mask ≡ 2 ^ n - 1 → length vs ≡ n → 0 < 2 ^ n → length (there_from (has_bit word) 0 vs) ≡ ones (bit_and word mask)
masked_count vs word mask n is size pos =
    let m : ℕ = 2 ^ n - 1 in
    let low : bit_and word m < 2 ^ n = omega (arith, and_le_r word m, pos) in
    let same : there_from (has_bit word) 0 vs ≡ there_from (has_bit (bit_and word m)) 0 vs = there_agrees (has_bit word) (has_bit (bit_and word m)) 0 vs (λ i _ high.
    let inside : bit_at m i ≡ 1 = bit_at_ones n i (omega arith) in
    let small : bit_at word i < 2 = bit_at-lt word i in
    ap (λ b. nat_eq b 1) (sym (bit_at_and word m i ∙ ap (λ k. min (bit_at word i) k) inside ∙ omega (arith, small)))) in
    ap length same ∙ chosen_count vs (bit_and word m) (subst (λ k. bit_and word m < 2 ^ k) (sym size) low) ∙ ap (λ k. ones (bit_and word k)) (sym is)

module _ {A : Type 0} where
  -- within the first of two joined lists, an index is one of that
  pub get_prefix : (xs ys : List A) (n : ℕ) → n < length xs → slice_get (xs ++ ys) n ≡ slice_get xs n
  get_prefix [] ys n within = absurd (omega arith)
  get_prefix (x ∷ xs) ys zero within = refl
  get_prefix (x ∷ xs) ys (suc n) within = get_prefix xs ys n (omega arith)

  -- past it, it is one of the second, counted from the end of the first
  pub get_suffix : (xs ys : List A) (n : ℕ) → length xs ≤ n → slice_get (xs ++ ys) n ≡ slice_get ys (n - length xs)
  get_suffix [] ys n past = ap (slice_get ys) (let e : n ≡ n - 0 = omega arith in e)
  get_suffix (x ∷ xs) ys zero past = absurd (omega arith)
  get_suffix (x ∷ xs) ys (suc n) past = get_suffix xs ys n (omega arith) ∙ ap (slice_get ys) (let e : n - length xs ≡ suc n - suc (length xs) = omega arith in e)

module _ {A : Type 0} where
  -- the item just after a prefix
  get_after : (xs : List A) (y : A) (ys : List A) (n : ℕ) → n ≡ length xs → slice_get (xs ++ y ∷ ys) n ≡ Some y
  get_after xs y ys n is = get_suffix xs (y ∷ ys) n (omega (arith, is)) ∙ ap (slice_get (y ∷ ys)) (let e : n - length xs ≡ 0 = omega (arith, is) in e)

-- the token that halving over slots ends at
nth_case : (b : Bool) (xs rest : List Value) (v : Value) (n : ℕ) → length xs ≤ n → n < length (xs ++ cond b (v ∷ []) []) → slice_get (xs ++ cond b (v ∷ rest) rest) n ≡ Some v
nth_case true xs rest v n low high = get_after xs v rest n (omega (arith, low, high, length-append xs (v ∷ [])))
nth_case false xs rest v n low high = absurd (omega (arith, low, high, length-append {A = Value} xs []))

pub nth_found : (t : ℕ → Bool) (vs : List Value) (slot n : ℕ) (v : Value) → slot < length vs → v ≡ get_or vs slot v → length (there_from t 0 (take slot vs)) ≤ n → n < length (there_from t 0 (take (slot + 1) vs)) →
    slice_get (there_from t 0 vs) n ≡ Some v
nth_found t vs slot n v within is low high =
    let a : List Value = there_from t 0 (take slot vs) in
    let rest : List Value = there_from t (suc slot) (drop (slot + 1) vs) in
    let all : there_from t 0 vs ≡ a ++ cond (t slot) (v ∷ rest) rest = there_parts t slot vs ∙ ap (λ r. a ++ r) (there_next t slot slot vs v within is) in
    let more : take (slot + 1) vs ≡ take slot vs ++ v ∷ [] = take_more vs slot v within ∙ ap (λ y. take slot vs ++ y ∷ []) (sym is) in
    let place : 0 + length (take slot vs) ≡ slot = omega (arith, length-take slot vs) in
    let here : there_from t 0 (take (slot + 1) vs) ≡ a ++ cond (t slot) (v ∷ []) [] =
    ap (there_from t 0) more ∙ there_joined t 0 (take slot vs) (v ∷ []) ∙ ap (λ m. a ++ cond (t m) (v ∷ []) []) place in
    ap (λ r. slice_get r n) all ∙ nth_case (t slot) a rest v n low (subst (λ (r : List Value). n < length r) here high)

-- slots that all hold a token, one after another, count one each
run_rank : (t : ℕ → Bool) (vs : List Value) (s k : ℕ) → s + k ≤ length vs →
    ((i : ℕ) → s ≤ i → i < s + k → t i ≡ true) →
    length (there_from t 0 (take (s + k) vs)) ≡ length (there_from t 0 (take s vs)) + k
run_rank t vs s k within all =
    let ws : List Value = take (s + k) vs in
    let size : length ws ≡ s + k = omega (arith, length-take (s + k) vs) in
    let left : length (drop s ws) ≡ k = omega (arith, length-drop s ws, size) in
    let front : take s ws ≡ take s vs = take-take s (s + k) vs (omega arith) in
    let whole : there_from t s (drop s ws) ≡ drop s ws
    = there_whole t s (drop s ws) (λ i low high. all i low (omega (arith, left))) in
    let cut = ap length (there_cut t s ws (omega (arith, size))) in
    let joined = length-append (there_from t 0 (take s ws)) (there_from t s (drop s ws)) in
    let first : length (there_from t 0 (take s ws)) ≡ length (there_from t 0 (take s vs))
    = ap (λ r. length (there_from t 0 r)) front in
    omega (arith, cut, joined, first, ap length whole, left)

-- a slot that holds none doesn't count
free_rank : (t : ℕ → Bool) (vs : List Value) (s : ℕ) → s < length vs → t s ≡ false →
    length (there_from t 0 (take (s + 1) vs)) ≡ length (there_from t 0 (take s vs))
free_rank t vs s within free =
    ap length (there_skipped t s (s + 1) vs (omega arith) (omega arith)
    (λ i low high. let same : s ≡ i = omega (arith, low, high) in subst (λ j. t j ≡ false) same free))

-- The token of an index has its slot where halving ends, and so have those after it in the slots that
-- follow, as long as these hold tokens.
pub record IsRun (t : ℕ → Bool) (vs : List Value) (s e n : ℕ) : Type 0 where
  pub inside : s < e
  pub within : e ≤ length vs
  pub there : (i : ℕ) → s ≤ i → i < e → t i ≡ true
  pub first : length (there_from t 0 (take s vs)) ≡ n

pub run_begins : (t : ℕ → Bool) (vs : List Value) (s n : ℕ) → s < length vs →
    length (there_from t 0 (take s vs)) ≤ n → n < length (there_from t 0 (take (s + 1) vs)) →
    t s ≡ true
run_begins t vs s n within low high = by (t s) (free_rank t vs s within)
  where
    by : (b : Bool) → (b ≡ false → length (there_from t 0 (take (s + 1) vs))
        ≡ length (there_from t 0 (take s vs))) → b ≡ true
    by true none = refl
    by false none = absurd (omega (arith, low, high, none refl))

pub run_is : (t : ℕ → Bool) (vs : List Value) (s e n : ℕ) → s < e → e ≤ length vs →
    ((i : ℕ) → s ≤ i → i < e → t i ≡ true) → length (there_from t 0 (take s vs)) ≤ n →
    n < length (there_from t 0 (take (s + 1) vs)) → IsRun t vs s e n
run_is t vs s e n inside within all low high = record {
  inside = inside;
  within = within;
  there = all;
  first = omega (
    arith,
    low,
    high,
    run_rank t vs s 1 (omega arith)
        (λ i least most. all i least (omega (arith, most, inside))),
  );
}

run_ranks : (t : ℕ → Bool) (vs : List Value) (s e n k : ℕ) → IsRun t vs s e n → s + k ≤ e →
    length (there_from t 0 (take (s + k) vs)) ≡ n + k
run_ranks t vs s e n k run most =
    run_rank t vs s k (omega (arith, run.within)) (λ i low high. run.there i low (omega (arith, most)))
    ∙ ap (λ m. m + k) run.first

pub run_some : (t : ℕ → Bool) (vs : List Value) (s e n : ℕ) → IsRun t vs s e n →
    0 < length (slice_range vs s e)
run_some t vs s e n run =
    omega (arith, length-take (e - s) (drop s vs), length-drop s vs, run.inside, run.within)

pub run_bound : (t : ℕ → Bool) (vs : List Value) (s e n : ℕ) → IsRun t vs s e n →
    n + length (slice_range vs s e) ≤ length (there_from t 0 vs)
run_bound t vs s e n run =
    let left : e ≡ s + (e - s) = omega (arith, run.inside) in
    let rank : length (there_from t 0 (take e vs)) ≡ n + (e - s)
    = subst (λ m. length (there_from t 0 (take m vs)) ≡ n + (e - s)) (sym left)
    (run_ranks t vs s e n (e - s) run (omega (arith, run.inside))) in
    let all = ap length (there_parts t e vs) in
    let joined = length-append (there_from t 0 (take e vs)) (there_from t e (drop e vs)) in
    omega (arith, rank, all, joined, length-take (e - s) (drop s vs), length-drop s vs, run.within)

pub run_found : (t : ℕ → Bool) (vs : List Value) (s e n k : ℕ) → IsRun t vs s e n →
    k < length (slice_range vs s e) →
    slice_get (there_from t 0 vs) (n + k) ≡ slice_get (slice_range vs s e) k
run_found t vs s e n k run within =
    let few : k < e - s = omega (arith, within, length-take (e - s) (drop s vs)) in
    let d : Value = get_or vs (s + k) (Value.Tuple []) in
    let v : Value = get_or (slice_range vs s e) k (Value.Tuple []) in
    let same : v ≡ d = get_or-take (e - s) (drop s vs) k (Value.Tuple []) few
    ∙ get_or-drop s vs k (Value.Tuple []) in
    let there : s + k < length vs = omega (arith, few, run.within) in
    let at : slice_get vs (s + k) ≡ Some d = slice_get-get_or vs (s + k) (Value.Tuple []) there in
    let read : d ≡ get_or vs (s + k) d = sym (get_or_from_slice_get vs (s + k) d d at) in
    let next : (s + k) + 1 ≡ s + (k + 1) = omega arith in
    nth_found t vs (s + k) (n + k) d there read
    (omega (arith, run_ranks t vs s e n k run (omega (arith, few))))
    (subst (λ m. n + k < length (there_from t 0 (take m vs))) (sym next)
    (omega (arith, run_ranks t vs s e n (k + 1) run (omega (arith, few)))))
    ∙ ap Some (sym same) ∙ sym (slice_get-get_or (slice_range vs s e) k (Value.Tuple []) within)

-- up to the first slot that holds none
pub run_here : (t : ℕ → Bool) (vs : List Value) (s a e n : ℕ) → s < length vs → length vs ≤ 64 →
    length (there_from t 0 (take s vs)) ≤ n → n < length (there_from t 0 (take (s + 1) vs)) →
    s ≤ a → ((i : ℕ) → s ≤ i → i < a → t i ≡ true) → (a < 64 → t a ≡ false) →
    e ≡ min a (length vs) → IsRun t vs s e n
run_here t vs s a e n within small low high later present absent is =
    let begins : t s ≡ true = run_begins t vs s n within low high in
    let other : s ≢ a = λ same.
    let free : t s ≡ false = subst (λ j. t j ≡ false) (sym same) (absent (omega (arith, same, within, small))) in
    let no : ⊥ = cc in no in
    run_is t vs s e n (omega (arith, other)) (omega arith)
    (λ i least most. present i least (omega (arith, most, is))) low high

-- the token that halving over chunks ends at
pub token_found : (ss : List Slots) (i n : ℕ) (x : Slots) → i < length ss → x ≡ get_or ss i x → length (tokens_in (take i ss)) ≤ n → n < length (tokens_in (take (i + 1) ss)) →
    (n - length (tokens_in (take i ss)) < length (tokens_in_chunk x)) × (slice_get (tokens_in ss) n ≡ slice_get (tokens_in_chunk x) (n - length (tokens_in (take i ss))))
token_found ss i n x within is low high =
    let a : List Value = tokens_in (take i ss) in
    let d : List Value = tokens_in (drop (suc i) ss) in
    let more : tokens_in (take (i + 1) ss) ≡ a ++ tokens_in_chunk x =
    ap tokens_in (take_more ss i x within ∙ ap (λ y. take i ss ++ y ∷ []) (sym is)) ∙ flat_map-append tokens_in_chunk (take i ss) (x ∷ []) ∙ ap (λ r. a ++ r) (append-nil (tokens_in_chunk x)) in
    let size : length (tokens_in (take (i + 1) ss)) ≡ length a + length (tokens_in_chunk x) = ap length more ∙ length-append a (tokens_in_chunk x) in
    let inside : n - length a < length (tokens_in_chunk x) = omega (arith, size, low, high) in (
      inside,
      ap (λ r. slice_get r n) (tokens_parts ss i x within is) ∙ get_suffix a (tokens_in_chunk x ++ d) n low ∙ get_prefix (tokens_in_chunk x) d (n - length a) inside,
    )

-- what a chunk says stands before it
pub counted_at : (k n : ℕ) (ss : List Slots) (i : ℕ) (x : Slots) → AreCounted k n ss → i < length ss → x ≡ get_or ss i x →
    (x.before ≡ n + length (tokens_in (take i ss))) × (n + length (tokens_in (take i ss)) ≤ 64 * (k + i))
counted_at k n [] i x told within is = absurd (omega arith)
counted_at k n (s ∷ ss) zero x told within is =
    (ap (λ (y : Slots). y.before) is ∙ told.0 ∙ omega arith, omega (arith, told.1))
counted_at k n (s ∷ ss) (suc i) x told within is =
    let rest = counted_at (suc k) (n + length (tokens_in_chunk s)) ss i x told.2 (omega arith) is in
    let size = length-append (tokens_in_chunk s) (tokens_in (take i ss)) in
    (omega (arith, rest.0, size), omega (arith, rest.1, size))

pub token_read : (ss : List Slots) (i high n b : ℕ) (x : Slots) → AreCounted 0 0 ss → i < length ss → x ≡ get_or ss i x → high ≡ i + 1 → b ≡ x.before →
    length (tokens_in (take i ss)) ≤ n → n < length (tokens_in (take high ss)) → (b ≤ n) × (n - b < length (tokens_in_chunk x)) × (slice_get (tokens_in ss) n ≡ slice_get (tokens_in_chunk x) (n - b))
token_read ss i high n b x told within is next before low up =
    let at = counted_at 0 0 ss i x told within is in
    let start : length (tokens_in (take i ss)) ≡ b = omega (arith, at.0, before) in
    let found = token_found ss i n x within is low (subst (λ k. n < length (tokens_in (take k ss))) next up) in
    (omega (arith, start, low), omega (arith, start, found.0), found.1 ∙ ap (λ k. slice_get (tokens_in_chunk x) (n - k)) start)

-- the tokens that stand side by side in a chunk, among all
pub run_read : (ss : List Slots) (i n b m : ℕ) (x : Slots) → AreCounted 0 0 ss → i < length ss →
    x ≡ get_or ss i x → b ≡ x.before → length (tokens_in (take i ss)) ≤ n →
    (n - b) + m ≤ length (tokens_in_chunk x) →
    (n + m ≤ length (tokens_in ss)) × ((k : ℕ) → k < m →
    slice_get (tokens_in ss) (n + k) ≡ slice_get (tokens_in_chunk x) ((n - b) + k))
run_read ss i n b m x told within is before low few =
    let a : List Value = tokens_in (take i ss) in
    let at = counted_at 0 0 ss i x told within is in
    let start : length a ≡ b = omega (arith, at.0, before) in
    let more : tokens_in (take (i + 1) ss) ≡ a ++ tokens_in_chunk x =
    ap tokens_in (take_more ss i x within ∙ ap (λ y. take i ss ++ y ∷ []) (sym is))
    ∙ flat_map-append tokens_in_chunk (take i ss) (x ∷ []) ∙ ap (λ r. a ++ r) (append-nil (tokens_in_chunk x)) in
    let size : length (tokens_in (take (i + 1) ss)) ≡ length a + length (tokens_in_chunk x)
    = ap length more ∙ length-append a (tokens_in_chunk x) in
    let rest : List Value = tokens_in (drop (suc i) ss) in
    let all : length (tokens_in ss) ≡ length a + (length (tokens_in_chunk x) + length rest)
    = ap length (tokens_parts ss i x within is) ∙ length-append a (tokens_in_chunk x ++ rest)
    ∙ ap (λ k. length a + k) (length-append (tokens_in_chunk x) rest) in (
      omega (arith, start, all, few, low),
      λ k less.
          (token_found ss i (n + k) x within is (omega (arith, low)) (omega (arith, size, start, few, low, less))).1
          ∙ ap (slice_get (tokens_in_chunk x))
          (let e : (n + k) - length a ≡ (n - b) + k = omega (arith, start, low) in e),
    )

pub counted_prefix : (k n : ℕ) (ss : List Slots) (i : ℕ) → AreCounted k n ss → AreCounted k n (take i ss)
counted_prefix k n [] zero told = tt
counted_prefix k n [] (suc i) told = tt
counted_prefix k n (s ∷ ss) zero told = tt
counted_prefix k n (s ∷ ss) (suc i) told = (told.0, told.1, counted_prefix (suc k) (n + length (tokens_in_chunk s)) ss i told.2)

-- one more chunk that says rightly what stands before it
pub counted_more : (k n : ℕ) (ss : List Slots) (x : Slots) → AreCounted k n ss → x.before ≡ n + length (tokens_in ss) → n + length (tokens_in ss) ≤ 64 * (k + length ss) → AreCounted k n (ss ++ x ∷ [])
counted_more k n [] x told is few = (omega (arith, is), omega (arith, few), tt)
counted_more k n (s ∷ ss) x told is few =
    let size = length-append (tokens_in_chunk s) (tokens_in ss) in
    (told.0, told.1, counted_more (suc k) (n + length (tokens_in_chunk s)) ss x told.2 (omega (arith, is, size)) (omega (arith, few, size)))

-- how many tokens the first chunks have
pub count_of_prefix : (ss : List Slots) (i : ℕ) (x : Slots) → AreCounted 0 0 (take (i + 1) ss) → i < length ss → x ≡ get_or ss i x → length (tokens_in_chunk x) ≤ 64 →
    (x.before + length (tokens_in_chunk x) ≡ length (tokens_in (take (i + 1) ss))) × (x.before ≤ 64 * i)
count_of_prefix ss i x told within is few =
    let more : take (i + 1) ss ≡ take i ss ++ x ∷ [] = take_more ss i x within ∙ ap (λ y. take i ss ++ y ∷ []) (sym is) in
    let size : length (take i ss) ≡ i = omega (arith, length-take i ss) in
    let here : x ≡ get_or (take (i + 1) ss) i x = is ∙ sym (get_or-take (i + 1) ss i x (omega arith)) in
    let at = counted_at 0 0 (take (i + 1) ss) i x told (omega (arith, length-take (i + 1) ss)) here in
    let cut : take i (take (i + 1) ss) ≡ take i ss = take-take i (i + 1) ss (omega arith) in
    let before : x.before ≡ length (tokens_in (take i ss)) = at.0 ∙ omega (arith, ap (λ r. length (tokens_in r)) cut) in
    let all : tokens_in (take (i + 1) ss) ≡ tokens_in (take i ss) ++ tokens_in_chunk x = ap tokens_in more ∙ flat_map-append tokens_in_chunk (take i ss) (x ∷ []) ∙ ap (λ r. tokens_in (take i ss) ++ r) (append-nil (tokens_in_chunk x)) in
    (omega (arith, before, ap length all, length-append (tokens_in (take i ss)) (tokens_in_chunk x)), omega (arith, at.1, at.0, before))

pub same_tokens_of : (x y : Slots) → y.values ≡ x.values → y.there ≡ x.there → tokens_in_chunk y ≡ tokens_in_chunk x
same_tokens_of x y values there = ap (λ w. there_from (has_bit w) 0 y.values) there ∙ ap (there_from (has_bit x.there) 0) values

-- a chunk says anew what stands before it
pub recounted : (ss : List Slots) (i total : ℕ) (x y : Slots) → i < length ss → x ≡ get_or ss i x → y.values ≡ x.values → y.there ≡ x.there → y.before ≡ total → length (tokens_in_chunk x) ≤ 64 →
    AreCounted 0 0 (take i ss) → total ≡ length (tokens_in (take i ss)) → total ≤ 64 * i →
    AreCounted 0 0 (take (i + 1) (set ss i y)) × (total + length (tokens_in_chunk y) ≡ length (tokens_in (take (i + 1) (set ss i y)))) × (total + length (tokens_in_chunk y) ≤ 64 * (i + 1))
    × (tokens_in (set ss i y) ≡ tokens_in ss) × (values_in (set ss i y) ≡ values_in ss)
recounted ss i total x y within is values there before few told count bound =
    let tokens : tokens_in_chunk y ≡ tokens_in_chunk x = same_tokens_of x y values there in
    let size : length (take i ss) ≡ i = omega (arith, length-take i ss) in
    let more : take (i + 1) (set ss i y) ≡ take i ss ++ y ∷ [] = ap (λ k. take k (set ss i y)) (let e : i + 1 ≡ suc i = omega arith in e) ∙ take-suc-set ss i y within in
    let all : tokens_in (take (i + 1) (set ss i y)) ≡ tokens_in (take i ss) ++ tokens_in_chunk y = ap tokens_in more ∙ flat_map-append tokens_in_chunk (take i ss) (y ∷ []) ∙ ap (λ r. tokens_in (take i ss) ++ r) (append-nil (tokens_in_chunk y)) in (
      subst (AreCounted 0 0) (sym more) (counted_more 0 0 (take i ss) y told (omega (arith, before, count)) (omega (arith, count, bound, size))),
      omega (arith, count, ap length all, length-append (tokens_in (take i ss)) (tokens_in_chunk y)),
      omega (arith, few, bound, ap length tokens),
      replaced_tokens_of ss i x y within is tokens,
      same_values ss i x y within is values,
    )

-- the same of a list that is that one
pub recounted_to : (ss new : List Slots) (i total count : ℕ) → i < length ss → ((x : Slots) → x ≡ get_or ss i x → new ≡ set ss i (record { values = x.values; there = x.there; before = total })) → ((x : Slots) → x ≡ get_or new i x → count ≡ length (tokens_in_chunk x)) → count ≤ 64 →
    AreCounted 0 0 (take i ss) → total ≡ length (tokens_in (take i ss)) → total ≤ 64 * i →
    AreCounted 0 0 (take (i + 1) new) × (total + count ≡ length (tokens_in (take (i + 1) new))) × (total + count ≤ 64 * (i + 1))
    × (tokens_in new ≡ tokens_in ss) × (values_in new ≡ values_in ss) × (length new ≡ length ss)
recounted_to ss new i total count within step counts few told sum bound =
    let r = read_at ss i within in
    let y : Slots = record { values = r.0.values; there = r.0.there; before = total } in
    let is : new ≡ set ss i y = step r.0 r.1 in
    let size : count ≡ length (tokens_in_chunk y) = counts y (subst (λ (zs : List Slots). y ≡ get_or zs i y) (sym is) (sym (get_or-set_at ss i i y y refl within))) in
    let all = recounted ss i total r.0 y within r.1 refl refl refl (omega (arith, few, size)) told sum bound in (
      subst (λ (zs : List Slots). AreCounted 0 0 (take (i + 1) zs)) (sym is) all.0,
      ap (λ n. total + n) size ∙ all.1 ∙ ap (λ (zs : List Slots). length (tokens_in (take (i + 1) zs))) (sym is),
      omega (arith, all.2, size),
      ap tokens_in is ∙ all.3,
      ap values_in is ∙ all.4,
      ap length is ∙ length-set ss i y,
    )
