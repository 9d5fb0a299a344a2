-- The first number from another on that may start, by the bits of words, and the page of a number.
use Rattle.std.proofs.Common.{◌≡◌, ℕ, zero, suc, ◌+◌, ◌*◌, ◌<◌, ◌≤◌, Bool, true, false, cond, Option, Some, None, List, [], ◌∷◌, ◌++◌, drop, refl, sym, ap, ◌∙◌, subst, arith, inl, inr}
use Rattle.std.specs.Prelude.{find, nat_le, IfSome, IfNone, IsSome}
use Rattle.std.proofs.lemmas.Bool.{true≢false, false≢true, cases_lt, le-leb, lt-leb}
use Rattle.rn_model.specs.Markings.{Instance}
use Rattle.rn_bag.specs.Words.{has_bit}
use Rattle.rn_bag.specs.Slots.{there_from}
use Rattle.rn_table.specs.link.Leaves.{Leaf, IsLeaf, bit_of, page_of, kept_in, numbered, starting_of, starting_from, upward}
use Rattle.rn_table.proofs.InstanceLemmas.{numbered_passed, numbered_out}
use Rattle.rn_table.proofs.LeafLemmas.{bit_back}

find_joined : (p : ℕ → Bool) (xs ys : List ℕ) → find p xs ≡ None → find p (xs ++ ys) ≡ find p ys
find_joined p [] ys none = refl
find_joined p (x ∷ xs) ys none = elim (p x) as (λ b. cond b (Some x) (find p xs) ≡ None → cond b (Some x) (find p (xs ++ ys)) ≡ find p ys) [
  | true ↦ λ e. absurd (let no : ⊥ = cc in no)
  | false ↦ λ e. find_joined p xs ys e
] none

find_first : (p : ℕ → Bool) (xs ys : List ℕ) (n : ℕ) → find p xs ≡ Some n → find p (xs ++ ys) ≡ Some n
find_first p [] ys n e = absurd (let no : ⊥ = cc in no)
find_first p (x ∷ xs) ys n e = elim (p x) as (λ b. cond b (Some x) (find p xs) ≡ Some n → cond b (Some x) (find p (xs ++ ys)) ≡ Some n) [
  | true ↦ λ h. h
  | false ↦ λ h. find_first p xs ys n h
] e

-- the bits of a page, the first of which has index m
module _ (t : ℕ → Bool) (a n : ℕ) where
  skip_case : (b c : Bool) (x : ℕ) (r : List ℕ) → (b ≡ true → c ≡ false) → nat_le n x ≡ c → find (nat_le n) (cond b (x ∷ r) r) ≡ find (nat_le n) r
  skip_case false c x r out is = refl
  skip_case true c x r out is = ap (λ d. cond d (Some x) (find (nat_le n) r)) (is ∙ out refl)

  skip_one : (m x : ℕ) (r : List ℕ) → (n ≤ x → t m ≡ false) → find (nat_le n) (cond (t m) (x ∷ r) r) ≡ find (nat_le n) r
  skip_one m x r none = skip_case (t m) (nat_le n x) x r (λ set. elim (cases_lt x n) [
    | inl less ↦ below x less
    | inr past ↦ absurd (true≢false (sym set ∙ none past))
  ]) refl
    where
      below : (x : ℕ) → x < n → nat_le n x ≡ false
      below x less = lt-leb n x less

  pub no_bits : (m count : ℕ) → ((i : ℕ) → m ≤ i → i < m + count → n ≤ a + i → t i ≡ false) → find (nat_le n) (there_from t m (upward (a + m) count)) ≡ None
  unfolding upward
  no_bits m zero none = refl
  no_bits m (suc count) none =
      let next : suc (a + m) ≡ a + suc m = omega arith in
      skip_one m (a + m) (there_from t (suc m) (upward (suc (a + m)) count)) (λ past. none m (omega arith) (omega arith) past)
      ∙ ap (λ k. find (nat_le n) (there_from t (suc m) (upward k count))) next
      ∙ no_bits (suc m) count (λ i low high past. none i (omega (arith, low)) (omega (arith, high)) past)

  pub first_bit : (m count r : ℕ) → m ≤ r → r < m + count → n ≤ a + r → t r ≡ true → ((i : ℕ) → m ≤ i → i < r → n ≤ a + i → t i ≡ false) → find (nat_le n) (there_from t m (upward (a + m) count)) ≡ Some (a + r)
  unfolding upward
  first_bit m zero r low high past set none = absurd (omega arith)
  first_bit m (suc count) r low high past set none = elim (cases_lt m r) [
    | inl less ↦ (let next : suc (a + m) ≡ a + suc m = omega arith in
        skip_one m (a + m) (there_from t (suc m) (upward (suc (a + m)) count)) (λ up. none m (omega arith) less up)
        ∙ ap (λ k. find (nat_le n) (there_from t (suc m) (upward k count))) next
        ∙ first_bit (suc m) count r (omega (arith, less)) (omega (arith, high)) past set (λ i i_low i_high up. none i (omega (arith, i_low)) i_high up))
    | inr more ↦ (let is : r ≡ m = omega (arith, low, more) in
        let rest : List ℕ = there_from t (suc m) (upward (suc (a + m)) count) in
        ap (λ b. find (nat_le n) (cond b ((a + m) ∷ rest) rest)) (ap t (sym is) ∙ set)
        ∙ ap (λ b. cond b (Some (a + m)) (find (nat_le n) rest)) (le-leb n (a + m) (omega (arith, past, is))) ∙ ap (λ k. Some (a + k)) (sym is))
  ]

-- a page's numbers from n on are those of its bits from an index on
pub record Begins (n at index : ℕ) : Type 0 where
  pub within : index < 64
  pub later : (i : ℕ) → i < 64 → n ≤ 64 * at + 1 + i → index ≤ i
  pub past : (i : ℕ) → index ≤ i → n ≤ 64 * at + 1 + i

pub begins_first : (n : ℕ) → Begins n (page_of n) (bit_of n)
begins_first n = record {
  within = omega arith;
  later = λ i inside past. omega (arith, inside, past);
  past = λ i high. omega (arith, high);
}

pub begins_next : (n at index : ℕ) → Begins n at index → Begins n (at + 1) 0
begins_next n at index is = record {
  within = omega arith;
  later = λ i inside past. omega arith;
  past = λ i high. (let here = is.past index (omega arith) in let within = is.within in omega (arith, here, within));
}

pub found_start : (n at index r : ℕ) (l : Leaf) (ls : List Leaf) → Begins n at index → index ≤ r → r < 64 → has_bit l.starting r ≡ true → ((i : ℕ) → index ≤ i → i < r → has_bit l.starting i ≡ false) → find (nat_le n) (starting_from at (l ∷ ls)) ≡ Some (64 * at + r + 1)
found_start n at index r l ls is low high set none =
    let first = first_bit (has_bit l.starting) (64 * at + 1) n 0 64 r (omega arith) (omega (arith, high)) (is.past r low) set (λ i i_low i_high past. none i (is.later i (omega (arith, i_high, high)) past) i_high) in
    let start : (64 * at + 1) + 0 ≡ 64 * at + 1 = omega arith in
    let number : 64 * at + 1 + r ≡ 64 * at + r + 1 = omega arith in
    find_first (nat_le n) (starting_of at l) (starting_from (suc at) ls) (64 * at + r + 1)
    (subst (λ k. find (nat_le n) (there_from (has_bit l.starting) 0 (upward k 64)) ≡ Some (64 * at + 1 + r)) start first ∙ ap (λ k. Some k) number)

pub no_start : (n at index r : ℕ) (l : Leaf) (ls : List Leaf) → Begins n at index → 64 ≤ r → ((i : ℕ) → index ≤ i → i < r → has_bit l.starting i ≡ false) → find (nat_le n) (starting_from at (l ∷ ls)) ≡ find (nat_le n) (starting_from (at + 1) ls)
no_start n at index r l ls is all none =
    let nothing = no_bits (has_bit l.starting) (64 * at + 1) n 0 64 (λ i low high past. none i (is.later i (omega (arith, high)) past) (omega (arith, high, all))) in
    let start : (64 * at + 1) + 0 ≡ 64 * at + 1 = omega arith in
    let next : suc at ≡ at + 1 = omega arith in
    find_joined (nat_le n) (starting_of at l) (starting_from (suc at) ls) (subst (λ k. find (nat_le n) (there_from (has_bit l.starting) 0 (upward k 64)) ≡ None) start nothing)
    ∙ ap (λ k. find (nat_le n) (starting_from k ls)) next

-- pages before that of n
page_before : (n k : ℕ) (l : Leaf) (ls : List Leaf) → k < page_of n → find (nat_le n) (starting_from k (l ∷ ls)) ≡ find (nat_le n) (starting_from (suc k) ls)
page_before n k l ls low =
    let nothing = no_bits (has_bit l.starting) (64 * k + 1) n 0 64 (λ i i_low i_high past. absurd (omega (arith, i_high, past, low))) in
    let start : (64 * k + 1) + 0 ≡ 64 * k + 1 = omega arith in
    find_joined (nat_le n) (starting_of k l) (starting_from (suc k) ls) (subst (λ j. find (nat_le n) (there_from (has_bit l.starting) 0 (upward j 64)) ≡ None) start nothing)

pub pages_before : (n k count : ℕ) (ls : List Leaf) → k + count ≤ page_of n → find (nat_le n) (starting_from (k + count) (drop count ls)) ≡ find (nat_le n) (starting_from k ls)
pages_before n k zero ls low = ap (λ j. find (nat_le n) (starting_from j ls)) (let e : k + 0 ≡ k = omega arith in e)
pages_before n k (suc count) [] low = refl
pages_before n k (suc count) (l ∷ ls) low =
    ap (λ j. find (nat_le n) (starting_from j (drop count ls))) (let e : k + suc count ≡ suc k + count = omega arith in e)
    ∙ pages_before n (suc k) count ls (omega (arith, low)) ∙ sym (page_before n k l ls (omega (arith, low)))

-- the page of a number
pub kept_there : (k : ℕ) (l : Leaf) → IsLeaf k l → ((bit : ℕ) × (bit < 64) × (has_bit l.kept bit ≡ true)) → (n : ℕ) × (64 * k < n) × (n ≤ 64 * k + 64) × ((i : Instance) × (numbered n (kept_in l) ≡ Some i))
kept_there k l is b =
    let found = is.filled b.0 b.1 b.2 in
    (64 * k + b.0 + 1, omega arith, omega (arith, b.1), (found.0, numbered_passed (λ n. has_bit l.kept (bit_of n)) (64 * k + b.0 + 1) l.held (ap (has_bit l.kept) (bit_back k b.0 b.1) ∙ b.2) ∙ found.1))

pub none_there : (l : Leaf) (n : ℕ) (i : Instance) → ((bit : ℕ) → bit < 64 → has_bit l.kept bit ≡ false) → numbered n (kept_in l) ≡ Some i → ⊥
none_there l n i none e =
    let out = numbered_out (λ m. has_bit l.kept (bit_of m)) n l.held (none (bit_of n) (omega arith)) in
    let no : ⊥ = cc in no

pub held_there : (l : Leaf) (n : ℕ) (i : Instance) → numbered n (kept_in l) ≡ Some i → numbered n l.held ≡ Some i
held_there l n i e = elim (has_bit l.kept (bit_of n)) as (λ b. has_bit l.kept (bit_of n) ≡ b → numbered n l.held ≡ Some i) [
  | true ↦ λ set. sym (numbered_passed (λ m. has_bit l.kept (bit_of m)) n l.held set) ∙ e
  | false ↦ λ unset. absurd (let out = numbered_out (λ m. has_bit l.kept (bit_of m)) n l.held unset in let no : ⊥ = cc in no)
] refl

pub some_then : {A : Type 0} (P : A → Type 0) (Q : Type 0) (o : Option A) → IfSome o P → ((x : A) → P x → Q) → IsSome o → Q
some_then P Q None h f e = absurd (false≢true e)
some_then P Q (Some x) h f e = f x h

pub else_some : {A : Type 0} (N : Type 0) (o : Option A) → IfNone o N → (N → ⊥) → IsSome o
else_some N None h f = absurd (f h)
else_some N (Some x) h f = refl

pub if_some : {A : Type 0} (P Q : A → Type 0) (o : Option A) → IfSome o P → ((x : A) → P x → Q x) → IfSome o Q
if_some P Q None h f = tt
if_some P Q (Some x) h f = f x h
