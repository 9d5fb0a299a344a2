-- Pages one after another.
use Rattle.std.proofs.Common.{◌≡◌, ◌≢◌, ℕ, zero, suc, ◌+◌, ◌*◌, ◌<◌, ◌≤◌, nat_eq, Bool, true, false, cond, None, List, [], ◌∷◌, ◌++◌, length, get_or, set, length-set, length-append, map, append-nil, append_assoc, refl, sym, ap, ◌∙◌, subst, arith}
use Rattle.std.specs.Prelude.{filter, not, ◌||◌, ◌&&◌}
use Rattle.std.specs.List.{list_any}
use Rattle.std.proofs.lemmas.Bool.{true≢false}
use Rattle.std.proofs.lemmas.List.Elements.{filter-append, All-from_recursion}
use Rattle.std.specs.List.{AllByRecursion}
use Rattle.std.specs.List.Sorted.{IsSorted, IsStrictlyIncreasing}
use Rattle.std.specs.Prelude.{All}
use Rattle.rn_value.specs.Order.{value_cmp}
use Rattle.rn_model.specs.declared.system.Place.{Place}
use Rattle.rn_model.specs.declared.system.System.{System}
use Rattle.rn_model.specs.Limits.{greatest_instance}
use Rattle.rn_model.specs.Lists.{ordered_values}
use Rattle.rn_model.specs.Systems.{may_start}
use Rattle.rn_model.proofs.ValueLists.{ordered_values_ascend}
use Rattle.rn_model.proofs.EachElement.{each_append}
use Rattle.rn_table.specs.Tables.{started}
use Rattle.rn_model.specs.Markings.{Instance}
use Rattle.rn_bag.specs.Words.{has_bit}
use Rattle.rn_table.specs.Staying.{stays}
use Rattle.rn_table.specs.link.Leaves.{Leaf, Ascending, HasSortedPlaces, IsTable, IsLeaf, AreLeaves, page_of, has_number, kept_in, instances_in, numbered, starting_of, starting_from, upward}
use Rattle.rn_table.proofs.InstanceLemmas.{filter_both, filter_all, all_true, NoneHas, other_number, all_map, all_filtered, ascending_filtered, numbered_none, numbered_later, numbered_earlier}
use Rattle.rn_bag.proofs.SlotLemmas.{there_all}
use Rattle.rn_table.proofs.LeafLemmas.{page_is, no_bit, all_two}
use Rattle.rn_table.proofs.StartingLemmas.{numbers_all, no_starts}

-- the numbers of a page have its index
pub leaf_pages : (k : ℕ) (l : Leaf) → IsLeaf k l → AllByRecursion (λ i. (page_of i.number ≡ k) × (0 < i.number)) (kept_in l)
leaf_pages k l is =
    all_filtered (λ i. (page_of i.number ≡ k) × (0 < i.number)) (has_number l.kept) l.held
    (all_two (λ i. 64 * k < i.number) (λ i. i.number ≤ 64 * k + 64) (λ i. (page_of i.number ≡ k) × (0 < i.number)) l.held (λ i low high. (page_is k i.number low high, omega (arith, low))) is.above is.below)

-- no instance of another page has the number
pub none_of_page : (k n : ℕ) (is : List Instance) → page_of n ≢ k → AllByRecursion (λ i. (page_of i.number ≡ k) × (0 < i.number)) is → NoneHas n is
none_of_page k n is differ all = all_map (λ i. (page_of i.number ≡ k) × (0 < i.number)) (λ i. nat_eq i.number n ≡ false) is (λ i h. other_number i.number n (λ e. differ (ap page_of (sym e) ∙ h.0))) all

pub none_beyond : (k n : ℕ) (ls : List Leaf) → AreLeaves k ls → (page_of n < k → ⊥) → k + length ls ≤ page_of n → NoneHas n (instances_in ls)
none_beyond k n [] are low high = tt
none_beyond k n (l ∷ ls) are low high =
    each_append (λ i. nat_eq i.number n ≡ false) (kept_in l) (instances_in ls) (none_of_page k n (kept_in l) (λ e. omega (arith, e, high)) (leaf_pages k l are.0))
    (none_beyond (suc k) n ls are.1 (λ less. omega (arith, less, high)) (omega (arith, high)))

pub none_later : (k n : ℕ) (ls : List Leaf) → AreLeaves k ls → page_of n < k → NoneHas n (instances_in ls)
none_later k n [] are low = tt
none_later k n (l ∷ ls) are low =
    each_append (λ i. nat_eq i.number n ≡ false) (kept_in l) (instances_in ls) (none_of_page k n (kept_in l) (λ e. omega (arith, e, low)) (leaf_pages k l are.0)) (none_later (suc k) n ls are.1 (omega (arith, low)))

-- the instance of a number stands in its page
pub found_in : (k n : ℕ) (ls : List Leaf) (i : ℕ) (x : Leaf) → AreLeaves k ls → i < length ls → x ≡ get_or ls i x → page_of n ≡ k + i → numbered n (instances_in ls) ≡ numbered n (kept_in x)
found_in k n [] i x are inside is page = absurd (omega arith)
found_in k n (l ∷ ls) zero x are inside is page =
    numbered_earlier n (kept_in l) (instances_in ls) (none_later (suc k) n ls are.1 (omega (arith, page))) ∙ ap (λ (m : Leaf). numbered n (kept_in m)) (sym is)
found_in k n (l ∷ ls) (suc i) x are inside is page =
    numbered_later n (kept_in l) (instances_in ls) (none_of_page k n (kept_in l) (λ e. omega (arith, e, page)) (leaf_pages k l are.0))
    ∙ found_in (suc k) n ls i x are.1 (omega arith) is (omega (arith, page))

pub found_none : (n : ℕ) (ls : List Leaf) → AreLeaves 0 ls → length ls ≤ page_of n → numbered n (instances_in ls) ≡ None
found_none n ls are past = numbered_none n (instances_in ls) (none_beyond 0 n ls are (λ less. omega (arith, less)) (omega (arith, past)))

pub leaf_at : (k : ℕ) (ls : List Leaf) (i : ℕ) (x : Leaf) → AreLeaves k ls → i < length ls → x ≡ get_or ls i x → IsLeaf (k + i) x
leaf_at k [] i x are inside is = absurd (omega arith)
leaf_at k (l ∷ ls) zero x are inside is = subst (λ j. IsLeaf j x) (let e : k ≡ k + 0 = omega arith in e) (subst (IsLeaf k) (sym is) are.0)
leaf_at k (l ∷ ls) (suc i) x are inside is = subst (λ j. IsLeaf j x) (let e : suc k + i ≡ k + suc i = omega arith in e) (leaf_at (suc k) ls i x are.1 (omega arith) is)

pub leaves_with : (k : ℕ) (ls : List Leaf) (i : ℕ) (y : Leaf) → AreLeaves k ls → IsLeaf (k + i) y → AreLeaves k (set ls i y)
leaves_with k [] i y are new = tt
leaves_with k (l ∷ ls) zero y are new = (subst (λ j. IsLeaf j y) (let e : k + 0 ≡ k = omega arith in e) new, are.1)
leaves_with k (l ∷ ls) (suc i) y are new = (are.0, leaves_with (suc k) ls i y are.1 (subst (λ j. IsLeaf j y) (let e : k + suc i ≡ suc k + i = omega arith in e) new))

pub all_with : (P : Leaf → Type 0) (ls : List Leaf) (i : ℕ) (y : Leaf) → AllByRecursion P ls → P y → AllByRecursion P (set ls i y)
all_with P [] i y all new = tt
all_with P (l ∷ ls) zero y all new = (new, all.1)
all_with P (l ∷ ls) (suc i) y all new = (all.0, all_with P ls i y all.1 new)

-- one instance is kept no more
abbrev Other : ℕ → Instance → Bool
Other n i = not (nat_eq i.number n)

stays_all : (n : ℕ) (is : List Instance) → NoneHas n is → filter (Other n) is ≡ is
stays_all n [] none = refl
stays_all n (i ∷ is) none = ap (λ b. cond (not b) (i ∷ filter (Other n) is) (filter (Other n) is)) none.0 ∙ ap (λ r. i ∷ r) (stays_all n is none.1)

pub dropped_in : (k n : ℕ) (ls : List Leaf) (i : ℕ) (x y : Leaf) → AreLeaves k ls → i < length ls → x ≡ get_or ls i x → page_of n ≡ k + i → kept_in y ≡ filter (Other n) (kept_in x) → instances_in (set ls i y) ≡ filter (Other n) (instances_in ls)
dropped_in k n [] i x y are inside is page new = absurd (omega arith)
dropped_in k n (l ∷ ls) zero x y are inside is page new =
    ap (λ r. r ++ instances_in ls) (new ∙ ap (λ (m : Leaf). filter (Other n) (kept_in m)) is)
    ∙ ap (λ r. filter (Other n) (kept_in l) ++ r) (sym (stays_all n (instances_in ls) (none_later (suc k) n ls are.1 (omega (arith, page)))))
    ∙ sym (filter-append (Other n) (kept_in l) (instances_in ls))
dropped_in k n (l ∷ ls) (suc i) x y are inside is page new =
    ap (λ r. kept_in l ++ r) (dropped_in (suc k) n ls i x y are.1 (omega arith) is (omega (arith, page)) new)
    ∙ ap (λ r. r ++ filter (Other n) (instances_in ls)) (sym (stays_all n (kept_in l) (none_of_page k n (kept_in l) (λ e. omega (arith, e, page)) (leaf_pages k l are.0))))
    ∙ sym (filter-append (Other n) (kept_in l) (instances_in ls))

pub dropped_none : (n : ℕ) (ls : List Leaf) → AreLeaves 0 ls → length ls ≤ page_of n → filter (Other n) (instances_in ls) ≡ instances_in ls
dropped_none n ls are past = stays_all n (instances_in ls) (none_beyond 0 n ls are (λ less. omega (arith, less)) (omega (arith, past)))

-- the numbers that may start, of pages of which one changes
starts_all : (n : ℕ) (ms : List ℕ) → AllByRecursion (λ m. nat_eq m n ≡ false) ms → filter (λ m. not (nat_eq m n)) ms ≡ ms
starts_all n [] none = refl
starts_all n (m ∷ ms) none = ap (λ b. cond (not b) (m ∷ filter (λ m. not (nat_eq m n)) ms) (filter (λ m. not (nat_eq m n)) ms)) none.0 ∙ ap (λ r. m ∷ r) (starts_all n ms none.1)

start_pages : (k n : ℕ) (l : Leaf) → page_of n ≢ k → AllByRecursion (λ m. nat_eq m n ≡ false) (starting_of k l)
start_pages k n l differ =
    there_all (λ m. nat_eq m n ≡ false) (has_bit l.starting) 0 (upward (64 * k + 1) 64)
    (numbers_all (λ m. nat_eq m n ≡ false) (64 * k + 1) 64 (λ m low high. other_number m n (λ e. differ (ap page_of (sym e) ∙ page_is k m (omega (arith, low)) (omega (arith, high))))))

starts_beyond : (k n : ℕ) (ls : List Leaf) → (page_of n < k → ⊥) → k + length ls ≤ page_of n → AllByRecursion (λ m. nat_eq m n ≡ false) (starting_from k ls)
starts_beyond k n [] low high = tt
starts_beyond k n (l ∷ ls) low high =
    each_append (λ m. nat_eq m n ≡ false) (starting_of k l) (starting_from (suc k) ls) (start_pages k n l (λ e. omega (arith, e, high)))
    (starts_beyond (suc k) n ls (λ less. omega (arith, less, high)) (omega (arith, high)))

starts_later : (k n : ℕ) (ls : List Leaf) → page_of n < k → AllByRecursion (λ m. nat_eq m n ≡ false) (starting_from k ls)
starts_later k n [] low = tt
starts_later k n (l ∷ ls) low =
    each_append (λ m. nat_eq m n ≡ false) (starting_of k l) (starting_from (suc k) ls) (start_pages k n l (λ e. omega (arith, e, low))) (starts_later (suc k) n ls (omega (arith, low)))

pub starts_dropped : (k n : ℕ) (ls : List Leaf) (i : ℕ) (x y : Leaf) → i < length ls → x ≡ get_or ls i x → page_of n ≡ k + i → starting_of (page_of n) y ≡ filter (λ m. not (nat_eq m n)) (starting_of (page_of n) x) →
    starting_from k (set ls i y) ≡ filter (λ m. not (nat_eq m n)) (starting_from k ls)
starts_dropped k n [] i x y inside is page new = absurd (omega arith)
starts_dropped k n (l ∷ ls) zero x y inside is page new =
    let here : page_of n ≡ k = omega (arith, page) in
    ap (λ r. r ++ starting_from (suc k) ls) (subst (λ j. starting_of j y ≡ filter (λ m. not (nat_eq m n)) (starting_of j x)) here new ∙ ap (λ (m : Leaf). filter (λ m. not (nat_eq m n)) (starting_of k m)) is)
    ∙ ap (λ r. filter (λ m. not (nat_eq m n)) (starting_of k l) ++ r) (sym (starts_all n (starting_from (suc k) ls) (starts_later (suc k) n ls (omega (arith, page)))))
    ∙ sym (filter-append (λ m. not (nat_eq m n)) (starting_of k l) (starting_from (suc k) ls))
starts_dropped k n (l ∷ ls) (suc i) x y inside is page new =
    ap (λ r. starting_of k l ++ r) (starts_dropped (suc k) n ls i x y (omega arith) is (omega (arith, page)) new)
    ∙ ap (λ r. r ++ filter (λ m. not (nat_eq m n)) (starting_from (suc k) ls)) (sym (starts_all n (starting_of k l) (start_pages k n l (λ e. omega (arith, e, page)))))
    ∙ sym (filter-append (λ m. not (nat_eq m n)) (starting_of k l) (starting_from (suc k) ls))

pub starts_none : (n : ℕ) (ls : List Leaf) → length ls ≤ page_of n → filter (λ m. not (nat_eq m n)) (starting_from 0 ls) ≡ starting_from 0 ls
starts_none n ls past = starts_all n (starting_from 0 ls) (starts_beyond 0 n ls (λ less. omega (arith, less)) (omega (arith, past)))

-- number 0 is none of them
pub all_positive : (k : ℕ) (ls : List Leaf) → AreLeaves k ls → NoneHas 0 (instances_in ls)
all_positive k [] are = tt
all_positive k (l ∷ ls) are =
    each_append (λ i. nat_eq i.number 0 ≡ false) (kept_in l) (instances_in ls)
    (all_map (λ i. (page_of i.number ≡ k) × (0 < i.number)) (λ i. nat_eq i.number 0 ≡ false) (kept_in l) (λ i h. other_number i.number 0 (λ e. omega (arith, e, h.1))) (leaf_pages k l are.0)) (all_positive (suc k) ls are.1)

pub dropped_zero : (ls : List Leaf) → AreLeaves 0 ls → filter (Other 0) (instances_in ls) ≡ instances_in ls
dropped_zero ls are = stays_all 0 (instances_in ls) (all_positive 0 ls are)

starts_positive : (k : ℕ) (ls : List Leaf) → AllByRecursion (λ m. nat_eq m 0 ≡ false) (starting_from k ls)
starts_positive k [] = tt
starts_positive k (l ∷ ls) =
    each_append (λ m. nat_eq m 0 ≡ false) (starting_of k l) (starting_from (suc k) ls)
    (there_all (λ m. nat_eq m 0 ≡ false) (has_bit l.starting) 0 (upward (64 * k + 1) 64) (numbers_all (λ m. nat_eq m 0 ≡ false) (64 * k + 1) 64 (λ m low high. other_number m 0 (λ e. omega (arith, e, low))))) (starts_positive (suc k) ls)

pub starts_zero : (ls : List Leaf) → filter (λ m. not (nat_eq m 0)) (starting_from 0 ls) ≡ starting_from 0 ls
starts_zero ls = starts_all 0 (starting_from 0 ls) (starts_positive 0 ls)

-- one more instance in the last page
pub added_in : (k : ℕ) (ls : List Leaf) (i : ℕ) (x y : Leaf) (new : List Instance) → i + 1 ≡ length ls → x ≡ get_or ls i x → kept_in y ≡ kept_in x ++ new → instances_in (set ls i y) ≡ instances_in ls ++ new
added_in k [] i x y new last is more = absurd (omega arith)
added_in k (l ∷ []) zero x y new last is more =
    append-nil (kept_in y) ∙ more ∙ ap (λ (m : Leaf). kept_in m ++ new) is ∙ ap (λ r. r ++ new) (sym (append-nil (kept_in l)))
added_in k (l ∷ m ∷ ls) zero x y new last is more = absurd (omega arith)
added_in k (l ∷ ls) (suc i) x y new last is more =
    ap (λ r. kept_in l ++ r) (added_in (suc k) ls i x y new (omega arith) is more) ∙ sym (append_assoc (kept_in l) (instances_in ls) new)

pub starts_added : (k n : ℕ) (ls : List Leaf) (i : ℕ) (x y : Leaf) (new : List ℕ) → i + 1 ≡ length ls → x ≡ get_or ls i x → page_of n ≡ k + i → starting_of (page_of n) y ≡ starting_of (page_of n) x ++ new → starting_from k (set ls i y) ≡ starting_from k ls ++ new
starts_added k n [] i x y new last is page more = absurd (omega arith)
starts_added k n (l ∷ []) zero x y new last is page more =
    let here : page_of n ≡ k = omega (arith, page) in
    append-nil (starting_of k y) ∙ subst (λ j. starting_of j y ≡ starting_of j x ++ new) here more ∙ ap (λ (m : Leaf). starting_of k m ++ new) is ∙ ap (λ r. r ++ new) (sym (append-nil (starting_of k l)))
starts_added k n (l ∷ m ∷ ls) zero x y new last is page more = absurd (omega arith)
starts_added k n (l ∷ ls) (suc i) x y new last is page more =
    ap (λ r. starting_of k l ++ r) (starts_added (suc k) n ls i x y new (omega arith) is (omega (arith, page)) more) ∙ sym (append_assoc (starting_of k l) (starting_from (suc k) ls) new)

-- a page without instances comes after the others
pub one_page_more : (ls : List Leaf) (l : Leaf) → kept_in l ≡ [] → instances_in (ls ++ l ∷ []) ≡ instances_in ls
one_page_more [] l none = append-nil (kept_in l) ∙ none
one_page_more (m ∷ ls) l none = ap (λ r. kept_in m ++ r) (one_page_more ls l none)

pub one_start_more : (k : ℕ) (ls : List Leaf) (l : Leaf) → ((j : ℕ) → starting_of j l ≡ []) → starting_from k (ls ++ l ∷ []) ≡ starting_from k ls
one_start_more k [] l none = append-nil (starting_of k l) ∙ none k
one_start_more k (m ∷ ls) l none = ap (λ r. starting_of k m ++ r) (one_start_more (suc k) ls l none)

pub leaves_more : (k : ℕ) (ls : List Leaf) (l : Leaf) → AreLeaves k ls → ((j : ℕ) → IsLeaf j l) → AreLeaves k (ls ++ l ∷ [])
leaves_more k [] l are new = (new k, tt)
leaves_more k (m ∷ ls) l are new = (are.0, leaves_more (suc k) ls l are.1 new)

pub length_with : (ls : List Leaf) (i : ℕ) (y : Leaf) → length (set ls i y) ≡ length ls
length_with ls i y = length-set ls i y

pub leaf_here : (ls : List Leaf) (i : ℕ) (x : Leaf) → AreLeaves 0 ls → i < length ls → x ≡ get_or ls i x → IsLeaf i x
leaf_here ls i x are inside is = subst (λ j. IsLeaf j x) (let e : 0 + i ≡ i = omega arith in e) (leaf_at 0 ls i x are inside is)

pub leaves_here : (ls : List Leaf) (i : ℕ) (y : Leaf) → AreLeaves 0 ls → IsLeaf i y → AreLeaves 0 (set ls i y)
leaves_here ls i y are new = leaves_with 0 ls i y are (subst (λ j. IsLeaf j y) (let e : i ≡ 0 + i = omega arith in e) new)

-- a page that holds nothing yet
pub empty_kept : (l : Leaf) → l.held ≡ [] → kept_in l ≡ []
empty_kept l none = ap (filter (has_number l.kept)) none

pub empty_starts : (j : ℕ) (l : Leaf) → l.starting ≡ 0 → starting_of j l ≡ []
empty_starts j l none = no_starts l.starting (64 * j + 1) 64 (λ i. ap (λ w. has_bit w i) none ∙ no_bit i)

empty_is : (k : ℕ) (l : Leaf) → l.held ≡ [] → l.kept ≡ 0 → l.starting ≡ 0 → IsLeaf k l
empty_is k l held kept starting = record {
  ascending = subst Ascending (sym held) tt;
  above = subst (AllByRecursion (λ i. 64 * k < i.number)) (sym held) tt;
  below = subst (AllByRecursion (λ i. i.number ≤ 64 * k + 64)) (sym held) tt;
  sorted = subst (AllByRecursion HasSortedPlaces) (sym held) tt;
  filled = λ bit inside bit_set. absurd (true≢false (sym bit_set ∙ ap (λ w. has_bit w bit) kept ∙ no_bit bit));
  starts = λ bit inside bit_set. absurd (true≢false (sym bit_set ∙ ap (λ w. has_bit w bit) starting ∙ no_bit bit));
}

pub page_more : (next : ℕ) (ls : List Leaf) (l : Leaf) → IsTable next ls → l.held ≡ [] → l.kept ≡ 0 → l.starting ≡ 0 → length ls ≡ page_of next → IsTable next (ls ++ l ∷ [])
page_more next ls l is held kept starting size =
    let more = length-append ls (l ∷ []) in
    record {
      leaves = leaves_more 0 ls l is.leaves (λ j. empty_is j l held kept starting);
      below = each_append (λ m. AllByRecursion (λ i. i.number < next) m.held) ls (l ∷ []) is.below (subst (AllByRecursion (λ i. i.number < next)) (sym held) tt, tt);
      first = is.first;
      most = is.most;
      roomy = omega (arith, is.roomy, more);
      tight = omega (arith, more, size, is.first);
    }

-- one more instance in the last page
pub grown_table : (next n : ℕ) (ls : List Leaf) (i : ℕ) (y : Leaf) → IsTable next ls → length ls ≡ page_of next + 1 → i + 1 ≡ length ls → n ≡ next + 1 → n ≤ greatest_instance + 1 → IsLeaf i y → AllByRecursion (λ x. x.number < n) y.held → IsTable n (set ls i y)
grown_table next n ls i y is size last is_n most new below =
    let same = length-set ls i y in
    record {
      leaves = leaves_here ls i y is.leaves new;
      below = all_with (λ m. AllByRecursion (λ x. x.number < n) m.held) ls i y (all_map (λ m. AllByRecursion (λ x. x.number < next) m.held) (λ m. AllByRecursion (λ x. x.number < n) m.held) ls (λ m h. all_map (λ x. x.number < next) (λ x. x.number < n) m.held (λ x g. omega (arith, g, is_n)) h) is.below) below;
      first = omega (arith, is_n);
      most = most;
      roomy = omega (arith, same, size, is_n, is.first);
      tight = omega (arith, same, size, is_n, is.first);
    }

pub set_again : (ls : List Leaf) (i : ℕ) (y : Leaf) → i < length ls → y ≡ get_or ls i y → set ls i y ≡ ls
set_again [] i y inside is = refl
set_again (l ∷ ls) zero y inside is = ap (λ z. z ∷ ls) is
set_again (l ∷ ls) (suc i) y inside is = ap (λ r. l ∷ r) (set_again ls i y (omega arith) is)

-- instances with the same parts
pub same_instance : (x y : Instance) → x.number ≡ y.number → x.net ≡ y.net → x.places ≡ y.places → x ≡ y
same_instance x y number net places =
    ap (λ n. let i : Instance = record { number = n; net = x.net; places = x.places } in i) number
    ∙ ap (λ n. let i : Instance = record { number = y.number; net = n; places = x.places } in i) net
    ∙ ap (λ p. let i : Instance = record { number = y.number; net = y.net; places = p } in i) places

-- the initial tokens of places ascend
pub sorted_places : (ps : List Place) → AllByRecursion (IsSorted value_cmp) (map (λ p. ordered_values p.initial) ps)
sorted_places [] = tt
sorted_places (p ∷ ps) = (ordered_values_ascend p.initial, sorted_places ps)

-- one new instance, where it may start
started_case : (b : Bool) (n net : ℕ) → cond b (n ∷ []) [] ≡ map (λ (p : ℕ × ℕ). p.0) (cond b ((n, net) ∷ []) [])
started_case true n net = refl
started_case false n net = refl

pub one_started : (system : System) (n net : ℕ) → cond (may_start system net) (n ∷ []) [] ≡ started system n (net ∷ [])
one_started system n net = started_case (may_start system net) n net

-- of the table with which a run starts, the one instance may start
new_case : (b : Bool) (i : Instance) → map (λ (p : ℕ × ℕ). p.0) (cond b ((i.number, i.net) ∷ []) []) ≡ map (λ (j : Instance). j.number) (cond b (i ∷ []) [])
new_case true i = refl
new_case false i = refl

-- one number more that is to go
stays_case : (a b : Bool) → not (a || b) ≡ (not b && not a)
stays_case true true = refl
stays_case true false = refl
stays_case false true = refl
stays_case false false = refl

any_more : (n m : ℕ) (ns : List ℕ) → list_any (nat_eq n) (ns ++ m ∷ []) ≡ (list_any (nat_eq n) ns || nat_eq n m)
any_more n m [] = or_nothing (nat_eq n m)
  where
    or_nothing : (b : Bool) → (b || false) ≡ (false || b)
    or_nothing true = refl
    or_nothing false = refl
any_more n m (k ∷ ns) = ap (λ r. nat_eq n k || r) (any_more n m ns) ∙ or_again (nat_eq n k) (list_any (nat_eq n) ns) (nat_eq n m)
  where
    or_again : (a b c : Bool) → (a || (b || c)) ≡ ((a || b) || c)
    or_again true b c = refl
    or_again false b c = refl

pub stays_more : (n m : ℕ) (ns : List ℕ) → stays (ns ++ m ∷ []) n ≡ (not (nat_eq n m) && stays ns n)
stays_more n m ns = ap not (any_more n m ns) ∙ stays_case (list_any (nat_eq n) ns) (nat_eq n m)

pub filter_more : {A : Type 0} (f : A → ℕ) (m : ℕ) (ns : List ℕ) (xs : List A) → filter (λ x. not (nat_eq (f x) m)) (filter (λ x. stays ns (f x)) xs) ≡ filter (λ x. stays (ns ++ m ∷ []) (f x)) xs
filter_more f m ns xs =
    sym (filter_both (λ x. not (nat_eq (f x) m)) (λ x. stays ns (f x)) (λ x. stays (ns ++ m ∷ []) (f x)) xs (all_true (λ x. stays (ns ++ m ∷ []) (f x) ≡ (not (nat_eq (f x) m) && stays ns (f x))) (λ x. stays_more (f x) m ns) xs))

pub filter_start : {A : Type 0} (f : A → ℕ) (xs : List A) → filter (λ x. stays [] (f x)) xs ≡ xs
filter_start f xs = filter_all (λ x. stays [] (f x)) xs (all_true (λ x. stays [] (f x) ≡ true) (λ x. refl) xs)

-- the instances of a table ascend, and so do their tokens
ascending_append : (m : ℕ) (xs ys : List Instance) → Ascending xs → Ascending ys → AllByRecursion (λ i. i.number ≤ m) xs → AllByRecursion (λ i. m < i.number) ys → Ascending (xs ++ ys)
ascending_append m [] ys up more low high = more
ascending_append m (x ∷ xs) ys up more low high =
    (each_append (λ j. x.number < j.number) xs ys up.0 (all_map (λ j. m < j.number) (λ j. x.number < j.number) ys (λ j h. omega (arith, h, low.0)) high), ascending_append m xs ys up.1 more low.1 high)

all_above : (k : ℕ) (ls : List Leaf) → AreLeaves k ls → AllByRecursion (λ i. 64 * k < i.number) (instances_in ls)
all_above k [] are = tt
all_above k (l ∷ ls) are =
    each_append (λ i. 64 * k < i.number) (kept_in l) (instances_in ls) (all_filtered (λ i. 64 * k < i.number) (has_number l.kept) l.held are.0.above)
    (all_map (λ i. 64 * suc k < i.number) (λ i. 64 * k < i.number) (instances_in ls) (λ i h. omega (arith, h)) (all_above (suc k) ls are.1))

pub all_ascend : (k : ℕ) (ls : List Leaf) → AreLeaves k ls → Ascending (instances_in ls)
all_ascend k [] are = tt
all_ascend k (l ∷ ls) are =
    ascending_append (64 * k + 64) (kept_in l) (instances_in ls) (ascending_filtered (has_number l.kept) l.held are.0.ascending) (all_ascend (suc k) ls are.1)
    (all_filtered (λ i. i.number ≤ 64 * k + 64) (has_number l.kept) l.held are.0.below) (all_map (λ i. 64 * suc k < i.number) (λ i. 64 * k + 64 < i.number) (instances_in ls) (λ i h. omega (arith, h)) (all_above (suc k) ls are.1))

pub all_sorted : (k : ℕ) (ls : List Leaf) → AreLeaves k ls → AllByRecursion HasSortedPlaces (instances_in ls)
all_sorted k [] are = tt
all_sorted k (l ∷ ls) are = each_append HasSortedPlaces (kept_in l) (instances_in ls) (all_filtered HasSortedPlaces (has_number l.kept) l.held are.0.sorted) (all_sorted (suc k) ls are.1)

-- what a table keeps of all its instances
all_below : (next : ℕ) (ls : List Leaf) → AllByRecursion (λ l. AllByRecursion (λ i. i.number < next) l.held) ls → AllByRecursion (λ i. i.number < next) (instances_in ls)
all_below next [] below = tt
all_below next (l ∷ ls) below = each_append (λ i. i.number < next) (kept_in l) (instances_in ls) (all_filtered (λ i. i.number < next) (has_number l.kept) l.held below.0) (all_below next ls below.1)

pub all_between : (next : ℕ) (ls : List Leaf) → IsTable next ls → All (λ i. (0 < i.number) × (i.number < next)) (instances_in ls)
all_between next ls is =
    All-from_recursion (λ i. (0 < i.number) × (i.number < next)) (instances_in ls)
    (all_two (λ i. 64 * 0 < i.number) (λ i. i.number < next) (λ i. (0 < i.number) × (i.number < next)) (instances_in ls) (λ i low high. (omega (arith, low), high)) (all_above 0 ls is.leaves) (all_below next ls is.below))

pub rising : (is : List Instance) → Ascending is → IsStrictlyIncreasing (map (λ i. i.number) is)
rising [] up k high = absurd (let no : ⊥ = omega (arith, high) in no)
rising (i ∷ []) up k high = absurd (let no : ⊥ = omega (arith, high) in no)
rising (i ∷ j ∷ is) up zero high = up.0.0
rising (i ∷ j ∷ is) up (suc k) high =
    let place : suc k + 1 ≡ suc (k + 1) = omega arith in
    subst (λ n. get_or (map (λ (x : Instance). x.number) (j ∷ is)) k 0 < get_or (map (λ (x : Instance). x.number) (i ∷ j ∷ is)) n 0) (sym place) (rising (j ∷ is) up.1 k (omega (arith, high)))

pub all_places_sorted : (ls : List Leaf) → AreLeaves 0 ls → All (λ i. All (λ tokens. IsSorted value_cmp tokens) i.places) (instances_in ls)
all_places_sorted ls are =
    All-from_recursion (λ i. All (λ tokens. IsSorted value_cmp tokens) i.places) (instances_in ls)
    (all_map HasSortedPlaces (λ i. All (λ tokens. IsSorted value_cmp tokens) i.places) (instances_in ls) (λ i all. All-from_recursion (λ tokens. IsSorted value_cmp tokens) i.places all) (all_sorted 0 ls are))
