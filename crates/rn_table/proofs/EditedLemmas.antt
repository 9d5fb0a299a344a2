-- Pages after a step.
use Rattle.std.proofs.Common.{◌≡◌, ℕ, zero, suc, ◌+◌, ◌*◌, ◌<◌, ◌≤◌, List, [], ◌∷◌, ◌++◌, length, get_or, set, length-set, map, sym, ap, ◌∙◌, subst, arith, inl, inr}
use Rattle.std.specs.Prelude.{filter, ◌⊎◌}
use Rattle.std.specs.List.{AllByRecursion}
use Rattle.std.proofs.lemmas.List.{map-append}
use Rattle.rn_model.specs.Markings.{Instance}
use Rattle.rn_bag.specs.Words.{has_bit}
use Rattle.rn_table.specs.link.Leaves.{Leaf, HasSortedPlaces, IsTable, IsLeaf, AreLeaves, page_of, bit_of, has_number, kept_in, instances_in, starting_of, starting_from}
use Rattle.rn_table.specs.link.Steps.{Step, after_step}
use Rattle.rn_table.proofs.InstanceLemmas.{NoneHas, all_get, all_filtered, ascending_filtered, filter_again, numbered_passed}
use Rattle.rn_table.proofs.LeafLemmas.{bit_back}
use Rattle.rn_table.proofs.StepLemmas.{none_stay, ascending_after, all_numbers, sorted_after, numbered_after, filter_after}
use Rattle.rn_table.proofs.TableLemmas.{leaf_pages, none_of_page, none_later, none_beyond, all_positive, leaves_here, all_with}

module _ (s : Step) where
  abbrev f : Instance → Instance
  f = after_step s

  abbrev Comes : ℕ → List Instance → List Instance → Type 0
  Comes w h held = (held ≡ map f h) ⊎ (held ≡ map f (filter (has_number w) h))

  pub edited_kept : (w : ℕ) (h held : List Instance) → Comes w h held → filter (has_number w) held ≡ map f (filter (has_number w) h)
  edited_kept w h held (inl e) = ap (filter (has_number w)) e ∙ filter_after s (λ n. has_bit w (bit_of n)) h
  edited_kept w h held (inr e) = ap (filter (has_number w)) e ∙ filter_after s (λ n. has_bit w (bit_of n)) (filter (has_number w) h) ∙ ap (map f) (filter_again (has_number w) h)

  pub edited_below : (w : ℕ) (h held : List Instance) → Comes w h held → (n : ℕ) → AllByRecursion (λ i. i.number < n) h → AllByRecursion (λ i. i.number < n) held
  edited_below w h held (inl e) n all = subst (AllByRecursion (λ i. i.number < n)) (sym e) (all_numbers s (λ m. m < n) h all)
  edited_below w h held (inr e) n all = subst (AllByRecursion (λ i. i.number < n)) (sym e) (all_numbers s (λ m. m < n) (filter (has_number w) h) (all_filtered (λ i. i.number < n) (has_number w) h all))

  leaf_after : (k w st : ℕ) (h held : List Instance) → held ≡ map f h → (let old : Leaf = record { held = h; kept = w; starting = st } in IsLeaf k old) → (let new : Leaf = record { held = held; kept = w; starting = st } in IsLeaf k new)
  leaf_after k w st h held e is = subst (λ r. let new : Leaf = record { held = r; kept = w; starting = st } in IsLeaf k new) (sym e) (record {
    ascending = ascending_after s h is.ascending;
    above = all_numbers s (λ m. 64 * k < m) h is.above;
    below = all_numbers s (λ m. m ≤ 64 * k + 64) h is.below;
    sorted = sorted_after s h is.sorted;
    filled = λ bit inside there. (let old = is.filled bit inside there in (f old.0, numbered_after s (64 * k + bit + 1) h old.0 old.1));
    starts = is.starts;
  })

  thinned : (k w st : ℕ) (h : List Instance) → (let old : Leaf = record { held = h; kept = w; starting = st } in IsLeaf k old) → (let new : Leaf = record { held = filter (has_number w) h; kept = w; starting = st } in IsLeaf k new)
  thinned k w st h is = record {
    ascending = ascending_filtered (has_number w) h is.ascending;
    above = all_filtered (λ i. 64 * k < i.number) (has_number w) h is.above;
    below = all_filtered (λ i. i.number ≤ 64 * k + 64) (has_number w) h is.below;
    sorted = all_filtered HasSortedPlaces (has_number w) h is.sorted;
    filled = λ bit inside there. (let old = is.filled bit inside there in
        (old.0, numbered_passed (λ n. has_bit w (bit_of n)) (64 * k + bit + 1) h (ap (has_bit w) (bit_back k bit inside) ∙ there) ∙ old.1));
    starts = is.starts;
  }

  pub edited_leaf : (k w st : ℕ) (h held : List Instance) → Comes w h held → (let old : Leaf = record { held = h; kept = w; starting = st } in IsLeaf k old) → (let new : Leaf = record { held = held; kept = w; starting = st } in IsLeaf k new)
  edited_leaf k w st h held (inl e) is = leaf_after k w st h held e is
  edited_leaf k w st h held (inr e) is = leaf_after k w st (filter (has_number w) h) held e (thinned k w st h is)

  -- pages of which one changes
  pub edited_in : (k : ℕ) (ls : List Leaf) (i : ℕ) (x y : Leaf) → AreLeaves k ls → i < length ls → x ≡ get_or ls i x → page_of s.inst ≡ k + i → kept_in y ≡ map f (kept_in x) → instances_in (set ls i y) ≡ map f (instances_in ls)
  edited_in k [] i x y are inside is page new = absurd (omega arith)
  edited_in k (l ∷ ls) zero x y are inside is page new =
      ap (λ r. r ++ instances_in ls) (new ∙ ap (λ (m : Leaf). map f (kept_in m)) is)
      ∙ ap (λ r. map f (kept_in l) ++ r) (sym (none_stay s (instances_in ls) (none_later (suc k) s.inst ls are.1 (omega (arith, page)))))
      ∙ sym (map-append f (kept_in l) (instances_in ls))
  edited_in k (l ∷ ls) (suc i) x y are inside is page new =
      ap (λ r. kept_in l ++ r) (edited_in (suc k) ls i x y are.1 (omega arith) is (omega (arith, page)) new)
      ∙ ap (λ r. r ++ map f (instances_in ls)) (sym (none_stay s (kept_in l) (none_of_page k s.inst (kept_in l) (λ e. omega (arith, e, page)) (leaf_pages k l are.0))))
      ∙ sym (map-append f (kept_in l) (instances_in ls))

  pub edited_none : (ls : List Leaf) → AreLeaves 0 ls → length ls ≤ page_of s.inst → instances_in ls ≡ map f (instances_in ls)
  edited_none ls are past = sym (none_stay s (instances_in ls) (none_beyond 0 s.inst ls are (λ less. omega (arith, less)) (omega (arith, past))))

  pub edited_zero : (ls : List Leaf) → AreLeaves 0 ls → s.inst ≡ 0 → instances_in ls ≡ map f (instances_in ls)
  edited_zero ls are is_zero = sym (none_stay s (instances_in ls) (subst (λ n. NoneHas n (instances_in ls)) (sym is_zero) (all_positive 0 ls are)))

-- the numbers that may start stay where words do
pub starts_stay : (k : ℕ) (ls : List Leaf) (i : ℕ) (x y : Leaf) → i < length ls → x ≡ get_or ls i x → y.starting ≡ x.starting → starting_from k (set ls i y) ≡ starting_from k ls
starts_stay k [] i x y inside is same = absurd (omega arith)
starts_stay k (l ∷ ls) zero x y inside is same =
    let word : y.starting ≡ l.starting = same ∙ ap (λ (m : Leaf). m.starting) is in
    ap (λ w. starting_of k (let m : Leaf = record { held = []; kept = 0; starting = w } in m) ++ starting_from (suc k) ls) word
starts_stay k (l ∷ ls) (suc i) x y inside is same = ap (λ r. starting_of k l ++ r) (starts_stay (suc k) ls i x y (omega arith) is same)

-- a table of which one page changes
pub table_stays : (next : ℕ) (ls : List Leaf) (i : ℕ) (x y : Leaf) → IsTable next ls → i < length ls → x ≡ get_or ls i x → IsLeaf i y → ((n : ℕ) → AllByRecursion (λ j. j.number < n) x.held → AllByRecursion (λ j. j.number < n) y.held) → IsTable next (set ls i y)
table_stays next ls i x y is inside x_is new below =
    let same = length-set ls i y in
    record {
      leaves = leaves_here ls i y is.leaves new;
      below = all_with (λ l. AllByRecursion (λ j. j.number < next) l.held) ls i y is.below (below next (all_get (λ (l : Leaf). AllByRecursion (λ j. j.number < next) l.held) ls i x is.below inside x_is));
      first = is.first;
      most = is.most;
      roomy = omega (arith, is.roomy, same);
      tight = omega (arith, is.tight, same);
    }
