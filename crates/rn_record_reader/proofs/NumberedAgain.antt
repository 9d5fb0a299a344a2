-- Instances by number, read as what makes them, get their numbers again.
use Rattle.std.proofs.Common.{◌≡◌, ◌≢◌, ℕ, zero, suc, ◌+◌, ◌-◌, ◌<◌, ◌≤◌, ◌⊎◌, inl, inr, Bool, true, false, cond, List, [], ◌∷◌, ◌++◌, length, map, refl, sym, ap, ◌∙◌, arith}
use Rattle.std.specs.Prelude.{Option, Some, None, not, ◌&&◌, nat_eq, nat_le, nat_lt, slice_get, flat_map}
use Rattle.std.specs.List.{AllByRecursion, enumerate_from, position_or_len}
use Rattle.std.specs.Option.{option_map_or}
use Rattle.std.specs.Cmp.Lexicographic.{pointwise}
use Rattle.std.proofs.lemmas.Bool.Decides.{nat_tests}
use Rattle.std.proofs.lemmas.List.{length-map, map-append}
use Rattle.std.proofs.lemmas.Option.{slice_get_within, same_Some}
use Rattle.rn_items.proofs.Numbers.{same_numbers, numbers_themselves}
use Rattle.rn_value.specs.declared.value.InstRef.{InstRef}
use Rattle.rn_value.specs.declared.value.InstRef.TheVariants.{Old, New}
use Rattle.rn_model.specs.declared.system.System.{System}
use Rattle.rn_model.specs.declared.system.Creation.{Creation}
use Rattle.rn_model.specs.declared.binding.Node.{Node}
use Rattle.rn_model.specs.Systems.{transition_at}
use Rattle.rn_model.specs.Firing.{Made, made_by, creations_of, numbered_inst, renamed_node, renamed_value}
use Rattle.rn_lines.specs.NodeText.{Given}
use Rattle.rn_record_reader.specs.Nodes.{Placed}
use Rattle.rn_record_reader.specs.Bindings.{makers_by, makers_of, unnumbered, told_node, told_binding}
use Rattle.rn_record_reader.specs.declared.maker.Maker.{Maker}
use Rattle.rn_record_reader.proofs.PathsApart.{Differ}
use Rattle.rn_record_reader.proofs.SpelledNodes.{KeepsNumbers, plain_node}

-- paths that differ don't compare as equal
pub other_path : (p q : List ℕ) → p ≢ q → pointwise nat_eq p q ≡ false
other_path p q apart = by (pointwise nat_eq p q) refl
  where
    by : (b : Bool) → pointwise nat_eq p q ≡ b → b ≡ false
    by true e = absurd (apart (same_numbers p q e))
    by false e = refl

-- whether what makes an instance is this
abbrev is_maker : Maker → Maker → Bool
is_maker m x = pointwise nat_eq x.path m.path && nat_eq x.index m.index

abbrev own : List ℕ → ℕ → List Creation → List Maker
own path n cs = map (λ c. record { path = path; index = c.0 }) (enumerate_from n cs)

itself : (m : Maker) → is_maker m m ≡ true
itself m =
    let here : nat_eq m.index m.index ≡ true = grind (arith, nat_tests) in
    ap (λ b. b && nat_eq m.index m.index) (numbers_themselves m.path) ∙ here

later_index : (path : List ℕ) (n : ℕ) (m : Maker) → n < m.index →
    is_maker m (record { path = path; index = n }) ≡ false
later_index path n m low =
    let apart : nat_eq n m.index ≡ false = grind (arith, nat_tests) in
    ap (λ b. pointwise nat_eq path m.path && b) apart ∙ none (pointwise nat_eq path m.path)
  where
    none : (b : Bool) → b && false ≡ false
    none true = refl
    none false = refl

other_maker : (path : List ℕ) (n : ℕ) (m : Maker) → m.path ≢ path →
    is_maker m (record { path = path; index = n }) ≡ false
other_maker path n m apart =
    ap (λ b. b && nat_eq n m.index) (other_path path m.path (λ same. apart (sym same)))

-- where it stands in its own list or after it
own_or_after : (path : List ℕ) (n : ℕ) (cs : List Creation) (after : List Maker) (k : ℕ) (m : Maker) →
    slice_get (own path n cs ++ after) k ≡ Some m →
    ((m.path ≡ path) × (n ≤ m.index)) ⊎ ((j : ℕ) × (slice_get after j ≡ Some m))
own_or_after path n [] after k m e = inr (k, e)
own_or_after path n (c ∷ cs) after zero m e =
    let same = same_Some (record { path = path; index = n }) m e in
    inl (sym (ap (λ x. x.path) same), let is = ap (λ x. x.index) same in omega (arith, is))
own_or_after path n (c ∷ cs) after (suc k) m e = by (own_or_after path (n + 1) cs after k m e)
  where
    by : ((m.path ≡ path) × (n + 1 ≤ m.index)) ⊎ ((j : ℕ) × (slice_get after j ≡ Some m)) →
        ((m.path ≡ path) × (n ≤ m.index)) ⊎ ((j : ℕ) × (slice_get after j ≡ Some m))
    by (inl here) = inl (here.0, let high = here.1 in omega (arith, high))
    by (inr there) = inr there

first_here : (m x : Maker) (xs : List Maker) → x ≡ m → position_or_len (is_maker m) (x ∷ xs) ≡ 0
first_here m x xs same = rw (ap (is_maker m) same ∙ itself m) refl

first_later : (m x : Maker) (xs : List Maker) (k : ℕ) → is_maker m x ≡ false → position_or_len (is_maker m) xs ≡ k →
    position_or_len (is_maker m) (x ∷ xs) ≡ suc k
first_later m x xs k apart at =
    let next : 1 + k ≡ suc k = omega arith in
    rw apart (ap (λ n. 1 + n) at ∙ next)

own_first : (path : List ℕ) (n : ℕ) (cs : List Creation) (after : List Maker) (k : ℕ) (m : Maker) →
    slice_get (own path n cs ++ after) k ≡ Some m →
    ((j : ℕ) → slice_get after j ≡ Some m → (position_or_len (is_maker m) after ≡ j) × (m.path ≢ path)) →
    position_or_len (is_maker m) (own path n cs ++ after) ≡ k
own_first path n [] after k m e rest = (rest k e).0
own_first path n (c ∷ cs) after zero m e rest =
    first_here m (record { path = path; index = n }) (own path (n + 1) cs ++ after)
    (same_Some (record { path = path; index = n }) m e)
own_first path n (c ∷ cs) after (suc k) m e rest =
    first_later m (record { path = path; index = n }) (own path (n + 1) cs ++ after) k
    (by (own_or_after path (n + 1) cs after k m e)) (own_first path (n + 1) cs after k m e rest)
  where
    by : ((m.path ≡ path) × (n + 1 ≤ m.index)) ⊎ ((j : ℕ) × (slice_get after j ≡ Some m)) →
        is_maker m (record { path = path; index = n }) ≡ false
    by (inl here) = later_index path n m (let high = here.1 in omega (arith, high))
    by (inr there) = other_maker path n m (rest there.0 there.1).1

module _ (system : System) where
  abbrev made_at : Placed → List Creation
  made_at x = (transition_at system x.net x.transition).creations

  after_own : (path : List ℕ) (x : Placed) (after : List Maker) (m : Maker) → x.path ≢ path →
      ((j : ℕ) → slice_get after j ≡ Some m → m.path ≢ path) →
      ((m.path ≡ x.path) × (0 ≤ m.index)) ⊎ ((j : ℕ) × (slice_get after j ≡ Some m)) → m.path ≢ path
  after_own path x after m apart rest (inl here) same = apart (sym here.0 ∙ same)
  after_own path x after m apart rest (inr there) same = rest there.0 there.1 same

  not_among : (path : List ℕ) (xs : List Placed) (k : ℕ) (m : Maker) → AllByRecursion (λ y. y.path ≢ path) xs →
      slice_get (makers_of system xs) k ≡ Some m → m.path ≢ path
  not_among path [] k m all e = absurd (let no : ⊥ = cc in no)
  not_among path (x ∷ xs) k m all e =
      after_own path x (makers_of system xs) m all.0 (λ j f. not_among path xs j m all.1 f)
      (own_or_after x.path 0 (made_at x) (makers_of system xs) k m e)

  maker_first : (xs : List Placed) (k : ℕ) (m : Maker) → Differ xs → slice_get (makers_of system xs) k ≡ Some m →
      position_or_len (is_maker m) (makers_of system xs) ≡ k
  maker_first [] k m differ e = absurd (let no : ⊥ = cc in no)
  maker_first (x ∷ xs) k m differ e =
      own_first x.path 0 (made_at x) (makers_of system xs) k m e
      (λ j f. (maker_first xs j m differ.1 f, not_among x.path xs j m differ.0 f))

abbrev pub as_maker : Made → Maker
as_maker c = record { path = c.path; index = c.index }

pub each_made : (path : List ℕ) (es : List (ℕ × Creation)) →
    map as_maker (map (λ c. record { path = path; index = c.0; net = c.1.net }) es)
    ≡ map (λ c. record { path = path; index = c.0 }) es
each_made path [] = refl
each_made path (e ∷ es) =
    let first : Maker = record { path = path; index = e.0 } in
    ap (λ ms. first ∷ ms) (each_made path es)

by_makers : (p : Maker → Bool) (cs : List Made) → position_or_len p (map as_maker cs) ≡ position_or_len (λ c. p (as_maker c)) cs
by_makers p [] = refl
by_makers p (c ∷ cs) = ap (λ n. cond (not (p (as_maker c))) (1 + n) 0) (by_makers p cs)

module _ (system : System) (count : ℕ) (xs : List Placed) (differ : Differ xs) where
  abbrev makers : List Maker
  makers = makers_of system xs

  made_makers : (ys : List Placed) → map as_maker (flat_map (made_by system) (map (told_node makers count) ys)) ≡ makers_of system ys
  made_makers [] = refl
  made_makers (y ∷ ys) =
      let here = made_by system (told_node makers count y) in
      let rest = flat_map (made_by system) (map (told_node makers count) ys) in
      map-append as_maker here rest
      ∙ ap (λ ms. ms ++ map as_maker rest) (each_made y.path (enumerate_from 0 (transition_at system y.net y.transition).creations))
      ∙ ap (λ ms. makers_by system y ++ ms) (made_makers ys)

  abbrev created : List Made
  created = creations_of system (told_binding system count xs)

  abbrev numbers : InstRef → InstRef
  numbers = numbered_inst created (count + 1)

  as_many : length created ≡ length makers
  as_many = sym (length-map created as_maker) ∙ ap length (made_makers xs)

  number_of : (k : ℕ) (m : Maker) → slice_get makers k ≡ Some m → numbers (New m.path m.index) ≡ Old (count + 1 + k)
  number_of k m e =
      let at : position_or_len (λ c. is_maker m (as_maker c)) created ≡ k =
      sym (by_makers (is_maker m) created) ∙ ap (position_or_len (is_maker m)) (made_makers xs) ∙ maker_first system xs k m differ e in
      let low = slice_get_within makers k m e in
      let many = as_many in
      let below : k < length created = omega (arith, low, many) in
      let within : nat_lt k (length created) ≡ true = grind (arith, nat_tests) in
      ap (λ n. option_map_or (λ k. Old (count + 1 + k)) (cond (nat_lt n (length created)) (Some n) None) (New m.path m.index)) at
      ∙ rw within refl

  made_again : (number : ℕ) (o : Option Maker) → count < number → slice_get makers (number - count - 1) ≡ o →
      numbers (option_map_or (λ m. New m.path m.index) o (Old number)) ≡ Old number
  made_again number None low e = refl
  made_again number (Some m) low e =
      let same : count + 1 + (number - count - 1) ≡ number = omega (arith, low) in
      number_of (number - count - 1) m e ∙ ap (λ n. Old n) same

  pub again : (number : ℕ) → numbers (unnumbered makers count (Old number)) ≡ Old number
  again number = by (nat_le number count) refl
    where
      by : (low : Bool) → nat_le number count ≡ low →
          numbers (cond low (Old number) (option_map_or (λ m. New m.path m.index) (slice_get makers (number - count - 1)) (Old number)))
          ≡ Old number
      by true e = refl
      by false e =
          let high : count < number = grind (arith, nat_tests) in
          made_again number (slice_get makers (number - count - 1)) high refl

  given_again : (gs : List Given) → AllByRecursion (λ g. KeepsNumbers g.value) gs →
      map (λ v. renamed_value v numbers) (map (λ g. renamed_value g.value (unnumbered makers count)) gs)
      ≡ map (λ g. g.value) gs
  given_again [] keep = refl
  given_again (g ∷ gs) keep =
      ap (λ v. v ∷ map (λ v. renamed_value v numbers) (map (λ g. renamed_value g.value (unnumbered makers count)) gs))
      (keep.0 numbers (unnumbered makers count) again)
      ∙ ap (λ vs. g.value ∷ vs) (given_again gs keep.1)

  node_again : (x : Placed) → AllByRecursion (λ g. KeepsNumbers g.value) x.said.given →
      renamed_node numbers (told_node makers count x) ≡ plain_node x
  node_again x keep =
      let values = map (λ v. renamed_value v numbers) (map (λ g. renamed_value g.value (unnumbered makers count)) x.said.given) in
      ap (λ i. let n : Node = record { path = x.path; inst = i; net = x.net; transition = x.transition; values = values } in n)
      (again x.said.inst.number)
      ∙ ap (λ vs. let n : Node = record { path = x.path; inst = Old x.said.inst.number; net = x.net; transition = x.transition; values = vs } in n)
      (given_again x.said.given keep)

  pub nodes_again : (ys : List Placed) → AllByRecursion (λ x. AllByRecursion (λ g. KeepsNumbers g.value) x.said.given) ys →
      map (renamed_node numbers) (map (told_node makers count) ys) ≡ map plain_node ys
  nodes_again [] keep = refl
  nodes_again (y ∷ ys) keep =
      ap (λ n. n ∷ map (renamed_node numbers) (map (told_node makers count) ys)) (node_again y keep.0)
      ∙ ap (λ ns. plain_node y ∷ ns) (nodes_again ys keep.1)
