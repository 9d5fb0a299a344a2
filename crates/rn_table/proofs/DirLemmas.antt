-- Pages in directories, with their words.
use Rattle.std.proofs.Common.{◌≡◌, ◌≢◌, ℕ, zero, suc, ◌+◌, ◌-◌, ◌/◌, ◌%◌, ◌<◌, nat_eq, true, false, List, [], ◌∷◌, ◌++◌, length, drop, get_or, set, map, refl, sym, ap, ◌∙◌, arith, inl, inr}
use Rattle.std.proofs.lemmas.Bool.{true≢false, eqb-true, cases_lt}
use Rattle.std.proofs.lemmas.List.{get_or-set_same, get_or-set_other, get_or-drop, get_or_append_left, get_or-append_right, get_or_default, get_or-map, length-map, map-set, map-append, set-get_or}
use Rattle.rn_model.specs.Markings.{Instance}
use Rattle.rn_table.specs.link.Leaves.{Leaf, held_at, held_if, leaf_with, leaves_by}
use Rattle.rn_table.specs.declared.leaf.Words.{Words}
use Rattle.rn_table.proofs.InstanceLemmas.{same_number}

-- a page of which something is kept
pub held_some : (w : ℕ) (h : List Instance) → w ≢ 0 → held_if w h ≡ h
held_some zero h some = absurd (some refl)
held_some (suc w) h some = refl

pub held_none : (w : ℕ) (h : List Instance) → w ≡ 0 → held_if w h ≡ []
held_none w h none = ap (λ v. held_if v h) none

pub held_same : (w : ℕ) (g h : List Instance) → (w ≢ 0 → g ≡ h) → held_if w g ≡ held_if w h
held_same zero g h same = refl
held_same (suc w) g h same = same (λ e. omega (arith, e))

-- a list of pages
pub length_leaves : (h : ℕ → List Instance) (ws : List Words) → length (leaves_by h ws) ≡ length ws
length_leaves h [] = refl
length_leaves h (w ∷ ws) = ap suc (length_leaves (λ i. h (suc i)) ws)

pub leaf_is : (h : ℕ → List Instance) (ws : List Words) (i : ℕ) (w : Words) (d : Leaf) → i < length ws → w ≡ get_or ws i w → get_or (leaves_by h ws) i d ≡ leaf_with (h i) w.kept w.starting
leaf_is h [] i w d inside is = absurd (omega arith)
leaf_is h (v ∷ ws) zero w d inside is = ap (λ (u : Words). leaf_with (h 0) u.kept u.starting) (sym is)
leaf_is h (v ∷ ws) (suc i) w d inside is = leaf_is (λ j. h (suc j)) ws i w d (omega arith) is

-- where each page of which something is kept holds the same
pub leaves_same : (g h : ℕ → List Instance) (ws : List Words) → ((j : ℕ) (w : Words) → j < length ws → w ≡ get_or ws j w → w.kept ≢ 0 → g j ≡ h j) → leaves_by g ws ≡ leaves_by h ws
leaves_same g h [] same = refl
leaves_same g h (w ∷ ws) same =
    ap (λ r. (let l : Leaf = record { held = r; kept = w.kept; starting = w.starting } in l) ∷ leaves_by (λ i. g (suc i)) ws) (held_same w.kept (g 0) (h 0) (same 0 w (omega arith) refl))
    ∙ ap (λ r. leaf_with (h 0) w.kept w.starting ∷ r) (leaves_same (λ i. g (suc i)) (λ i. h (suc i)) ws (λ j v inside is some. same (suc j) v (omega (arith, inside)) is some))

-- one page changes
pub leaves_set : (g h : ℕ → List Instance) (ws : List Words) (i : ℕ) (u : Words) → ((j : ℕ) (w : Words) → j < length ws → j ≢ i → w ≡ get_or ws j w → w.kept ≢ 0 → g j ≡ h j) → leaves_by g (set ws i u) ≡ set (leaves_by h ws) i (leaf_with (g i) u.kept u.starting)
leaves_set g h [] i u same = refl
leaves_set g h (w ∷ ws) zero u same =
    ap (λ r. leaf_with (g 0) u.kept u.starting ∷ r) (leaves_same (λ i. g (suc i)) (λ i. h (suc i)) ws (λ j v inside is some. same (suc j) v (omega (arith, inside)) (λ e. omega (arith, e)) is some))
leaves_set g h (w ∷ ws) (suc i) u same =
    ap (λ r. (let l : Leaf = record { held = r; kept = w.kept; starting = w.starting } in l) ∷ leaves_by (λ i. g (suc i)) (set ws i u)) (held_same w.kept (g 0) (h 0) (same 0 w (omega arith) (λ e. omega (arith, e)) refl))
    ∙ ap (λ r. leaf_with (h 0) w.kept w.starting ∷ r) (leaves_set (λ j. g (suc j)) (λ j. h (suc j)) ws i u (λ j v inside differ is some. same (suc j) v (omega (arith, inside)) (λ e. differ (omega (arith, e))) is some))

-- one page more, of which nothing is kept
pub leaves_push : (h : ℕ → List Instance) (ws : List Words) (u : Words) → u.kept ≡ 0 → u.starting ≡ 0 → leaves_by h (ws ++ u ∷ []) ≡ leaves_by h ws ++ leaf_with [] 0 0 ∷ []
leaves_push h [] u kept starting = ap (λ w. leaf_with (h 0) w u.starting ∷ []) kept ∙ ap (λ s. leaf_with (h 0) 0 s ∷ []) starting
leaves_push h (w ∷ ws) u kept starting = ap (λ r. leaf_with (h 0) w.kept w.starting ∷ r) (leaves_push (λ i. h (suc i)) ws u kept starting)

pub length_drop : {A : Type 0} (n : ℕ) (xs : List A) → length (drop n xs) ≡ length xs - n
length_drop zero xs = omega arith
length_drop (suc n) [] = omega arith
length_drop (suc n) (x ∷ xs) = length_drop n xs ∙ omega arith

-- pages that are seen
pub seen_len : (h : ℕ → List Instance) (ws : List Words) (seen : List Leaf) → leaves_by h ws ≡ seen → length seen ≡ length ws
seen_len h ws seen is = ap length (sym is) ∙ length_leaves h ws

pub seen_leaf : (h : ℕ → List Instance) (ws : List Words) (seen : List Leaf) (i : ℕ) (w : Words) (d : Leaf) → leaves_by h ws ≡ seen → i < length ws → w ≡ get_or ws i w → get_or seen i d ≡ leaf_with (h i) w.kept w.starting
seen_leaf h ws seen i w d seen_is inside is = ap (λ ls. get_or ls i d) (sym seen_is) ∙ leaf_is h ws i w d inside is

pub leaf_read : (h : ℕ → List Instance) (ws : List Words) (seen : List Leaf) (i : ℕ) (w : Words) (held : List Instance) → leaves_by h ws ≡ seen → i < length ws → w ≡ get_or ws i w → held ≡ held_if w.kept (h i) →
    (let l : Leaf = record { held = held; kept = w.kept; starting = w.starting } in l ≡ get_or seen i l)
leaf_read h ws seen i w held seen_is inside is held_is =
    let l : Leaf = record { held = held; kept = w.kept; starting = w.starting } in
    ap (λ r. let m : Leaf = record { held = r; kept = w.kept; starting = w.starting } in m) held_is ∙ sym (seen_leaf h ws seen i w l seen_is inside is)

-- nothing comes after others
get_empty : {A : Type 0} (xs : List A) (d : A) (i : ℕ) → get_or (xs ++ d ∷ []) i d ≡ get_or xs i d
get_empty [] d zero = refl
get_empty [] d (suc i) = refl
get_empty (x ∷ xs) d zero = refl
get_empty (x ∷ xs) d (suc i) = get_empty xs d i

-- the pages of a directory, each seen as what it holds
module _ {A : Type 0} (f : A → List Instance) where
  pub set_others : (xs : List A) (at : ℕ) (y : A) (seen : List (List Instance)) → map f xs ≡ seen → (i : ℕ) → i ≢ at → get_or (map f (set xs at y)) i [] ≡ get_or seen i []
  set_others xs at y seen is i differ = ap (λ r. get_or r i []) (map-set f xs at y) ∙ get_or-set_other (map f xs) at i (f y) [] differ ∙ ap (λ r. get_or r i []) is

  pub set_here : (xs : List A) (at : ℕ) (y : A) → at < length xs → get_or (map f (set xs at y)) at [] ≡ f y
  set_here xs at y inside = ap (λ r. get_or r at []) (map-set f xs at y) ∙ get_or-set_same (map f xs) at (f y) [] (omega (arith, inside, length-map xs f))

  pub read_at : (xs : List A) (at : ℕ) (x : A) (seen : List (List Instance)) → map f xs ≡ seen → at < length xs → x ≡ get_or xs at x → f x ≡ get_or seen at []
  read_at xs at x seen is inside here = ap f here ∙ sym (get_or-map f xs at x [] inside) ∙ ap (λ r. get_or r at []) is

  pub push_empty : (xs : List A) (y : A) (i : ℕ) → f y ≡ [] → get_or (map f (xs ++ y ∷ [])) i [] ≡ get_or (map f xs) i []
  push_empty xs y i none = ap (λ r. get_or r i []) (map-append f xs (y ∷ [])) ∙ ap (λ h. get_or (map f xs ++ h ∷ []) i []) none ∙ get_empty (map f xs) [] i

  pub push_same : (xs : List A) (y : A) (i n : ℕ) (seen : List (List Instance)) → length xs ≡ n → i < n + 1 → (i < n → get_or (map f xs) i [] ≡ get_or seen i []) → (i ≡ n → f y ≡ get_or seen i []) → get_or (map f (xs ++ y ∷ [])) i [] ≡ get_or seen i []
  push_same xs y i n seen size low before last = ap (λ r. get_or r i []) (map-append f xs (y ∷ [])) ∙ (elim (cases_lt i n) [
    | inl less ↦ (get_or_append_left (map f xs) (f y ∷ []) [] i (omega (arith, less, size, length-map xs f)) ∙ before less)
    | inr past ↦ (let is : i ≡ n = omega (arith, low, past) in
        let none : i - n ≡ 0 = omega (arith, is) in
        get_or-append_right (map f xs) (f y ∷ []) n i [] (length-map xs f ∙ size) past ∙ ap (λ k. get_or (f y ∷ []) k []) none ∙ last is)
  ])

abbrev Dirs : Type 0
Dirs = List (List (List Instance))

-- a directory of which nothing is held comes after the others
pub held_more : (ds : Dirs) (i : ℕ) → held_at (ds ++ [] ∷ []) i ≡ held_at ds i
held_more ds i = ap (λ d. get_or d (i % 32) []) (get_empty ds [] (i / 32))

-- the page of an index in a directory that is put in place of another
pub held_here : (ds : Dirs) (at : ℕ) (new : List (List Instance)) → at / 32 < length ds → held_at (set ds (at / 32) new) at ≡ get_or new (at % 32) []
held_here ds at new inside = ap (λ d. get_or d (at % 32) []) (get_or-set_same ds (at / 32) new [] inside)

module _ (ds : Dirs) (at : ℕ) (old new : List (List Instance)) (inside : at / 32 < length ds) (was : old ≡ get_or ds (at / 32) []) where
  in_dir : (j : ℕ) → j / 32 ≡ at / 32 → get_or new (j % 32) [] ≡ get_or old (j % 32) [] → held_at (set ds (at / 32) new) j ≡ held_at ds j
  in_dir j same is =
      ap (λ k. get_or (get_or (set ds (at / 32) new) k []) (j % 32) []) same
      ∙ ap (λ d. get_or d (j % 32) []) (get_or-set_same ds (at / 32) new [] inside) ∙ is
      ∙ ap (λ d. get_or d (j % 32) []) was ∙ ap (λ k. get_or (get_or ds k []) (j % 32) []) (sym same)

  elsewhere : (j : ℕ) → j / 32 ≢ at / 32 → held_at (set ds (at / 32) new) j ≡ held_at ds j
  elsewhere j differ = ap (λ d. get_or d (j % 32) []) (get_or-set_other ds (at / 32) (j / 32) new [] differ)

  -- where the pages stay that a test chooses
  stay : (j : ℕ) → (j / 32 ≡ at / 32 → get_or new (j % 32) [] ≡ get_or old (j % 32) []) → held_at (set ds (at / 32) new) j ≡ held_at ds j
  stay j same = elim (nat_eq (j / 32) (at / 32)) as (λ t. nat_eq (j / 32) (at / 32) ≡ t → held_at (set ds (at / 32) new) j ≡ held_at ds j) [
    | true ↦ λ e. (let here = eqb-true (j / 32) (at / 32) e in in_dir j here (same here))
    | false ↦ λ e. elsewhere j (λ is. true≢false (sym (ap (λ k. nat_eq k (at / 32)) is ∙ same_number (at / 32)) ∙ e))
  ] refl

  in_rest : (ws : List Words) (first : ℕ) → first ≡ at - at % 32 → (j : ℕ) → j / 32 ≡ at / 32 → j < length ws → j % 32 < length (drop first ws)
  in_rest ws first first_is j same within = omega (arith, length_drop first ws, same, first_is, within)

  pub others_stay : (ws : List Words) (first : ℕ) → first ≡ at - at % 32 → ((i : ℕ) (w : Words) → i < 32 → i < length (drop first ws) → i ≢ at % 32 → w ≡ get_or (drop first ws) i w → w.kept ≢ 0 → get_or new i [] ≡ get_or old i []) → (j : ℕ) (w : Words) → j < length ws → j ≢ at → w ≡ get_or ws j w → w.kept ≢ 0 → held_at (set ds (at / 32) new) j ≡ held_at ds j
  others_stay ws first first_is others j w within differ is some = stay j (λ same.
      others (j % 32) w (omega arith) (in_rest ws first first_is j same within) (λ e. differ (omega (arith, e, same)))
      (is ∙ sym (get_or-drop first ws (j % 32) w ∙ ap (λ k. get_or ws k w) (let e : first + j % 32 ≡ j = omega (arith, same, first_is) in e))) some)

  pub all_stay : (ws : List Words) (first : ℕ) → first ≡ at - at % 32 → ((i : ℕ) (w : Words) → i < 32 → i < length (drop first ws) → w ≡ get_or (drop first ws) i w → w.kept ≡ 0) → (j : ℕ) (w : Words) → j < length ws → w ≡ get_or ws j w → w.kept ≢ 0 → held_at (set ds (at / 32) new) j ≡ held_at ds j
  all_stay ws first first_is none j w within is some = stay j (λ same. absurd (some
      (none (j % 32) w (omega arith) (in_rest ws first first_is j same within)
      (is ∙ sym (get_or-drop first ws (j % 32) w ∙ ap (λ k. get_or ws k w) (let e : first + j % 32 ≡ j = omega (arith, same, first_is) in e))))))

-- pages of which one directory changes, each of them seen as what its pages hold
module _ {A : Type 0} (f : A → List (List Instance)) where
  pub was_here : (xs : List A) (k : ℕ) (x : A) → k < length xs → x ≡ get_or xs k x → f x ≡ get_or (map f xs) k []
  was_here xs k x inside is = ap f is ∙ sym (get_or-map f xs k x [] inside)

  pub dirs_more : (xs : List A) (y : A) (i : ℕ) → f y ≡ [] → held_at (map f (xs ++ y ∷ [])) i ≡ held_at (map f xs) i
  dirs_more xs y i none = ap (λ ds. held_at ds i) (map-append f xs (y ∷ [])) ∙ ap (λ d. held_at (map f xs ++ d ∷ []) i) none ∙ held_more (map f xs) i

  -- one page with its words
  pub page_changed : (xs : List A) (ws : List Words) (seen : List Leaf) (at first : ℕ) (x y : A) (u : Words) → leaves_by (held_at (map f xs)) ws ≡ seen → at / 32 < length xs → x ≡ get_or xs (at / 32) x → first ≡ at - at % 32 →
      ((i : ℕ) (w : Words) → i < 32 → i < length (drop first ws) → i ≢ at % 32 → w ≡ get_or (drop first ws) i w → w.kept ≢ 0 → get_or (f y) i [] ≡ get_or (f x) i []) →
      leaves_by (held_at (map f (set xs (at / 32) y))) (set ws at u) ≡ set seen at (leaf_with (get_or (f y) (at % 32) []) u.kept u.starting)
  page_changed xs ws seen at first x y u seen_is inside is first_is others =
      let within : at / 32 < length (map f xs) = omega (arith, inside, length-map xs f) in
      ap (λ ds. leaves_by (held_at ds) (set ws at u)) (map-set f xs (at / 32) y)
      ∙ leaves_set (held_at (set (map f xs) (at / 32) (f y))) (held_at (map f xs)) ws at u (others_stay (map f xs) at (f x) (f y) within (was_here xs (at / 32) x inside is) ws first first_is others)
      ∙ ap (λ h. set (leaves_by (held_at (map f xs)) ws) at (leaf_with h u.kept u.starting)) (held_here (map f xs) at (f y) within)
      ∙ ap (λ ls. set ls at (leaf_with (get_or (f y) (at % 32) []) u.kept u.starting)) seen_is

  -- a page of which nothing is kept
  pub page_gone : (xs : List A) (ws : List Words) (at : ℕ) (x y : A) → at / 32 < length xs → x ≡ get_or xs (at / 32) x → ((w : Words) → w ≡ get_or ws at w → w.kept ≡ 0) → ((i : ℕ) → i ≢ at % 32 → get_or (f y) i [] ≡ get_or (f x) i []) →
      leaves_by (held_at (map f (set xs (at / 32) y))) ws ≡ leaves_by (held_at (map f xs)) ws
  page_gone xs ws at x y inside is none others =
      let within : at / 32 < length (map f xs) = omega (arith, inside, length-map xs f) in
      ap (λ ds. leaves_by (held_at ds) ws) (map-set f xs (at / 32) y)
      ∙ leaves_same (held_at (set (map f xs) (at / 32) (f y))) (held_at (map f xs)) ws
      (λ j w low here some. others_stay (map f xs) at (f x) (f y) within (was_here xs (at / 32) x inside is) ws (at - at % 32) refl (λ i v i_low i_in differ v_is v_some. others i differ) j w low
      (λ e. some (none w (here ∙ ap (λ k. get_or ws k w) e))) here some)

  -- a directory of which nothing is kept
  pub dir_gone : (xs : List A) (ws : List Words) (at first : ℕ) (x y : A) → at / 32 < length xs → x ≡ get_or xs (at / 32) x → first ≡ at - at % 32 →
      ((i : ℕ) (w : Words) → i < 32 → i < length (drop first ws) → w ≡ get_or (drop first ws) i w → w.kept ≡ 0) →
      leaves_by (held_at (map f (set xs (at / 32) y))) ws ≡ leaves_by (held_at (map f xs)) ws
  dir_gone xs ws at first x y inside is first_is none =
      let within : at / 32 < length (map f xs) = omega (arith, inside, length-map xs f) in
      ap (λ ds. leaves_by (held_at ds) ws) (map-set f xs (at / 32) y)
      ∙ leaves_same (held_at (set (map f xs) (at / 32) (f y))) (held_at (map f xs)) ws (all_stay (map f xs) at (f x) (f y) within (was_here xs (at / 32) x inside is) ws first first_is none)

-- a word in the rest of words
pub word_there : (ws : List Words) (at first : ℕ) (w v : Words) → first ≡ at - at % 32 → at < length ws → w ≡ get_or ws at w → v ≡ get_or (drop first ws) (at % 32) v → v ≡ w
word_there ws at first w v first_is inside is v_is =
    let place : first + at % 32 ≡ at = omega (arith, first_is) in
    v_is ∙ get_or-drop first ws (at % 32) v ∙ ap (λ k. get_or ws k v) place ∙ get_or_default ws at v w inside ∙ sym is

pub set_word : (ws : List Words) (at : ℕ) (w : Words) → w ≡ get_or ws at w → set ws at w ≡ ws
set_word ws at w is = ap (set ws at) is ∙ set-get_or ws at w

-- the word of an index
pub a_word : (ws : List Words) (i : ℕ) → i < length ws → (w : Words) × (w ≡ get_or ws i w)
a_word ws i inside = let d : Words = record { kept = 0; starting = 0 } in (get_or ws i d, get_or_default ws i d (get_or ws i d) inside)
