-- Lists in chunks of 32: an element of the whole list is read, and changed, in its chunk.
use Rattle.std.proofs.Common.{◌≡◌, ℕ, zero, suc, ◌+◌, ◌-◌, ◌*◌, ◌<◌, ◌≤◌, None, slice_get, List, [], ◌∷◌, ◌++◌, length, get_or, set, append-nil, length-append, length-set, sym, ap, ◌∙◌, subst, arith, inl, inr}
use Rattle.std.specs.Prelude.{unwrap_or}
use Rattle.std.specs.List.{AllByRecursion}
use Rattle.std.proofs.lemmas.Bool.{cases_lt}
use Rattle.std.proofs.lemmas.List.{nil_from_length, set-append_left, set-append_right, set_past}
use Rattle.std.proofs.lemmas.List.Concat.{flat_map-append}
use Rattle.std.proofs.lemmas.Option.{slice_get_past, unwrap_or-slice_get}
use Rattle.rn_value.specs.declared.value.Value.{Value}
use Rattle.rn_bag.proofs.CountLemmas.{get_prefix, get_suffix}
use Rattle.rn_table.specs.link.Chunks.{AreChunks, joined}
use Rattle.rn_table.specs.link.Steps.{Step, stepped, with_step}
use Rattle.rn_model.proofs.EachElement.{each_append}

module _ {A : Type 0} where
  -- only the last has room for more
  last_alone : (xs : List A) (rest : List (List A)) → (0 < length rest → length xs ≡ 32) → length xs < 32 → rest ≡ []
  last_alone xs rest full short = elim (cases_lt 0 (length rest)) [
    | inl more ↦ absurd (let is : length xs ≡ 32 = full more in omega (arith, is, short))
    | inr none ↦ nil_from_length rest (omega (arith, none))
  ]

  pub joined_few : (xss : List (List A)) → AreChunks xss → length (joined xss) ≤ 32 * length xss
  joined_few [] chunks = omega arith
  joined_few (xs ∷ rest) chunks = omega (arith, length-append xs (joined rest), chunks.0.0, joined_few rest chunks.1)

  -- the element of an index in the chunk of an index
  first_get : (xs : List A) (rest : List (List A)) (r : ℕ) → (0 < length rest → length xs ≡ 32) → r < 32 → slice_get (xs ++ joined rest) r ≡ slice_get xs r
  first_get xs rest r full low = elim (cases_lt r (length xs)) [
    | inl within ↦ get_prefix xs (joined rest) r within
    | inr past ↦ ap (λ yss. slice_get (xs ++ joined yss) r) (last_alone xs rest full (omega (arith, past, low))) ∙ ap (λ ys. slice_get ys r) (append-nil xs)
  ]

  pub get_in : (xss : List (List A)) (q r : ℕ) (xs : List A) → AreChunks xss → r < 32 → q < length xss → xs ≡ get_or xss q xs → slice_get (joined xss) (32 * q + r) ≡ slice_get xs r
  get_in [] q r xs chunks low inside is = absurd (omega arith)
  get_in (ys ∷ rest) zero r xs chunks low inside is =
      let start : 32 * 0 + r ≡ r = omega arith in
      ap (slice_get (ys ++ joined rest)) start ∙ first_get ys rest r chunks.0.1 low ∙ ap (λ zs. slice_get zs r) (sym is)
  get_in (ys ∷ rest) (suc q) r xs chunks low inside is =
      let full : length ys ≡ 32 = chunks.0.1 (omega (arith, inside)) in
      let later : 32 * suc q + r - length ys ≡ 32 * q + r = omega (arith, full) in
      get_suffix ys (joined rest) (32 * suc q + r) (omega (arith, full))
      ∙ ap (slice_get (joined rest)) later ∙ get_in rest q r xs chunks.1 low (omega (arith, inside)) is

  pub get_past : (xss : List (List A)) (k : ℕ) → AreChunks xss → 32 * length xss ≤ k → slice_get (joined xss) k ≡ None
  get_past xss k chunks past = slice_get_past (joined xss) k (omega (arith, joined_few xss chunks, past))

  first_set : (xs : List A) (rest : List (List A)) (r : ℕ) (y : A) → (0 < length rest → length xs ≡ 32) → r < 32 → set xs r y ++ joined rest ≡ set (xs ++ joined rest) r y
  first_set xs rest r y full low = elim (cases_lt r (length xs)) [
    | inl within ↦ sym (set-append_left xs (joined rest) r y within)
    | inr past ↦ (let none : rest ≡ [] = last_alone xs rest full (omega (arith, past, low)) in
        ap (λ yss. set xs r y ++ joined yss) none ∙ append-nil (set xs r y)
        ∙ ap (λ ys. set ys r y) (sym (append-nil xs)) ∙ ap (λ yss. set (xs ++ joined yss) r y) (sym none))
  ]

  set_in : (xss : List (List A)) (q r : ℕ) (xs : List A) (y : A) → AreChunks xss → r < 32 → q < length xss → xs ≡ get_or xss q xs → joined (set xss q (set xs r y)) ≡ set (joined xss) (32 * q + r) y
  set_in [] q r xs y chunks low inside is = absurd (omega arith)
  set_in (ys ∷ rest) zero r xs y chunks low inside is =
      let start : r ≡ 32 * 0 + r = omega arith in
      ap (λ zs. set zs r y ++ joined rest) is ∙ first_set ys rest r y chunks.0.1 low ∙ ap (λ n. set (ys ++ joined rest) n y) start
  set_in (ys ∷ rest) (suc q) r xs y chunks low inside is =
      let full : length ys ≡ 32 = chunks.0.1 (omega (arith, inside)) in
      let later : 32 * q + r ≡ 32 * suc q + r - 32 = omega arith in
      ap (λ zs. ys ++ zs) (set_in rest q r xs y chunks.1 low (omega (arith, inside)) is)
      ∙ ap (λ n. ys ++ set (joined rest) n y) later
      ∙ sym (set-append_right ys (joined rest) 32 (32 * suc q + r) y full (omega arith))

  -- chunks stay chunks
  pub chunks_stay : (xss : List (List A)) (q : ℕ) (xs ys : List A) → AreChunks xss → xs ≡ get_or xss q xs → length ys ≡ length xs → AreChunks (set xss q ys)
  chunks_stay [] q xs ys chunks is same = tt
  chunks_stay (zs ∷ rest) zero xs ys chunks is same =
      let len : length ys ≡ length zs = same ∙ ap length is in
      ((omega (arith, len, chunks.0.0), λ more. len ∙ chunks.0.1 more), chunks.1)
  chunks_stay (zs ∷ rest) (suc q) xs ys chunks is same =
      ((chunks.0.0, λ more. chunks.0.1 (omega (arith, more, length-set rest q ys))), chunks_stay rest q xs ys chunks.1 is same)

  -- one more chunk after full ones
  pub chunks_more : (xss : List (List A)) (ys : List A) → AllByRecursion (λ xs. length xs ≡ 32) xss → length ys ≤ 32 → AreChunks (xss ++ ys ∷ [])
  chunks_more [] ys full small = ((small, λ more. absurd (omega (arith, more))), tt)
  chunks_more (xs ∷ rest) ys full small = ((omega (arith, full.0), λ _. full.0), chunks_more rest ys full.1 small)

  pub full_more : (xss : List (List A)) (ys : List A) (yss : List (List A)) → AllByRecursion (λ xs. length xs ≡ 32) xss → length ys ≡ 32 → yss ≡ xss ++ ys ∷ [] → AllByRecursion (λ xs. length xs ≡ 32) yss
  full_more xss ys yss full len is = subst (AllByRecursion (λ xs. length xs ≡ 32)) (sym is) (each_append (λ xs. length xs ≡ 32) xss (ys ∷ []) full (len, tt))

  pub joined_more : (xss : List (List A)) (ys : List A) → joined (xss ++ ys ∷ []) ≡ joined xss ++ ys
  joined_more xss ys = flat_map-append (λ xs. xs) xss (ys ∷ []) ∙ ap (λ zs. joined xss ++ zs) (append-nil ys)

-- a step in its chunk
pub step_in : (s : Step) (xss : List (List (List Value))) (q r : ℕ) (xs : List (List Value)) → AreChunks xss → r < 32 → q < length xss → xs ≡ get_or xss q xs → joined (set xss q (with_step s r xs)) ≡ with_step s (32 * q + r) (joined xss)
step_in s xss q r xs chunks low inside is =
    let here : get_or xs r [] ≡ get_or (joined xss) (32 * q + r) []
    = sym (unwrap_or-slice_get xs r []) ∙ ap (λ o. unwrap_or o []) (sym (get_in xss q r xs chunks low inside is)) ∙ unwrap_or-slice_get (joined xss) (32 * q + r) [] in
    set_in xss q r xs (stepped s (get_or xs r [])) chunks low inside is
    ∙ ap (λ vs. set (joined xss) (32 * q + r) (stepped s vs)) here

pub step_past : (s : Step) (k : ℕ) (places : List (List Value)) → length places ≤ k → places ≡ with_step s k places
step_past s k places past = sym (set_past places k (stepped s (get_or places k [])) past)
