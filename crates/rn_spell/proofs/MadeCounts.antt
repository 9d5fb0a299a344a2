-- How many instances parts of some nodes make.
use Rattle.std.proofs.Common.{◌≡◌, ℕ, zero, suc, ◌+◌, ◌-◌, ◌*◌, ◌/◌, ◌%◌, ◌<◌, ◌≤◌, min, List, [], ◌∷◌, ◌++◌, length, take, drop, take-take, get_or, get_or-set_same, get_or-set_other, set, length-append, take-append-drop, inl, inr, ◌⊎◌, sym, ap, ◌∙◌, arith, add-mul, one-mul}
use Rattle.std.specs.Prelude.{flat_map, slice_range}
use Rattle.std.proofs.lemmas.Grind.{flat_map-append}
use Rattle.std.proofs.lemmas.List.{drop-take, get_or_default}
use Rattle.std.proofs.lemmas.Bool.{cases_eq}
use Rattle.std.proofs.lemmas.Nat.{div-add-mod'}
use Rattle.rn_model.specs.declared.system.System.{System}
use Rattle.rn_model.specs.declared.binding.Node.{Node}
use Rattle.rn_model.specs.Firing.{made_by}
use Rattle.rn_spell.specs.link.Marks.{AreMarks, made_count}

module _ (system : System) where
  pub made_joined : (xs ys : List Node) → made_count system (xs ++ ys) ≡ made_count system xs + made_count system ys
  made_joined xs ys =
      ap length (flat_map-append (made_by system) xs ys) ∙ length-append (flat_map (made_by system) xs) (flat_map (made_by system) ys)

  -- the nodes before a place, and those from there on
  pub made_parts : (nodes : List Node) (i : ℕ) → made_count system (take i nodes) + made_count system (drop i nodes) ≡ made_count system nodes
  made_parts nodes i = sym (made_joined (take i nodes) (drop i nodes)) ∙ ap (made_count system) (take-append-drop i nodes)

  pub made_before_most : (nodes : List Node) (i : ℕ) → made_count system (take i nodes) ≤ made_count system nodes
  made_before_most nodes i = omega (arith, made_parts nodes i)

  -- those before a place, and those from there to another
  pub made_between : (nodes : List Node) (i j : ℕ) → i ≤ j → made_count system (take i nodes) + made_count system (slice_range nodes i j) ≡ made_count system (take j nodes)
  made_between nodes i j h =
      let size : i + (j - i) ≡ j = omega arith in
      let first : take i (take j nodes) ≡ take i nodes = take-take i j nodes h in
      let rest : drop i (take j nodes) ≡ take (j - i) (drop i nodes) = ap (λ n. drop i (take n nodes)) (sym size) ∙ drop-take i (j - i) nodes in
      ap (λ ns. made_count system ns + made_count system (slice_range nodes i j)) (sym first)
      ∙ ap (λ ns. made_count system (take i (take j nodes)) + made_count system ns) (sym rest)
      ∙ made_parts (take j nodes) i

  pub made_between_most : (nodes : List Node) (i j : ℕ) → i ≤ j → made_count system (slice_range nodes i j) ≤ made_count system nodes
  made_between_most nodes i j h = omega (arith, made_between nodes i j h, made_before_most nodes j)

-- a place behind the last node is as good as one at the end
pub take_least : {X : Type 0} (xs : List X) (m p : ℕ) → p ≡ min m (length xs) → take p xs ≡ take m xs
take_least xs zero p e = ap (λ n. take n xs) {x = p} {y = 0} (omega (arith, e))
take_least [] (suc m) p e = ap (λ n. take n []) {x = p} {y = 0} (omega (arith, e))
take_least (x ∷ xs) (suc m) zero e = absurd (omega (arith, e))
take_least (x ∷ xs) (suc m) (suc p) e = ap (λ ys. x ∷ ys) (take_least xs m p (omega (arith, e)))

-- the place of the mark after one
pub next_place : (k step n place : ℕ) → place ≡ min (k * step) n → place + min step (n - place) ≡ min ((k + 1) * step) n
next_place k step n place e =
    let more : (k + 1) * step ≡ k * step + step = add-mul k 1 step ∙ ap (λ m. k * step + m) (one-mul step) in
    omega (arith, e, more)

-- one more mark
pub marked_more : (system : System) (nodes : List Node) (step k before place : ℕ) (counts : List ℕ) →
    k < length counts → place ≡ min (k * step) (length nodes) → before ≡ made_count system (take place nodes) →
    ((j : ℕ) → j < k → get_or counts j 0 ≡ made_count system (take (j * step) nodes)) →
    (j : ℕ) → j < k + 1 → get_or (set counts k before) j 0 ≡ made_count system (take (j * step) nodes)
marked_more system nodes step k before place counts h at is marks j below = by (cases_eq j k)
  where
    by : (j ≡ k) ⊎ (j ≡ k → ⊥) → get_or (set counts k before) j 0 ≡ made_count system (take (j * step) nodes)
    by (inl e) =
        ap (λ n. get_or (set counts k before) n 0) e ∙ get_or-set_same counts k before 0 h ∙ is
        ∙ ap (made_count system) (take_least nodes (k * step) place at) ∙ ap (λ n. made_count system (take (n * step) nodes)) (sym e)
    by (inr other) = get_or-set_other counts k j before 0 other ∙ marks j (omega (arith, other))

-- the count at a mark and those from its place on
from_mark : (system : System) (nodes : List Node) (step place count : ℕ) → count ≡ made_count system (take (place / step * step) nodes) →
    count + made_count system (slice_range nodes (place - place % step) place) ≡ made_count system (take place nodes)
from_mark system nodes step place count is =
    let parts : place / step * step + place % step ≡ place = div-add-mod' place step in
    let from : place - place % step ≡ place / step * step = omega (arith, parts) in
    let low : place / step * step ≤ place = omega (arith, parts) in
    ap (λ n. count + made_count system (slice_range nodes n place)) from
    ∙ ap (λ n. n + made_count system (slice_range nodes (place / step * step) place)) is
    ∙ made_between system nodes (place / step * step) place low

pub read_mark : (system : System) (nodes : List Node) (step place : ℕ) (counts : List ℕ) (count : ℕ) → AreMarks system nodes step counts →
    place / step < length counts → count ≡ get_or counts (place / step) count →
    count + made_count system (slice_range nodes (place - place % step) place) ≡ made_count system (take place nodes)
read_mark system nodes step place counts count marks h is =
    from_mark system nodes step place count (is ∙ get_or_default counts (place / step) count 0 h ∙ marks (place / step) h)
