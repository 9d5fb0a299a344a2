-- What one page of a table becomes. It only connects the code to the marking.
use Rattle.std.specs.Prelude.{ℕ, ◌≡◌, ◌<◌, Bool, if◌then◌else◌, not, nat_eq}
use Rattle.std.specs.Prelude.{List, [], ◌∷◌, ◌++◌, ◌⊎◌, map, filter, slice_index_or, slice_set}
use Rattle.std.specs.List.{AllByRecursion}
use Rattle.rn_model.specs.Markings.{Instance}
use Rattle.rn_table.specs.link.Leaves.{Leaf, IsLeaf, has_number, kept_in, page_of, starting_of}
use Rattle.rn_table.specs.link.Steps.{Step, after_step}

-- pages of which one, with this index, changes by a relation
pub record OneChanges (R : Leaf → Leaf → Type 0) (at : ℕ) (ls new_ls : List Leaf) : Type 0 where
  pub old : Leaf
  pub new : Leaf
  pub was : old ≡ slice_index_or ls at old
  pub is : new_ls ≡ slice_set ls at new
  pub so : R old new

-- with one more instance, which may start or not
pub record IsGrown (x : Instance) (starts : Bool) (old new : Leaf) : Type 0 where
  pub instances : kept_in new ≡ kept_in old ++ x ∷ []
  pub starting : starting_of (page_of x.number) new
      ≡ starting_of (page_of x.number) old ++ (if starts then x.number ∷ [] else [])
  pub leaf : IsLeaf (page_of x.number) new
  pub below : (n : ℕ) → x.number < n → AllByRecursion (λ i. i.number < n) new.held

-- after a step
pub record IsEdited (s : Step) (old new : Leaf) : Type 0 where
  pub instances : kept_in new ≡ map (after_step s) (kept_in old)
  pub starting : new.starting ≡ old.starting
  pub leaf : IsLeaf (page_of s.inst) new
  pub below : (n : ℕ) → AllByRecursion (λ i. i.number < n) old.held →
      AllByRecursion (λ i. i.number < n) new.held

-- without the instance of a number
pub record IsDropped (number : ℕ) (old new : Leaf) : Type 0 where
  pub instances : kept_in new ≡ filter (λ i. not (nat_eq i.number number)) (kept_in old)
  pub starting : starting_of (page_of number) new
      ≡ filter (λ n. not (nat_eq n number)) (starting_of (page_of number) old)
  pub leaf : IsLeaf (page_of number) new
  pub below : (n : ℕ) → AllByRecursion (λ i. i.number < n) old.held →
      AllByRecursion (λ i. i.number < n) new.held

-- what a page holds with one more instance, where it held the first list: with all of it, or with what
-- was kept alone
abbrev pub Grows : ℕ → Instance → List Instance → List Instance → Type 0
Grows kept x h held = (held ≡ h ++ x ∷ []) ⊎ (held ≡ filter (has_number kept) h ++ x ∷ [])

-- the same after a step
abbrev pub HoldsAfterStep : ℕ → Step → List Instance → List Instance → Type 0
HoldsAfterStep kept s h held =
    (held ≡ map (after_step s) h) ⊎ (held ≡ map (after_step s) (filter (has_number kept) h))
