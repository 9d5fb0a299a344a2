-- A state without instances that aren't live.
use Rattle.std.proofs.Common.{◌≡◌, ℕ, Bool, true, false, List, [], ◌∷◌, refl, sym, ap, ◌∙◌, subst, arith}
use Rattle.std.specs.Prelude.{◌||◌, Contains, filter, nat_eq}
use Rattle.std.specs.List.{list_any}
use Rattle.std.proofs.lemmas.Bool.{eqb-true}
use Rattle.rn_model.specs.declared.system.System.{System}
use Rattle.rn_model.specs.Liveness.{IsLive, Stands}
use Rattle.rn_model.specs.LivenessLaws.{without_instances}
use Rattle.rn_model.specs.Markings.{Marking}
use Rattle.rn_model.proofs.AskedValues.{later}
use Rattle.rn_model.proofs.StandingTables.{dropping_keeps, tables_have_the_same_live}
use Rattle.rn_table.specs.Staying.{stays}
use Rattle.rn_table.specs.Tables.{Kept}

-- the numbers that are dropped
abbrev pub are_dropped : List ℕ → ℕ → Bool
are_dropped numbers n = list_any (nat_eq n) numbers

by_first : (n k : ℕ) (numbers : List ℕ) (same : Bool) → nat_eq n k ≡ same →
    (are_dropped numbers n ≡ true → Contains numbers n) →
    same || are_dropped numbers n ≡ true → Contains (k ∷ numbers) n
by_first n k numbers true is rest e = (0, omega arith, sym (eqb-true n k is))
by_first n k numbers false is rest e = later k n numbers (rest e)

listed : (numbers : List ℕ) (n : ℕ) → are_dropped numbers n ≡ true → Contains numbers n
listed [] n e = absurd (let no : ⊥ = cc in no)
listed (k ∷ numbers) n e = by_first n k numbers (nat_eq n k) refl (listed numbers n) e

module _ (system : System) (table after : Kept) (m : Marking) (numbers : List ℕ)
    (next : after.marking.next ≡ table.marking.next)
    (instances : after.marking.instances ≡ filter (λ i. stays numbers i.number) table.marking.instances) where
  pub is_without : after.marking ≡ without_instances (are_dropped numbers) table.marking
  is_without =
      ap (λ k. let x : Marking = record { next = k; instances = after.marking.instances } in x) next
      ∙ ap (λ is. let x : Marking = record { next = table.marking.next; instances = is } in x) instances

  pub still_stands : Stands system table.marking m →
      ((n : ℕ) → Contains numbers n → ¬ IsLive system m n) → Stands system after.marking m
  still_stands stands dead =
      subst (λ x. Stands system x m) (sym is_without)
      (dropping_keeps system table.marking m (are_dropped numbers) stands (λ n drops live.
      dead n (listed numbers n drops) ((tables_have_the_same_live system table.marking m stands n).0 live)))
