-- One step of a pass, by indices.
use Rattle.std.proofs.Common.{◌≡◌, ℕ, ◌+◌, ◌<◌, Bool, true, false, List, [], ◌∷◌, ◌++◌, length}
use Rattle.std.proofs.Common.{get_or, drop, sym, subst}
use Rattle.rn_model.specs.declared.system.System.{System}
use Rattle.rn_model.specs.declared.binding.Binding.{Binding}
use Rattle.rn_growing.specs.Grown.{Grown}
use Rattle.rn_binding.specs.declared.part.Part.{Part}
use Rattle.rn_binding.specs.link.Parts.{item_of, picked, AllWithin}
use Rattle.rn_binding.specs.link.Passing.{IsFollowed, BringsItem, IsPassed}
use Rattle.rn_binding.proofs.Passes.{one_tried, one_stays}
use Rattle.rn_binding.proofs.PickedParts.{picked_before, pick_more, more_within}

module _ (system : System) (b : Binding) (parts : List Part) (pending : List ℕ) (k m i : ℕ)
    (part : Part) (then : k + 1 ≡ m) (room : k < length pending) (is : i ≡ get_or pending k 0)
    (low : i < length parts) (at : part ≡ get_or parts i part) (old now next : Grown)
    (left : List ℕ) (answer : Bool)
    (passed : IsPassed system b old (picked parts (drop m pending)) now (picked parts left))
    (followed : IsFollowed system b next) (brings : BringsItem system b now (item_of part) next answer)
    (within : AllWithin parts left) where
  pub is_in : answer ≡ true →
      IsPassed system b old (picked parts (drop k pending)) next (picked parts left)
      × AllWithin parts left
  is_in e = (
    subst (λ xs. IsPassed system b old xs next (picked parts left))
        (sym (picked_before parts pending k m i part then room is low at))
        (one_tried system b old (picked parts (drop m pending)) (picked parts left) now
        (item_of part) next answer passed followed brings e),
    within,
  )

  pub is_left : answer ≡ false → (more : List ℕ) → more ≡ left ++ i ∷ [] →
      IsPassed system b old (picked parts (drop k pending)) next (picked parts more)
      × AllWithin parts more
  is_left e more more_is = subst (λ ks. IsPassed system b old (picked parts (drop k pending))
      next (picked parts ks) × AllWithin parts ks) (sym more_is) (
        subst (λ xs. IsPassed system b old xs next (picked parts (left ++ i ∷ [])))
            (sym (picked_before parts pending k m i part then room is low at))
            (subst (IsPassed system b old (item_of part ∷ picked parts (drop m pending)) next)
            (sym (pick_more parts left i part low at))
            (one_stays system b old (picked parts (drop m pending)) (picked parts left) now
            (item_of part) next answer passed followed brings e)),
        more_within parts left i within low,
      )
