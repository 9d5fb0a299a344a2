-- Which decision makes an instance.
use Rattle.std.proofs.Common.{◌≡◌, ℕ, true, List, sym, ap, ◌∙◌}
use Rattle.std.specs.Prelude.{Some, None, option_map, unwrap_or, nat_eq, nat_lt, length}
use Rattle.std.specs.Cmp.Lexicographic.{pointwise}
use Rattle.rn_value.specs.declared.value.InstRef.{InstRef}
use Rattle.rn_value.specs.declared.value.InstRef.TheVariants.{Old, New}
use Rattle.rn_model.specs.declared.system.System.{System}
use Rattle.rn_model.proofs.LiveByRounds.{contained_any}
use Rattle.rn_growing.specs.declared.decision.Decision.{Decision}
use Rattle.rn_growing.specs.declared.decision.Decision.TheVariants.{Entered, Found, Computed}
use Rattle.rn_growing.specs.Decisions.{transition_in}
use Rattle.rn_growing.proofs.Growth.{at_in}
use Rattle.rn_search.specs.declared.point.Called.TheVariants.{Kept, Made}
use Rattle.rn_search.specs.Making.{makes, is_made}
use Rattle.rn_search.specs.Points.{node_on}
use Rattle.rn_looking.specs.Calling.{IsCalledOn, IsMaker}
use Rattle.rn_items.proofs.Numbers.{same_numbers}
use Rattle.rn_items.proofs.Bools.{both_true}

makes_on : (system : System) (path : List ℕ) (j : ℕ) (d : Decision) →
    makes system path j d ≡ true → (node_on d).path ≡ path
makes_on system path j (Entered head caller) is =
    same_numbers head.path path
    (both_true (pointwise nat_eq head.path path)
    (nat_lt j (length (transition_in system head).creations)) is).0
makes_on system path j (Found head k v) is = absurd (let no : ⊥ = cc in no)
makes_on system path j (Computed head site way v) is = absurd (let no : ⊥ = cc in no)

module _ (system : System) (ds : List Decision) (inst : InstRef) where
  pub kept_is : (n : ℕ) → inst ≡ Old n → IsCalledOn system ds inst (Some (Kept n))
  kept_is n is = (ap (is_made system ds) is, λ sought. sym is)

  pub made_is : (path : List ℕ) (j k : ℕ) → inst ≡ New path j →
      IsMaker system ds path j (Some k) → IsCalledOn system ds inst (Some (Made k j))
  made_is path j k is (d, at, makes_it) = (
    ap (is_made system ds) is
        ∙ contained_any (makes system path j) ds d (at_in ds k d at) makes_it,
    λ sought.
        ap (λ p. New p j)
        (ap (λ o. (unwrap_or (option_map node_on o) sought.start).path) at
        ∙ makes_on system path j d makes_it)
        ∙ sym is,
  )

  pub unmade_is : (path : List ℕ) (j : ℕ) → inst ≡ New path j →
      IsMaker system ds path j None → IsCalledOn system ds inst None
  unmade_is path j is none = ap (is_made system ds) is ∙ none
