-- A search that makes no choice.
use Rattle.std.proofs.Common.{◌≡◌, ◌≢◌, List, [], subst, sym, ap, ◌∙◌}
use Rattle.std.specs.Prelude.{Option, Some, None}
use Rattle.std.specs.Ordering.{ordering_reverse}
use Rattle.std.specs.declared.cmp.Ordering.TheVariants.{Less, Greater}
use Rattle.rn_model.specs.declared.binding.Binding.{Binding}
use Rattle.rn_model.specs.Order.{binding_cmp}
use Rattle.rn_model.specs.link.OrderLaws.{binding_cmp-total}
use Rattle.rn_choices.specs.Leading.{IsOnly}
use Rattle.rn_growing.specs.declared.decision.Decision.{Decision}
use Rattle.rn_search.specs.Sought.{Sought, Leads, StartsAt}
use Rattle.rn_finder.specs.First.{IsFirstOf}
use Rattle.rn_finder.proofs.Branches.{led}

-- all that is looked for follows the decisions
abbrev pub AllLed : Sought → List Decision → Type 0
AllLed sought ds = (b : Binding) → Leads sought [] b → Leads sought ds b

not_above_itself : (b : Binding) → binding_cmp b b ≢ Greater
not_above_itself b above =
    let back : binding_cmp b b ≡ Less =
    binding_cmp-total.antisymm b b ∙ ap ordering_reverse above in
    let no : ⊥ = cc in
    no

-- the only one is the first
pub only_is_first : (sought : Sought) (found : Option Binding) → IsOnly (Leads sought []) found →
    IsFirstOf sought.system sought.marking sought.depth (λ b. StartsAt b sought.start) found
only_is_first sought None none = λ b enabled starts. none b (led sought b enabled starts)
only_is_first sought (Some b) (leads, only) = (
  leads.enabled,
  leads.starts,
  λ c enabled starts. subst (λ x. binding_cmp b x ≢ Greater)
      (sym (only c (led sought c enabled starts))) (not_above_itself b),
)
