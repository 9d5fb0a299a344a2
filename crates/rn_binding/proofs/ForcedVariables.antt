-- Variables of a node that are forced.
use Rattle.std.proofs.Common.{◌≡◌, ℕ, ◌+◌, ◌<◌, true, false, List, length, get_or, refl, ap, sym}
use Rattle.std.proofs.Common.{◌∙◌, subst, arith}
use Rattle.std.proofs.lemmas.List.{get_or_default}
use Rattle.std.proofs.lemmas.Bool.Decides.{nat_tests}
use Rattle.std.specs.Prelude.{◌↔◌, All, nat_lt}
use Rattle.rn_model.specs.declared.system.System.{System}
use Rattle.rn_model.specs.declared.system.Transition.{Transition}
use Rattle.rn_model.specs.declared.binding.Node.{Node}
use Rattle.rn_model.specs.Systems.{transition_of}
use Rattle.rn_growing.specs.Grown.{Grown}
use Rattle.rn_binding.specs.link.Passing.{IsVarForcedOn, AreVarsForced}

pub of_node : (system : System) (g : Grown) (node : Node) (t : Transition) (path vars : List ℕ) →
    path ≡ node.path → vars ≡ t.vars → t ≡ transition_of system node →
    All (IsVarForcedOn g path) vars ↔ AreVarsForced system g node
of_node system g node t path vars path_is vars_are t_is =
    subst (λ p. All (IsVarForcedOn g p) vars ↔ AreVarsForced system g node) (sym path_is)
    (subst (λ xs. All (IsVarForcedOn g node.path) xs ↔ AreVarsForced system g node)
    (sym (vars_are ∙ ap (λ u. u.vars) t_is)) (λ all. all, λ all. all))

-- what holds of those before an index, and at it, holds of one more
pub each_more : {X : Type 0} (P : X → Type 0) (xs : List X) (i : ℕ) (x : X) →
    i < length xs → x ≡ get_or xs i x → ((k : ℕ) (d : X) → k < i → P (get_or xs k d)) → P x →
    (k : ℕ) (d : X) → k < i + 1 → P (get_or xs k d)
each_more P xs i x h is before here k d low =
    elim (nat_lt k i) as (λ b. nat_lt k i ≡ b → P (get_or xs k d)) [
      | true ↦ λ e. before k d (grind (arith, nat_tests))
      | false ↦ λ e.
          let last : k ≡ i = grind (arith, nat_tests) in
          subst (λ j. P (get_or xs j d)) (sym last) (subst P (is ∙ get_or_default xs i x d h) here)
    ] refl
