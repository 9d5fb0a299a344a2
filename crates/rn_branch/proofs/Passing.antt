-- Whether a binding passes, part by part.
use Rattle.std.proofs.Common.{◌≡◌, ℕ, Bool, true, false, sym, subst}
use Rattle.std.specs.Prelude.{◌↔◌, IsTrue}
use Rattle.rn_model.specs.declared.binding.Binding.{Binding}
use Rattle.rn_model.specs.declared.system.System.{System}
use Rattle.rn_model.specs.Agreement.{Agrees}
use Rattle.rn_model.specs.Bindings.{Shape}
use Rattle.rn_model.specs.Enabling.{Fits}
use Rattle.rn_model.specs.Markings.{Marking}
use Rattle.rn_search.specs.Sought.{Sought}
use Rattle.rn_search.specs.Solving.{Passes}

module _ (sought : Sought) (b : Binding) (system : System) (depth : ℕ)
    (same : system ≡ sought.system) (deep : depth ≡ sought.depth) where
  its_shape : Shape system b depth → Shape sought.system b sought.depth
  its_shape shape =
      subst (λ d. Shape sought.system b d) deep (subst (λ s. Shape s b depth) same shape)

  a_shape : Shape sought.system b sought.depth → Shape system b depth
  a_shape shape =
      subst (λ s. Shape s b depth) (sym same)
      (subst (λ d. Shape sought.system b d) (sym deep) shape)

  without : ¬ Passes sought b → IsTrue false ↔ Passes sought b
  without never = (λ y. absurd (let never : ⊥ = cc in never), λ passes. absurd (never passes))

  pub fails_shape : (yes : Bool) → (IsTrue yes ↔ Shape system b depth) → yes ≡ false →
      IsTrue false ↔ Passes sought b
  fails_shape told shape fails =
      without (λ passes. let is = shape.1 (a_shape passes.shape) in let never : ⊥ = cc in never)

  pub fails_agreeing : (yes : Bool) → (IsTrue yes ↔ Agrees system b) → yes ≡ false →
      IsTrue false ↔ Passes sought b
  fails_agreeing told agrees fails =
      without (λ passes.
      let is = agrees.1 (subst (λ s. Agrees s b) (sym same) passes.agrees) in
      let never : ⊥ = cc in never)

  pub passes_fitting : (shaped agreed yes : Bool) (m : Marking) → m ≡ sought.marking →
      (IsTrue shaped ↔ Shape system b depth) → shaped ≡ true →
      (IsTrue agreed ↔ Agrees system b) → agreed ≡ true →
      (IsTrue yes ↔ Fits system m b) → IsTrue yes ↔ Passes sought b
  passes_fitting shaped agreed told m marking shape shapes agrees agree fits =
      let fit : IsTrue told ↔ Fits sought.system sought.marking b =
      subst (λ n. IsTrue told ↔ Fits sought.system n b) marking
      (subst (λ s. IsTrue told ↔ Fits s m b) same fits) in (
        λ y. record {
          shape = its_shape (shape.0 shapes);
          agrees = subst (λ s. Agrees s b) same (agrees.0 agree);
          fits = fit.0 y;
        },
        λ passes. fit.1 passes.fits,
      )
