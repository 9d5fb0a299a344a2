-- Filling the cells of a puzzle in order.
use Rattle.std.proofs.Common.{◌≡◌, ℕ, ◌<◌, List, [], ◌∷◌, ◌++◌, length, slice_index, subst, sym}
use Rattle.std.proofs.Common.{◌∙◌, ap, refl, arith, append_assoc}
use Rattle.std.proofs.lemmas.List.{append-nil, get_or_at}
use Rattle.std.specs.Prelude.{Option, Result, Ok, Err, IfOk, IsNone, ◌↔◌}
use Rattle.rn_choices.specs.Leading.{NoneLeads}
use Rattle.rn_choices_uses.specs.declared.puzzle.Clash.{Clash}
use Rattle.rn_choices_uses.specs.Puzzles.{IsSolution, Leads}

next_value : (sizes : List ℕ) (clashes : List Clash) (ds s rest : List ℕ) →
    length ds < length sizes → IsSolution sizes clashes s → s ≡ ds ++ rest →
    (a : ℕ) × (a < slice_index sizes (length ds)) × Leads sizes clashes (ds ++ a ∷ []) s
next_value sizes clashes ds s [] within solution is =
    let long : length s ≡ length ds = ap length (is ∙ append-nil ds) in
    let whole = solution.0 in
    let no : ⊥ = omega arith in
    absurd no
next_value sizes clashes ds s (a ∷ rest) within solution is =
    let here : slice_index s (length ds) ≡ a
    = ap (λ l. slice_index l (length ds)) is ∙ get_or_at ds a rest 0 (length ds) refl in
    let below = solution.1 (length ds) within in (
      a,
      subst (λ x. x < slice_index sizes (length ds)) here below,
      (solution, (rest, is ∙ sym (append_assoc ds (a ∷ []) rest))),
    )

pub goes_on : (sizes : List ℕ) (clashes : List Clash) (ds s : List ℕ) → length ds < length sizes →
    Leads sizes clashes ds s → (a : ℕ) × (a < slice_index sizes (length ds))
    × Leads sizes clashes (ds ++ a ∷ []) s
goes_on sizes clashes ds s within led = next_value sizes clashes ds s led.1.0 within led.0 led.1.1

pub goes_on_alone : (sizes : List ℕ) (clashes : List Clash) (ds s : List ℕ) →
    length ds < length sizes →
    slice_index sizes (length ds) ≡ 1 → Leads sizes clashes ds s →
    Leads sizes clashes (ds ++ 0 ∷ []) s
goes_on_alone sizes clashes ds s within alone led =
    let goes = goes_on sizes clashes ds s within led in
    let below = goes.1 in
    let first : goes.0 ≡ 0 = omega arith in
    subst (λ a. Leads sizes clashes (ds ++ a ∷ []) s) first goes.2

-- there is no solution exactly where none begins with no numbers
pub none_solved : {E : Type 0} (sizes : List ℕ) (clashes : List Clash)
    (answer : Result (Option (List ℕ)) E) →
    IfOk answer (λ found. IsNone found ↔ NoneLeads (Leads sizes clashes) []) →
    IfOk answer (λ found. IsNone found ↔ ((s : List ℕ) → IsSolution sizes clashes s → ⊥))
none_solved sizes clashes (Ok found) is = (
  λ none s solution. is.0 none s (solution, (s, refl)),
  λ none. is.1 (λ s led. none s led.0),
)
none_solved sizes clashes (Err halt) is = tt
