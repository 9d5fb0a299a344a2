-- Puzzles that a search over choices solves.
use Rattle.std.specs.Prelude.{ℕ, ◌≡◌, ◌<◌, ◌≤◌, List, [], ◌∷◌, ◌++◌, length, slice_index, Any}
use Rattle.std.proofs.Common.{◌∙◌, sym, append_assoc}
use Rattle.std.proofs.lemmas.List.{append_cancel_left}
use Rattle.rn_choices_uses.specs.declared.puzzle.Clash.{Clash}

-- both numbers of the clash stand at their cells
abbrev pub Clashes : List ℕ → Clash → Type 0
Clashes s c =
    ((c.one < length s) × (slice_index s c.one ≡ c.value))
    × ((c.other < length s) × (slice_index s c.other ≡ c.other_value))

-- each cell has a number below its size, and there is no clash
abbrev pub IsSolution : List ℕ → List Clash → List ℕ → Type 0
IsSolution sizes clashes s =
    (length s ≡ length sizes)
    × ((k : ℕ) → k < length sizes → slice_index s k < slice_index sizes k)
    × (Any (λ c. Clashes s c) clashes → ⊥)

abbrev pub BeginsWith : List ℕ → List ℕ → Type 0
BeginsWith s ds = (rest : List ℕ) × (s ≡ ds ++ rest)

abbrev pub Leads : List ℕ → List Clash → List ℕ → List ℕ → Type 0
Leads sizes clashes ds s = IsSolution sizes clashes s × BeginsWith s ds

-- there are no more numbers than cells, each below the size of its cell
abbrev pub FitIn : List ℕ → List ℕ → Type 0
FitIn sizes ds =
    (length ds ≤ length sizes) × ((k : ℕ) → k < length ds → slice_index ds k < slice_index sizes k)

pub leads_shorter : (sizes : List ℕ) (clashes : List Clash) (ds es s : List ℕ) →
    Leads sizes clashes (ds ++ es) s → Leads sizes clashes ds s
leads_shorter sizes clashes ds es s led = (
  led.0,
  (
    es ++ led.1.0,
    led.1.1
        ∙ append_assoc ds es led.1.0,
  ),
)

pub leads_one_way : (sizes : List ℕ) (clashes : List Clash) (ds : List ℕ) (a b : ℕ) (s : List ℕ) →
    Leads sizes clashes (ds ++ a ∷ []) s → Leads sizes clashes (ds ++ b ∷ []) s → a ≡ b
leads_one_way sizes clashes ds a b s one other =
    let same : a ∷ one.1.0 ≡ b ∷ other.1.0 = append_cancel_left ds (a ∷ one.1.0) (b ∷ other.1.0)
    (sym (append_assoc ds (a ∷ []) one.1.0) ∙ sym one.1.1 ∙ other.1.1
    ∙ append_assoc ds (b ∷ []) other.1.0) in
    cc
