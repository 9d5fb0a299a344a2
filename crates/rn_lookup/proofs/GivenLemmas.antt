-- As many values as variables.
use Rattle.std.proofs.Common.{◌≡◌, ℕ, suc, Bool, true, false, List, [], ◌∷◌, length, refl, ap}
use Rattle.std.proofs.lemmas.Bool.{false≢true}
use Rattle.rn_items.proofs.Bools.{both_true}
use Rattle.rn_model.specs.declared.system.Net.{Net}
use Rattle.rn_lines.specs.NodeText.{Given}
use Rattle.rn_lookup.specs.Found.{fits_var, values_fit}

-- values that fit are as many as the variables
pub as_many : (net : Net) (given : List Given) (xs : List ℕ) → values_fit net given xs ≡ true →
    length given ≡ length xs
as_many net [] [] fit = refl
as_many net [] (x ∷ xs) fit = absurd (false≢true fit)
as_many net (g ∷ given) [] fit = absurd (false≢true fit)
as_many net (g ∷ given) (x ∷ xs) fit =
    ap suc (as_many net given xs (both_true (fits_var net x g.value) _ fit).1)

-- other numbers of values don't fit
pub other_number : (net : Net) (given : List Given) (xs : List ℕ) →
    (length given ≡ length xs → ⊥) → false ≡ values_fit net given xs
other_number net given xs apart = by (values_fit net given xs) (as_many net given xs)
  where
    by : (b : Bool) → (b ≡ true → length given ≡ length xs) → false ≡ b
    by false many = refl
    by true many = absurd (apart (many refl))
