-- The first of some names.
use Rattle.std.proofs.Common.{◌≡◌, ◌<◌, ◌≤◌, ◌+◌, ◌-◌, ℕ, List, [], ◌∷◌, ◌++◌, length, get_or, take, sym, ap, ◌∙◌, arith}
use Rattle.std.specs.Prelude.{None, Some}
use Rattle.std.proofs.lemmas.List.{append-nil, length-append, take_more}
use Rattle.std.proofs.Math.Seq.{take-append_seam}
use Rattle.rn_value.specs.Names.{name_of}
use Rattle.rn_record.proofs.NamesInOrder.{numbered_name}

-- one name more is taken
pub taken_more : (names copied after : List (List ℕ)) (k : ℕ) (name : List ℕ) → k < length names →
    Some name ≡ name_of names (k + 1) → after ≡ copied ++ name ∷ [] → copied ≡ take k names →
    after ≡ take (k + 1) names
taken_more names copied after k name below got put so_far =
    let both : Some name ≡ Some (get_or names k []) = got ∙ numbered_name names k below in
    let same : name ≡ get_or names k [] = cc in
    put ∙ ap (λ ns. ns ++ name ∷ []) so_far ∙ ap (λ x. take k names ++ x ∷ []) same
    ∙ sym (take_more names k [] below)

-- and there is one
pub is_named : (names : List (List ℕ)) (k : ℕ) → k < length names → None ≡ name_of names (k + 1) → ⊥
is_named names k below got =
    let both : None ≡ Some (get_or names k []) = got ∙ numbered_name names k below in
    let no : ⊥ = cc in no

-- names without those that come after the first ones
pub cut_some : (names first more : List (List ℕ)) (count : ℕ) → names ≡ first ++ more →
    count ≡ length first → take count names ≡ first
cut_some names first more count is long =
    ap (take count) is ∙ ap (λ n. take n (first ++ more)) long ∙ take-append_seam first more

pub cut_none : (names first more : List (List ℕ)) → names ≡ first ++ more →
    length names ≤ length first → names ≡ first
cut_none names first [] is low = is ∙ append-nil first
cut_none names first (name ∷ more) is low =
    let all = ap length is in
    let both = length-append first (name ∷ more) in
    absurd (let no : ⊥ = omega (arith, all, both, low) in no)
