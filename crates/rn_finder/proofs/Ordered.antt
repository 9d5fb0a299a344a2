-- Bindings in order, each once.
use Rattle.std.proofs.Common.{◌≡◌, ◌≢◌, ◌+◌, List, length, get_or, Bool, false}
use Rattle.std.proofs.Common.{subst, sym, refl, ap, ◌∙◌, arith, Decides}
use Rattle.std.specs.Prelude.{Contains, AllPairs}
use Rattle.std.specs.List.{AllAdjacentBelow}
use Rattle.std.specs.List.Sorted.{IsPermutation, IsSorted}
use Rattle.std.specs.Ordering.{is_eq, is_lt, ordering_reverse}
use Rattle.std.specs.declared.cmp.Ordering.{Ordering}
use Rattle.std.specs.declared.cmp.Ordering.TheVariants.{Less, Equal, Greater}
use Rattle.std.proofs.lemmas.Bool.Decides.{same_from_decides}
use Rattle.std.proofs.lemmas.List.{get_or_default}
use Rattle.std.proofs.lemmas.List.Sorted.{ranks_by, sorted_far}
use Rattle.std.proofs.lemmas.Map.Keys.{IsDistinct-IsPermutation}
use Rattle.std.proofs.lemmas.Map.Made.{AllPairs-from_IsDistinct, IsDistinct-from_AllPairs}
use Rattle.rn_model.specs.declared.binding.Binding.{Binding}
use Rattle.rn_model.specs.Order.{binding_cmp}
use Rattle.rn_model.specs.link.OrderLaws.{binding_cmp-total}
use Rattle.rn_model.proofs.BindingOrder.{binding_cmp-apart, equal_iff_same}

-- whether two bindings are the same
abbrev is_same : Binding → Binding → Bool
is_same b c = is_eq (binding_cmp b c)

same_decides : (b c : Binding) → Decides (is_same b c) (b ≡ c)
same_decides b c = equal_iff_same b c

flips : (b c : Binding) → is_same b c ≡ is_same c b
flips b c = same_from_decides (is_same b c) (is_same c b)
    (λ e. (same_decides b c).0 e, λ e. (same_decides b c).1 e)
    (λ e. sym ((same_decides c b).0 e), λ e. (same_decides c b).1 (sym e))

-- each once, in another order too
pub still_once : (xs ys : List Binding) → IsPermutation xs ys → AllPairs (λ b c. b ≢ c) xs →
    AllPairs (λ b c. b ≢ c) ys
still_once xs ys moved once =
    AllPairs-from_IsDistinct same_decides ys
    (IsDistinct-IsPermutation is_same flips xs ys moved
    (IsDistinct-from_AllPairs same_decides xs once))

-- the one is less where the other isn't, and they differ
less_of : (o : Ordering) → is_lt (ordering_reverse o) ≡ false → (o ≡ Equal → ⊥) → o ≡ Less
less_of Less back differ = refl
less_of Equal back differ = absurd (differ refl)
less_of Greater back differ = absurd (let no : ⊥ = cc in no)

not_greater : (o : Ordering) → is_lt (ordering_reverse o) ≡ false → o ≢ Greater
not_greater Less back is = cc
not_greater Equal back is = cc
not_greater Greater back is = cc

reversed : (b c : Binding) → is_lt (binding_cmp c b) ≡ false →
    is_lt (ordering_reverse (binding_cmp b c)) ≡ false
reversed b c back = ap is_lt (sym (binding_cmp-total.antisymm c b)) ∙ back

-- sorted, and each once: each is less than the next
pub ascends : (xs : List Binding) → IsSorted binding_cmp xs → AllPairs (λ b c. b ≢ c) xs →
    AllAdjacentBelow (λ b c. binding_cmp b c ≡ Less) xs (length xs)
ascends xs up once k d within =
    less_of (binding_cmp (get_or xs k d) (get_or xs (k + 1) d))
    (reversed (get_or xs k d) (get_or xs (k + 1) d) (up k d (omega arith) within))
    (λ tied. once k (k + 1) d (omega arith) within
    (binding_cmp-apart (get_or xs k d) (get_or xs (k + 1) d) tied))

-- of sorted ones none is less than the first
pub sorted_is_least : (xs : List Binding) (first c : Binding) → IsSorted binding_cmp xs →
    first ≡ get_or xs 0 first → Contains xs c → binding_cmp first c ≢ Greater
sorted_is_least xs first c rising is (k, within, at) =
    let far = sorted_far (λ x y. is_lt (binding_cmp x y)) (ranks_by binding_cmp-total (λ x. x)) xs
    rising 0 k c (omega arith) within in
    let here : get_or xs 0 c ≡ first
    = get_or_default xs 0 c first (omega (arith, within)) ∙ sym is in
    let back : is_lt (binding_cmp c first) ≡ false
    = subst (λ b. is_lt (binding_cmp c b) ≡ false) here
    (subst (λ b. is_lt (binding_cmp b (get_or xs 0 c)) ≡ false) at far) in
    not_greater (binding_cmp first c) (reversed first c back)
