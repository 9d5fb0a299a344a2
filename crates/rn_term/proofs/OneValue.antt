-- All assignments give a term without unbound variables one value.
use Rattle.std.proofs.Common.{◌≡◌, ◌<◌, ℕ, suc, List, [], ◌∷◌, ◌++◌, refl, arith, length, map}
use Rattle.std.proofs.Common.{sym, ◌∙◌, ap, subst, get_or}
use Rattle.rn_value.specs.declared.value.Value.{Value}
use Rattle.rn_value.specs.declared.value.Value.TheVariants as Value
use Rattle.rn_term.specs.declared.term.Term.{Term}
use Rattle.rn_term.specs.declared.term.Term.TheVariants as T
use Rattle.rn_term.specs.Stores.{State, term_at}
use Rattle.rn_term.specs.Assignments.{value_at, HasValue, Satisfies}
use Rattle.rn_term.specs.GroundTerms.{IsGround, GroundIsForced}
use Rattle.rn_value.proofs.Variants.{same_parts_of_lists}

same_map : (f g : ℕ → Value) (ids : List ℕ) →
    ((k : ℕ) → k < length ids → f (get_or ids k 0) ≡ g (get_or ids k 0)) → map f ids ≡ map g ids
same_map f g [] same = refl
same_map f g (id ∷ ids) same =
    ap (λ v. v ∷ map f ids) (same 0 (omega arith))
    ∙ ap (λ vs. g id ∷ vs) (same_map f g ids (λ k small. same (suc k) (omega (arith, small))))

-- what an assignment says of the term at an id
pub said : (s : State) (vs : List Value) (id : ℕ) (t : Term) → Satisfies s vs →
    id < length s.terms → term_at s id ≡ t → HasValue vs t (value_at vs id)
said s vs id t sat within is = subst (λ u. HasValue vs u (value_at vs id)) is (sat.terms id within)

with_tail : (vs ws : List Value) (ids : List ℕ) (tail : ℕ) (v w : Value) →
    HasValue vs (T.Cons ids tail) v → HasValue ws (T.Cons ids tail) w →
    map (value_at vs) ids ≡ map (value_at ws) ids → value_at vs tail ≡ value_at ws tail → v ≡ w
with_tail vs ws ids tail v w has other same end =
    has.2
    ∙ ap (λ xs. Value.List (xs ++ has.0)) same
    ∙ ap (λ rest. Value.List (map (value_at ws) ids ++ rest))
    (same_parts_of_lists has.0 other.0 (sym has.1 ∙ end ∙ other.1))
    ∙ sym other.2

one_value : (s : State) (vs ws : List Value) → Satisfies s vs → Satisfies s ws →
    (id : ℕ) → IsGround s id → value_at vs id ≡ value_at ws id
one_value s vs ws sat other _ (IsGround.atom id v within is) =
    said s vs id (T.Atom v) sat within is ∙ sym (said s ws id (T.Atom v) other within is)
one_value s vs ws sat other _ (IsGround.tuple id ids within is parts) =
    said s vs id (T.Tuple ids) sat within is
    ∙ ap (λ xs. Value.Tuple xs) (same_map (value_at vs) (value_at ws) ids
    (λ k small. one_value s vs ws sat other (get_or ids k 0) (parts k small)))
    ∙ sym (said s ws id (T.Tuple ids) other within is)
one_value s vs ws sat other _ (IsGround.list id ids within is parts) =
    said s vs id (T.List ids) sat within is
    ∙ ap (λ xs. Value.List xs) (same_map (value_at vs) (value_at ws) ids
    (λ k small. one_value s vs ws sat other (get_or ids k 0) (parts k small)))
    ∙ sym (said s ws id (T.List ids) other within is)
one_value s vs ws sat other _ (IsGround.cons id ids tail within is parts end) =
    with_tail vs ws ids tail (value_at vs id) (value_at ws id)
    (said s vs id (T.Cons ids tail) sat within is) (said s ws id (T.Cons ids tail) other within is)
    (same_map (value_at vs) (value_at ws) ids
    (λ k small. one_value s vs ws sat other (get_or ids k 0) (parts k small)))
    (one_value s vs ws sat other tail end)
one_value s vs ws sat other _ (IsGround.bound id to is at) =
    sat.links id to is ∙ one_value s vs ws sat other to at ∙ sym (other.links id to is)

pub ground_is_forced : GroundIsForced
ground_is_forced s id is vs ws sat other = one_value s vs ws sat other id is
