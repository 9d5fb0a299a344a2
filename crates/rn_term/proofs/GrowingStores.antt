-- What a store says with one more term.
use Rattle.std.proofs.Common.{◌≡◌, ◌≤◌, ◌+◌, ℕ, List, [], ◌∷◌, ◌++◌, arith, length}
use Rattle.std.proofs.Common.{sym, ◌∙◌, ap, subst, length-append}
use Rattle.std.proofs.lemmas.List.{get_or_append_left}
use Rattle.std.proofs.Math.Seq.{get_or-append_seam}
use Rattle.rn_value.specs.declared.value.Value.{Value}
use Rattle.rn_value.specs.declared.value.Value.TheVariants as Value
use Rattle.rn_term.specs.declared.term.Term.{Term}
use Rattle.rn_term.specs.declared.term.Term.TheVariants as T
use Rattle.rn_term.specs.Stores.{State, term_at, IsBuiltBelow, with_term}
use Rattle.rn_term.specs.Assignments.{value_at, HasValue, Satisfies, Keeps}
use Rattle.rn_term.specs.Laws.{TermsExtend}
use Rattle.rn_term.proofs.AssignmentLemmas.{value_stays, parts_stay, link_within, satisfies_term}

-- a term had its value already without the values of later ids
pub has_before : (vs ws : List Value) (n : ℕ) (t : Term) (v : Value) → n ≤ length vs →
    IsBuiltBelow n t → HasValue (vs ++ ws) t v → HasValue vs t v
has_before vs ws n T.Free v room below has = tt
has_before vs ws n (T.Atom w) v room below has = has
has_before vs ws n (T.Tuple ids) v room below has =
    has ∙ ap (λ xs. Value.Tuple xs) (sym (parts_stay vs ws n ids room below))
has_before vs ws n (T.List ids) v room below has =
    has ∙ ap (λ xs. Value.List xs) (sym (parts_stay vs ws n ids room below))
has_before vs ws n (T.Cons ids tail) v room below has = (
  has.0,
  sym (value_stays vs ws tail (omega (arith, below.2, room))) ∙ has.1,
  has.2 ∙ ap (λ xs. Value.List (xs ++ has.0)) (sym (parts_stay vs ws n ids room below.0)),
)

value_here : (vs : List Value) (v : Value) (n : ℕ) → length vs ≡ n → value_at (vs ++ v ∷ []) n ≡ v
value_here vs v n each =
    subst (λ k. value_at (vs ++ v ∷ []) k ≡ v) each (get_or-append_seam vs v [] (Value.Tuple []))

satisfied_prefix : (s : State) (t : Term) (vs : List Value) (v : Value) → Keeps s →
    length vs ≡ length s.terms → Satisfies (with_term s t) (vs ++ v ∷ []) → Satisfies s vs
satisfied_prefix s t vs v keeps each sat =
    let long : length (s.terms ++ t ∷ []) ≡ length s.terms + 1 = length-append s.terms (t ∷ []) in
    record {
      each = each;
      terms = λ id small.
          has_before vs (v ∷ []) id (term_at s id) (value_at vs id) (rw each (omega (arith, small)))
          (keeps.built id small)
          (subst (λ x. HasValue (vs ++ v ∷ []) (term_at s id) x)
          (value_stays vs (v ∷ []) id (rw each small))
          (subst (λ u. HasValue (vs ++ v ∷ []) u (value_at (vs ++ v ∷ []) id))
          (get_or_append_left s.terms (t ∷ []) T.Free id small)
          (sat.terms id (omega (arith, small, long)))));
      links = λ id to is.
          let both = link_within s keeps id to is in
          sym (value_stays vs (v ∷ []) id (rw each both.0)) ∙ sat.links id to is
          ∙ value_stays vs (v ∷ []) to (rw each both.1);
    }

last_has : (s : State) (t : Term) (vs : List Value) (v : Value) →
    IsBuiltBelow (length s.terms) t → length vs ≡ length s.terms →
    Satisfies (with_term s t) (vs ++ v ∷ []) → HasValue vs t v
last_has s t vs v built each sat =
    let long : length (s.terms ++ t ∷ []) ≡ length s.terms + 1 = length-append s.terms (t ∷ []) in
    has_before vs (v ∷ []) (length s.terms) t v (rw each (omega arith)) built
    (subst (λ x. HasValue (vs ++ v ∷ []) t x) (value_here vs v (length s.terms) each)
    (subst
    (λ u. HasValue (vs ++ v ∷ []) u (value_at (vs ++ v ∷ []) (length s.terms)))
    (get_or-append_seam s.terms t [] T.Free)
    (sat.terms (length s.terms) (omega (arith, long)))))

-- one more term adds just its own value to what satisfies the store
pub terms_extend : TermsExtend
terms_extend s t vs v keeps built each = (
  λ sat. (satisfied_prefix s t vs v keeps each sat, last_has s t vs v built each sat),
  λ both. satisfies_term s t vs v keeps built both.0 both.1,
)
