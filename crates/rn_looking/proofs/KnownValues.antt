-- Variables beside the values to which they are forced.
use Rattle.std.proofs.Common.{◌≡◌, ℕ, zero, suc, ◌+◌, ◌<◌, true, false, List, [], ◌∷◌, ◌++◌, map}
use Rattle.std.proofs.Common.{length, get_or, take, refl, sym, ap, ◌∙◌, subst, arith, inl, inr}
use Rattle.std.specs.Prelude.{Some, None, All, Contains, nat_eq, if◌then◌else◌}
use Rattle.std.proofs.lemmas.Bool.{eq-eqb, eqb-true}
use Rattle.std.proofs.lemmas.List.{map-append, take_more}
use Rattle.std.proofs.lemmas.List.Elements.{All-push, Contains-append_cases, Contains-append_left}
use Rattle.std.proofs.lemmas.List.Elements.{Contains-append_right}
use Rattle.rn_value.specs.declared.value.Value.{Value}
use Rattle.rn_model.specs.declared.expr.Expr.{Expr}
use Rattle.rn_model.specs.Evaluation.{Env}
use Rattle.rn_model.specs.Lists.{value_beside}
use Rattle.rn_model.specs.Systems.{vars_in}
use Rattle.rn_model.proofs.EnablingLemmas.{not_in_nil}
use Rattle.rn_growing.specs.declared.decision.Head.{Head}
use Rattle.rn_growing.specs.Grown.{Grown}
use Rattle.rn_growing.proofs.Growth.{only_one}
use Rattle.rn_looking.specs.Forced.{IsVarForcedTo, Knows}
use Rattle.rn_looking.specs.Knowing.{ArePairsOf}
use Rattle.rn_looking.specs.Knowing.{AreOthersOf}
use Rattle.rn_looking.specs.NodeKinds.{AreForced}

-- one more variable
pub pair_more : (g : Grown) (path vars : List ℕ) (i x : ℕ) (v : Value)
    (pairs next : List (ℕ × Value)) → i < length vars → x ≡ get_or vars i 0 →
    next ≡ pairs ++ (x, v) ∷ [] → ArePairsOf g path (take i vars) pairs →
    IsVarForcedTo g path x v → ArePairsOf g path (take (i + 1) vars) next
pair_more g path vars i x v pairs next h is put so forced =
    subst (ArePairsOf g path (take (i + 1) vars)) (sym put) (
      map-append (λ p. p.0) pairs ((x, v) ∷ []) ∙ ap (λ xs. xs ++ x ∷ []) so.0
          ∙ ap (λ y. take i vars ++ y ∷ []) is ∙ sym (take_more vars i 0 h),
      All-push (λ p. IsVarForcedTo g path p.0 p.1) pairs (x, v) so.1 forced,
    )

-- a variable stands beside such a value
pub has_its_value : (P : ℕ → Value → Type 0) (pairs : List (ℕ × Value)) (x : ℕ) →
    All (λ p. P p.0 p.1) pairs → Contains (map (λ p. p.0) pairs) x →
    (v : Value) × (value_beside pairs x ≡ Some v) × P x v
has_its_value P [] x all there = absurd (not_in_nil x there)
has_its_value P (p ∷ pairs) x all (k, h, e) =
    elim (nat_eq p.0 x) as
    (λ b. nat_eq p.0 x ≡ b → (v : Value) ×
    ((if b then Some p.1 else value_beside pairs x) ≡ Some v) × P x v) [
      | true ↦ λ same.
          (p.1, refl, subst (λ y. P y p.1) (eqb-true p.0 x same) (all 0 p (omega arith)))
      | false ↦ λ other.
          has_its_value P pairs x (λ j d low. all (suc j) d (omega (arith, low)))
          (among_others p.0 x (map (λ q. q.0) pairs) other (k, h, e))
    ] refl
  where
    among_others : (y x : ℕ) (xs : List ℕ) → nat_eq y x ≡ false → Contains (y ∷ xs) x →
        Contains xs x
    among_others y x xs other (zero, h, e) =
        absurd (let same = eq-eqb y x e in let no : ⊥ = cc in no)
    among_others y x xs other (suc k, h, e) = (k, omega (arith, h), e)

-- so all variables of an expression are known
pub knows_by : (g : Grown) (head : Head) (e : Expr) (env : Env) (path vars : List ℕ)
    (pairs : List (ℕ × Value)) → env.this ≡ head.inst → env.step ≡ None → env.pairs ≡ pairs →
    path ≡ head.path → vars ≡ vars_in e → ArePairsOf g path vars pairs → Knows g head e env
knows_by g head e env path vars pairs this step pairs_are path_is vars_are so = record {
  this = this;
  step = step;
  forced = λ x occurs.
      let v = has_its_value (IsVarForcedTo g path) pairs x so.1
      (subst (λ xs. Contains xs x) (sym (so.0 ∙ vars_are)) occurs) in (
        v.0,
        subst (λ ps. value_beside ps x ≡ Some v.0) (sym pairs_are) v.1,
        subst (λ p. IsVarForcedTo g p x v.0) path_is v.2,
      );
}

-- and each stands beside what it is forced to
pub forced_by : (g : Grown) (head : Head) (path vars : List ℕ) (pairs : List (ℕ × Value)) →
    path ≡ head.path → ArePairsOf g path vars pairs → AreForced g head pairs
forced_by g head path vars pairs is so =
    subst (λ p. All (λ q. IsVarForcedTo g p q.0 q.1) pairs) is so.1

-- variables but one, one after another
module _ (g : Grown) (path : List ℕ) (but : ℕ) (vars : List ℕ) (i x : ℕ)
    (within : i < length vars) (is : x ≡ get_or vars i 0) (pairs : List (ℕ × Value))
    (so : AreOthersOf g path but (take i vars) pairs) where
  one_more : take (i + 1) vars ≡ take i vars ++ x ∷ []
  one_more = take_more vars i 0 within ∙ ap (λ y. take i vars ++ y ∷ []) (sym is)

  pub other_left_out : but ≡ x → AreOthersOf g path but (take (i + 1) vars) pairs
  other_left_out same =
      subst (λ xs. AreOthersOf g path but xs pairs) (sym one_more) (record {
        forced = so.forced;
        each = λ y there.
            elim (Contains-append_cases (take i vars) (x ∷ []) y there) [
              | inl before ↦ so.each y before
              | inr last ↦ inl (same ∙ only_one x y last)
            ];
      })

  pub other_more : (v : Value) (next : List (ℕ × Value)) → next ≡ pairs ++ (x, v) ∷ [] →
      IsVarForcedTo g path x v → AreOthersOf g path but (take (i + 1) vars) next
  other_more v next put forced =
      let keys : map (λ p. p.0) (pairs ++ (x, v) ∷ []) ≡ map (λ p. p.0) pairs ++ x ∷ [] =
      map-append (λ p. p.0) pairs ((x, v) ∷ []) in
      subst (λ xs. AreOthersOf g path but xs next) (sym one_more)
      (subst (AreOthersOf g path but (take i vars ++ x ∷ [])) (sym put) (record {
        forced = All-push (λ p. IsVarForcedTo g path p.0 p.1) pairs (x, v) so.forced forced;
        each = λ y there.
            elim (Contains-append_cases (take i vars) (x ∷ []) y there) [
              | inl before ↦
                  elim (so.each y before) [
                    | inl same ↦ inl same
                    | inr beside ↦
                        inr (subst (λ ks. Contains ks y) (sym keys)
                        (Contains-append_left (map (λ p. p.0) pairs) (x ∷ []) y beside))
                  ]
              | inr last ↦
                  inr (subst (λ ks. Contains ks y) (sym keys)
                  (Contains-append_right (map (λ p. p.0) pairs) (x ∷ []) y last))
            ];
      }))
