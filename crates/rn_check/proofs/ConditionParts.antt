-- The comparisons of a condition in which nothing is broken.
use Rattle.std.proofs.Common.{◌≡◌, ℕ, List, [], ◌∷◌, ◌++◌, map, sym, ap, ◌∙◌, subst}
use Rattle.std.specs.Prelude.{flat_map}
use Rattle.std.specs.List.{AllByRecursion}
use Rattle.rn_model.specs.declared.expr.Expr.{Expr}
use Rattle.rn_model.specs.declared.expr.CompareKind.{CompareKind}
use Rattle.rn_model.specs.declared.expr.Cond.{Cond, Cond-F, roll-Cond, fold-roll-Cond}
use Rattle.rn_model.specs.declared.expr.Simple.{Simple, map-Simple, out-Simple, fold_out-Simple}
use Rattle.rn_model.specs.declared.expr.Simple.{fold-Simple}
use Rattle.rn_model.specs.declared.expr.Simple.TheVariants as Simple
use Rattle.rn_model.specs.Good.{Comparison, comparisons_in, comparisons_step}
use Rattle.rn_model.proofs.EachElement.{each_append}
use Rattle.rn_inscript.specs.declared.exprs.PExpr.{PExpr}
use Rattle.rn_inscript.specs.declared.conds.PCond.{PCond, PCond-F, ind-PCond, fold-roll-PCond}
use Rattle.rn_inscript.specs.declared.conds.PSimple.{PSimple, map-PSimple, roll-PSimple}
use Rattle.rn_inscript.specs.declared.conds.PSimple.{fold-PSimple, fold-roll-PSimple}
use Rattle.rn_inscript.specs.declared.conds.PSimple.TheOpen as T
use Rattle.rn_inscript.specs.Conditions.{any_of}
use Rattle.rn_declared.specs.declared.fault.Fault.{Fault}
use Rattle.rn_declared.specs.declared.fault.Rule.TheVariants as Rule
use Rattle.rn_declared.specs.Faults.{broken}
use Rattle.rn_rules.specs.Expressions.{Where, seen_of}
use Rattle.rn_rules.specs.Conditions.{condition_faults, simple_seen, simple_faults, compared_faults}
use Rattle.rn_rules.specs.Conditions.{bare_faults}
use Rattle.rn_numbered.specs.Numbered.{expr_of, cond_of, simple_of_form}
use Rattle.rn_spelled.specs.WellFormed.{exprs_in, simple_exprs_step}
use Rattle.rn_declared.proofs.Faultless.{both_nil}

abbrev Told : Type 0
Told = Where → List Fault

abbrev NumberedSimple : Type 0
NumberedSimple = (List ℕ → ℕ) → Simple

abbrev NumberedCond : Type 0
NumberedCond = (List ℕ → ℕ) → Cond

abbrev told_joined : PCond-F Told Told → Told
told_joined = λ cond place. flat_map (λ simples. flat_map (λ simple. simple place) simples) cond.any

abbrev numbered_joined : PCond-F NumberedSimple NumberedCond → NumberedCond
numbered_joined = λ cond var. roll-Cond (record { any = map (map (λ simple. simple var)) cond.any })

abbrev exprs_joined : PCond-F (List PExpr) (List PExpr) → List PExpr
exprs_joined = λ cond. flat_map (λ simples. flat_map (λ s. s) simples) cond.any

abbrev compared_joined : Cond-F (List Comparison) (List Comparison) → List Comparison
compared_joined = λ cond. flat_map (λ list. flat_map (λ c. c) list) cond.any

abbrev simple_of : PSimple → NumberedSimple
simple_of = fold-PSimple NumberedSimple NumberedCond simple_of_form numbered_joined

abbrev simple_exprs : PSimple → List PExpr
simple_exprs = fold-PSimple (List PExpr) (List PExpr) simple_exprs_step exprs_joined

abbrev compared_in : Simple → List Comparison
compared_in = fold-Simple (List Comparison) (List Comparison) comparisons_step compared_joined

compared-out : (x : Simple) →
    compared_in x
    ≡ comparisons_step
    (map-Simple Simple Cond (List Comparison) (List Comparison) compared_in comparisons_in
    (out-Simple x))
compared-out x = fold_out-Simple (List Comparison) (List Comparison) comparisons_step
    compared_joined x

compared-Compare : (kind : CompareKind) (a b : Expr) →
    compared_in (Simple.Compare kind a b) ≡ (record { kind = kind; left = a; right = b }) ∷ []
compared-Compare kind a b =
    compared-out (Simple.Compare kind a b) ∙ rw (Simple.outs-Compare kind a b)

compared-Not : (cond : Cond) → compared_in (Simple.Not cond) ≡ comparisons_in cond
compared-Not cond = compared-out (Simple.Not cond) ∙ rw (Simple.outs-Not cond)

module _ (at : Where) (var : List ℕ → ℕ) (R : PExpr → Type 0) (Q : Comparison → Type 0)
    (compare : (kind : CompareKind) (a b : PExpr) → R a → R b →
    compared_faults kind (seen_of a at) (seen_of b at) ≡ [] →
    Q (record { kind = kind; left = expr_of a var; right = expr_of b var })) where
  abbrev SimpleHas : PSimple → Type 0
  SimpleHas s = AllByRecursion R (simple_exprs s) → simple_seen s at ≡ [] →
      AllByRecursion Q (compared_in (simple_of s var))

  abbrev CondHas : PCond → Type 0
  CondHas c = AllByRecursion R (exprs_in c) → condition_faults c at ≡ [] →
      AllByRecursion Q (comparisons_in (cond_of c var))

  abbrev SimplePart : Type 0
  SimplePart = (s : PSimple) × SimpleHas s

  abbrev CondPart : Type 0
  CondPart = (c : PCond) × CondHas c

  abbrev heads : T.PSimple-F SimplePart CondPart → T.PSimple-F PSimple PCond
  heads y = map-PSimple SimplePart CondPart PSimple PCond (λ e. e.0) (λ e. e.0) y

  open_simple : (y : T.PSimple-F SimplePart CondPart) →
      AllByRecursion R (simple_exprs_step
      (map-PSimple PSimple PCond (List PExpr) (List PExpr) simple_exprs exprs_in (heads y))) →
      simple_faults (map-PSimple PSimple PCond Told Told simple_seen condition_faults (heads y)) at
      ≡ [] →
      AllByRecursion Q (compared_in (simple_of_form
      (map-PSimple PSimple PCond NumberedSimple NumberedCond simple_of cond_of (heads y)) var))
  unfolding bare_faults
  open_simple (T.Compare kind a b) (ra, (rb, end)) e =
      subst (AllByRecursion Q)
      (sym (compared-Compare kind (expr_of a var) (expr_of b var)))
      (compare kind a b ra rb e, tt)
  open_simple (T.Bare x) r e =
      let none = both_nil (seen_of x at).faults (broken Rule.Comparison (seen_of x at).spot ∷ [])
      e in
      absurd (let h = none.1 in let no : ⊥ = cc in no)
  open_simple (T.Not c) r e =
      subst (AllByRecursion Q)
      (sym (compared-Not (cond_of c.0 var))) (c.1 r e)

  simple_layer : (y : T.PSimple-F SimplePart CondPart) → SimpleHas (roll-PSimple (heads y))
  simple_layer y r e =
      subst (λ s. AllByRecursion Q (compared_in (s var)))
      (sym (fold-roll-PSimple NumberedSimple NumberedCond simple_of_form numbered_joined (heads y)))
      (open_simple y
      (subst (AllByRecursion R)
      (fold-roll-PSimple (List PExpr) (List PExpr) simple_exprs_step exprs_joined (heads y)) r)
      (sym (ap (λ f. f at) (fold-roll-PSimple Told Told simple_faults told_joined (heads y))) ∙ e))

  split_each : {A : Type 0} (P : A → Type 0) (xs ys : List A) → AllByRecursion P (xs ++ ys) →
      AllByRecursion P xs × AllByRecursion P ys
  split_each P [] ys all = (tt, all)
  split_each P (x ∷ xs) ys (here, later) =
      let both = split_each P xs ys later in ((here, both.0), both.1)

  simples_have : (parts : List SimplePart) →
      AllByRecursion R (flat_map (λ s. s) (map simple_exprs (map (λ e. e.0) parts))) →
      flat_map (λ simple. simple at) (map simple_seen (map (λ e. e.0) parts)) ≡ [] →
      AllByRecursion Q (flat_map (λ c. c)
      (map compared_in (map (λ s. s var) (map simple_of (map (λ e. e.0) parts)))))
  simples_have [] r e = tt
  simples_have (part ∷ parts) r e =
      let heads = map (λ (e : SimplePart). e.0) parts in
      let rs = split_each R (simple_exprs part.0) (flat_map (λ s. s) (map simple_exprs heads)) r in
      let none = both_nil (simple_seen part.0 at)
      (flat_map (λ simple. simple at) (map simple_seen heads)) e in
      each_append Q (compared_in (simple_of part.0 var))
      (flat_map (λ c. c) (map compared_in (map (λ s. s var) (map simple_of heads))))
      (part.1 rs.0 none.0) (simples_have parts rs.1 none.1)

  lists_have : (parts : List (List SimplePart)) →
      AllByRecursion R (flat_map (λ simples. flat_map (λ s. s) simples)
      (map (map simple_exprs) (map (map (λ e. e.0)) parts))) →
      flat_map (λ simples. flat_map (λ simple. simple at) simples)
      (map (map simple_seen) (map (map (λ e. e.0)) parts)) ≡ [] →
      AllByRecursion Q (flat_map (λ list. flat_map (λ c. c) list) (map (map compared_in)
      (map (map (λ s. s var)) (map (map simple_of) (map (map (λ e. e.0)) parts)))))
  lists_have [] r e = tt
  lists_have (part ∷ parts) r e =
      let here : List PSimple = map (λ e. e.0) part in
      let later : List (List PSimple) = map (map (λ e. e.0)) parts in
      let rs = split_each R (flat_map (λ s. s) (map simple_exprs here))
      (flat_map (λ simples. flat_map (λ s. s) simples) (map (map simple_exprs) later)) r in
      let none = both_nil (flat_map (λ simple. simple at) (map simple_seen here))
      (flat_map (λ simples. flat_map (λ simple. simple at) simples) (map (map simple_seen) later))
      e in
      each_append Q
      (flat_map (λ c. c) (map compared_in (map (λ s. s var) (map simple_of here))))
      (flat_map (λ list. flat_map (λ c. c) list) (map (map compared_in)
      (map (map (λ s. s var)) (map (map simple_of) later))))
      (simples_have part rs.0 none.0) (lists_have parts rs.1 none.1)

  cond_layer : (y : PCond-F SimplePart CondPart) → CondHas (any_of (map (map (λ e. e.0)) y.any))
  cond_layer y r e =
      let all : List (List PSimple) = map (map (λ e. e.0)) y.any in
      let rolled : PCond-F PSimple PCond = record { any = all } in
      let numbered : List (List Simple) = map (map (λ s. s var)) (map (map simple_of) all) in
      subst (λ c. AllByRecursion Q (comparisons_in (c var)))
      (sym (fold-roll-PCond NumberedSimple NumberedCond simple_of_form numbered_joined rolled))
      (subst (AllByRecursion Q)
      (sym (fold-roll-Cond (List Comparison) (List Comparison) comparisons_step compared_joined
      (record { any = numbered })))
      (lists_have y.any
      (subst (AllByRecursion R)
      (fold-roll-PCond (List PExpr) (List PExpr) simple_exprs_step exprs_joined rolled) r)
      (sym (ap (λ f. f at) (fold-roll-PCond Told Told simple_faults told_joined rolled)) ∙ e)))

  pub comparisons_have : (c : PCond) → AllByRecursion R (exprs_in c) →
      condition_faults c at ≡ [] → AllByRecursion Q (comparisons_in (cond_of c var))
  comparisons_have = ind-PCond SimpleHas CondHas
      (λ x y is. subst (λ w. SimpleHas (roll-PSimple w)) is (simple_layer y))
      (λ x y is. subst (λ (w : PCond-F PSimple PCond). CondHas (any_of w.any)) is (cond_layer y))
