-- A transition in which nothing is broken is well kinded.
use Rattle.std.proofs.Common.{◌≡◌, ℕ, ◌<◌, Bool, true, false, ◌&&◌, List, [], ◌∷◌, ◌++◌}
use Rattle.std.proofs.Common.{map}
use Rattle.std.proofs.Common.{refl, sym, ap, ◌∙◌, subst, length, not, arith}
use Rattle.std.specs.Prelude.{Option, Some, None, is_none, is_some, slice_get, flat_map, nat_lt}
use Rattle.std.specs.Prelude.{if◌then◌else◌}
use Rattle.std.specs.Option.{option_map_or}
use Rattle.std.specs.List.{AllByRecursion, AllZip}
use Rattle.std.proofs.lemmas.List.{length-map}
use Rattle.std.proofs.lemmas.List.Elements.{All-from_recursion}
use Rattle.std.proofs.lemmas.Option.{same_Some}
use Rattle.std.proofs.lemmas.Bool.{not-false}
use Rattle.rn_value.specs.declared.value.Kind.{Kind, out-Kind, roll-Kind, roll-out-Kind}
use Rattle.rn_value.specs.declared.value.Kind.TheVariants as Kind
use Rattle.rn_value.specs.declared.value.Kind.TheOpen as K
use Rattle.rn_model.specs.declared.expr.Expr.TheVariants as E
use Rattle.rn_model.specs.declared.expr.CompareKind.{CompareKind}
use Rattle.rn_model.specs.declared.expr.CompareKind.TheVariants.{Same, Differs, Less, AtMost}
use Rattle.rn_model.specs.declared.expr.CompareKind.TheVariants.{Greater, AtLeast}
use Rattle.rn_model.specs.declared.system.ArcKind.{ArcKind}
use Rattle.rn_model.specs.declared.system.ArcKind.TheVariants.{Input, Output, Test, Reserve}
use Rattle.rn_model.specs.declared.system.ArcKind.TheVariants.{FlexInput, FlexOutput, Inhibit}
use Rattle.rn_model.specs.declared.system.ArcKind.TheVariants.{Clear}
use Rattle.rn_model.specs.Limits.{most_inscriptions}
use Rattle.rn_model.specs.Agreement.{inscribed_kind}
use Rattle.rn_model.specs.Kinds.{HasExprKind, ShareKind}
use Rattle.rn_model.specs.Systems.{var_kind_in, is_output}
use Rattle.rn_model.specs.Good.{CanCompare, IsGoodAction, IsGoodCall, IsGoodArc}
use Rattle.rn_model.specs.Good.{IsWellKinded, comparisons_in}
use Rattle.rn_model.proofs.EachElement.{each_map, each_flat_map, each_weaker}
use Rattle.rn_model.proofs.KindsOfValues.{same_is_equal}
use Rattle.rn_inscript.specs.declared.exprs.PExpr.{PExpr, out-PExpr, fold_out-PExpr}
use Rattle.rn_inscript.specs.declared.exprs.PForm.{PForm, out-PForm, map-PForm, fold_out-PForm}
use Rattle.rn_inscript.specs.declared.exprs.PForm.TheOpen as F
use Rattle.rn_inscript.specs.declared.conds.PCond.{PCond}
use Rattle.rn_inscript.specs.declared.inscriptions.PName.{PName}
use Rattle.rn_inscript.specs.declared.inscriptions.PInscribed.{PInscribed}
use Rattle.rn_inscript.specs.declared.inscriptions.PInscribed.TheVariants as I
use Rattle.rn_inscript.specs.declared.inscriptions.PInscription.{PInscription}
use Rattle.rn_net.specs.declared.kinds.PKind.{PKind}
use Rattle.rn_net.specs.declared.plain.Plain.{Plain}
use Rattle.rn_net.specs.declared.plain.PNet.{PNet}
use Rattle.rn_net.specs.declared.plain.PTransition.{PTransition}
use Rattle.rn_declared.specs.declared.fault.Rule.TheVariants as Rule
use Rattle.rn_declared.specs.declared.pattern.Pattern.{Pattern}
use Rattle.rn_declared.specs.declared.pattern.Pattern.TheVariants as Pattern
use Rattle.rn_declared.specs.declared.pattern.Pattern.TheOpen as P
use Rattle.rn_declared.specs.Faults.{broken, broken_if, past_limit}
use Rattle.rn_declared.specs.Patterns.{gives_kind, gives_step, share, pattern_of}
use Rattle.rn_rules.specs.Expressions.{Where, Seen, seen_of, apart, misfit, operand_faults}
use Rattle.rn_rules.specs.Expressions.{operands_faults, variable_faults}
use Rattle.rn_rules.specs.Conditions.{compared_faults, sides_faults, condition_faults}
use Rattle.rn_rules.specs.Counted.{counted_faults}
use Rattle.rn_rules.specs.Arcs.{asked_of, is_clear, is_name, is_variable, inscribed_faults}
use Rattle.rn_rules.specs.Arcs.{arc_faults}
use Rattle.rn_rules.specs.Calls.{misfits, channel_call_faults, call_faults, target_faults}
use Rattle.rn_rules.specs.Calls.{is_no_net, creation_faults}
use Rattle.rn_rules.specs.Actions.{value_faults}
use Rattle.rn_rules.specs.Transitions.{Progress, Scope, inscription_faults, inscriptions_faults}
use Rattle.rn_rules.specs.Transitions.{after, in_action, in_output, elsewhere, at_first}
use Rattle.rn_rules.specs.Transitions.{transition_faults}
use Rattle.rn_rules.specs.Systems.{scope_of}
use Rattle.rn_numbered.specs.Numbered.{Numbers, kind_of, expr_of, expr_of_form, cond_of}
use Rattle.rn_numbering.specs.Numbering.{numbered_net_of}
use Rattle.rn_numbering.specs.Numbering.{system_of, numbers_of}
use Rattle.rn_numbered.specs.Numbered.{equality_of, guard_of, action_of}
use Rattle.rn_numbered.specs.Numbered.{creation_of, uplink_of, downlink_of, arc_of, inscription_of}
use Rattle.rn_numbering.specs.Numbering.{transition_of}
use Rattle.rn_spelled.specs.WellFormed.{exprs_in}
use Rattle.rn_declared.proofs.PatternKinds.{gives-List, share_gives, gives_some}
use Rattle.rn_check.proofs.DeclaredKinds.{gives_itself}
use Rattle.rn_declared.proofs.Faultless.{both_nil, unbroken, holds}
use Rattle.rn_check.proofs.FaultlessExpressions.{not_apart, fits_asked}
use Rattle.rn_check.proofs.FaultlessExpressions.{only_net, net_shared, operand_fits}
use Rattle.rn_check.proofs.InscriptionParts.{set_parts, uplink_part, downlink_parts}
use Rattle.rn_check.proofs.ExpressionKinds.{has_its_kinds}
use Rattle.rn_numbered.proofs.NumberedForms.{Numbered, form_expr}
use Rattle.rn_check.proofs.ScopeKinds.{channel_of, place_of, the_var, the_place, the_channel}
use Rattle.rn_check.proofs.ScopeKinds.{the_net, vars_are_known}
use Rattle.rn_check.proofs.ConditionParts.{comparisons_have}

-- this kind alone comes of the pattern
abbrev Only : Pattern → Kind → Type 0
Only p k = (l : Kind) → gives_kind p l ≡ true → k ≡ l

only_fits : (p q : Pattern) (k : Kind) → Only p k → share p q ≡ true → gives_kind q k ≡ true
only_fits p q k only e =
    let found = share_gives p q e in
    ap (gives_kind q) (only found.0 found.1) ∙ found.2

only_declared : (kind : PKind) → Only (pattern_of kind) (kind_of kind)
only_declared kind l g = same_is_equal (kind_of kind) l (sym (gives_itself kind l) ∙ g)

list_only : (p : Pattern) (k : Kind) (z : K.Kind-F Kind) → Only p k →
    gives_step (P.List (gives_kind p)) z ≡ true → K.List k ≡ z
list_only p k (K.List l) only g = ap (λ x. K.List x) (only l g)
list_only p k K.Int only g = absurd (let no : ⊥ = cc in no)
list_only p k K.Text only g = absurd (let no : ⊥ = cc in no)
list_only p k (K.Tuple ks) only g = absurd (let no : ⊥ = cc in no)
list_only p k K.Net only g = absurd (let no : ⊥ = cc in no)

only_list : (p : Pattern) (k : Kind) → Only p k → Only (Pattern.List p) (Kind.List k)
only_list p k only l g =
    sym (Kind.rolls-List k)
    ∙ ap (λ z. roll-Kind z) (list_only p k (out-Kind l) only (sym (gives-List p l) ∙ g))
    ∙ roll-out-Kind l

only_asked : (kind : ArcKind) (p : Pattern) (k : Kind) → Only p k →
    Only (asked_of kind p) (inscribed_kind kind k)
only_asked FlexInput p k only = only_list p k only
only_asked FlexOutput p k only = only_list p k only
only_asked Clear p k only = only_list p k only
only_asked Input p k only = only
only_asked Output p k only = only
only_asked Test p k only = only
only_asked Reserve p k only = only
only_asked Inhibit p k only = only

-- an expression that is a variable alone
named : (var : List ℕ → ℕ) (y : F.PForm-F PForm PExpr) → is_name y ≡ true →
    (x : ℕ) × (expr_of_form (map-PForm PForm PExpr Numbered Numbered form_expr expr_of y) var ≡
    E.Var x)
named var (F.Name name) e = (var name, refl)
named var (F.Int n) e = absurd (let no : ⊥ = cc in no)
named var (F.Text s) e = absurd (let no : ⊥ = cc in no)
named var F.This e = absurd (let no : ⊥ = cc in no)
named var F.Step e = absurd (let no : ⊥ = cc in no)
named var (F.Tuple es) e = absurd (let no : ⊥ = cc in no)
named var (F.List es) e = absurd (let no : ⊥ = cc in no)
named var (F.Cons es t) e = absurd (let no : ⊥ = cc in no)
named var (F.Neg a) e = absurd (let no : ⊥ = cc in no)
named var (F.Op op a b) e = absurd (let no : ⊥ = cc in no)

variable_is : (var : List ℕ → ℕ) (e : PExpr) → is_variable e ≡ true →
    (x : ℕ) × (expr_of e var ≡ E.Var x)
variable_is var e is =
    let found = named var (out-PForm (out-PExpr e).form) is in (
      found.0,
      ap (λ f. f var) (fold_out-PExpr Numbered Numbered expr_of_form (λ e. e.form) e
          ∙ fold_out-PForm Numbered Numbered expr_of_form (λ e. e.form) (out-PExpr e).form)
          ∙ found.1,
    )

module _ (plain : Plain) (net : PNet) where
  abbrev scope : Scope
  scope = scope_of plain net

  abbrev to : Numbers
  to = numbers_of plain net

  abbrev kinds : ℕ → Kind
  kinds = var_kind_in (numbered_net_of plain net)

  module _ (at : Where) (same : at.pattern_of_var ≡ scope.pattern_of_var) where
    -- an expression in which nothing is broken has each kind of its pattern
    has : (e : PExpr) → (seen_of e at).faults ≡ [] → (k : Kind) →
        gives_kind (seen_of e at).pattern k ≡ true → HasExprKind kinds (expr_of e to.var) k
    has = has_its_kinds at to.var kinds
        (λ name p k is g. vars_are_known plain net name p k (sym (ap (λ f. f name) same) ∙ is) g)

    both_have : (a b : PExpr) → sides_faults (seen_of a at) (seen_of b at) ≡ [] →
        ShareKind kinds (expr_of a to.var) (expr_of b to.var)
    unfolding sides_faults
    both_have a b e =
        let s = seen_of a at in
        let t = seen_of b at in
        let none = both_nil (s.faults ++ t.faults) (apart s t s.spot) e in
        let sides = both_nil s.faults t.faults none.0 in
        let found = share_gives s.pattern t.pattern
        (not_apart s t s.spot sides.0 sides.1 none.1) in
        (found.0, has a sides.0 found.0 found.1, has b sides.1 found.0 found.2)

    is_int : (e : PExpr) → operand_faults (seen_of e at) ≡ [] →
        HasExprKind kinds (expr_of e to.var) Kind.Int
    is_int e none = let fits = operand_fits (seen_of e at) none in has e fits.0 Kind.Int fits.1

    both_int : (a b : PExpr) → operands_faults (seen_of a at) (seen_of b at) ≡ [] →
        HasExprKind kinds (expr_of a to.var) Kind.Int × HasExprKind kinds (expr_of b to.var)
        Kind.Int
    unfolding operands_faults
    both_int a b e =
        let none = both_nil (operand_faults (seen_of a at)) (operand_faults (seen_of b at)) e in
        (is_int a none.0, is_int b none.1)

    can_compare : (kind : CompareKind) (a b : PExpr) →
        compared_faults kind (seen_of a at) (seen_of b at) ≡ [] →
        CanCompare kinds (record { kind = kind; left = expr_of a to.var; right = expr_of b to.var })
        kind
    can_compare Same a b e = both_have a b e
    can_compare Differs a b e = both_have a b e
    can_compare Less a b e = both_int a b e
    can_compare AtMost a b e = both_int a b e
    can_compare Greater a b e = both_int a b e
    can_compare AtLeast a b e = both_int a b e

    each_fine : (es : List PExpr) → AllByRecursion (λ e. Unit {0}) es
    each_fine [] = tt
    each_fine (e ∷ es) = (tt, each_fine es)

    comparisons_can : (cond : PCond) → condition_faults cond at ≡ [] →
        AllByRecursion (λ c. CanCompare kinds c c.kind) (comparisons_in (cond_of cond to.var))
    comparisons_can cond e =
        comparisons_have at to.var (λ e. Unit {0}) (λ c. CanCompare kinds c c.kind)
        (λ kind a b ra rb e. can_compare kind a b e) cond (each_fine (exprs_in cond)) e

    fits_only : (e : PExpr) (p : Pattern) (k : Kind) → Only p k → (seen_of e at).faults ≡ [] →
        misfit (seen_of e at) p ≡ [] → HasExprKind kinds (expr_of e to.var) k
    fits_only e p k only none fit =
        has e none k (only_fits p (seen_of e at).pattern k only
        (fits_asked (seen_of e at) p none fit))

    -- the arguments of a call
    args_fit : (args : List PExpr) (ks : List PKind) → length ks ≡ length args →
        flat_map (λ e. e.faults) (map (λ e. seen_of e at) args) ≡ [] →
        misfits (map (λ e. seen_of e at) args) (map pattern_of ks) ≡ [] →
        AllZip (HasExprKind kinds) (map (λ e. expr_of e to.var) args) (map kind_of ks)
    args_fit [] [] l e f = tt
    args_fit [] (k ∷ ks) l e f = absurd (omega (l, arith))
    args_fit (a ∷ args) [] l e f = absurd (omega (l, arith))
    args_fit (a ∷ args) (k ∷ ks) l e f =
        let s = seen_of a at in
        let seens : List Seen = map (λ e. seen_of e at) args in
        let none = both_nil s.faults (flat_map (λ e. e.faults) seens) e in
        let fits = both_nil (misfit s (pattern_of k)) (misfits seens (map pattern_of ks)) f in (
          fits_only a (pattern_of k) (kind_of k) (only_declared k) none.0 fits.0,
          args_fit args ks (omega (l, arith)) none.1 fits.1,
        )

    call_good : (name : PName) (args : List PExpr) (o : Option (List Pattern)) →
        scope.channel name.text (length args) ≡ o →
        call_faults o name (map (λ e. seen_of e at) args) ≡ [] →
        IsGoodCall (system_of plain) kinds (to.channel name.text (length args))
        (map (λ e. expr_of e to.var) args)
    unfolding call_faults
    call_good name args None is e =
        let seens : List Seen = map (λ e. seen_of e at) args in
        let none = both_nil (flat_map (λ e. e.faults) seens) (channel_call_faults None name seens)
        e in
        absurd (let h = none.1 in let no : ⊥ = cc in no)
    call_good name args (Some ps) is e =
        let seens : List Seen = map (λ e. seen_of e at) args in
        let none = both_nil (flat_map (λ e. e.faults) seens) (misfits seens ps) e in
        let c = the_channel plain net name.text (length args) ps is in
        let fit = subst (λ ps. misfits seens ps ≡ []) (sym c.1) none.1 in
        record {
          there = subst (λ n. to.channel name.text (length args) < n)
              (sym (length-map plain.channels channel_of)) c.4;
          fits = subst (AllZip (HasExprKind kinds) (map (λ e. expr_of e to.var) args)) (sym c.3)
              (args_fit args c.0.kinds c.2 none.0 fit);
        }

  -- a variable of nets
  creation_good : (at : Where) → at.pattern_of_var ≡ scope.pattern_of_var → (var name : PName) →
      creation_faults at var name (scope.is_net name.text) ≡ [] →
      (to.net name.text < length (system_of plain).nets) × (kinds (to.var var.text) ≡ Kind.Net)
  creation_good at same var name e =
      let told = variable_faults at var.text var.spot in
      let typed = broken_if (is_no_net (at.pattern_of_var var.text)) Rule.Creation var.spot in
      let known = broken_if (not (scope.is_net name.text)) Rule.Known name.spot in
      let none = both_nil (told ++ typed) known e in
      let first = both_nil told typed none.0 in
      let parts = both_nil (broken_if (is_none (at.pattern_of_var var.text)) Rule.Known var.spot)
      (broken_if (not (at.may_stand var.text)) Rule.Actions var.spot) first.0 in (
        subst (λ n. to.net name.text < n) (sym (length-map plain.nets (numbered_net_of plain)))
            (the_net plain net name.text
            (holds (scope.is_net name.text) Rule.Known name.spot none.1)),
        net_var (at.pattern_of_var var.text) (sym (ap (λ f. f var.text) same))
            (unbroken (is_none (at.pattern_of_var var.text)) Rule.Known var.spot parts.0)
            (unbroken (is_no_net (at.pattern_of_var var.text)) Rule.Creation var.spot first.1),
      )
    where
      net_var : (o : Option Pattern) → scope.pattern_of_var var.text ≡ o → is_none o ≡ false →
          is_no_net o ≡ false → kinds (to.var var.text) ≡ Kind.Net
      net_var None is known typed = absurd (let no : ⊥ = cc in no)
      net_var (Some p) is known typed =
          let v = the_var plain net var.text p is in
          let shares : share p Pattern.Net ≡ true = not-false (share p Pattern.Net) typed in
          let found = share_gives p Pattern.Net shares in
          let same : kind_of v.0.kind ≡ found.0 =
          only_declared v.0.kind found.0 (ap (λ p. gives_kind p found.0) v.1 ∙ found.1) in
          v.2 ∙ same ∙ sym (only_net found.0 found.2)

  set_good : (at : Where) → at.pattern_of_var ≡ scope.pattern_of_var → (var : PName) (e : PExpr) →
      (o : Option Pattern) → scope.pattern_of_var var.text ≡ o → is_none o ≡ false →
      value_faults o (seen_of e at) ≡ [] →
      HasExprKind kinds (expr_of e to.var) (kinds (to.var var.text))
  unfolding value_faults
  set_good at same var e None is known none = absurd (let no : ⊥ = cc in no)
  set_good at same var e (Some p) is known none =
      let v = the_var plain net var.text p is in
      let s = seen_of e at in
      let both = both_nil s.faults (misfit s p) none in
      let fit : misfit s (pattern_of v.0.kind) ≡ [] = ap (λ q. misfit s q) v.1 ∙ both.1 in
      subst (HasExprKind kinds (expr_of e to.var)) (sym v.2)
      (fits_only at same e (pattern_of v.0.kind) (kind_of v.0.kind) (only_declared v.0.kind)
      both.0 fit)

  arc_good : (kind : ArcKind) (at : Where) → at.pattern_of_var ≡ scope.pattern_of_var →
      (name : PName) (o : Option Pattern) → scope.pattern_of_place name.text ≡ o →
      (e : Option PExpr) →
      arc_faults kind o name e at ≡ [] →
      IsGoodArc (numbered_net_of plain net) kinds
      (record { kind = kind; place = to.place name.text; inscription = inscription_of to e })
  unfolding inscribed_faults
  arc_good kind at same name o is None none =
      let both = both_nil (broken_if (is_none o) Rule.Known name.spot)
      (broken Rule.Inscription name.spot ∷ []) none in
      absurd (let h = both.1 in let no : ⊥ = cc in no)
  arc_good kind at same name None is (Some e) none = absurd (let no : ⊥ = cc in no)
  arc_good kind at same name (Some p) is (Some e) none =
      let s = seen_of e at in
      let clears = broken_if (is_clear kind && not (is_variable e)) Rule.Inscription s.spot in
      let fits = misfit s (asked_of kind p) in
      let both = both_nil (s.faults ++ fits) clears none in
      let first = both_nil s.faults fits both.0 in
      let place = the_place plain net name.text p is in
      let only = only_asked kind (pattern_of place.0.kind) (kind_of place.0.kind)
      (only_declared place.0.kind) in
      let fit : misfit s (asked_of kind (pattern_of place.0.kind)) ≡ [] =
      ap (λ q. misfit s (asked_of kind q)) place.1 ∙ first.1 in
      record {
        place = subst (λ n. to.place name.text < n) (sym (length-map net.places place_of)) place.3;
        kind = subst (λ k. HasExprKind kinds (expr_of e to.var) (inscribed_kind kind k))
            (sym place.2)
            (fits_only at same e (asked_of kind (pattern_of place.0.kind))
            (inscribed_kind kind (kind_of place.0.kind)) only first.0 fit);
        clears = λ is_clearing.
            let variable = unbroken (is_clear kind && not (is_variable e)) Rule.Inscription s.spot
            both.1 in
            let cleared : is_clear kind ≡ true = ap is_clear is_clearing in
            variable_is to.var e (not-false (is_variable e)
            (ap (λ b. b && not (is_variable e)) (sym cleared) ∙ variable));
      }

  -- each inscription stands somewhere where nothing is broken in it
  abbrev pub IsFine : PInscription → Type 0
  IsFine i = (p : Progress) × (inscription_faults scope p i i.form ≡ [])

  pub each_is_fine : (p : Progress) (is : List PInscription) → inscriptions_faults scope p is ≡ [] →
      AllByRecursion IsFine is
  each_is_fine p [] e = tt
  each_is_fine p (i ∷ is) e =
      let both = both_nil (inscription_faults scope p i i.form)
      (inscriptions_faults scope (after p i.form) is) e in
      ((p, both.0), each_is_fine (after p i.form) is both.1)

  -- what each part that an inscription gives has, where nothing is broken in the inscription
  abbrev Gives : {A : Type 0} → (A → Type 0) → (PInscribed → List A) → Type 0
  Gives Q part = (i : PInscription) (p : Progress) (form : PInscribed) →
      inscription_faults scope p i form ≡ [] → AllByRecursion Q (part form)

  equality_given : Gives (λ e. ShareKind kinds e.0 e.1) (equality_of to)
  equality_given i p (I.Equality a b) e = (both_have (elsewhere scope p) refl a b e, tt)
  equality_given i p _ e = tt

  guard_given :
      Gives (λ c. AllByRecursion (λ c. CanCompare kinds c c.kind) (comparisons_in c)) (guard_of to)
  guard_given i p (I.Guard cond) e = (comparisons_can (elsewhere scope p) refl cond e, tt)
  guard_given i p _ e = tt

  action_given : Gives (IsGoodAction kinds) (action_of to)
  action_given i p (I.Print x) e =
      let at = in_action scope p in
      let some = gives_some (seen_of x at).pattern in
      ((some.0, has at refl x e some.0 some.1), tt)
  action_given i p (I.Set var x) e =
      let at = in_action scope p in
      let o = scope.pattern_of_var var.text in
      let none = set_parts scope p var x e in
      let first = both_nil (broken_if (is_none o) Rule.Known var.spot)
      (broken_if (option_map_or (λ n. nat_lt n p.past) (p.setter var.text) false) Rule.Actions
      var.spot)
      none.0 in
      (set_good at refl var x o refl (unbroken (is_none o) Rule.Known var.spot first.0) none.1, tt)
  action_given i p _ e = tt

  creation_given : Gives
      (λ c. (c.net < length (system_of plain).nets) × (kinds c.var ≡ Kind.Net)) (creation_of to)
  creation_given i p (I.New var name) e = (creation_good (elsewhere scope p) refl var name e, tt)
  creation_given i p _ e = tt

  uplink_given : Gives (λ u. IsGoodCall (system_of plain) kinds u.channel u.args) (uplink_of to)
  uplink_given i p (I.Uplink channel args) e =
      let at = elsewhere scope p in
      let o = scope.channel channel.text (length args) in
      (call_good at refl channel args o refl (uplink_part scope p i.spot channel args e), tt)
  uplink_given i p _ e = tt

  target_good : (at : Where) → at.pattern_of_var ≡ scope.pattern_of_var → (e : PExpr) →
      target_faults (seen_of e at) ≡ [] → HasExprKind kinds (expr_of e to.var) Kind.Net
  unfolding target_faults
  target_good at same e none =
      let s = seen_of e at in
      let both = both_nil s.faults (misfit s Pattern.Net) none in
      has at same e both.0 Kind.Net
      (net_shared s.pattern (fits_asked s Pattern.Net both.0 both.1))

  downlink_given : Gives
      (λ d. HasExprKind kinds d.target Kind.Net × IsGoodCall (system_of plain) kinds d.channel
      d.args)
      (downlink_of to)
  downlink_given i p (I.Downlink target channel args) e =
      let at = elsewhere scope p in
      let o = scope.channel channel.text (length args) in
      let none = downlink_parts scope p target channel args e in
      ((target_good at refl target none.0, call_good at refl channel args o refl none.1), tt)
  downlink_given i p _ e = tt

  stands : (kind : ArcKind) (p : Progress) (b : Bool) →
      (if b then in_output scope p else elsewhere scope p).pattern_of_var ≡ scope.pattern_of_var
  stands kind p true = refl
  stands kind p false = refl

  arc_given : Gives (IsGoodArc (numbered_net_of plain net) kinds) (arc_of to)
  arc_given i p (I.Arc kind place e) none =
      let at = if is_output kind then in_output scope p else elsewhere scope p in
      let o = scope.pattern_of_place place.text in
      let parts = both_nil (arc_faults kind o place e at)
      (counted_faults kind (scope.has_capacity place.text) e (λ name. is_some (p.setter name)))
      none in
      (arc_good kind at (stands kind p (is_output kind)) place o refl e parts.0, tt)
  arc_given i p _ e = tt

  -- and so of those that all inscriptions give
  given : {A : Type 0} (Q : A → Type 0) (part : PInscribed → List A) → Gives Q part →
      (is : List PInscription) → AllByRecursion IsFine is →
      AllByRecursion Q (flat_map part (map (λ i. i.form) is))
  given Q part gives is fine =
      each_flat_map Q part (map (λ i. i.form) is)
      (each_map (λ form. AllByRecursion Q (part form)) (λ i. i.form) is
      (each_weaker IsFine (λ i. AllByRecursion Q (part i.form))
      (λ i f. gives i f.0 i.form f.1) is fine))

  first_of_all : {A : Type 0} (Q : A → Type 0) (xs : List A) (x : A) → AllByRecursion Q xs →
      slice_get xs 0 ≡ Some x → Q x
  first_of_all Q [] x all e = absurd (let no : ⊥ = cc in no)
  first_of_all Q (y ∷ ys) x all e = subst Q (same_Some y x e) all.0

  pub is_well_kinded : (t : PTransition) → transition_faults scope t ≡ [] →
      IsWellKinded (system_of plain) (numbered_net_of plain net) kinds (transition_of plain net t)
  is_well_kinded t e =
      let is = t.inscriptions in
      let none = both_nil (inscriptions_faults scope (at_first is) is)
      (past_limit most_inscriptions (map (λ i. i.spot) is)) e in
      let fine = each_is_fine (at_first is) is none.0 in
      record {
        equalities = All-from_recursion _ _ (given _ (equality_of to) equality_given is fine);
        guards = All-from_recursion _ _
            (each_flat_map (λ c. CanCompare kinds c c.kind) comparisons_in _
            (given _ (guard_of to) guard_given is fine));
        actions = All-from_recursion _ _ (given _ (action_of to) action_given is fine);
        creations = All-from_recursion _ _ (given _ (creation_of to) creation_given is fine);
        uplink = λ u first. first_of_all _ _ u (given _ (uplink_of to) uplink_given is fine) first;
        downlinks = All-from_recursion _ _ (given _ (downlink_of to) downlink_given is fine);
        arcs = All-from_recursion _ _ (given _ (arc_of to) arc_given is fine);
      }
