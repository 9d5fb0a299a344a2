-- The expressions of a transition in which nothing is broken, and its action variables.
use Rattle.std.proofs.Common.{◌≡◌, ℕ, ◌<◌, ◌≤◌, Bool, true, false, ◌&&◌, not, List}
use Rattle.std.proofs.Common.{[]}
use Rattle.std.proofs.Common.{◌∷◌, ◌++◌, map, refl, sym, ap, ◌∙◌, subst, length, arith, inl, inr}
use Rattle.std.proofs.Common.{append-nil}
use Rattle.std.specs.Prelude.{Option, Some, None, is_none, is_some, nat_lt, nat_eq, flat_map}
use Rattle.std.specs.Prelude.{IsTrue}
use Rattle.std.specs.Prelude.{if◌then◌else◌, ◌⊎◌}
use Rattle.std.specs.Option.{option_map_or}
use Rattle.std.specs.List.{AllByRecursion, list_any}
use Rattle.std.proofs.lemmas.Bool.{eqb-true}
use Rattle.std.proofs.lemmas.List.Elements.{recursion_from_All}
use Rattle.std.proofs.lemmas.Bool.Decides.{nat_tests}
use Rattle.rn_items.proofs.Bools.{or_true, or_left, or_right}
use Rattle.rn_items.proofs.Numbers.{numbers_themselves}
use Rattle.rn_model.specs.declared.expr.Expr.{Expr}
use Rattle.rn_model.specs.declared.expr.Cond.{Cond}
use Rattle.rn_model.specs.declared.expr.CompareKind.{CompareKind}
use Rattle.rn_model.specs.declared.expr.CompareKind.TheVariants.{Same, Differs}
use Rattle.rn_model.specs.declared.system.ArcKind.{ArcKind}
use Rattle.rn_model.specs.declared.system.ArcKind.TheVariants.{FlexOutput}
use Rattle.rn_model.specs.declared.system.NetArc.{NetArc}
use Rattle.rn_model.specs.declared.system.Action.{Action}
use Rattle.rn_model.specs.Limits.{most_nested}
use Rattle.rn_model.specs.Kinds.{expr_narrow, expr_depth, holds_step}
use Rattle.rn_model.specs.Systems.{vars_in, is_output, capacity_in}
use Rattle.rn_model.specs.Good.{comparisons_in, guard_exprs, cond_depth, action_expr}
use Rattle.rn_model.specs.Good.{set_var}
use Rattle.rn_model.proofs.EachElement.{each_map, each_flat_map, each_weaker}
use Rattle.rn_inscript.specs.declared.exprs.PExpr.{PExpr}
use Rattle.rn_inscript.specs.declared.conds.PCond.{PCond}
use Rattle.rn_inscript.specs.declared.inscriptions.PName.{PName}
use Rattle.rn_inscript.specs.declared.inscriptions.PInscribed.{PInscribed}
use Rattle.rn_inscript.specs.declared.inscriptions.PInscribed.TheVariants as I
use Rattle.rn_inscript.specs.declared.inscriptions.PInscription.{PInscription}
use Rattle.rn_net.specs.declared.plain.Plain.{Plain}
use Rattle.rn_net.specs.declared.plain.PNet.{PNet}
use Rattle.rn_declared.specs.declared.fault.Rule.TheVariants as Rule
use Rattle.rn_declared.specs.declared.pattern.Pattern.{Pattern}
use Rattle.rn_declared.specs.Faults.{broken, broken_if}
use Rattle.rn_rules.specs.Expressions.{Where, Seen, seen_of, apart, misfit, operand_faults}
use Rattle.rn_rules.specs.Expressions.{operands_faults, variable_faults}
use Rattle.rn_rules.specs.Conditions.{compared_faults, sides_faults, condition_faults}
use Rattle.rn_rules.specs.Arcs.{asked_of, is_clear, is_variable, inscribed_faults, arc_faults}
use Rattle.rn_rules.specs.Counted.{holds_name, counted_faults}
use Rattle.rn_rules.specs.Calls.{channel_call_faults, call_faults, target_faults, is_no_net}
use Rattle.rn_rules.specs.Actions.{is_set_by, value_faults}
use Rattle.rn_rules.specs.Transitions.{Progress, Scope, inscription_faults, inscriptions_faults}
use Rattle.rn_rules.specs.Transitions.{after, in_action, in_output, elsewhere}
use Rattle.rn_declared.specs.Names.{same_name, number_among}
use Rattle.rn_rules.specs.Systems.{scope_of}
use Rattle.rn_numbered.specs.Numbered.{Numbers, expr_of, cond_of, equality_of, guard_of}
use Rattle.rn_numbering.specs.Numbering.{numbers_of, numbered_net_of}
use Rattle.rn_numbered.specs.Numbered.{action_of, creation_of, uplink_of, downlink_of, arc_of}
use Rattle.rn_numbered.specs.Numbered.{inscription_of}
use Rattle.rn_occurring.specs.TransitionVars.{is_among}
use Rattle.rn_spelled.specs.WellFormed.{IsWellFormedExpr, IsShallowCond, IsWellFormedInscription}
use Rattle.rn_spelled.specs.WellFormed.{exprs_of, conds_of, exprs_in}
use Rattle.rn_declared.proofs.Faultless.{both_nil, unbroken, holds}
use Rattle.rn_check.proofs.InscriptionParts.{set_parts, uplink_part, downlink_parts}
use Rattle.rn_check.proofs.ScopeKinds.{same_texts, no_capacity}
use Rattle.rn_check.proofs.ExpressionFacts.{Stands, is_narrow, vars_stand, without_step}
use Rattle.rn_check.proofs.ExpressionFacts.{StandsFree, vars_stand_free}
use Rattle.rn_check.proofs.ConditionParts.{comparisons_have}
use Rattle.rn_check.proofs.ActionVars.{IsIn, IsDeclared, declared_below, names_same}
use Rattle.rn_check.proofs.ActionVars.{found_early, early_found}

-- a name is among one more where it is among those before, or is that one
pub one_more : (names : List (List ℕ)) (v name : List ℕ) → IsIn (names ++ v ∷ []) name →
    IsIn names name ⊎ (v ≡ name)
one_more [] v name e =
    elim (or_true (same_name v name) false e) [
      | inl here ↦ inr (same_texts v name here)
      | inr there ↦ absurd (let no : ⊥ = cc in no)
    ]
one_more (d ∷ names) v name e =
    elim (or_true (same_name d name) (list_any (λ x. same_name x name) (names ++ v ∷ [])) e) [
      | inl here ↦ inl (or_left (same_name d name) (list_any (λ x. same_name x name) names) here)
      | inr there ↦
          elim (one_more names v name there) [
            | inl early ↦
                inl (or_right (same_name d name) (list_any (λ x. same_name x name) names) early)
            | inr last ↦ inr last
          ]
    ]

compared_sides : (kind : CompareKind) (a b : Seen) → compared_faults kind a b ≡ [] →
    (a.faults ≡ []) × (b.faults ≡ [])
unfolding sides_faults operands_faults operand_faults
compared_sides Same a b e =
    both_nil a.faults b.faults (both_nil (a.faults ++ b.faults) (apart a b a.spot) e).0
compared_sides Differs a b e =
    both_nil a.faults b.faults (both_nil (a.faults ++ b.faults) (apart a b a.spot) e).0
compared_sides _ a b e =
    let int = λ (s : Seen). misfit s Pattern.Int in
    let both = both_nil (a.faults ++ int a) (b.faults ++ int b) e in
    ((both_nil a.faults (int a) both.0).0, (both_nil b.faults (int b) both.1).0)

module _ (plain : Plain) (net : PNet) where
  abbrev pub scope : Scope
  scope = scope_of plain net

  abbrev pub to : Numbers
  to = numbers_of plain net

  -- a fine expression: its variables are the net's, and it isn't too wide nor too deep
  pub record IsFineExpr (e : Expr) : Type 0 where
    pub vars : AllByRecursion (λ x. x < length net.vars) (vars_in e)
    pub narrow : IsTrue (expr_narrow e)
    pub deep : expr_depth e ≤ most_nested

  module _ (at : Where) (same : at.pattern_of_var ≡ scope.pattern_of_var) where
    known_there : (name : List ℕ) → is_none (at.pattern_of_var name) ≡ false →
        IsDeclared plain net name
    known_there name e = ap (λ f. is_none (f name)) (sym same) ∙ e

    stands_below : (x : ℕ) → Stands at to.var x → x < length net.vars
    stands_below x s =
        subst (λ y. y < length net.vars) (sym s.number)
        (declared_below plain net s.name (known_there s.name s.known))

    fine : (e : PExpr) → (seen_of e at).faults ≡ [] → IsWellFormedExpr e →
        IsFineExpr (expr_of e to.var)
    fine e none good = record {
      vars = each_weaker (Stands at to.var) (λ x. x < length net.vars) stands_below
          (vars_in (expr_of e to.var)) (vars_stand at to.var e none);
      narrow = is_narrow at to.var e none good.tails;
      deep = good.deep to.var;
    }

  module _ (sets : List (List ℕ)) (declared : AllByRecursion (IsDeclared plain net) sets) where
    abbrev pub acted : List ℕ
    acted = map to.var sets

    -- the name of a number on the left of an action
    pub named_in : (names : List (List ℕ)) → AllByRecursion (IsDeclared plain net) names → (x : ℕ) →
        is_among (map to.var names) x ≡ true →
        (s : List ℕ) × IsIn names s × IsDeclared plain net s × (to.var s ≡ x)
    named_in [] all x e = absurd (let no : ⊥ = cc in no)
    named_in (d ∷ names) all x e =
        elim (or_true (nat_eq x (to.var d)) (is_among (map to.var names) x) e) [
          | inl here ↦ (
            d,
            or_left (same_name d d) (list_any (λ y. same_name y d) names) (numbers_themselves d),
            all.0,
            sym (eqb-true x (to.var d) here),
          )
          | inr there ↦
              let found = named_in names all.1 x there in (
                found.0,
                or_right (same_name d found.0) (list_any (λ y. same_name y found.0) names) found.1,
                found.2,
                found.3,
              )
        ]

    -- a name that may stand where some are set, and is set, is one of these
    pub set_before : (done rest : List (List ℕ)) → sets ≡ done ++ rest → (name : List ℕ) →
        is_set_by (number_among sets name) (length done) ≡ true → IsIn sets name → IsIn done name
    set_before done rest is name may there =
        let found = found_early 0 sets [] name there in
        let number : number_among sets name ≡ Some found.0 =
        ap (λ xs. number_among xs name) (sym (append-nil sets)) ∙ found.1 in
        let low : nat_lt found.0 (length done) ≡ true =
        ap (λ o. is_set_by o (length done)) (sym number) ∙ may in
        early_found 0 found.0 done rest name (grind (arith, nat_tests, low))
        (ap (λ xs. number_among xs name) (sym is) ∙ number)

    abbrev pub NotActed : ℕ → Type 0
    NotActed x = is_among acted x ≡ true → ⊥

    not_in_none : (name : List ℕ) → IsIn [] name → ⊥
    not_in_none name e = let no : ⊥ = cc in no

    name_free : (p : Progress) → p.setter ≡ number_among sets → (name : List ℕ) →
        IsDeclared plain net name → is_set_by (p.setter name) 0 ≡ true → NotActed (to.var name)
    name_free p setter name known may there =
        let found = named_in sets declared (to.var name) there in
        let same = names_same plain net found.0 name found.2 known found.3 in
        not_in_none name
        (set_before [] sets refl name
        (ap (λ f. is_set_by (f name) 0) (sym setter) ∙ may) (subst (IsIn sets) same found.1))

    -- an expression that stands neither in an action nor in an output
    pub record IsSearched (e : Expr) : Type 0 where
      pub fine : IsFineExpr e
      pub free : AllByRecursion NotActed (vars_in e)
      pub steps : holds_step e ≡ false

    searched : (p : Progress) → p.setter ≡ number_among sets → (e : PExpr) →
        (seen_of e (elsewhere scope p)).faults ≡ [] → IsWellFormedExpr e →
        IsSearched (expr_of e to.var)
    searched p setter e none good = record {
      fine = fine (elsewhere scope p) refl e none good;
      free = each_weaker (Stands (elsewhere scope p) to.var) NotActed
          (λ x s. subst NotActed (sym s.number) (name_free p setter s.name s.known s.may))
          (vars_in (expr_of e to.var)) (vars_stand (elsewhere scope p) to.var e none);
      steps = without_step (elsewhere scope p) to.var e none refl;
    }

    searched_each : (p : Progress) → p.setter ≡ number_among sets → (es : List PExpr) →
        flat_map (λ e. e.faults) (map (λ e. seen_of e (elsewhere scope p)) es) ≡ [] →
        AllByRecursion IsWellFormedExpr es →
        AllByRecursion IsSearched (map (λ e. expr_of e to.var) es)
    searched_each p setter [] none good = tt
    searched_each p setter (e ∷ es) none good =
        let both = both_nil (seen_of e (elsewhere scope p)).faults
        (flat_map (λ e. e.faults) (map (λ e. seen_of e (elsewhere scope p)) es)) none in
        (searched p setter e both.0 good.0, searched_each p setter es both.1 good.1)

    -- what an output's inscription has
    pub record IsOutput (e : Expr) : Type 0 where
      pub fine : IsFineExpr e
      pub steps : holds_step e ≡ false

    -- what the parts have that inscriptions give
    abbrev Gives : {A : Type 0} → (A → Type 0) → (PInscribed → List A) → Type 0
    Gives Q part = (i : PInscription) (p : Progress) (form : PInscribed) →
        p.setter ≡ number_among sets → inscription_faults scope p i form ≡ [] →
        AllByRecursion IsWellFormedExpr (exprs_of form) →
        AllByRecursion IsShallowCond (conds_of form) → AllByRecursion Q (part form)

    abbrev pub EqualityHas : Expr × Expr → Type 0
    EqualityHas e = AllByRecursion IsSearched (e.0 ∷ e.1 ∷ [])

    both_sides : (p : Progress) → p.setter ≡ number_among sets → (a b : PExpr) →
        sides_faults (seen_of a (elsewhere scope p)) (seen_of b (elsewhere scope p)) ≡ [] →
        AllByRecursion IsWellFormedExpr (a ∷ b ∷ []) →
        EqualityHas (expr_of a to.var, expr_of b to.var)
    both_sides p setter a b e good =
        let none = compared_sides Same (seen_of a (elsewhere scope p))
        (seen_of b (elsewhere scope p)) e in
        (searched p setter a none.0 good.0, (searched p setter b none.1 good.1.0, tt))

    pub equality_given : Gives EqualityHas (equality_of to)
    equality_given i p (I.Equality a b) setter e good conds = (both_sides p setter a b e good, tt)
    equality_given i p _ setter e good conds = tt

    abbrev pub GuardHas : Cond → Type 0
    GuardHas g = AllByRecursion IsSearched (guard_exprs g) × (cond_depth g ≤ most_nested)

    guard_has : (p : Progress) → p.setter ≡ number_among sets → (cond : PCond) →
        condition_faults cond (elsewhere scope p) ≡ [] →
        AllByRecursion IsWellFormedExpr (exprs_in cond) →
        AllByRecursion IsSearched (guard_exprs (cond_of cond to.var))
    guard_has p setter cond e good =
        each_flat_map IsSearched (λ c. c.left ∷ c.right ∷ []) (comparisons_in (cond_of cond to.var))
        (comparisons_have (elsewhere scope p) to.var IsWellFormedExpr
        (λ c. AllByRecursion IsSearched (c.left ∷ c.right ∷ []))
        (λ kind a b ra rb none.
        let sides = compared_sides kind (seen_of a (elsewhere scope p))
        (seen_of b (elsewhere scope p))
        none in
        (searched p setter a sides.0 ra, (searched p setter b sides.1 rb, tt)))
        cond good e)

    pub guard_given : Gives GuardHas (guard_of to)
    guard_given i p (I.Guard cond) setter e good conds =
        ((guard_has p setter cond e good, conds.0 to.var), tt)
    guard_given i p _ setter e good conds = tt

    call_args : (p : Progress) (o : Option (List Pattern)) (name : PName) (args : List PExpr) →
        call_faults o name (map (λ e. seen_of e (elsewhere scope p)) args) ≡ [] →
        flat_map (λ e. e.faults) (map (λ e. seen_of e (elsewhere scope p)) args) ≡ []
    unfolding call_faults
    call_args p o name args e =
        let seens : List Seen = map (λ e. seen_of e (elsewhere scope p)) args in
        (both_nil (flat_map (λ e. e.faults) seens) (channel_call_faults o name seens) e).0

    pub uplink_given : Gives (λ u. AllByRecursion IsSearched u.args) (uplink_of to)
    uplink_given i p (I.Uplink channel args) setter e good conds =
        let o = scope.channel channel.text (length args) in
        let none = uplink_part scope p i.spot channel args e in
        (searched_each p setter args (call_args p o channel args none) good, tt)
    uplink_given i p _ setter e good conds = tt

    target_none : (s : Seen) → target_faults s ≡ [] → s.faults ≡ []
    unfolding target_faults
    target_none s e = (both_nil s.faults (misfit s Pattern.Net) e).0

    pub downlink_given : Gives (λ d. AllByRecursion IsSearched (d.target ∷ d.args)) (downlink_of to)
    downlink_given i p (I.Downlink target channel args) setter e good conds =
        let o = scope.channel channel.text (length args) in
        let s = seen_of target (elsewhere scope p) in
        let none = downlink_parts scope p target channel args e in (
          (
            searched p setter target (target_none s none.0) good.0,
            searched_each p setter args (call_args p o channel args none.1) good.1,
          ),
          tt,
        )
    downlink_given i p _ setter e good conds = tt

    -- an arc's inscription, by whether it is an output
    abbrev pub ArcHas : Bool → Expr → Type 0
    ArcHas true e = IsOutput e
    ArcHas false e = IsSearched e

    inscribed_none : (kind : ArcKind) (o : Option Pattern) (name : PName) (e : PExpr) (at : Where) →
        arc_faults kind o name (Some e) at ≡ [] → (seen_of e at).faults ≡ []
    unfolding inscribed_faults
    inscribed_none kind o name e at none =
        let s = seen_of e at in
        let fits = option_map_or (λ pattern. misfit s (asked_of kind pattern)) o [] in
        let clears = broken_if (is_clear kind && not (is_variable e)) Rule.Inscription s.spot in
        let known = broken_if (is_none o) Rule.Known name.spot in
        let inner = (both_nil known (s.faults ++ fits ++ clears) none).1 in
        (both_nil s.faults fits (both_nil (s.faults ++ fits) clears inner).0).0

    arc_has : (kind : ArcKind) (p : Progress) → p.setter ≡ number_among sets → (b : Bool)
        (o : Option Pattern) (name : PName) (e : Option PExpr) →
        arc_faults kind o name e (if b then in_output scope p else elsewhere scope p) ≡ [] →
        AllByRecursion IsWellFormedExpr (exprs_of (I.Arc kind name e)) →
        ArcHas b (inscription_of to e)
    arc_has kind p setter b o name None none good =
        let both = both_nil (broken_if (is_none o) Rule.Known name.spot)
        (broken Rule.Inscription name.spot ∷ []) none in
        absurd (let h = both.1 in let no : ⊥ = cc in no)
    arc_has kind p setter true o name (Some e) none good =
        let here = inscribed_none kind o name e (in_output scope p) none in
        record {
          fine = fine (in_output scope p) refl e here good.0;
          steps = without_step (in_output scope p) to.var e here refl;
        }
    arc_has kind p setter false o name (Some e) none good =
        searched p setter e (inscribed_none kind o name e (elsewhere scope p) none) good.0

    arc_parts : (p : Progress) (kind : ArcKind) (name : PName) (e : Option PExpr) →
        arc_faults kind (scope.pattern_of_place name.text) name e
        (if is_output kind then in_output scope p else elsewhere scope p)
        ++ counted_faults kind (scope.has_capacity name.text) e (λ name. is_some (p.setter name))
        ≡ [] →
        (arc_faults kind (scope.pattern_of_place name.text) name e
        (if is_output kind then in_output scope p else elsewhere scope p) ≡ [])
        × (counted_faults kind (scope.has_capacity name.text) e (λ name. is_some (p.setter name))
        ≡ [])
    arc_parts p kind name e none =
        both_nil
        (arc_faults kind (scope.pattern_of_place name.text) name e
        (if is_output kind then in_output scope p else elsewhere scope p))
        (counted_faults kind (scope.has_capacity name.text) e (λ name. is_some (p.setter name)))
        none

    pub arc_given : Gives (λ arc. ArcHas (is_output arc.kind) arc.inscription) (arc_of to)
    arc_given i p (I.Arc kind place e) setter none good conds = (
      arc_has kind p setter (is_output kind) (scope.pattern_of_place place.text) place e
          (arc_parts p kind place e none).0 good,
      tt,
    )
    arc_given i p _ setter none good conds = tt

    -- An action doesn't give the list whose elements an arc puts to a place with a capacity.
    abbrev pub Counted : NetArc → Type 0
    Counted arc = arc.kind ≡ FlexOutput →
        (capacity_in (numbered_net_of plain net) arc.place ≡ None)
        ⊎ AllByRecursion NotActed (vars_in arc.inscription)

    never_set : (p : Progress) → p.setter ≡ number_among sets → (name : List ℕ) →
        IsDeclared plain net name → is_some (p.setter name) ≡ false → NotActed (to.var name)
    never_set p setter name known none there =
        let found = named_in sets declared (to.var name) there in
        let same = names_same plain net found.0 name found.2 known found.3 in
        let number = found_early 0 sets [] name (subst (IsIn sets) same found.1) in
        let is : number_among sets name ≡ Some number.0 =
        ap (λ xs. number_among xs name) (sym (append-nil sets)) ∙ number.1 in
        let no : true ≡ false = sym (ap is_some (ap (λ f. f name) setter ∙ is)) ∙ none in
        let no : ⊥ = cc in no

    none_acted : (p : Progress) → p.setter ≡ number_among sets → (at : Where) →
        at.pattern_of_var ≡ scope.pattern_of_var → (e : PExpr) → (seen_of e at).faults ≡ [] →
        holds_name e (λ name. is_some (p.setter name)) ≡ false →
        AllByRecursion NotActed (vars_in (expr_of e to.var))
    none_acted p setter at same e none held =
        let acts : List ℕ → Bool = λ name. is_some (p.setter name) in
        each_weaker (StandsFree at to.var acts) NotActed
        (λ x s. subst NotActed (sym s.number)
        (never_set p setter s.name (known_there at same s.name s.known) s.free))
        (vars_in (expr_of e to.var)) (vars_stand_free at to.var acts e none held)

    counted : (p : Progress) → p.setter ≡ number_among sets → (name : PName) (e : PExpr)
        (o : Option Pattern) → scope.pattern_of_place name.text ≡ o → (capped : Bool) →
        scope.has_capacity name.text ≡ capped →
        arc_faults FlexOutput o name (Some e) (in_output scope p) ≡ [] →
        counted_faults FlexOutput capped (Some e) (λ name. is_some (p.setter name)) ≡ [] →
        (capacity_in (numbered_net_of plain net) (to.place name.text) ≡ None)
        ⊎ AllByRecursion NotActed (vars_in (expr_of e to.var))
    counted p setter name e None known capped has none free =
        absurd (let no : ⊥ = cc in no)
    counted p setter name e (Some pattern) known false has none free =
        inl (no_capacity plain net name.text pattern known has)
    counted p setter name e (Some pattern) known true has none free =
        inr (none_acted p setter (in_output scope p) refl e
        (inscribed_none FlexOutput (Some pattern) name e (in_output scope p) none)
        (unbroken (holds_name e (λ name. is_some (p.setter name))) Rule.Counted e.spot free))

    abbrev arc_stands : Progress → ArcKind → Where
    arc_stands p kind = if is_output kind then in_output scope p else elsewhere scope p

    arc_counted : (p : Progress) → p.setter ≡ number_among sets → (kind : ArcKind) (name : PName)
        (e : Option PExpr) →
        arc_faults kind (scope.pattern_of_place name.text) name e (arc_stands p kind) ≡ [] →
        counted_faults kind (scope.has_capacity name.text) e (λ name. is_some (p.setter name))
        ≡ [] → kind ≡ FlexOutput →
        (capacity_in (numbered_net_of plain net) (to.place name.text) ≡ None)
        ⊎ AllByRecursion NotActed (vars_in (inscription_of to e))
    arc_counted p setter kind name None none free flexible =
        let both = both_nil
        (broken_if (is_none (scope.pattern_of_place name.text)) Rule.Known name.spot)
        (broken Rule.Inscription name.spot ∷ []) none in
        absurd (let h = both.1 in let no : ⊥ = cc in no)
    arc_counted p setter kind name (Some e) none free flexible =
        let o = scope.pattern_of_place name.text in
        let capped = scope.has_capacity name.text in
        counted p setter name e o refl capped refl
        (subst (λ k. arc_faults k o name (Some e) (arc_stands p k) ≡ []) flexible none)
        (subst (λ k. counted_faults k capped (Some e) (λ name. is_some (p.setter name)) ≡ [])
        flexible free)

    pub counted_given : Gives Counted (arc_of to)
    counted_given i p (I.Arc kind place e) setter none good conds =
        let parts = arc_parts p kind place e none in
        (arc_counted p setter kind place e parts.0 parts.1, tt)
    counted_given i p _ setter none good conds = tt

    abbrev pub ActionHas : Action → Type 0
    ActionHas a = IsFineExpr (action_expr a) × AllByRecursion (λ x. x < length net.vars) (set_var a)

    value_none : (o : Option Pattern) (s : Seen) → value_faults o s ≡ [] → s.faults ≡ []
    unfolding value_faults
    value_none o s e = (both_nil s.faults (option_map_or (λ p. misfit s p) o []) e).0

    pub action_given : Gives ActionHas (action_of to)
    action_given i p (I.Print e) setter none good conds =
        ((fine (in_action scope p) refl e none good.0, tt), tt)
    action_given i p (I.Set var e) setter none good conds =
        let o = scope.pattern_of_var var.text in
        let s = seen_of e (in_action scope p) in
        let both = set_parts scope p var e none in
        let first = both_nil (broken_if (is_none o) Rule.Known var.spot)
        (broken_if (option_map_or (λ n. nat_lt n p.past) (p.setter var.text) false) Rule.Actions
        var.spot)
        both.0 in (
          (
            fine (in_action scope p) refl e (value_none o s both.1) good.0,
            (
              declared_below plain net var.text (unbroken (is_none o) Rule.Known var.spot first.0),
              tt,
            ),
          ),
          tt,
        )
    action_given i p _ setter none good conds = tt

    pub creation_given : Gives (λ c. (c.var < length net.vars) × NotActed c.var) (creation_of to)
    creation_given i p (I.New var name) setter e good conds =
        let at = elsewhere scope p in
        let o = scope.pattern_of_var var.text in
        let told = variable_faults at var.text var.spot in
        let typed = broken_if (is_no_net o) Rule.Creation var.spot in
        let known = broken_if (not (scope.is_net name.text)) Rule.Known name.spot in
        let none = (both_nil told typed (both_nil (told ++ typed) known e).0).0 in
        let parts = both_nil (broken_if (is_none o) Rule.Known var.spot)
        (broken_if (not (at.may_stand var.text)) Rule.Actions var.spot) none in
        let there = unbroken (is_none o) Rule.Known var.spot parts.0 in (
          (
            declared_below plain net var.text there,
            name_free p setter var.text there
                (holds (at.may_stand var.text) Rule.Actions var.spot parts.1),
          ),
          tt,
        )
    creation_given i p _ setter e good conds = tt

    -- each inscription, where it stands
    pub record IsFine (i : PInscription) : Type 0 where
      pub at : Progress
      pub setter : at.setter ≡ number_among sets
      pub unbroken : inscription_faults scope at i i.form ≡ []
      pub exprs : AllByRecursion IsWellFormedExpr (exprs_of i.form)
      pub conds : AllByRecursion IsShallowCond (conds_of i.form)

    pub each_is_fine : (p : Progress) (is : List PInscription) → p.setter ≡ number_among sets →
        inscriptions_faults scope p is ≡ [] → AllByRecursion IsWellFormedInscription is →
        AllByRecursion IsFine is
    each_is_fine p [] setter e good = tt
    each_is_fine p (i ∷ is) setter e good =
        let both = both_nil (inscription_faults scope p i i.form)
        (inscriptions_faults scope (after p i.form) is) e in (
          record {
            at = p;
            setter = setter;
            unbroken = both.0;
            exprs = recursion_from_All IsWellFormedExpr (exprs_of i.form) good.0.exprs;
            conds = recursion_from_All IsShallowCond (conds_of i.form) good.0.conds;
          },
          each_is_fine (after p i.form) is setter both.1 good.1,
        )

    pub given : {A : Type 0} (Q : A → Type 0) (part : PInscribed → List A) → Gives Q part →
        (is : List PInscription) → AllByRecursion IsFine is →
        AllByRecursion Q (flat_map part (map (λ i. i.form) is))
    given Q part gives is fine =
        each_flat_map Q part (map (λ i. i.form) is)
        (each_map (λ form. AllByRecursion Q (part form)) (λ i. i.form) is
        (each_weaker IsFine (λ i. AllByRecursion Q (part i.form))
        (λ i f. gives i f.at i.form f.setter f.unbroken f.exprs f.conds) is fine))
