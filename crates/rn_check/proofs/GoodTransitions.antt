-- A transition in which nothing is broken is good.
use Rattle.std.proofs.Common.{◌≡◌, ◌≢◌, ℕ, ◌+◌, ◌<◌, ◌≤◌, Bool, true, false, ◌||◌, not, List, []}
use Rattle.std.proofs.Common.{◌∷◌}
use Rattle.std.proofs.Common.{◌++◌, map, refl, sym, ap, ◌∙◌, subst, length, arith, inl, inr}
use Rattle.std.proofs.Common.{length-append}
use Rattle.std.specs.Prelude.{nat_eq, flat_map, filter, slice_get, AllPairs}
use Rattle.std.specs.Prelude.{All}
use Rattle.std.specs.Prelude.{Contains, IsTrue, is_some, if◌then◌else◌}
use Rattle.std.specs.Option.{option_map_or}
use Rattle.std.specs.List.{AllByRecursion, list_any}
use Rattle.std.proofs.lemmas.List.{length-map}
use Rattle.std.proofs.lemmas.Bool.{eqb-true, eq-eqb}
use Rattle.std.proofs.lemmas.List.Elements.{All-from_recursion, recursion_from_All}
use Rattle.rn_items.proofs.Bools.{or_true, or_left, or_right}
use Rattle.rn_model.specs.declared.expr.Expr.{Expr}
use Rattle.rn_model.specs.declared.system.Transition.{Transition}
use Rattle.rn_model.specs.declared.system.Uplink.{Uplink}
use Rattle.rn_model.specs.Limits.{most_nested, most_inscriptions, longest_name}
use Rattle.rn_model.specs.Kinds.{expr_narrow, expr_depth, holds_step}
use Rattle.rn_model.specs.Systems.{vars_in, is_output, holds_action_var}
use Rattle.rn_model.specs.Good.{IsGoodTransition, IsCounted, UsesActions, occurring}
use Rattle.rn_model.specs.Good.{all_exprs, searched_exprs, output_exprs, action_expr, set_var}
use Rattle.rn_model.specs.Good.{guard_exprs, cond_depth, inscription_count}
use Rattle.rn_model.proofs.EachElement.{each_append, each_map, each_flat_map, each_weaker}
use Rattle.rn_model.proofs.EachElement.{each_filter}
use Rattle.rn_inscript.specs.declared.inscriptions.PInscribed.{PInscribed}
use Rattle.rn_inscript.specs.declared.inscriptions.PInscribed.TheVariants as I
use Rattle.rn_inscript.specs.declared.inscriptions.PInscription.{PInscription}
use Rattle.rn_net.specs.declared.plain.Plain.{Plain}
use Rattle.rn_net.specs.declared.plain.PNet.{PNet}
use Rattle.rn_net.specs.declared.plain.PTransition.{PTransition}
use Rattle.rn_declared.specs.Faults.{past_limit}
use Rattle.rn_rules.specs.Actions.{set_names}
use Rattle.rn_rules.specs.Transitions.{inscriptions_faults, at_first, transition_faults}
use Rattle.rn_rules.specs.Systems.{scope_of}
use Rattle.rn_numbered.specs.Numbered.{Numbers}
use Rattle.rn_numbering.specs.Numbering.{numbers_of, numbered_net_of, system_of, transition_of}
use Rattle.rn_numbered.specs.Numbered.{inscribed, equality_of, guard_of}
use Rattle.rn_occurring.specs.TransitionVars.{is_among}
use Rattle.rn_numbered.specs.Numbered.{action_of, creation_of, uplink_of, downlink_of, arc_of}
use Rattle.rn_spelled.specs.WellFormed.{IsWellFormedTransition, IsWellFormedInscription}
use Rattle.rn_declared.proofs.Faultless.{both_nil, within_limit}
use Rattle.rn_check.proofs.TransitionKinds.{is_well_kinded}
use Rattle.rn_check.proofs.ScopeKinds.{var_of}
use Rattle.rn_check.proofs.TransitionFacts as Facts
use Rattle.rn_check.proofs.ActionOrder.{acted_are, new_each, in_order}
use Rattle.rn_check.proofs.ActionVars.{IsDeclared, NewEach, all_declared, numbers_apart}
use Rattle.rn_check.proofs.ItsVars.{acts, has_its_vars, there_among}

-- how many parts one inscription gives, and all
module _ (to : Numbers) where
  abbrev parts_count : List PInscribed → ℕ
  parts_count is =
      length (flat_map (equality_of to) is) + length (flat_map (guard_of to) is)
      + length (flat_map (action_of to) is) + length (flat_map (creation_of to) is)
      + length (flat_map (uplink_of to) is) + length (flat_map (downlink_of to) is)
      + length (flat_map (arc_of to) is)

  abbrev one_count : PInscribed → ℕ
  one_count i =
      length (equality_of to i) + length (guard_of to i) + length (action_of to i)
      + length (creation_of to i) + length (uplink_of to i) + length (downlink_of to i)
      + length (arc_of to i)

  one_part : (i : PInscribed) → one_count i ≡ 1
  one_part (I.Arc kind place e) = refl
  one_part (I.Guard cond) = refl
  one_part (I.Print e) = refl
  one_part (I.Set var e) = refl
  one_part (I.Uplink channel args) = refl
  one_part (I.New var name) = refl
  one_part (I.Downlink target channel args) = refl
  one_part (I.Equality a b) = refl

  all_parts : (is : List PInscribed) → parts_count is ≡ length is
  all_parts [] = refl
  all_parts (i ∷ is) =
      let one = one_part i in
      let rest = all_parts is in
      let a = length-append (equality_of to i) (flat_map (equality_of to) is) in
      let b = length-append (guard_of to i) (flat_map (guard_of to) is) in
      let c = length-append (action_of to i) (flat_map (action_of to) is) in
      let d = length-append (creation_of to i) (flat_map (creation_of to) is) in
      let e = length-append (uplink_of to i) (flat_map (uplink_of to) is) in
      let f = length-append (downlink_of to i) (flat_map (downlink_of to) is) in
      let g = length-append (arc_of to i) (flat_map (arc_of to) is) in
      omega (arith, one, rest, a, b, c, d, e, f, g)

at_most_all : (us : List Uplink) → (if is_some (slice_get us 0) then 1 else 0) ≤ length us
at_most_all [] = omega arith
at_most_all (u ∷ us) = omega arith

module _ (plain : Plain) (net : PNet) (t : PTransition) where
  abbrev is : List PInscription
  is = t.inscriptions

  abbrev sets : List (List ℕ)
  sets = set_names is

  abbrev base : Transition
  base = inscribed (numbers_of plain net) t.name.text (map (λ i. i.form) is)

  abbrev made : Transition
  made = transition_of plain net t

  module _ (none : transition_faults (scope_of plain net) t ≡ [])
      (good : IsWellFormedTransition t) where
    unbroken : inscriptions_faults (scope_of plain net) (at_first is) is ≡ []
    unbroken =
        (both_nil (inscriptions_faults (scope_of plain net) (at_first is) is)
        (past_limit most_inscriptions (map (λ i. i.spot) is)) none).0

    new : NewEach plain net [] sets
    new = new_each plain net sets [] (at_first is) is refl refl refl unbroken

    declared : AllByRecursion (IsDeclared plain net) sets
    declared = all_declared plain net [] sets new

    abbrev Searched : Expr → Type 0
    Searched = Facts.IsSearched plain net sets declared

    abbrev Output : Expr → Type 0
    Output = Facts.IsOutput plain net sets declared

    abbrev Fine : Expr → Type 0
    Fine = Facts.IsFineExpr plain net

    fine : AllByRecursion (Facts.IsFine plain net sets declared) is
    fine = Facts.each_is_fine plain net sets declared (at_first is) is refl unbroken
        (recursion_from_All IsWellFormedInscription is good.inscriptions)

    abbrev Arc : Bool → Expr → Type 0
    Arc = Facts.ArcHas plain net sets declared

    arcs : AllByRecursion (λ arc. Arc (is_output arc.kind) arc.inscription) base.arcs
    arcs = Facts.given plain net sets declared _ (arc_of (numbers_of plain net))
        (Facts.arc_given plain net sets declared) is fine

    actions : AllByRecursion (Facts.ActionHas plain net sets declared) base.actions
    actions = Facts.given plain net sets declared _ (action_of (numbers_of plain net))
        (Facts.action_given plain net sets declared) is fine

    creations : AllByRecursion
        (λ c. (c.var < length net.vars) × Facts.NotActed plain net sets declared c.var)
        base.creations
    creations = Facts.given plain net sets declared _ (creation_of (numbers_of plain net))
        (Facts.creation_given plain net sets declared) is fine

    guards : AllByRecursion (Facts.GuardHas plain net sets declared) base.guards
    guards = Facts.given plain net sets declared _ (guard_of (numbers_of plain net))
        (Facts.guard_given plain net sets declared) is fine

    first_args : (us : List Uplink) → AllByRecursion (λ u. AllByRecursion Searched u.args) us →
        AllByRecursion Searched (option_map_or (λ u. u.args) (slice_get us 0) [])
    first_args [] all = tt
    first_args (u ∷ us) all = all.0

    no_output : (b : Bool) (e : Expr) → Arc b e → not b ≡ true → Searched e
    no_output true e has is = absurd (let no : ⊥ = cc in no)
    no_output false e has is = has

    an_output : (b : Bool) (e : Expr) → Arc b e → b ≡ true → Output e
    an_output true e has is = has
    an_output false e has is = absurd (let no : ⊥ = cc in no)

    searched_arcs : AllByRecursion Searched
        (map (λ arc. arc.inscription) (filter (λ arc. not (is_output arc.kind)) base.arcs))
    searched_arcs =
        each_map Searched (λ arc. arc.inscription)
        (filter (λ arc. not (is_output arc.kind)) base.arcs)
        (each_filter (λ arc. Searched arc.inscription) (λ arc. not (is_output arc.kind)) base.arcs
        (each_weaker (λ arc. Arc (is_output arc.kind) arc.inscription)
        (λ arc. not (is_output arc.kind) ≡ true → Searched arc.inscription)
        (λ arc has. no_output (is_output arc.kind) arc.inscription has) base.arcs arcs))

    outputs : AllByRecursion Output (output_exprs base)
    outputs =
        each_map Output (λ arc. arc.inscription) (filter (λ arc. is_output arc.kind) base.arcs)
        (each_filter (λ arc. Output arc.inscription) (λ arc. is_output arc.kind) base.arcs
        (each_weaker (λ arc. Arc (is_output arc.kind) arc.inscription)
        (λ arc. is_output arc.kind ≡ true → Output arc.inscription)
        (λ arc has. an_output (is_output arc.kind) arc.inscription has) base.arcs arcs))

    searched : AllByRecursion Searched (searched_exprs base)
    searched =
        let to = numbers_of plain net in
        let equalities = each_flat_map Searched (λ e. e.0 ∷ e.1 ∷ []) base.equalities
        (Facts.given plain net sets declared _ (equality_of to)
        (Facts.equality_given plain net sets declared) is fine) in
        let of_guards = each_flat_map Searched guard_exprs base.guards
        (each_weaker (Facts.GuardHas plain net sets declared)
        (λ g. AllByRecursion Searched (guard_exprs g)) (λ g has. has.0) base.guards guards) in
        let uplink = first_args (flat_map (uplink_of to) (map (λ i. i.form) is))
        (Facts.given plain net sets declared _ (uplink_of to)
        (Facts.uplink_given plain net sets declared) is fine) in
        let downlinks = each_flat_map Searched (λ d. d.target ∷ d.args) base.downlinks
        (Facts.given plain net sets declared _ (downlink_of to)
        (Facts.downlink_given plain net sets declared) is fine) in
        each_append Searched _ _
        (each_append Searched _ _
        (each_append Searched _ _ (each_append Searched _ _ equalities of_guards) uplink) downlinks)
        searched_arcs

    all_fine : AllByRecursion Fine (all_exprs base)
    all_fine =
        each_append Fine (searched_exprs base ++ output_exprs base) (map action_expr base.actions)
        (each_append Fine (searched_exprs base) (output_exprs base)
        (each_weaker Searched Fine (λ e s. s.fine) (searched_exprs base) searched)
        (each_weaker Output Fine (λ e s. s.fine) (output_exprs base) outputs))
        (each_map Fine action_expr base.actions
        (each_weaker (Facts.ActionHas plain net sets declared) (λ a. Fine (action_expr a))
        (λ a has. has.0) base.actions actions))

    abbrev Below : ℕ → Type 0
    Below x = x < length net.vars

    below : AllByRecursion Below (occurring base)
    below =
        each_append Below
        (flat_map vars_in (all_exprs base) ++ map (λ c. c.var) base.creations)
        (flat_map set_var base.actions)
        (each_append Below (flat_map vars_in (all_exprs base)) (map (λ c. c.var) base.creations)
        (each_flat_map Below vars_in (all_exprs base)
        (each_weaker Fine (λ e. AllByRecursion Below (vars_in e)) (λ e f. f.vars) (all_exprs base)
        all_fine))
        (each_map Below (λ c. c.var) base.creations
        (each_weaker (λ c. Below c.var × Facts.NotActed plain net sets declared c.var)
        (λ c. Below c.var) (λ c has. has.0) base.creations creations)))
        (each_flat_map Below set_var base.actions
        (each_weaker (Facts.ActionHas plain net sets declared)
        (λ a. AllByRecursion Below (set_var a)) (λ a has. has.1) base.actions actions))

    abbrev NotActed : ℕ → Type 0
    NotActed = Facts.NotActed plain net sets declared

    acting : (x : ℕ) → is_among made.action_vars x ≡ true →
        is_among (Facts.acted plain net sets declared) x ≡ true
    acting x e =
        ap (λ xs. is_among xs x) (sym (acted_are plain net is))
        ∙ acts (length net.vars) base below x e

    not_in : (ys : List ℕ) (x : ℕ) → AllByRecursion NotActed ys → is_among ys x ≡ true → NotActed x
    not_in [] x all e = absurd (let no : ⊥ = cc in no)
    not_in (y ∷ ys) x all e =
        elim (or_true (nat_eq x y) (is_among ys x) e) [
          | inl here ↦ subst NotActed (sym (eqb-true x y here)) all.0
          | inr there ↦ not_in ys x all.1 there
        ]

    none_held : (xs ys : List ℕ) → ((x : ℕ) → is_among xs x ≡ true →
        is_among (Facts.acted plain net sets declared) x ≡ true) → AllByRecursion NotActed ys →
        list_any (λ x. list_any (nat_eq x) ys) xs ≡ false
    none_held [] ys sub all = refl
    none_held (x ∷ xs) ys sub all =
        by (is_among ys x) refl
        (none_held xs ys (λ y e. sub y (or_right (nat_eq y x) (is_among xs y) e)) all)
      where
        by : (b : Bool) → is_among ys x ≡ b →
            list_any (λ x. list_any (nat_eq x) ys) xs ≡ false →
            (b || list_any (λ x. list_any (nat_eq x) ys) xs) ≡ false
        by true here rest =
            absurd (not_in ys x all here
            (sub x (or_left (nat_eq x x) (is_among xs x) (eq-eqb x x refl))))
        by false here rest = rest

    uses : UsesActions made
    uses = record {
      once = subst (AllPairs (λ x y. x ≢ y)) (sym (acted_are plain net is))
          (numbers_apart plain net [] sets new);
      later = in_order plain net sets made declared acting [] [] (at_first is) is refl refl refl
          (λ name e. absurd (let no : ⊥ = cc in no)) unbroken;
      searched = All-from_recursion _ (searched_exprs made)
          (each_weaker Searched
          (λ e. (holds_action_var made e ≡ false) × (holds_step e ≡ false))
          (λ e s. (none_held made.action_vars (vars_in e) acting s.free, s.steps))
          (searched_exprs base) searched);
      outputs = All-from_recursion _ (output_exprs made)
          (each_weaker Output (λ e. holds_step e ≡ false) (λ e s. s.steps) (output_exprs base)
          outputs);
      creations = All-from_recursion _ made.creations
          (each_weaker (λ c. Below c.var × NotActed c.var)
          (λ c. Contains made.action_vars c.var → ⊥)
          (λ c has there. has.1 (acting c.var (there_among made.action_vars c.var there)))
          base.creations creations);
    }

    counted : AllByRecursion (IsCounted (numbered_net_of plain net) made) base.arcs
    counted =
        each_weaker (Facts.Counted plain net sets declared) (IsCounted (numbered_net_of plain net) made)
        (λ arc has kind held. elim (has kind) [
          | inl none ↦ none
          | inr free ↦
              let no : true ≡ false =
              sym held ∙ none_held made.action_vars (vars_in arc.inscription) acting free in
              absurd (let no : ⊥ = cc in no)
        ])
        base.arcs
        (Facts.given plain net sets declared _ (arc_of (numbers_of plain net))
        (Facts.counted_given plain net sets declared) is fine)

    few : inscription_count made ≤ most_inscriptions
    few =
        let limit = within_limit most_inscriptions (map (λ i. i.spot) is)
        (both_nil (inscriptions_faults (scope_of plain net) (at_first is) is)
        (past_limit most_inscriptions (map (λ i. i.spot) is)) none).1 in
        let parts = all_parts (numbers_of plain net) (map (λ i. i.form) is) in
        let one = at_most_all
        (flat_map (uplink_of (numbers_of plain net)) (map (λ i. i.form) is)) in
        let forms = length-map is (λ i. i.form) in
        let spots = length-map is (λ i. i.spot) in
        omega (arith, limit, parts, one, forms, spots)

    pub is_good : length t.name.text ≤ longest_name →
        IsGoodTransition (system_of plain) (numbered_net_of plain net) made
    is_good short = record {
      name = (good.name, short);
      its_vars = has_its_vars (length net.vars) base below;
      in_range = subst (λ n. All (λ x. x < n) (occurring made))
          (sym (length-map net.vars var_of))
          (All-from_recursion Below (occurring base) below);
      uses = uses;
      kinds = is_well_kinded plain net t none;
      deep = All-from_recursion _ (all_exprs made)
          (each_weaker Fine (λ e. expr_depth e ≤ most_nested) (λ e f. f.deep) (all_exprs base)
          all_fine);
      guards_deep = All-from_recursion _ made.guards
          (each_weaker (Facts.GuardHas plain net sets declared) (λ g. cond_depth g ≤ most_nested)
          (λ g has. has.1) base.guards guards);
      narrow = All-from_recursion _ (all_exprs made)
          (each_weaker Fine (λ e. IsTrue (expr_narrow e)) (λ e f. f.narrow) (all_exprs base)
          all_fine);
      many = few;
      counted = All-from_recursion (IsCounted (numbered_net_of plain net) made) made.arcs counted;
    }
