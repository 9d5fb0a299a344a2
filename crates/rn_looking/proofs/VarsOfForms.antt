-- The operator applications and guards of a transition: what stands there, and the variables.
use Rattle.std.proofs.Common.{◌≡◌, ℕ, ◌+◌, true, List, [], ◌∷◌, ◌++◌, map, length}
use Rattle.std.proofs.Common.{refl, sym, ap, subst, arith}
use Rattle.std.specs.Prelude.{Contains, Some, slice_get, flat_map, filter, not}
use Rattle.std.specs.List.{AllByRecursion, concat, enumerate_from}
use Rattle.std.proofs.lemmas.List.Elements.{All-contains, All-from_recursion}
use Rattle.std.proofs.lemmas.List.Elements.{Contains-append_left, Contains-append_right}
use Rattle.rn_model.specs.declared.expr.Cond.{Cond}
use Rattle.rn_model.specs.declared.expr.Expr.{Expr}
use Rattle.rn_model.specs.declared.expr.Expr.TheVariants as E
use Rattle.rn_model.specs.declared.system.NetArc.{NetArc}
use Rattle.rn_model.specs.declared.system.ArcKind.{ArcKind}
use Rattle.rn_model.specs.declared.system.ArcKind.TheVariants.{Input, Test, Reserve}
use Rattle.rn_model.specs.declared.system.ArcKind.TheVariants.{FlexInput, Inhibit}
use Rattle.rn_model.specs.declared.system.Downlink.{Downlink}
use Rattle.rn_model.specs.declared.system.Transition.{Transition}
use Rattle.rn_model.specs.Systems.{vars_in, is_output, uplink_args}
use Rattle.rn_model.specs.Derivation.{Site, Hole, holes_in, holes_of_parts, within_part, hole_itself}
use Rattle.rn_model.specs.Derivation.{sites_of, sides_of, args_of, uplink_arg, downlink_arg, arc}
use Rattle.rn_model.specs.Derivation.{finds_token}
use Rattle.rn_model.specs.Good.{searched_exprs, guard_exprs}
use Rattle.rn_model.proofs.AskedValues.{later, contained_mapped, contained_flat, got_contained}
use Rattle.rn_model.proofs.DerivationLemmas.{holes_in-Int, holes_in-Text, holes_in-Var}
use Rattle.rn_model.proofs.DerivationLemmas.{holes_in-This, holes_in-Tuple, holes_in-List}
use Rattle.rn_model.proofs.DerivationLemmas.{holes_in-Neg, holes_in-Op}
use Rattle.rn_model.proofs.DerivationLemmas.{vars_in-Tuple, vars_in-List, vars_in-Cons}
use Rattle.rn_model.proofs.EachElement.{each_append, each_map, each_flat_map, each_weaker}
use Rattle.rn_model.proofs.EachElement.{each_filter, each_place}
use Rattle.rn_model.proofs.FormsOfExpressions.{by_form}
use Rattle.rn_binding.specs.link.Applications.{with_holes}
use Rattle.rn_binding.proofs.HoleForms.{holes-Cons, holes-Step}
use Rattle.rn_search.proofs.Items.{in_filter}

-- the variables of an operator application are among these
abbrev IsOver : List ℕ → Hole → Type 0
IsOver vars hole = (x : ℕ) → Contains (vars_in hole.form) x → Contains vars x

-- those of the operator applications of an expression are its own
abbrev HasTheirs : Expr → Type 0
HasTheirs e = AllByRecursion (IsOver (vars_in e)) (holes_in e)

over_left : (vars others : List ℕ) (hs : List Hole) → AllByRecursion (IsOver vars) hs →
    AllByRecursion (IsOver (vars ++ others)) hs
over_left vars others hs all =
    each_weaker (IsOver vars) (IsOver (vars ++ others))
    (λ hole over x occurs. Contains-append_left vars others x (over x occurs)) hs all

over_right : (others vars : List ℕ) (hs : List Hole) → AllByRecursion (IsOver vars) hs →
    AllByRecursion (IsOver (others ++ vars)) hs
over_right others vars hs all =
    each_weaker (IsOver vars) (IsOver (others ++ vars))
    (λ hole over x occurs. Contains-append_right others vars x (over x occurs)) hs all

-- it doesn't matter as which part of the whole they are seen
as_part : (i : ℕ) (vars : List ℕ) (hs : List Hole) → AllByRecursion (IsOver vars) hs →
    AllByRecursion (IsOver vars) (map (within_part i) hs)
as_part i vars hs all = each_map (IsOver vars) (within_part i) hs all

in_parts : (i : ℕ) (parts : List Expr) → AllByRecursion HasTheirs parts →
    AllByRecursion (IsOver (concat (map vars_in parts))) (holes_of_parts i (map with_holes parts))
in_parts i [] all = tt
in_parts i (part ∷ parts) all =
    let rest = concat (map vars_in parts) in
    each_append (IsOver (vars_in part ++ rest)) (map (within_part i) (holes_in part))
    (holes_of_parts (i + 1) (map with_holes parts))
    (as_part i (vars_in part ++ rest) (holes_in part)
    (over_left (vars_in part) rest (holes_in part) all.0))
    (over_right (vars_in part) rest (holes_of_parts (i + 1) (map with_holes parts))
    (in_parts (i + 1) parts all.1))

made_of : (e : Expr) (hs : List Hole) (vars : List ℕ) → holes_in e ≡ hs → vars_in e ≡ vars →
    AllByRecursion (IsOver vars) hs → HasTheirs e
made_of e hs vars holes_are vars_are all =
    subst (AllByRecursion (IsOver (vars_in e))) (sym holes_are)
    (subst (λ vs. AllByRecursion (IsOver vs) hs) (sym vars_are) all)

has_none : (e : Expr) → holes_in e ≡ [] → HasTheirs e
has_none e none = subst (AllByRecursion (IsOver (vars_in e))) (sym none) tt

is_one : (e : Expr) → holes_in e ≡ hole_itself e → HasTheirs e
is_one e one = subst (AllByRecursion (IsOver (vars_in e))) (sym one) (λ x occurs. occurs, tt)

pub has_theirs : (e : Expr) → HasTheirs e
has_theirs = by_form HasTheirs (record {
  int = λ n. has_none (E.Int n) (holes_in-Int n);
  text = λ s. has_none (E.Text s) (holes_in-Text s);
  var = λ x. has_none (E.Var x) (holes_in-Var x);
  this = has_none E.This holes_in-This;
  step = has_none E.Step holes-Step;
  tuple = λ parts all.
      made_of (E.Tuple parts) (holes_of_parts 0 (map with_holes parts))
      (concat (map vars_in parts)) (holes_in-Tuple parts) (vars_in-Tuple parts)
      (in_parts 0 parts all);
  list = λ parts all.
      made_of (E.List parts) (holes_of_parts 0 (map with_holes parts))
      (concat (map vars_in parts)) (holes_in-List parts) (vars_in-List parts)
      (in_parts 0 parts all);
  cons = λ parts tail all last.
      let front = concat (map vars_in parts) in
      let first = holes_of_parts 0 (map with_holes parts) in
      let second = map (within_part (length parts)) (holes_in tail) in
      made_of (E.Cons parts tail) (first ++ second) (front ++ vars_in tail)
      (holes-Cons parts tail) (vars_in-Cons parts tail)
      (each_append (IsOver (front ++ vars_in tail)) first second
      (over_left front (vars_in tail) first (in_parts 0 parts all))
      (over_right front (vars_in tail) second
      (as_part (length parts) (vars_in tail) (holes_in tail) last)));
  neg = λ part all. is_one (E.Neg part) (holes_in-Neg part);
  op = λ kind a b one other. is_one (E.Op kind a b) (holes_in-Op kind a b);
})

pub hole_vars : (e : Expr) (hole : Hole) → Contains (holes_in e) hole → (x : ℕ) →
    Contains (vars_in hole.form) x → Contains (vars_in e) x
hole_vars e hole there =
    All-contains (IsOver (vars_in e)) (holes_in e) hole
    (All-from_recursion (IsOver (vars_in e)) (holes_in e) (has_theirs e)) there

no_output : (kind : ArcKind) → finds_token kind ≡ true → not (is_output kind) ≡ true
no_output Input finds = refl
no_output Test finds = refl
no_output Reserve finds = refl
no_output _ finds = absurd (let no : ⊥ = cc in no)

-- The expressions at whose operator applications a search looks are among those outside actions
-- and outputs.
module _ (t : Transition) where
  abbrev Is : Site × Expr → Type 0
  Is s = Contains (searched_exprs t) s.1

  abbrev sides : List Expr
  sides = flat_map (λ e. e.0 ∷ e.1 ∷ []) t.equalities

  abbrev guarded : List Expr
  guarded = flat_map guard_exprs t.guards

  abbrev called : List Expr
  called = flat_map (λ d. d.target ∷ d.args) t.downlinks

  abbrev inscribed : List Expr
  inscribed = map (λ arc. arc.inscription) (filter (λ arc. not (is_output arc.kind)) t.arcs)

  in_calls : (e : Expr) → Contains (((sides ++ guarded) ++ uplink_args t) ++ called) e →
      Contains (searched_exprs t) e
  in_calls e there =
      Contains-append_left (((sides ++ guarded) ++ uplink_args t) ++ called) inscribed e there

  in_uplink : (e : Expr) → Contains ((sides ++ guarded) ++ uplink_args t) e →
      Contains (searched_exprs t) e
  in_uplink e there =
      in_calls e (Contains-append_left ((sides ++ guarded) ++ uplink_args t) called e there)

  in_sides : (e : Expr) → Contains sides e → Contains (searched_exprs t) e
  in_sides e there =
      in_uplink e
      (Contains-append_left (sides ++ guarded) (uplink_args t) e
      (Contains-append_left sides guarded e there))

  pub guard_searched : (guard : Cond) (e : Expr) → Contains t.guards guard →
      Contains (guard_exprs guard) e → Contains (searched_exprs t) e
  guard_searched guard e there side =
      in_uplink e
      (Contains-append_left (sides ++ guarded) (uplink_args t) e
      (Contains-append_right sides guarded e
      (contained_flat guard_exprs t.guards guard e there side)))

  in_called : (e : Expr) → Contains called e → Contains (searched_exprs t) e
  in_called e there =
      in_calls e (Contains-append_right ((sides ++ guarded) ++ uplink_args t) called e there)

  inscribed_searched : (x : NetArc) → Contains t.arcs x → not (is_output x.kind) ≡ true →
      Contains (searched_exprs t) x.inscription
  inscribed_searched x there reads =
      Contains-append_right (((sides ++ guarded) ++ uplink_args t) ++ called) inscribed
      x.inscription
      (contained_mapped (λ (arc : NetArc). arc.inscription)
      (filter (λ arc. not (is_output arc.kind)) t.arcs) x
      (in_filter (λ arc. not (is_output arc.kind)) t.arcs x there reads))

  pub inscription_searched : (x : NetArc) → Contains t.arcs x → finds_token x.kind ≡ true →
      Contains (searched_exprs t) x.inscription
  inscription_searched x there finds = inscribed_searched x there (no_output x.kind finds)

  pub inhibitor_searched : (x : NetArc) → Contains t.arcs x → x.kind ≡ Inhibit →
      Contains (searched_exprs t) x.inscription
  inhibitor_searched x there kind =
      inscribed_searched x there (ap (λ z. not (is_output z)) kind)

  pub flexible_searched : (x : NetArc) → Contains t.arcs x → x.kind ≡ FlexInput →
      Contains (searched_exprs t) x.inscription
  flexible_searched x there kind = inscribed_searched x there (ap (λ z. not (is_output z)) kind)

  arg_searched : (i : ℕ) (d : Downlink) → slice_get t.downlinks i ≡ Some d → (e : Expr) →
      Contains d.args e → Contains (searched_exprs t) e
  arg_searched i d at e there =
      in_called e
      (contained_flat (λ (d : Downlink). d.target ∷ d.args) t.downlinks d e
      (got_contained t.downlinks i d at) (later d.target e d.args there))

  side_searched : (k : ℕ) (e : Expr × Expr) → slice_get t.equalities k ≡ Some e → (side : Expr) →
      Contains (e.0 ∷ e.1 ∷ []) side → Contains (searched_exprs t) side
  side_searched k e at side there =
      in_sides side
      (contained_flat (λ (e : Expr × Expr). e.0 ∷ e.1 ∷ []) t.equalities e side
      (got_contained t.equalities k e at) there)

  abbrev ups : List (Site × Expr)
  ups = map (λ e. (uplink_arg e.0, e.1)) (enumerate_from 0 (uplink_args t))

  abbrev calls : List (Site × Expr)
  calls = flat_map args_of (enumerate_from 0 t.downlinks)

  abbrev arcs : List (Site × Expr)
  arcs = map (λ e. (arc e.0, e.1.inscription))
      (filter (λ e. finds_token e.1.kind) (enumerate_from 0 t.arcs))

  sides_searched : AllByRecursion Is (flat_map sides_of (enumerate_from 0 t.equalities))
  sides_searched =
      each_flat_map Is sides_of (enumerate_from 0 t.equalities)
      (each_place (λ e. AllByRecursion Is (sides_of e)) t.equalities (λ k e at. (
        side_searched k e at e.0 (0, omega arith, refl),
        (side_searched k e at e.1 (1, omega arith, refl), tt),
      )))

  sites_searched : AllByRecursion Is (sites_of t)
  sites_searched =
      each_append Is ((flat_map sides_of (enumerate_from 0 t.equalities) ++ ups) ++ calls) arcs
      (each_append Is (flat_map sides_of (enumerate_from 0 t.equalities) ++ ups) calls
      (each_append Is (flat_map sides_of (enumerate_from 0 t.equalities)) ups sides_searched
      (each_map Is (λ e. (uplink_arg e.0, e.1)) (enumerate_from 0 (uplink_args t))
      (each_place (λ e. Is (uplink_arg e.0, e.1)) (uplink_args t) (λ k e at.
      in_uplink e
      (Contains-append_right (sides ++ guarded) (uplink_args t) e
      (got_contained (uplink_args t) k e at))))))
      (each_flat_map Is args_of (enumerate_from 0 t.downlinks)
      (each_place (λ d. AllByRecursion Is (args_of d)) t.downlinks (λ i d at.
      each_map Is (λ e. (downlink_arg i e.0, e.1)) (enumerate_from 0 d.args)
      (each_place (λ e. Is (downlink_arg i e.0, e.1)) d.args (λ k e here.
      arg_searched i d at e (got_contained d.args k e here)))))))
      (each_map Is (λ e. (arc e.0, e.1.inscription))
      (filter (λ e. finds_token e.1.kind) (enumerate_from 0 t.arcs))
      (each_filter (λ e. Is (arc e.0, e.1.inscription)) (λ e. finds_token e.1.kind)
      (enumerate_from 0 t.arcs)
      (each_place (λ e. finds_token e.1.kind ≡ true → Is (arc e.0, e.1.inscription)) t.arcs
      (λ k x at finds. inscription_searched x (got_contained t.arcs k x at) finds))))

  pub site_searched : (s : Site × Expr) → Contains (sites_of t) s → Contains (searched_exprs t) s.1
  site_searched s there =
      All-contains Is (sites_of t) s (All-from_recursion Is (sites_of t) sites_searched) there
