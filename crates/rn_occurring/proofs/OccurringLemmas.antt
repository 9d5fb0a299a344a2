-- The variables that occur in a transition, part by part.
use Rattle.std.proofs.Common.{◌≡◌, ℕ, Bool, true, false, cond, not, List, [], ◌∷◌, ◌++◌, map, refl, sym, ap, ◌∙◌}
use Rattle.std.proofs.Math.Path.{fun_ext}
use Rattle.std.specs.Prelude.{flat_map, filter}
use Rattle.std.specs.List.{concat}
use Rattle.std.proofs.lemmas.List.{append-nil, append_assoc}
use Rattle.std.proofs.lemmas.List.Concat.{concat_is, flat_map-append}
use Rattle.std.proofs.lemmas.List.Folds.{flat_map-map}
use Rattle.rn_model.specs.declared.expr.Expr.{Expr}
use Rattle.rn_model.specs.declared.expr.Cond.{Cond, fold_out-Cond}
use Rattle.rn_model.specs.declared.system.NetArc.{NetArc}
use Rattle.rn_model.specs.declared.system.Downlink.{Downlink}
use Rattle.rn_model.specs.declared.system.Action.{Action}
use Rattle.rn_model.specs.Systems.{vars_in, is_output}
use Rattle.rn_model.specs.Good.{Comparison, comparisons_step, comparisons_in, guard_exprs, action_expr}
use Rattle.rn_occurring.specs.link.OccurringParts.{comparisons_of, comparison_vars, vars_of_simple, vars_of_cond}
use Rattle.rn_occurring.specs.link.OccurringParts.{is_wanted, vars_of_arc}
use Rattle.rn_items.proofs.Lists.{flat_nested}

-- the variables of a condition are those of its lists
pub cond_vars : (c : Cond) → vars_of_cond c ≡ flat_map (flat_map vars_of_simple) c.any
cond_vars c =
    ap (flat_map comparison_vars)
    (fold_out-Cond (List Comparison) (List Comparison) comparisons_step
    (λ cond. flat_map (λ list. flat_map (λ c. c) list) cond.any) c
    ∙ flat_map-map (λ list. flat_map (λ c. c) list) (map comparisons_of) c.any
    ∙ ap (λ f. flat_map f c.any) (fun_ext (λ list. flat_map-map (λ c. c) comparisons_of list)))
    ∙ flat_nested comparison_vars (flat_map comparisons_of) c.any
    ∙ ap (λ f. flat_map f c.any) (fun_ext (λ list. flat_nested comparison_vars comparisons_of list))

two : (a b : Expr) → vars_in a ++ vars_in b ≡ flat_map vars_in (a ∷ b ∷ [])
two a b = ap (λ xs. vars_in a ++ xs) (sym (append-nil (vars_in b)))

each : {X : Type 0} (f : X → List ℕ) (g : X → List Expr) → ((x : X) → f x ≡ flat_map vars_in (g x)) →
    (xs : List X) → flat_map f xs ≡ flat_map vars_in (flat_map g xs)
each f g same xs = ap (λ h. flat_map h xs) (fun_ext same) ∙ sym (flat_nested vars_in g xs)

pub pairs_vars : (pairs : List (Expr × Expr)) →
    flat_map (λ e. vars_in e.0 ++ vars_in e.1) pairs
    ≡ flat_map vars_in (flat_map (λ e. e.0 ∷ e.1 ∷ []) pairs)
pairs_vars = each (λ e. vars_in e.0 ++ vars_in e.1) (λ e. e.0 ∷ e.1 ∷ []) (λ e. two e.0 e.1)

pub guards_vars : (guards : List Cond) →
    flat_map vars_of_cond guards ≡ flat_map vars_in (flat_map guard_exprs guards)
guards_vars =
    each vars_of_cond guard_exprs
    (λ cond. each comparison_vars (λ c. c.left ∷ c.right ∷ []) (λ c. two c.left c.right)
    (comparisons_in cond))

pub args_vars : (args : List Expr) → concat (map vars_in args) ≡ flat_map vars_in args
args_vars args = concat_is (map vars_in args) ∙ flat_map-map (λ x. x) vars_in args

pub downlinks_vars : (downlinks : List Downlink) →
    flat_map (λ d. vars_in d.target ++ concat (map vars_in d.args)) downlinks
    ≡ flat_map vars_in (flat_map (λ d. d.target ∷ d.args) downlinks)
downlinks_vars =
    each (λ d. vars_in d.target ++ concat (map vars_in d.args)) (λ d. d.target ∷ d.args)
    (λ d. ap (λ xs. vars_in d.target ++ xs) (args_vars d.args))

wanted_vars : (outputs : Bool) (arcs : List NetArc) →
    flat_map (vars_of_arc outputs) arcs
    ≡ flat_map vars_in (map (λ arc. arc.inscription) (filter (λ arc. is_wanted outputs arc.kind) arcs))
wanted_vars outputs [] = refl
wanted_vars outputs (arc ∷ arcs) = by (is_wanted outputs arc.kind) (wanted_vars outputs arcs)
  where
    by : (b : Bool) →
        flat_map (vars_of_arc outputs) arcs
        ≡ flat_map vars_in (map (λ arc. arc.inscription) (filter (λ arc. is_wanted outputs arc.kind) arcs)) →
        cond b (vars_in arc.inscription) [] ++ flat_map (vars_of_arc outputs) arcs
        ≡ flat_map vars_in
        (map (λ arc. arc.inscription)
        (cond b (arc ∷ filter (λ arc. is_wanted outputs arc.kind) arcs)
        (filter (λ arc. is_wanted outputs arc.kind) arcs)))
    by true next = ap (λ xs. vars_in arc.inscription ++ xs) next
    by false next = next

if_same : (b : Bool) → cond b true false ≡ b
if_same true = refl
if_same false = refl

if_not : (b : Bool) → cond b false true ≡ not b
if_not true = refl
if_not false = refl

pub others_vars : (arcs : List NetArc) →
    flat_map (vars_of_arc false) arcs
    ≡ flat_map vars_in (map (λ arc. arc.inscription) (filter (λ arc. not (is_output arc.kind)) arcs))
others_vars arcs =
    wanted_vars false arcs
    ∙ ap (λ p. flat_map vars_in (map (λ arc. arc.inscription) (filter p arcs)))
    (fun_ext (λ arc. if_not (is_output arc.kind)))

pub outputs_vars : (arcs : List NetArc) →
    flat_map (vars_of_arc true) arcs
    ≡ flat_map vars_in (map (λ arc. arc.inscription) (filter (λ arc. is_output arc.kind) arcs))
outputs_vars arcs =
    wanted_vars true arcs
    ∙ ap (λ p. flat_map vars_in (map (λ arc. arc.inscription) (filter p arcs)))
    (fun_ext (λ arc. if_same (is_output arc.kind)))

pub actions_vars : (actions : List Action) →
    flat_map (λ action. vars_in (action_expr action)) actions
    ≡ flat_map vars_in (map action_expr actions)
actions_vars actions = sym (flat_map-map vars_in action_expr actions)

-- the variables of some expressions were put, and those of more
pub put_more : (before after now part : List ℕ) (xs ys : List Expr) → now ≡ after ++ part →
    part ≡ flat_map vars_in ys → after ≡ before ++ flat_map vars_in xs →
    now ≡ before ++ flat_map vars_in (xs ++ ys)
put_more before after now part xs ys put is old =
    put
    ∙ ap (λ vs. vs ++ part) old
    ∙ append_assoc before (flat_map vars_in xs) part
    ∙ ap (λ vs. before ++ (flat_map vars_in xs ++ vs)) is
    ∙ ap (λ vs. before ++ vs) (sym (flat_map-append vars_in xs ys))

pub put_rest : (before after now all part : List ℕ) → now ≡ after ++ part → after ≡ before ++ all →
    now ≡ before ++ (all ++ part)
put_rest before after now all part put old =
    put ∙ ap (λ vs. vs ++ part) old ∙ append_assoc before all part
