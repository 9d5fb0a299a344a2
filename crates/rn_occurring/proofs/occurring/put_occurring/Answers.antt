-- What was put is what occurs.
use Rattle.std.proofs.Common.{◌∙◌, ◌++◌, ◌∷◌, [], List, ap, map, not, true, false}
use Rattle.std.specs.Prelude.{flat_map, filter}
use Rattle.std.specs.List.{concat}
use Rattle.rn_model.specs.declared.expr.Expr.{Expr}
use Rattle.rn_model.specs.Systems.{vars_in, is_output, uplink_args}
use Rattle.rn_model.specs.Good.{action_expr, set_var, guard_exprs, all_exprs, searched_exprs, output_exprs}
use Rattle.rn_occurring.specs.link.OccurringParts.{vars_of_cond, vars_of_arc}
use Rattle.rn_occurring.proofs.OccurringLemmas.{pairs_vars, guards_vars, args_vars, downlinks_vars}
use Rattle.rn_occurring.proofs.OccurringLemmas.{others_vars, outputs_vars, actions_vars, put_more, put_rest}
use Rattle.rn_occurring.proofs.occurring.put_occurring.Goals as goal

pub returns : goal.returns
returns c =
    let t = c.args.t.now in
    let before = c.args.vars.now.items in
    let e1 : List Expr = flat_map (λ e. e.0 ∷ e.1 ∷ []) t.equalities in
    let e2 : List Expr = e1 ++ flat_map guard_exprs t.guards in
    let e3 : List Expr = e2 ++ uplink_args t in
    let e4 : List Expr = e3 ++ flat_map (λ d. d.target ∷ d.args) t.downlinks in
    let v1 = c.put_pairs.new.vars.items in
    let v2 = c.put_guards.new.vars.items in
    let v3 = c.put_uplink.new.vars.items in
    let v4 = c.put_downlinks.new.vars.items in
    let v5 = c.put_arcs.new.vars.items in
    let v6 = c.put_arcs-2.new.vars.items in
    let v7 = c.put_actions.new.vars.items in
    let v8 = c.put_creations.new.vars.items in
    let p1 = c.in_ok-put_pairs.ensures
    ∙ ap (λ xs. before ++ flat_map (λ e. vars_in e.0 ++ vars_in e.1) xs) c.as_slice.ensures
    ∙ ap (λ vs. before ++ vs) (pairs_vars t.equalities) in
    let p2 = put_more before v1 v2 (flat_map vars_of_cond t.guards) e1 (flat_map guard_exprs t.guards)
    (c.in_ok-put_guards.ensures ∙ ap (λ xs. v1 ++ flat_map vars_of_cond xs) c.as_slice-2.ensures)
    (guards_vars t.guards) p1 in
    let p3 = put_more before v2 v3 (concat (map vars_in (uplink_args t))) e2 (uplink_args t)
    c.in_ok-put_uplink.ensures (args_vars (uplink_args t)) p2 in
    let p4 = put_more before v3 v4 (flat_map (λ d. vars_in d.target ++ concat (map vars_in d.args)) t.downlinks) e3
    (flat_map (λ d. d.target ∷ d.args) t.downlinks)
    (c.in_ok-put_downlinks.ensures
    ∙ ap (λ xs. v3 ++ flat_map (λ d. vars_in d.target ++ concat (map vars_in d.args)) xs) c.as_slice-3.ensures)
    (downlinks_vars t.downlinks) p3 in
    let p5 = put_more before v4 v5 (flat_map (vars_of_arc false) t.arcs) e4
    (map (λ arc. arc.inscription) (filter (λ arc. not (is_output arc.kind)) t.arcs))
    (c.in_ok-put_arcs.ensures ∙ ap (λ xs. v4 ++ flat_map (vars_of_arc false) xs) c.as_slice-4.ensures)
    (others_vars t.arcs) p4 in
    let p6 = put_more before v5 v6 (flat_map (vars_of_arc true) t.arcs) (searched_exprs t) (output_exprs t)
    (c.in_ok-put_arcs-2.ensures ∙ ap (λ xs. v5 ++ flat_map (vars_of_arc true) xs) c.as_slice-5.ensures)
    (outputs_vars t.arcs) p5 in
    let p7 = put_more before v6 v7 (flat_map (λ action. vars_in (action_expr action)) t.actions)
    (searched_exprs t ++ output_exprs t) (map action_expr t.actions)
    (c.in_ok-put_actions.ensures
    ∙ ap (λ xs. v6 ++ flat_map (λ action. vars_in (action_expr action)) xs) c.as_slice-6.ensures)
    (actions_vars t.actions) p6 in
    let p8 = put_rest before v7 v8 (flat_map vars_in (all_exprs t)) (map (λ c. c.var) t.creations)
    (c.in_ok-put_creations.ensures ∙ ap (λ xs. v7 ++ map (λ c. c.var) xs) c.as_slice-7.ensures) p7 in
    put_rest before v8 c.put_set_vars.new.vars.items
    (flat_map vars_in (all_exprs t) ++ map (λ c. c.var) t.creations) (flat_map set_var t.actions)
    (c.in_ok-put_set_vars.ensures ∙ ap (λ xs. v8 ++ flat_map set_var xs) c.as_slice-8.ensures) p8
