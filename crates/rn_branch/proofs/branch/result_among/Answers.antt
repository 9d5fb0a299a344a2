-- By the operator application at the index.
use Rattle.std.proofs.Common.{◌≡◌, ◌≤◌, ◌<◌, ◌∙◌, length, get_or, sym, ap, arith, rules, w64}
use Rattle.std.specs.Prelude.{Some, slice_get}
use mir.Val.{SFits}
use Rattle.std.proofs.lemmas.Int.{to_z-of_z}
use Rattle.std.proofs.lemmas.Option.{slice_get_past, slice_get-get_or}
use Rattle.rn_value.specs.declared.value.Value.TheVariants as Value
use Rattle.rn_growing.specs.declared.decision.Decision.TheVariants.{Computed}
use Rattle.rn_branch.proofs.Offering.{result_made, result_once, result_past}
use Rattle.rn_branch.proofs.branch.result_among.Goals as goal

pub returns-then-tried-gt0 : goal.returns-then-tried-gt0
returns-then-tried-gt0 c =
    sym (result_once c.args.problem.now c.args.decisions.now c.args.tried.node c.args.tried.k c.args.tried.n c.args.tried.a
    c.if-tried-gt0.true)

pub returns-in_default : goal.returns-in_default
returns-in_default c =
    let past : length c.args.found.now ≤ c.args.tried.k = c.in_default.ensures.lookup.3 in
    sym (result_past c.args.problem.now c.args.decisions.now c.args.tried.node c.args.tried.k c.args.tried.n c.args.tried.a
    c.args.found.now c.requires (slice_get_past c.args.found.now c.args.tried.k past))

pub returns : goal.returns
returns c =
    let fits : SFits w64 c.args.tried.n = search rules in
    let all = c.args.found.now in
    let it = c.in-Some.application.now in
    let found = c.in-Some.ensures.lookup in
    let below : c.args.tried.k < length all = found.3.0 in
    let here : it ≡ get_or all c.args.tried.k it = found.1 in
    let some : slice_get all c.args.tried.k ≡ Some it =
    slice_get-get_or all c.args.tried.k it below ∙ ap Some (sym here) in
    ap (λ m. Some (Computed c.in_ok-head.head it.site c.from_vec-way.result (Value.Int m)))
    (to_z-of_z w64 c.args.tried.n fits)
    ∙ result_made c.args.problem.now c.args.decisions.now c.args.tried.node c.args.tried.k c.args.tried.n c.args.tried.a all
    it c.in_ok-head.head c.from_vec-way.result c.requires some (omega arith)
    (c.in_ok-head.ensures ∙ c.node_of.ensures)
    (c.from_vec-way.ensures ∙ c.in_ok-from_slice.ensures.items ∙ c.as_slice.ensures)
