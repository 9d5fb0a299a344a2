-- The variables are those that were marked.
use Rattle.std.proofs.Common.{◌∙◌, ◌&&◌, not, ap, false, get_or}
use Rattle.std.specs.Prelude.{filter}
use Rattle.std.specs.List.{range_with_len}
use Rattle.rn_occurring.proofs.MarkLemmas.{with_vars_is}
use Rattle.rn_occurring.proofs.marks.marked_vars.Goals as goal

pub returns : goal.returns
returns c =
    let count = c.args.count in
    let occurs = c.in_ok-occurs.occurs.items in
    let acts = c.in_ok-acts.acts.items in
    let range = range_with_len 0 count in
    with_vars_is c.args.t.now count occurs acts c.in_ok-vars.vars c.in_ok-action_vars.action_vars
    c.in_ok-occurs.ensures.1 c.in_ok-acts.ensures.1
    (c.in_ok-vars.ensures
    ∙ ap (λ xs. filter (λ x. get_or xs x false && not (get_or c.as_slice-2.result.now x false)) range)
    c.as_slice.ensures.value
    ∙ ap (λ xs. filter (λ x. get_or occurs x false && not (get_or xs x false)) range)
    c.as_slice-2.ensures.value)
    (c.in_ok-action_vars.ensures ∙ ap (λ xs. filter (λ x. get_or xs x false) range) c.as_slice-3.ensures.value)
