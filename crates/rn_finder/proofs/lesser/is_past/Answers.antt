use Rattle.std.proofs.Common.{◌≡◌, ◌∙◌, sym, ap, inl, inr}
use Rattle.std.specs.Prelude.{Some, slice_get}
use Rattle.std.specs.declared.cmp.Ordering.TheVariants.{Equal, Greater}
use Rattle.std.proofs.lemmas.Option.{slice_get-get_or}
use Rattle.rn_value.specs.Order.{value_cmp}
use Rattle.rn_finder.proofs.LesserBindings.{past_at}
use Rattle.rn_finder.proofs.lesser.is_past.Goals as goal

pub returns-in-Greater : goal.returns-in-Greater
returns-in-Greater c = λ yes.
    let values = c.args.values.now in
    let w = c.in-Some.other.now in
    let found = c.in-Some.ensures.lookup in
    let at : slice_get values c.loop-i.i ≡ Some w =
    slice_get-get_or values c.loop-i.i w found.3.0 ∙ ap Some (sym found.1) in
    let greater : value_cmp c.in-Some-2.value w ≡ Greater = sym c.cmp.ensures ∙ c.in-Greater.is in
    c.loop-i.invariant
    (past_at c.args.growing.now c.args.vars.now values c.loop-i.i 0 w c.in-Some-2.value
    c.loop-i-test.true at ((c.in_ok-value.ensures c.in-Some-2.value).0 c.in-Some-2.is)
    (inl greater))

pub loop-i-preserved : goal.loop-i-preserved
loop-i-preserved c = λ past.
    let values = c.args.values.now in
    let w = c.in-Some.other.now in
    let found = c.in-Some.ensures.lookup in
    let at : slice_get values c.loop-i.i ≡ Some w =
    slice_get-get_or values c.loop-i.i w found.3.0 ∙ ap Some (sym found.1) in
    let equal : value_cmp c.in-Some-2.value w ≡ Equal = sym c.cmp.ensures ∙ c.in-Equal.is in
    c.loop-i.invariant
    (past_at c.args.growing.now c.args.vars.now values c.loop-i.i 0 w c.in-Some-2.value
    c.loop-i-test.true at ((c.in_ok-value.ensures c.in-Some-2.value).0 c.in-Some-2.is)
    (inr (equal, past)))
