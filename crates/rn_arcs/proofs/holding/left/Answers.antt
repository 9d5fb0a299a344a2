use Rattle.std.proofs.Common.{◌≡◌, ◌∙◌, true}
use Rattle.rn_model.specs.Lists.{count_of}
use Rattle.rn_model.specs.Markings.{tokens}
use Rattle.rn_arcs.proofs.TokenLemmas.{left_less, left_same}
use Rattle.rn_arcs.proofs.holding.left.Goals as goal
use Rattle.rn_arcs.proofs.holding.left.Goals.{then-same, else-same}

pub loop-other-preserved : goal.loop-other-preserved
loop-other-preserved c =
    let v = c.args.value.now in
    let held = count_of v (tokens c.args.table.now.marking c.args.inst.now c.args.place) in
    elim c.if-same.branch [
      | then-same w ↦
          left_less v c.other-item.result c.args.taken.now c.loop-other.other-index held
          c.loop-other.left c.if-same.left c.loop-other-test.true c.other-item.is
          c.loop-other.invariant (c.same.ensures.0 w.if-same.true)
          (w.left-is ∙ w.saturating_sub-left.ensures)
      | else-same w ↦
          left_same v c.other-item.result c.args.taken.now c.loop-other.other-index held
          c.loop-other.left c.if-same.left c.loop-other-test.true c.other-item.is
          c.loop-other.invariant (λ e. let yes : c.same.result ≡ true = c.same.ensures.1 e in cc)
          w.left-is
    ]
