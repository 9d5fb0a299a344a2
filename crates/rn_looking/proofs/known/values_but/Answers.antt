-- Variable by variable.
use Rattle.std.proofs.Common.{get_or, take, ◌+◌, refl, sym, subst, ap, ◌∙◌}
use Rattle.rn_looking.specs.Knowing.{AreOthersOf}
use Rattle.rn_looking.proofs.KnownValues.{other_left_out, other_more}
use Rattle.rn_looking.proofs.known.values_but.Goals as goal
use Rattle.rn_looking.proofs.known.values_but.Goals.{then-x-but+in_ok-value+in-Some+in_ok-push}
use Rattle.rn_looking.proofs.known.values_but.Goals.{else-x-but}

pub loop-x-preserved : goal.loop-x-preserved
loop-x-preserved c =
    let g = c.args.growing.now in
    let path = c.args.path.now in
    let vars = c.args.vars.now in
    let i = c.loop-x.x-index in
    let x = get_or vars i 0 in
    elim c.if-x-but.branch [
      | then-x-but+in_ok-value+in-Some+in_ok-push w ↦
          other_more g path c.args.but vars i x c.loop-x-test.true refl c.loop-x.pairs.items
          c.loop-x.invariant w.in-Some.value c.if-x-but.pairs.items
          (ap (λ ps. ps.items) w.pairs-is ∙ w.in_ok-push.ensures.items)
          ((w.in_ok-value.ensures w.in-Some.value).0 w.in-Some.is)
      | else-x-but w ↦
          subst (λ ps. AreOthersOf g path c.args.but (take (i + 1) vars) ps.items)
          (sym w.pairs-is)
          (other_left_out g path c.args.but vars i x c.loop-x-test.true refl
          c.loop-x.pairs.items c.loop-x.invariant (sym w.if-x-but.false))
    ]
