-- One number more, where it is marked there alone.
use Rattle.std.proofs.Common.{ℕ, Bool, ◌∙◌, ◌&&◌, not, ap, false, get_or}
use Rattle.rn_occurring.proofs.MarkLemmas.{passed, passed_over}
use Rattle.rn_occurring.proofs.marks.marked_alone.Goals as goal
use Rattle.rn_occurring.proofs.marks.marked_alone.Goals.{then-marks-at+in_ok-push, else-marks-at}

pub loop-x-preserved : goal.loop-x-preserved
loop-x-preserved c =
    let p : ℕ → Bool = λ x. get_or c.args.marks.now x false && not (get_or c.args.here.now x false) in
    let x = c.loop-x.x in
    elim c.if-marks-at.branch [
      | then-marks-at+in_ok-push w ↦ ap (λ v. v.items) w.made-is
          ∙ passed p x c.loop-x.made.items w.push.new.self.items c.loop-x.invariant w.if-marks-at.true
          w.in_ok-push.ensures.items
      | else-marks-at w ↦ ap (λ v. v.items) w.made-is
          ∙ passed_over p x c.loop-x.made.items c.loop-x.invariant w.if-marks-at.false
    ]
