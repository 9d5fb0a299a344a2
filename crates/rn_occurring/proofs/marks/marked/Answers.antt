-- One number more, where it is marked.
use Rattle.std.proofs.Common.{ℕ, Bool, ◌∙◌, ap, false, get_or}
use Rattle.rn_occurring.proofs.MarkLemmas.{passed, passed_over}
use Rattle.rn_occurring.proofs.marks.marked.Goals as goal
use Rattle.rn_occurring.proofs.marks.marked.Goals.{then-marks-x+in_ok-push, else-marks-x}

pub loop-x-preserved : goal.loop-x-preserved
loop-x-preserved c =
    let p : ℕ → Bool = λ x. get_or c.args.marks.now x false in
    let x = c.loop-x.x in
    elim c.if-marks-x.branch [
      | then-marks-x+in_ok-push w ↦ ap (λ v. v.items) w.made-is
          ∙ passed p x c.loop-x.made.items w.push.new.self.items c.loop-x.invariant w.if-marks-x.true
          w.in_ok-push.ensures.items
      | else-marks-x w ↦ ap (λ v. v.items) w.made-is
          ∙ passed_over p x c.loop-x.made.items c.loop-x.invariant w.if-marks-x.false
    ]
