use Rattle.rn_end_marking.proofs.ShortLines.{nil_of}
use Rattle.rn_end_marking.proofs.short.is_short.Goals as goal

pub returns-then-is_empty-clause-short : goal.returns-then-is_empty-clause-short
returns-then-is_empty-clause-short c = (
  (λ empty some. absurd (some (nil_of c.args.line.now.bag.now (c.is_empty.ensures.0 empty)))),
  (λ short. c.if-is_empty.true),
)
