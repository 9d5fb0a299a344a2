use Rattle.std.proofs.Common.{◌≡◌, ◌∙◌, ◌+◌, ◌∷◌, drop, sym, ap, suc, subst, arith, length, true, false}
use Rattle.std.specs.Prelude.{slice_index_or}
use Rattle.std.proofs.lemmas.List.{drop_more}
use Rattle.rn_channel.specs.Heights.{calls_answered}
use Rattle.rn_channel.specs.link.Kept.{AreLevelsFrom, least_height}
use Rattle.rn_channel.proofs.LevelLemmas.{height_here, height_later}
use Rattle.rn_channel.proofs.heights.height_of.Goals as goal

pub returns-then-calls_answered : goal.returns-then-calls_answered
returns-then-calls_answered c = λ system are.
    let k = c.loop-k.k in
    let level = c.index-levels-k.result in
    let rest = drop (k + 1) c.args.levels.now in
    let left : drop k c.args.levels.now ≡ level ∷ rest
    = drop_more c.args.levels.now k level c.loop-k-test.true ∙ ap (λ l. l ∷ rest) (sym c.index-levels-k.is) in
    let so_far = c.loop-k.invariant system are in
    let answered : calls_answered (λ d. slice_index_or level d false) c.args.transition.now ≡ true
    = ap (λ l. calls_answered (λ d. slice_index_or l d false) c.args.transition.now) (sym c.as_slice.ensures)
    ∙ sym c.calls_answered.ensures
    ∙ c.if-calls_answered.true in
    sym (so_far.1
    ∙ height_here system c.args.transition.now k (drop k c.args.levels.now) rest level left so_far.0 answered)

pub loop-k-preserved : goal.loop-k-preserved
loop-k-preserved c = λ system are.
    let k = c.loop-k.k in
    let level = c.index-levels-k.result in
    let rest = drop (k + 1) c.args.levels.now in
    let left : drop k c.args.levels.now ≡ level ∷ rest
    = drop_more c.args.levels.now k level c.loop-k-test.true ∙ ap (λ l. l ∷ rest) (sym c.index-levels-k.is) in
    let so_far = c.loop-k.invariant system are in
    let unanswered : calls_answered (λ d. slice_index_or level d false) c.args.transition.now ≡ false
    = ap (λ l. calls_answered (λ d. slice_index_or l d false) c.args.transition.now) (sym c.as_slice.ensures)
    ∙ sym c.calls_answered.ensures
    ∙ c.if-calls_answered.false in
    let later = height_later system c.args.transition.now k (drop k c.args.levels.now) rest level left
    so_far.0 unanswered in
    let next : suc k ≡ k + 1 = omega arith in (
      subst (λ n. AreLevelsFrom system n rest) next later.0,
      so_far.1
          ∙ later.1
          ∙ ap (λ n. least_height system c.args.transition.now n (length rest)) next,
    )
