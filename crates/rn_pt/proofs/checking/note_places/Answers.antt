use Rattle.std.proofs.Common.{◌∙◌, ap}
use Rattle.std.proofs.lemmas.List.{take_all}
use Rattle.std.specs.Prelude.{flat_map}
use Rattle.rn_pt.specs.Faults.{first_from}
use Rattle.rn_pt.specs.Rules.{place_broken}
use Rattle.rn_pt.proofs.NotedLemmas.{noted_more}
use Rattle.rn_pt.proofs.checking.note_places.Goals as goal

pub loop-place-preserved : goal.loop-place-preserved
loop-place-preserved c =
    let xs = c.args.places.now in
    let x = c.place-item.result in
    c.note_amount.ensures
    ∙ ap (λ k. first_from k (place_broken x)) c.loop-place.invariant
    ∙ noted_more place_broken xs c.loop-place.place-index x c.args.first.now.broken c.loop-place-test.true c.place-item.is

pub returns : goal.returns
returns c =
    c.loop-place.invariant
    ∙ ap (λ ys. first_from c.args.first.now.broken (flat_map place_broken ys))
    (take_all c.loop-place.place-index c.args.places.now c.loop-place-test.false)
