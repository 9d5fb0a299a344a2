-- One more.
use Rattle.std.proofs.Common.{◌≡◌, ℕ, List, [], ◌∷◌, ◌++◌, ap, ◌∙◌}
use Rattle.rn_record_reader.specs.declared.maker.Maker.{Maker}
use Rattle.rn_record_reader.proofs.MakerLemmas.{next_maker}
use Rattle.rn_record_reader.proofs.makers.put_makers.Goals as goal

pub loop-index-preserved : goal.loop-index-preserved
loop-index-preserved c =
    let i = c.loop-index.index in
    let before = c.loop-index.makers.items in
    let maker : List ℕ → Maker = λ path. record { path = path; index = i } in
    let put : c.push.new.self.items ≡ before ++ maker c.args.path.now ∷ [] =
    c.in_ok-push.ensures.items ∙ ap (λ path. before ++ maker path ∷ []) (c.from_vec.ensures ∙ c.in_ok-path.ensures.items) in
    next_maker c.args.path.now c.args.creations.now i before c.push.new.self.items _ c.loop-index-test.true put c.loop-index.invariant
