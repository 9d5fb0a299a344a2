use Rattle.std.proofs.Common.{◌≡◌, ℕ, List, [], ◌∷◌, ◌++◌, ap, ◌∙◌}
use Rattle.rn_model.specs.declared.numbers.MadeBy.{MadeBy}
use Rattle.rn_model.proofs.CreationKeys.{next_key}
use Rattle.rn_model.proofs.numbers.put_made.Goals as goal

pub loop-index-preserved : goal.loop-index-preserved
loop-index-preserved c =
    let i = c.loop-index.index in
    let before = c.loop-index.made.items in
    let key : List ℕ → MadeBy = λ path. record { path = path; index = i } in
    let put : c.push.new.self.items ≡ before ++ key c.args.path.now ∷ [] =
    c.in_ok-push.ensures.items ∙ ap (λ path. before ++ key path ∷ []) (c.from_vec.ensures ∙ c.in_ok-path.ensures.items) in
    next_key c.args.path.now c.args.creations.now i before c.push.new.self.items _ c.loop-index-test.true put c.loop-index.invariant
