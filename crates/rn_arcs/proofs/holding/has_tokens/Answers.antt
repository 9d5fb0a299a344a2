use Rattle.std.proofs.Common.{◌≡◌, ◌∙◌, sym, ap}
use Rattle.std.specs.Prelude.{Some, slice_get}
use Rattle.std.specs.Option.{option_copied}
use Rattle.rn_arcs.proofs.TokenLemmas.{one_more_same}
use Rattle.rn_arcs.proofs.holding.has_tokens.Goals as goal

pub loop-index-preserved : goal.loop-index-preserved
loop-index-preserved c =
    let i = c.loop-index.index in
    let v = c.index-values-index.result in
    let same : c.in-Some.token.now ≡ v = c.same.ensures.0 c.if-not-same.false in
    let found : slice_get c.args.bag.now i ≡ Some v =
    sym c.get.ensures ∙ ap option_copied c.in-Some.is ∙ ap Some same in
    one_more_same c.args.values.now c.args.bag.now i v c.loop-index-test.true
    c.index-values-index.is found c.loop-index.invariant
