use Rattle.std.proofs.Common.{◌≡◌, ◌≤◌, length, arith, rules}
use Rattle.rn_parted.proofs.CutLemmas.{same_everywhere}
use Rattle.rn_parted.proofs.places.are_same.Goals as goal

pub returns : goal.returns
returns c told =
    let a = c.args.a.now in
    let b = c.args.b.now in
    let long : length a ≡ length b = search rules in
    let end : length a ≤ c.loop-index.index = search rules in
    same_everywhere a b long (λ k low. c.loop-index.invariant k (omega (arith, low, end)))
