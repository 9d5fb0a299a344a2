use Rattle.std.proofs.Common.{◌≡◌, true, false, arith}
use Rattle.rn_bag.specs.Cuts.{is_before}
use Rattle.rn_bag.proofs.CutLemmas.{halved_up, halved_down}
use Rattle.rn_bag.proofs.seek.slot_of.Goals as goal

pub loop-low-preserved-then-stands_before : goal.loop-low-preserved-then-stands_before
loop-low-preserved-then-stands_before c =
    let low : is_before c.args.cut c.args.key.now c.index-values-middle.result ≡ true = cc in
    (omega arith, c.loop-low.invariant.1, halved_up c.args.cut c.args.key.now _ _ _ c.requires (omega arith) c.index-values-middle.is low, c.loop-low.invariant.3)

pub loop-low-preserved : goal.loop-low-preserved
loop-low-preserved c =
    let high : is_before c.args.cut c.args.key.now c.index-values-middle.result ≡ false = cc in
    (omega arith, omega arith, c.loop-low.invariant.2, halved_down c.args.cut c.args.key.now _ _ _ c.requires (omega arith) c.index-values-middle.is high)
