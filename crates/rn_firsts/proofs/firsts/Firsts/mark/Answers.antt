use Rattle.std.proofs.Common.{sym, subst}
use Rattle.std.specs.Prelude.{Contains}
use Rattle.rn_holders.specs.Holders.{HasItsHolders}
use Rattle.rn_firsts.specs.Known.{IsKnown}
use Rattle.rn_firsts.proofs.AfterChange.{looked_after}
use Rattle.rn_firsts.proofs.firsts.Firsts.mark.Goals as goal

pub returns : goal.returns
returns c system before depth known comes =
    let after = c.args.table.now.marking in
    let changed = c.args.changed.now in
    let was = subst (IsKnown system before depth) (sym c.self.view_is) known in
    let holders = c.hold_changes.new.holders.items in
    let live = c.in_ok-hold_changes.ensures system before was.held comes in
    let found = c.in_ok-found.found.keys in
    let its = subst (λ hs. HasItsHolders hs changed found) c.as_slice.ensures.value
    c.in_ok-found.ensures in
    let marks = c.in_ok-mark_all.ensures in
    record {
      looked = looked_after system changed before after comes depth c.self.inside.until
          c.self.inside.again.keys c.mark_all.new.again.keys found holders was.looked live its
          marks.stay
          (λ n has low. marks.come n
          (subst (λ ks. Contains ks n) (sym c.as_slice-numbers.ensures.keys) has) low)
          marks.below;
      held = λ is. live;
    }
