use Rattle.std.proofs.Common.{sym, subst}
use Rattle.std.specs.Prelude.{Contains}
use Rattle.rn_holders.specs.Holders.{HasItsHolders}
use Rattle.rn_firsts.specs.Resting.{KnowsIdle}
use Rattle.rn_firsts.proofs.AfterChange.{idle_after}
use Rattle.rn_firsts.proofs.known_idle.KnownIdle.mark.Goals as goal

pub returns : goal.returns
returns c system before depth known comes =
    let after = c.args.table.now.marking in
    let changed = c.args.changed.now in
    let was = subst (KnowsIdle system before depth) (sym c.self.view_is) known in
    let holders = c.hold_changes.new.holders.items in
    let live = c.in_ok-hold_changes.ensures system before was.held comes in
    let found = c.in_ok-found.found.keys in
    let its = subst (λ hs. HasItsHolders hs changed found) c.as_slice.ensures.value
    c.in_ok-found.ensures in
    record {
      idle = idle_after system changed before after comes depth c.self.inside.idle
          c.remove_all.new.idle found holders was.idle live its
          (λ n has. let out = c.remove_all.ensures n has in (
            out.0,
            λ there. out.1
                (subst (λ ks. Contains ks n) (sym c.as_slice-numbers.ensures.keys) there),
          ));
      held = λ is. live;
    }
