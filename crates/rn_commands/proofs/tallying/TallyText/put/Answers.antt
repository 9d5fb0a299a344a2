-- What comes in turn is the four lines.
use Rattle.std.proofs.Common.{ap, codes, ◌∙◌}
use Rattle.rn_window.specs.Windows.{after}
use Rattle.rn_commands.specs.Workloads.{counted_line}
use Rattle.rn_commands.proofs.WrittenInTurn.{four_in_turn}
use Rattle.rn_commands.proofs.tallying.TallyText.put.Goals as goal

pub returns : goal.returns
returns c =
    let t = c.args.self.now in
    let steps = counted_line (codes "steps") t.fired in
    let made = counted_line (codes "made") t.made in
    let live = counted_line (codes "live") t.live in
    c.put.ensures ∙ ap (λ w. after w t.end.now) (c.put_counted-3.ensures
    ∙ ap (λ w. after w live) (c.put_counted-2.ensures ∙ ap (λ w. after w made) c.put_counted.ensures))
    ∙ four_in_turn c.args.window.now steps made live t.end.now
