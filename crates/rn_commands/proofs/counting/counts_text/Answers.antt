-- The lines of the numbers, and the first line of the end.
use Rattle.std.proofs.Common.{◌≡◌, ◌++◌, refl, ap, ◌∙◌, subst}
use Rattle.std.specs.Prelude.{IfSome}
use Rattle.rn_fire.specs.States.{logged}
use Rattle.rn_commands.specs.Counting.{count_lines}
use Rattle.rn_commands.specs.Ends.{end_line}
use Rattle.rn_commands.proofs.LastReasons.{last_ends}
use Rattle.rn_commands.proofs.counting.counts_text.Goals as goal

pub returns : goal.returns
returns c =
    let s = c.args.state.now in
    let end = last_ends s (logged s) c.requires refl in
    let line : c.end_line.result.now ≡ end_line end.0 =
    subst (λ e. IfSome e (λ reason. c.end_line.result.now ≡ end_line reason)) end.1 c.end_line.ensures in (
      end.0,
      end.1,
      c.in_ok-extend_from_slice.ensures.items
          ∙ ap (λ t. t ++ c.end_line.result.now) c.in_ok-text.ensures
          ∙ ap (λ l. count_lines 0 c.args.counts.now ++ l) line,
    )
