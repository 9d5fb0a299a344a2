-- The line of one number more.
use Rattle.std.proofs.Common.{◌≡◌, ◌++◌, ◌+◌, append_assoc, drop, get_or, sym, ap, ◌∙◌}
use Rattle.std.proofs.lemmas.List.{get_or_default}
use Rattle.rn_commands.specs.Counting.{count_line, count_lines}
use Rattle.rn_commands.proofs.Counted.{count_lines_from}
use Rattle.rn_commands.proofs.counting.lines_of.Goals as goal

pub loop-i-preserved : goal.loop-i-preserved
loop-i-preserved c =
    let counts = c.args.counts.now in
    let i = c.loop-i.i in
    let n = get_or counts i 0 in
    let text = c.loop-i.text.items in
    let rest = count_lines (i + 1) (drop (i + 1) counts) in
    let wrote : c.put_count.new.text.items ≡ text ++ count_line i n = c.in_ok-put_count.ensures in
    ap (λ x. x ++ rest) wrote ∙ append_assoc text (count_line i n) rest
    ∙ ap (λ x. text ++ x) (sym (count_lines_from counts i n c.loop-i-test.true
    (sym (get_or_default counts i 0 n c.loop-i-test.true))))
    ∙ c.loop-i.invariant
