use Rattle.std.proofs.Common.{◌++◌, ◌∙◌, ap, ◌/◌}
use Rattle.renew_rows.specs.Pieces.{bytes_times}
use Rattle.renew_rows.proofs.Repeating.{in_blocks}
use Rattle.renew_rows.proofs.pieces.put_times.Goals as goal

pub returns : goal.returns
returns c =
    in_blocks c.args.count 64 c.args.into.now.items c.args.bytes.now c.put_one_by_one.new.into.items c.put_one_by_one-2.new.into.items c.put_one_by_one-3.new.into.items
    (c.in_ok-put_one_by_one.ensures ∙ ap (λ base. base ++ bytes_times 64 c.args.bytes.now) c.new-block.ensures.items)
    (c.in_ok-put_one_by_one-2.ensures ∙ ap (λ block. c.args.into.now.items ++ bytes_times (c.args.count / 64) block) c.deref.ensures.value)
    c.in_ok-put_one_by_one-3.ensures
