-- The bytes that stand for themselves, and the next one.
use Rattle.std.proofs.Common.{rules}
use Rattle.rn_spell.proofs.PlainBytes.{byte_put, run_put}
use Rattle.rn_spell.proofs.values.put_run.Goals as goal

pub returns-then-count-bytes-clause-text : goal.returns-then-count-bytes-clause-text
returns-then-count-bytes-clause-text c =
    run_put c.args.bytes.now c.plain_count-count.result c.args.window.now c.put.new.self c.plain_count-count.ensures.plain c.put.ensures

pub returns-clause-text : goal.returns-clause-text
returns-clause-text c =
    byte_put c.args.bytes.now c.plain_count-count.result _ c.args.window.now c.put.new.self c.put_escaped.new.window
    (search rules) c.plain_count-count.ensures.plain c.put.ensures c.put_escaped.ensures
