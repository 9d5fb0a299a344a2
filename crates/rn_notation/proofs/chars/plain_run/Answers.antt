use Rattle.rn_notation.proofs.Runs.{run_stands}
use Rattle.rn_notation.proofs.chars.plain_run.Goals as goal

pub returns : goal.returns
returns c = run_stands c.args.text.now c.valid_prefix-run.result.now c.split_at.result.1.now c.valid_prefix-run.ensures.prefix.0 c.unwrap_or-most.result c.memchr3.result
    c.valid_prefix-run.ensures.prefix.1 c.split_at.ensures.back c.valid_prefix-run.ensures.within c.memchr3.ensures c.unwrap_or-most.ensures c.valid_prefix-run.utf8
