-- With words, what the top call promises of those after the first.
use Rattle.std.proofs.Common.{◌≡◌, drop, sym, rules}
use Rattle.renew.proofs.ending.ending.Goals as goal

pub returns-in-Ok-clause-memory : goal.returns-in-Ok-clause-memory
returns-in-Ok-clause-memory g c =
    let same : c.after_name.result.now ≡ drop 1 c.in-Ok.words.items = search rules in
    rw (c.in-Ok.is, sym same) c.renew_top.ensures.memory

pub returns-in-Ok-clause-complete : goal.returns-in-Ok-clause-complete
returns-in-Ok-clause-complete g c =
    let same : c.after_name.result.now ≡ drop 1 c.in-Ok.words.items = search rules in
    rw (c.in-Ok.is, sym same) c.renew_top.ensures.complete
