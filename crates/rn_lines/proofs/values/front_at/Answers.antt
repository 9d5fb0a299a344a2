-- What is read first is what the grammar has there.
use Rattle.std.proofs.Common.{map, ap}
use Rattle.std.proofs.lemmas.Result.{err_from_is_err_and}
use Rattle.rn_lines.specs.link.Said.{said}
use Rattle.rn_lines.proofs.Beginnings.{front_missed, front_found}
use Rattle.rn_lines.proofs.values.front_at.Goals as goal

pub returns-in_err-value : goal.returns-in_err-value
returns-in_err-value c =
    let p = err_from_is_err_and c.from_residual.result c.from_residual.ensures.1 in
    rw (p.1, p.2) (front_missed c.in_err-value.field-0.0 (map said c.new-mentions.result.items) c.args.bytes.now (ap (map said) c.new-mentions.ensures.items) c.in_err-value.ensures)

pub returns : goal.returns
returns c =
    front_found (map said c.new-mentions.result.items) c.args.bytes.now (c.in_ok-value.value, map said c.value_at.new.mentions.items, c.in_ok-value.rest.now) (ap (map said) c.new-mentions.ensures.items) c.in_ok-value.ensures
