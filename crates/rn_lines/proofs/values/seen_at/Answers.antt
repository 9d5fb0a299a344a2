-- What is read first is what the grammar has there.
use Rattle.std.proofs.Common.{map, ap, sym}
use Rattle.std.proofs.lemmas.Result.{err_from_is_err_and}
use Rattle.rn_lines.specs.link.Said.{said}
use Rattle.rn_lines.proofs.Beginnings.{value_missed, value_ended, value_runs_on}
use Rattle.rn_lines.proofs.values.seen_at.Goals as goal

pub returns-in_err-value : goal.returns-in_err-value
returns-in_err-value c =
    let p = err_from_is_err_and c.from_residual.result c.from_residual.ensures.1 in
    rw (p.1, p.2) (value_missed c.in_err-value.field-0.0 (map said c.new-mentions.result.items) c.args.bytes.now (ap (map said) c.new-mentions.ensures.items) c.in_err-value.ensures)

pub returns-then-not-is_delimited : goal.returns-then-not-is_delimited
returns-then-not-is_delimited c =
    value_runs_on (map said c.new-mentions.result.items) c.args.bytes.now c.in_ok-value.value (map said c.value_at.new.mentions.items) c.in_ok-value.rest.now (ap (map said) c.new-mentions.ensures.items) c.in_ok-value.ensures (sym c.if-not-is_delimited.ensures)

pub returns : goal.returns
returns c =
    value_ended (map said c.new-mentions.result.items) c.args.bytes.now c.in_ok-value.value (map said c.value_at.new.mentions.items) c.in_ok-value.rest.now (ap (map said) c.new-mentions.ensures.items) c.in_ok-value.ensures (sym c.if-not-is_delimited.ensures)
