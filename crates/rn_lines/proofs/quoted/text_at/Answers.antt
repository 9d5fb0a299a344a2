use Rattle.std.proofs.Common.{sym, rules, subst}
use Rattle.std.specs.Str.{IsUtf8}
use Rattle.rn_lines.proofs.Inside.{text_read, text_unread}
use Rattle.rn_lines.proofs.quoted.text_at.Goals as goal

pub returns-in-Ok : goal.returns-in-Ok
returns-in-Ok c =
    text_read c.args.bytes.now c.in_ok-meant.meant.items c.in_ok-meant.rest.now c.from_string.result c.in_ok-meant.ensures (subst IsUtf8 c.as_slice.ensures.value c.in-Ok.ensures.cases.1) (search rules)

pub returns : goal.returns
returns c =
    text_unread c.args.bytes.now c.in_ok-meant.meant.items c.in_ok-meant.rest.now c.in_ok-meant.ensures (λ utf8. c.in-Err.ensures.cases.0 (subst IsUtf8 (sym c.as_slice.ensures.value) utf8))
