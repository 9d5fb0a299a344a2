-- What follows, by what was read.
use Rattle.std.proofs.Common.{◌∷◌, ◌∙◌, sym, ap, rules}
use Rattle.std.specs.Prelude.{None, drop}
use Rattle.rn_lines.proofs.LineForms.{line_reads}
use Rattle.rn_record_reader.specs.Lines.{lines_in}
use Rattle.rn_record_reader.proofs.LineLemmas.{first_is, unended_is, no_line}
use Rattle.rn_record_reader.proofs.lines.next_line.Goals as goal

pub returns-in_default-clause-follows : goal.returns-in_default-clause-follows
returns-in_default-clause-follows c =
    unended_is c.args.bytes.now (search rules) (search rules)

pub returns-in-Ok-clause-follows : goal.returns-in-Ok-clause-follows
returns-in-Ok-clause-follows c =
    first_is c.args.bytes.now c.in-Some.text.now c.in-Some.rest.now (search rules) (search rules)
    ∙ ap (λ x. x ∷ lines_in c.in-Some.rest.now) (line_reads c.in-Ok.ensures.found)

pub returns-in-Err-NotThere-clause-follows : goal.returns-in-Err-NotThere-clause-follows
returns-in-Err-NotThere-clause-follows c =
    let none = no_line c.in-Some.text.now (search rules) in
    let is = first_is c.args.bytes.now c.in-Some.text.now c.in-Some.rest.now (search rules) (search rules)
    ∙ ap (λ x. x ∷ lines_in c.in-Some.rest.now) none in
    is ∙ ap (λ ls. None ∷ drop 1 ls) (sym is)
