use Rattle.rn_notation.proofs.Names.{rules, arith, ap, nil_from_length, string_bytes, is_closed, IsFault, P1, P4}
use Rattle.rn_notation.proofs.Runs.{shortens}
use Rattle.rn_notation.proofs.TextLemmas.{text_goes_on, text_runs_on, text_closes, text_is_open, text_fails, part_shortens}
use Rattle.rn_notation.proofs.texts.text_piece.Goals as goal

pub loop-rest-smaller : goal.loop-rest-smaller
loop-rest-smaller c =
    let less = part_shortens c.in-Part.c c.in-Part.ensures in
    let runs = shortens c.plain_run.ensures in
    omega (arith, less, runs)

pub loop-rest-preserved : goal.loop-rest-preserved
loop-rest-preserved c =
    let so = text_runs_on {longer = string_bytes c.push_str.new.self} c.loop-rest.invariant c.plain_run.ensures (search rules) in
    text_goes_on so c.in-Part.ensures (search rules)

pub returns-in-Quote : goal.returns-in-Quote
returns-in-Quote c = text_closes c.in-Quote.ensures.0 (text_runs_on {longer = c.from_string.result} c.loop-rest.invariant c.plain_run.ensures (search rules)) c.in-Quote.ensures.1

pub returns-in-Open : goal.returns-in-Open
returns-in-Open c = text_is_open (text_runs_on {longer = string_bytes c.push_str.new.self} c.loop-rest.invariant c.plain_run.ensures (search rules)) c.in-Open.ensures

pub returns-in-NoEscape : goal.returns-in-NoEscape
returns-in-NoEscape c = text_fails P1 (text_runs_on {longer = string_bytes c.push_str.new.self} c.loop-rest.invariant c.plain_run.ensures (search rules)) (λ parts are shut. IsFault.no_escape parts are c.in-NoEscape.ensures shut) _ c.faulty_text.ensures

pub returns-in-Broken : goal.returns-in-Broken
returns-in-Broken c = text_fails P4 (text_runs_on {longer = string_bytes c.push_str.new.self} c.loop-rest.invariant c.plain_run.ensures (search rules)) (λ parts are shut. IsFault.broken_text parts are c.in-Broken.ensures shut) _ c.faulty_text-in-Broken.ensures

pub returns : goal.returns
returns c = text_is_open c.loop-rest.invariant (ap is_closed (nil_from_length c.loop-rest.rest.now (search rules)))
