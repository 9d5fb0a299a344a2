-- Up to the first line feed, or all.
use Rattle.std.proofs.Common.{◌≢◌, ap, ◌∙◌, length, arith}
use Rattle.std.proofs.lemmas.Bool.Decides.{nat_tests}
use Rattle.std.proofs.lemmas.List.Elements.{recursion_from_All}
use Rattle.rn_served.specs.Lines.{lines_of}
use Rattle.rn_served.proofs.LineReading.{first_of, whole_line}
use Rattle.rn_served.proofs.reading.next_line.Goals as goal

pub returns-in-Some-clause-some : goal.returns-in-Some-clause-some
returns-in-Some-clause-some c =
    ap lines_of c.in-Some.ensures.whole
    ∙ first_of _ _ (recursion_from_All (λ x. x ≢ 10) _ c.in-Some.ensures.line)

pub returns-in-None-clause-some : goal.returns-in-None-clause-some
returns-in-None-clause-some c =
    whole_line c.args.bytes.now (λ none.
    let empty = ap length none in
    let some = c.if-is_empty.false in
    let is = c.is_empty.ensures in
    let no : ⊥ = grind (arith, nat_tests) in no)
    (recursion_from_All (λ x. x ≢ 10) c.args.bytes.now c.in-None.ensures.none)
