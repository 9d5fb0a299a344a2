-- The inscription, its kind, and that a clear arc has a variable.
use Rattle.std.proofs.Common.{◌∙◌, ap, ◌&&◌, not}
use Rattle.std.specs.Prelude.{option_copied}
use Rattle.std.specs.Option.{option_map}
use Rattle.rn_declared.specs.declared.fault.Rule.TheVariants as Rule
use Rattle.rn_declared.specs.Faults.{first_from, broken_if}
use Rattle.rn_rules.specs.Arcs.{asked_of, is_clear}
use Rattle.rn_rules.specs.Expressions.{Seen, seen_of}
use Rattle.rn_rules.specs.link.Sights.{where_of, sight_of, misfit_if}
use Rattle.rn_rules.proofs.CallLemmas.{inscribed_told}
use Rattle.rn_rules.proofs.arcs.see_inscribed.Goals as goal

pub returns : goal.returns
returns g c =
    let at = where_of c.args.here.now in
    let s : Seen = seen_of c.args.e.now at in
    let known = c.args.first.now.fault in
    let asked = option_map (asked_of c.args.kind) (option_copied c.args.place) in
    c.tell_if.ensures
    ∙ ap (λ k. first_from k (broken_if (c.is_clear-clear.result && not c.is_variable-variable.result) Rule.Inscription c.in_ok-sight.sight.spot))
    (c.in_ok-tell_misfit.ensures ∙ ap (λ k. first_from k (misfit_if c.in_ok-sight.sight asked)) c.in_ok-sight.ensures.told)
    ∙ ap (λ x. first_from (first_from (first_from known s.faults) (misfit_if x asked)) (broken_if (c.is_clear-clear.result && not c.is_variable-variable.result) Rule.Inscription x.spot)) c.in_ok-sight.ensures.sight
    ∙ ap (λ b. first_from (first_from (first_from known s.faults) (misfit_if (sight_of {N = g.row.N.Denot} s) asked)) (broken_if (b && not c.is_variable-variable.result) Rule.Inscription s.spot)) c.is_clear-clear.ensures
    ∙ ap (λ b. first_from (first_from (first_from known s.faults) (misfit_if (sight_of {N = g.row.N.Denot} s) asked)) (broken_if (is_clear c.args.kind && not b) Rule.Inscription s.spot)) c.is_variable-variable.ensures
    ∙ inscribed_told g.row.N.Denot known c.args.kind (option_copied c.args.place) c.args.e.now at
