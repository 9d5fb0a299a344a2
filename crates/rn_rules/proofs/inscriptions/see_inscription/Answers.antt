-- Arcs and creations, in the terms of what is known.
use Rattle.std.proofs.Common.{◌∙◌, ap, sym, Bool, List}
use Rattle.std.specs.Prelude.{is_some, if◌then◌else◌}
use Rattle.rn_declared.specs.declared.fault.Fault.{Fault}
use Rattle.rn_declared.specs.Faults.{first_from}
use Rattle.rn_declared.specs.link.Tables.{found_in}
use Rattle.rn_declared.proofs.ToldLemmas.{first_from-append}
use Rattle.rn_rules.specs.Arcs.{arc_faults}
use Rattle.rn_rules.specs.Counted.{counted_faults}
use Rattle.rn_rules.specs.Calls.{creation_faults}
use Rattle.rn_model.specs.Systems.{is_output}
use Rattle.rn_rules.specs.Transitions.{in_output, elsewhere, inscription_faults}
use Rattle.rn_rules.specs.link.Scopes.{scope_in, progress_of}
use Rattle.rn_rules.specs.link.Sights.{where_of}
use Rattle.rn_rules.proofs.inscriptions.see_inscription.Goals as goal

pub returns-in_ok-see_arc-in-Arc : goal.returns-in_ok-see_arc-in-Arc
returns-in_ok-see_arc-in-Arc g c =
    let s = scope_in c.args.known.now in
    let p = progress_of c.args.stand.now in
    let known = c.args.first.now.fault in
    let kind = c.in-Arc.kind in
    let place = c.in-Arc.place in
    let e = c.in-Arc.inscription in
    let counted : Bool → List Fault =
    λ b. counted_faults kind b e (λ name. is_some (found_in c.args.stand.now.setters.now name)) in
    let arc : List Fault =
    arc_faults kind (s.pattern_of_place place.text) place e
    (if is_output kind then in_output s p else elsewhere s p) in
    c.see_count.ensures
    ∙ ap (λ k. first_from k (counted (s.has_capacity place.text)))
    (c.in_ok-see_arc-in-Arc.ensures
    ∙ ap (λ o. first_from known (arc_faults kind o place e (where_of c.of_arc-here.result))) c.pattern-pattern.ensures
    ∙ ap (λ w. first_from known (arc_faults kind (s.pattern_of_place place.text) place e w)) c.of_arc-here.ensures)
    ∙ sym (first_from-append arc (counted (s.has_capacity place.text)) known)
    ∙ ap (λ f. first_from known (inscription_faults s p c.args.i.now f)) (sym c.in-Arc.is)

pub returns-in_ok-see_creation-in-New : goal.returns-in_ok-see_creation-in-New
returns-in_ok-see_creation-in-New g c =
    let s = scope_in c.args.known.now in
    let p = progress_of c.args.stand.now in
    let known = c.args.first.now.fault in
    let var = c.in-New.var in
    let net = c.in-New.net in
    c.in_ok-see_creation-in-New.ensures
    ∙ ap (λ w. first_from known (creation_faults w var net c.is_some-declared.result)) c.elsewhere-here-in-New.ensures
    ∙ ap (λ b. first_from known (creation_faults (elsewhere s p) var net b)) (c.is_some-declared.ensures ∙ ap is_some c.number.ensures)
    ∙ ap (λ f. first_from known (inscription_faults s p c.args.i.now f)) (sym c.in-New.is)
