use Rattle.std.proofs.Common.{◌∙◌, ap, map, List, ℕ}
use Rattle.rn_pt.specs.declared.plain.PtPlace.{PtPlace}
use Rattle.rn_pt.specs.Rules.{number_among, place_names}
use Rattle.rn_pt.proofs.NotedLemmas.{all_noted, texts_of}
use Rattle.rn_pt.proofs.checking.check.Goals as goal

pub returns-clause-first : goal.returns-clause-first
returns-clause-first c =
    let net = c.args.net.now in
    let found = λ (name : List ℕ). c.in_ok-table.ensures.found name ∙ ap (λ ns. number_among ns name) (texts_of c.as_slice-places.result.now ∙ ap (map (λ (p : PtPlace). p.name.text)) c.as_slice-places.ensures) in
    all_noted net c.as_slice-places.result.now c.as_slice-transitions.result.now _ _ _ _ c.as_slice-places.ensures c.as_slice-transitions.ensures
    c.in_ok-table.ensures.noted c.note_places.ensures c.in_ok-_others.ensures.noted (c.note_transitions.ensures (place_names net) found)

pub returns-clause-found : goal.returns-clause-found
returns-clause-found c = λ name. c.in_ok-table.ensures.found name ∙ ap (λ ns. number_among ns name) (texts_of c.as_slice-places.result.now ∙ ap (map (λ (p : PtPlace). p.name.text)) c.as_slice-places.ensures)
