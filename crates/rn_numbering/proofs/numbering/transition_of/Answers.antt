-- The transition has the name and the inscriptions of its plain form.
use Rattle.std.proofs.Common.{◌∙◌, ap, map}
use Rattle.rn_numbered.specs.Numbered.{inscribed}
use Rattle.rn_occurring.specs.TransitionVars.{with_vars}
use Rattle.rn_numbered.specs.link.NumbersFound.{numbers_by}
use Rattle.rn_numbering.proofs.numbering.transition_of.Goals as goal

pub returns : goal.returns
returns c =
    let to = numbers_by c.args.tables.now in
    let is = c.as_slice.result.now in
    c.in_ok-put_all.ensures
    ∙ ap (λ t. with_vars c.args.count (inscribed to t.name (map (λ i. i.form) is))) c.bare-made.ensures
    ∙ ap (λ is. with_vars c.args.count (inscribed to c.args.t.name.text (map (λ i. i.form) is)))
    c.as_slice.ensures
