-- The first name past the limit.
use Rattle.std.proofs.Common.{◌∙◌, ap, sym, [], ◌∷◌}
use Rattle.std.specs.Prelude.{slice_get}
use Rattle.std.specs.Option.{option_map_or}
use Rattle.std.proofs.lemmas.Simd.{map-map}
use Rattle.rn_pt.specs.declared.fault.Rule.TheVariants as Rule
use Rattle.rn_pt.specs.Faults.{first_from, first_with, broken}
use Rattle.rn_pt.proofs.names.note_past_name.Goals as goal
use Rattle.rn_items.proofs.Lists.{slice_item, no_item}

pub returns-then-most-items : goal.returns-then-most-items
returns-then-most-items g c =
    let name_of = g.T.Declared.name_of in
    let known = c.args.first.now.broken in
    c.note.ensures
    ∙ ap (λ n. first_with known (broken Rule.Limit n.spot)) c.name.ensures
    ∙ ap (λ o. first_from known (option_map_or (λ spot. broken Rule.Limit spot ∷ []) o []))
    (sym
    (ap (λ spots. slice_get spots c.args.most) (map-map (λ n. n.spot) name_of c.args.items.now)
    ∙ slice_item (λ x. (name_of x).spot) c.args.items.now c.args.most c.index-items-most.result
    c.if-most-items.true c.index-items-most.is))

pub returns-else-most-items : goal.returns-else-most-items
returns-else-most-items g c =
    let name_of = g.T.Declared.name_of in
    let known = c.args.first.now.broken in
    ap (λ o. first_from known (option_map_or (λ spot. broken Rule.Limit spot ∷ []) o []))
    (sym
    (ap (λ spots. slice_get spots c.args.most) (map-map (λ n. n.spot) name_of c.args.items.now)
    ∙ no_item (λ x. (name_of x).spot) c.args.items.now c.args.most c.if-most-items.false))
