-- One place more.
use Rattle.std.proofs.Common.{◌≡◌, ◌∙◌, ap, sym, ◌++◌, arith, rules, ◌+◌}
use Rattle.std.specs.Prelude.{Some, slice_get, option_and_then, take}
use Rattle.std.proofs.lemmas.List.{append_assoc}
use Rattle.rn_model.specs.Markings.{instance_at}
use Rattle.rn_live.specs.link.Marks.{places_of}
use Rattle.rn_live.proofs.HolderLemmas.{place_at}
use Rattle.rn_end_marking.specs.link.Lines.{line_of, lines_from}
use Rattle.rn_end_marking.proofs.LinesInOrder.{one_more}
use Rattle.rn_end_marking.proofs.listing.put_places.Goals as goal

pub loop-place-preserved : goal.loop-place-preserved
loop-place-preserved c =
    let m = c.args.table.now.marking in
    let n = c.args.number in
    let net = c.args.net in
    let places = places_of m n in
    let i = c.loop-place.place in
    let tokens = c.in-Some.bag.now in
    let is : option_and_then (λ j. slice_get j.places i) (instance_at m n) ≡ Some tokens = search rules in
    let before = c.args.lines.now.items in
    let here : 0 + i ≡ i = omega arith in
    c.in_ok-put_line.ensures
    ∙ ap (λ xs. xs ++ line_of n net i tokens) c.loop-place.invariant
    ∙ append_assoc before (lines_from n net 0 (take i places)) (line_of n net i tokens)
    ∙ ap (λ xs. before ++ xs)
    (ap (λ j. lines_from n net 0 (take i places) ++ line_of n net j tokens) (sym here)
    ∙ sym (one_more n net 0 i places tokens (place_at m n i ∙ is)))
