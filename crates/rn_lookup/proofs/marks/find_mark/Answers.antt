-- The numbers that are found are in range.
use Rattle.std.proofs.Common.{◌∙◌, ◌<◌, ◌+◌, length, sym, arith}
use Rattle.rn_model.specs.Systems.{net_at}
use Rattle.rn_lookup.proofs.TableLemmas.{number_within}
use Rattle.rn_lookup.proofs.marks.find_mark.Goals as goal

pub kind_of_place-kind-requires-clause-place : goal.kind_of_place-kind-requires-clause-place
kind_of_place-kind-requires-clause-place c =
    let places = (net_at c.args.system.now c.in-Some.net).places in
    let below : c.in-Some-2.place < 0 + length places
    = number_within (λ place. place.name) places 0 c.in-Some-2.place c.args.read.now.place.now
    (sym (c.in_ok-place.ensures c.args.system.now c.requires) ∙ c.in-Some-2.is) in
    omega (arith, below)
