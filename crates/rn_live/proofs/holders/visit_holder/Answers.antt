use Rattle.std.proofs.Common.{◌≡◌, ℕ, List, take, ◌+◌, arith, ◌∙◌, rules}
use Rattle.std.specs.Prelude.{Some, slice_get, option_and_then}
use Rattle.std.specs.List.{list_any}
use Rattle.rn_value.specs.declared.value.Value.{Value}
use Rattle.rn_model.specs.Markings.{instance_at}
use Rattle.rn_live.specs.link.Marks.{places_of}
use Rattle.rn_live.proofs.FindLemmas.{then, through}
use Rattle.rn_live.proofs.HolderLemmas.{any_mentions, place_at}
use Rattle.rn_live.proofs.TokenLemmas.{one_got}
use Rattle.rn_live.proofs.holders.visit_holder.Goals as goal

pub loop-place-preserved : goal.loop-place-preserved
loop-place-preserved c =
    let m = c.args.table.now.marking in
    let places = places_of m c.args.number in
    let i = c.loop-place.place in
    let tokens = c.in-Some.bag.now in
    let is : option_and_then (λ j. slice_get j.places i) (instance_at m c.args.number) ≡ Some tokens = search rules in
    then m (λ n. list_any (any_mentions n) (take i places)) (λ n. any_mentions n tokens) (λ n. list_any (any_mentions n) (take (i + 1) places))
    (λ n. one_got (any_mentions n) places tokens i (place_at m c.args.number i ∙ is))
    c.loop-place.invariant c.visit_bag.ensures

pub returns : goal.returns
returns c =
    through c.args.table.now.marking (λ (places : List (List Value)) (n : ℕ). list_any (any_mentions n) places) (places_of c.args.table.now.marking c.args.number) c.loop-place.place (omega (arith, c.loop-place-test.false, c.requires.places)) c.loop-place.invariant
