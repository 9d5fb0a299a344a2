use Rattle.std.proofs.Common.{◌≡◌, ◌≤◌, ◌^◌, ℕ, List, take, ◌+◌, arith, ◌∙◌, rules}
use Rattle.std.specs.Prelude.{Some, None, slice_get, option_and_then}
use Rattle.std.specs.List.{list_any}
use Rattle.rn_value.specs.declared.value.Value.{Value}
use Rattle.rn_model.specs.Markings.{instance_at}
use Rattle.rn_live.specs.link.Marks.{places_of, holds}
use Rattle.rn_live.proofs.HolderLemmas.{any_mentions, place_at}
use Rattle.rn_live.proofs.TokenLemmas.{one_got}
use Rattle.rn_holders.proofs.PutLemmas.{then, through, puts_as}
use Rattle.rn_holders.proofs.ReferenceLemmas.{near_tell}
use Rattle.rn_holders.proofs.references.put_instance.Goals as goal
use Rattle.rn_items.proofs.Lists.{is_past}

pub loop-place-preserved : goal.loop-place-preserved
loop-place-preserved c =
    let m = c.args.table.now.marking in
    let places = places_of m c.args.number in
    let i = c.loop-place.place in
    let tokens = c.in-Some.bag.now in
    let is : option_and_then (λ j. slice_get j.places i)
    (instance_at m c.args.number) ≡ Some tokens = search rules in
    then (λ n. list_any (any_mentions n) (take i places)) (λ n. any_mentions n tokens)
    (λ n. list_any (any_mentions n) (take (i + 1) places))
    (λ n. one_got (any_mentions n) places tokens i (place_at m c.args.number i ∙ is))
    c.loop-place.invariant c.in_ok-put_bag.ensures

pub returns : goal.returns
returns c =
    let m = c.args.table.now.marking in
    let place = c.loop-place.place in
    let far : 2 ^ 32 ≤ place + 1 = omega (arith, c.loop-place-test.false) in
    puts_as (λ n. list_any (any_mentions n) (take place (places_of m c.args.number)))
    (holds m c.args.number)
    (λ n. near_tell m c.args.number place n c.requires far) c.loop-place.invariant

pub returns-in_default : goal.returns-in_default
returns-in_default c =
    let m = c.args.table.now.marking in
    let places = places_of m c.args.number in
    let i = c.loop-place.place in
    let is : option_and_then (λ j. slice_get j.places i) (instance_at m c.args.number) ≡ None =
    search rules in
    through (λ (places : List (List Value)) (n : ℕ). list_any (any_mentions n) places) places i
    (is_past places i (place_at m c.args.number i ∙ is)) c.loop-place.invariant
