-- The kind, the tokens, and the capacity.
use Rattle.std.proofs.Common.{◌∙◌, ap, map, ◌++◌, List}
use Rattle.std.specs.Prelude.{flat_map}
use Rattle.rn_notation.specs.declared.token.Spot.{Spot}
use Rattle.rn_net.specs.declared.constants.PConst.{PConst}
use Rattle.rn_model.specs.Limits.{most_initial}
use Rattle.rn_declared.specs.declared.fault.Fault.{Fault}
use Rattle.rn_declared.specs.Faults.{first_from, past_limit}
use Rattle.rn_declared.specs.Declarations.{kind_faults, token_faults, const_part, capacity_faults}
use Rattle.rn_declared.proofs.PlaceLemmas.{place_told}
use Rattle.rn_declared.proofs.places.see_place.Goals as goal

pub returns : goal.returns
returns c is =
    let place = c.args.place.now in
    let known = c.args.first.now.fault in
    let spots : List PConst → List Spot = λ ts. map (λ token. (const_part token).spot) ts in
    let of_tokens : List PConst → List Fault =
    λ ts. flat_map (token_faults c.args.pattern.now) ts ++ past_limit most_initial (spots ts) in
    let capacity : List PConst → List Fault = λ ts. capacity_faults place.max (spots ts) in
    let tokens = c.as_slice-tokens.result.now in
    c.see_capacity.ensures
    ∙ ap (λ k. first_from k (capacity tokens))
    (c.see_tokens.ensures ∙ ap (λ k. first_from k (of_tokens tokens)) c.see_kind.ensures)
    ∙ ap (λ ts. first_from (first_from (first_from known (kind_faults place.kind)) (of_tokens ts)) (capacity ts))
    c.as_slice-tokens.ensures
    ∙ place_told place c.args.pattern.now known is
