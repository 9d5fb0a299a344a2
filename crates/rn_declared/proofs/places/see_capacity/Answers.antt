-- The capacity, and the tokens past it.
use Rattle.std.proofs.Common.{◌∙◌, ap, sym, map, not, List}
use Rattle.std.specs.Prelude.{nat_le, nat_abs}
use Rattle.rn_notation.specs.declared.token.Spot.{Spot}
use Rattle.rn_model.specs.Limits.{greatest_capacity}
use Rattle.rn_declared.specs.declared.fault.Rule.TheVariants as Rule
use Rattle.rn_declared.specs.declared.fault.Fault.{Fault}
use Rattle.rn_declared.specs.Faults.{first_from, broken_if, past}
use Rattle.rn_declared.specs.Declarations.{const_part, capacity_faults}
use Rattle.rn_declared.proofs.ToldLemmas.{first_from-append}
use Rattle.rn_declared.proofs.places.see_capacity.Goals as goal

pub returns-in-Some : goal.returns-in-Some
returns-in-Some c =
    let known = c.args.first.now.fault in
    let max = c.in-Some.max in
    let spots : List Spot = map (λ token. (const_part token).spot) c.args.tokens.now in
    let great : List Fault =
    broken_if (not (nat_le (nat_abs max.number) greatest_capacity)) Rule.Limit max.spot in
    let more : List Fault = past Rule.Capacity (nat_abs max.number) spots in
    c.tell_more.ensures
    ∙ ap (λ k. first_from k more) c.tell_great.ensures
    ∙ sym (first_from-append great more known)
    ∙ ap (λ o. first_from known (capacity_faults o spots)) (sym c.in-Some.is)
