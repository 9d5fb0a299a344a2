-- The spots of tokens are those of their parts.
use Rattle.std.proofs.Common.{◌∙◌, ap, map}
use Rattle.std.specs.Prelude.{nat_abs}
use Rattle.rn_declared.specs.declared.fault.Rule.TheVariants as Rule
use Rattle.rn_declared.specs.Faults.{first_from, past}
use Rattle.rn_declared.proofs.PlaceLemmas.{token_spots}
use Rattle.rn_declared.proofs.places.tell_more.Goals as goal

pub returns : goal.returns
returns c =
    let tokens = c.args.tokens.now in
    let known = c.args.first.now.fault in
    c.tell_past_by.ensures
    ∙ ap (λ most. first_from known (past Rule.Capacity most (map (λ token. token.spot) tokens)))
    c.most_of-most.ensures
    ∙ ap (λ spots. first_from known (past Rule.Capacity (nat_abs c.args.max.now.number) spots))
    (token_spots tokens)
