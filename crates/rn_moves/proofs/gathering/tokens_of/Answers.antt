-- By the tokens that were added, one list after the other.
use Rattle.std.proofs.Common.{◌++◌, ap, ◌∙◌}
use Rattle.std.specs.Prelude.{flat_map}
use Rattle.rn_moves.specs.link.Connecting.{made_tokens, row_tokens}
use Rattle.rn_moves.proofs.Counted.{come_tokens, gone_tokens}
use Rattle.rn_moves.proofs.gathering.tokens_of.Goals as goal

pub returns-clause-taken : goal.returns-clause-taken
returns-clause-taken c =
    let change = c.args.change in
    gone_tokens change.taken change.cleared c.add_rows-2.new.tokens.items c.in_ok-ascending.field-0
    (c.in_ok-add_rows-2.ensures
    ∙ ap (λ ts. ts ++ flat_map row_tokens change.cleared) (c.in_ok-add_rows.ensures
    ∙ ap (λ ts. ts ++ flat_map row_tokens change.taken) c.new-gone.ensures.items))
    c.in_ok-ascending.ensures.sorted c.in_ok-ascending.ensures.same

pub returns-clause-put : goal.returns-clause-put
returns-clause-put c =
    let change = c.args.change in
    let system = c.args.system.now in
    let next = c.args.next in
    come_tokens system next change.made change.put c.add_rows-3.new.tokens.items
    c.in_ok-ascending-2.field-0
    (c.in_ok-add_rows-3.ensures
    ∙ ap (λ ts. ts ++ flat_map row_tokens change.put) (c.in_ok-add_made.ensures
    ∙ ap (λ nets. c.new-come.result.items ++ made_tokens system next nets) c.as_slice.ensures
    ∙ ap (λ ts. ts ++ made_tokens system next change.made) c.new-come.ensures.items))
    c.in_ok-ascending-2.ensures.sorted c.in_ok-ascending-2.ensures.same
