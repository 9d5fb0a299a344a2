use Rattle.rn_notation.proofs.Names.{◌++◌, ◌∷◌, [], map, ap, ◌∙◌, token_stored}
use Rattle.rn_notation.proofs.StoredTokens.{one_more}
use Rattle.rn_notation.proofs.tokens.Tokens.push.Goals as goal

pub returns : goal.returns
returns c =
    ap (map (token_stored c.place_of.new.kinds.items)) c.in_ok-push.ensures.items
    ∙ one_more c.self.inside.kinds.items c.place_of.new.kinds.items c.self.inside.stored.items
    record { kind = c.in_ok-kind.kind; start = c.args.slice.0; end = c.args.slice.1; spot = c.args.spot }
    c.args.kind c.in_ok-kind.ensures.more c.self.invariant c.in_ok-kind.ensures.place
    ∙ ap (λ ts. ts ++ record { kind = c.args.kind; start = c.args.slice.0; end = c.args.slice.1; spot = c.args.spot } ∷ []) c.self.view_is
