-- By the initial tokens of the first instance.
use Rattle.std.proofs.Common.{◌≡◌, [], ◌∷◌, ◌++◌, ap, ◌∙◌}
use Rattle.rn_model.specs.Systems.{main_net}
use Rattle.rn_moves.specs.link.Connecting.{made_tokens}
use Rattle.rn_moves.specs.Moves.{brought_at}
use Rattle.rn_moves.specs.Order.{token_count}
use Rattle.rn_moves.proofs.Counted.{gathered, made_times}
use Rattle.rn_moves.proofs.moving.first_moves.Goals as goal

pub returns : goal.returns
returns c =
    let system = c.args.system.now in
    let ts = c.add_made.new.tokens.items in
    let are : ts ≡ made_tokens system 1 (main_net system ∷ []) =
    c.in_ok-add_made.ensures
    ∙ ap (λ ts. ts ++ made_tokens system 1 (c.args.main ∷ [])) c.new-tokens.ensures.items
    ∙ ap (λ main. made_tokens system 1 (main ∷ [])) c.requires.main in
    record {
      taken = c.new.ensures;
      put = gathered (brought_at system 1 (main_net system ∷ [])) ts c.in_ok-ascending.field-0
          c.in_ok-ascending.ensures.sorted c.in_ok-ascending.ensures.same (λ n place v.
          ap (λ ts. token_count ts n place v) are ∙ made_times system 1 (main_net system ∷ []) n place v);
    }
