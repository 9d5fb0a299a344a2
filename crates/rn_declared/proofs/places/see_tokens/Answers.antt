-- One more token, and the end of all.
use Rattle.std.proofs.Common.{◌∙◌, ap, sym, map}
use Rattle.std.proofs.lemmas.List.{take_all}
use Rattle.std.specs.Prelude.{flat_map}
use Rattle.rn_model.specs.Limits.{most_initial}
use Rattle.rn_declared.specs.Faults.{first_from, past_limit}
use Rattle.rn_declared.specs.Declarations.{token_faults, const_part}
use Rattle.rn_declared.proofs.ToldLemmas.{first_from-append}
use Rattle.rn_declared.proofs.ToldLemmas.{told_more}
use Rattle.rn_declared.proofs.PlaceLemmas.{token_spots}
use Rattle.rn_declared.proofs.places.see_tokens.Goals as goal

pub loop-token-preserved : goal.loop-token-preserved
loop-token-preserved c =
    c.see_token.ensures
    ∙ ap (λ k. first_from k (token_faults c.args.pattern.now c.token-item.result)) c.loop-token.invariant
    ∙ told_more (token_faults c.args.pattern.now) c.args.tokens.now c.loop-token.token-index
    c.token-item.result c.args.first.now.fault c.loop-token-test.true c.token-item.is

pub returns : goal.returns
returns c =
    let tokens = c.args.tokens.now in
    let known = c.args.first.now.fault in
    let faults = token_faults c.args.pattern.now in
    c.tell_past.ensures
    ∙ ap (λ spots. first_from c.loop-token.first.fault (past_limit most_initial spots)) (token_spots tokens)
    ∙ ap (λ k. first_from k (past_limit most_initial (map (λ token. (const_part token).spot) tokens)))
    (c.loop-token.invariant
    ∙ ap (λ ts. first_from known (flat_map faults ts))
    (take_all c.loop-token.token-index tokens c.loop-token-test.false))
    ∙ sym
    (first_from-append (flat_map faults tokens)
    (past_limit most_initial (map (λ token. (const_part token).spot) tokens)) known)
