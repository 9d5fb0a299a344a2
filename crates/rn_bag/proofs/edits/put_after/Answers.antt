use Rattle.std.proofs.Common.{◌≡◌, ◌++◌, ◌∷◌, [], sym, ap, ◌∙◌, subst}
use Rattle.rn_bag.specs.link.Chunks.{Replaces}
use Rattle.rn_bag.proofs.EditLemmas.{on_ok_then, comes_after}
use Rattle.rn_bag.proofs.edits.put_after.Goals as goal

pub returns-clause-ok : goal.returns-clause-ok
returns-clause-ok c =
    let one : c.push.new.self.items ≡ c.args.value ∷ [] = c.in_ok-push.ensures.items ∙ ap (λ r. r ++ c.args.value ∷ []) c.in_ok-tokens.ensures.items in
    on_ok_then _ _ c.insert_after.result
    (λ r x is full. subst (Replaces c.args.chunks.now c.args.at (x.values ++ c.args.value ∷ [])) (sym r.2)
    (comes_after c.args.chunks.now c.args.at x r.0 c.args.value c.requires.at is full (r.1.values ∙ one) (r.1.tokens_are ∙ one)))
    c.insert_after.ensures.ok
