use Rattle.std.proofs.Common.{◌++◌, ◌∷◌, [], ap, ◌∙◌}
use Rattle.rn_bag.proofs.EditLemmas.{first_put}
use Rattle.rn_bag.proofs.edits.put_first.Goals as goal

pub returns-clause-ok : goal.returns-clause-ok
returns-clause-ok c = (first_put c.begin.new.self c.push.new.self.items c.args.value (c.in_ok-push.ensures.items ∙ ap (λ r. r ++ c.args.value ∷ []) c.in_ok-tokens.ensures.items) c.in_ok-begin.ensures.ok).0

pub returns-clause-sound : goal.returns-clause-sound
returns-clause-sound c = (first_put c.begin.new.self c.push.new.self.items c.args.value (c.in_ok-push.ensures.items ∙ ap (λ r. r ++ c.args.value ∷ []) c.in_ok-tokens.ensures.items) c.in_ok-begin.ensures.ok).1
