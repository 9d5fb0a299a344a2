use Rattle.std.proofs.Common.{◌++◌, ◌≡◌, take, sym, ap, ◌∙◌, subst}
use Rattle.std.proofs.lemmas.List.{take-append-drop}
use Rattle.rn_bag.specs.link.Chunks.{Replaces}
use Rattle.rn_bag.proofs.EditLemmas.{on_ok_then, replaces_two}
use Rattle.rn_bag.proofs.edits.put_two.Goals as goal

pub returns-clause-ok : goal.returns-clause-ok
returns-clause-ok c =
    let parts : c.split_off.new.self.items ++ c.in_ok-upper.upper.items ≡ c.args.tokens.items =
    ap (λ r. r ++ c.in_ok-upper.upper.items) c.in_ok-upper.ensures.items ∙ ap (λ r. take 32 c.args.tokens.items ++ r) c.in_ok-upper.ensures.tail ∙ take-append-drop 32 c.args.tokens.items in
    on_ok_then _ _ c.split.result
    (λ r. subst (Replaces c.args.chunks.now c.args.at c.args.tokens.items) (sym r.4)
    (replaces_two c.args.chunks.now c.args.at r.0 r.1 c.split_off.new.self.items c.in_ok-upper.upper.items c.args.tokens.items c.requires.at
    r.2.values r.2.tokens_are r.3.values r.3.tokens_are parts))
    c.split.ensures.ok
