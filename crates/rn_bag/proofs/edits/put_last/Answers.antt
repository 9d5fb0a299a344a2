use Rattle.std.proofs.Common.{◌≡◌, ◌++◌, ◌∷◌, [], IfNone, sym, subst, set, slice_index_or}
use Rattle.rn_bag.specs.link.Chunks.{Slots, Replaces}
use Rattle.rn_bag.specs.link.Tags.{IsFull}
use Rattle.rn_bag.proofs.EditLemmas.{replaces_one}
use Rattle.rn_bag.proofs.edits.put_last.Goals as goal

pub returns-in_default-clause-ok : goal.returns-in_default-clause-ok
returns-in_default-clause-ok c = λ x is.
    let all = subst (λ o. IfNone o ((x : Slots) → x ≡ slice_index_or c.args.chunks.now c.args.at x → (y : Slots) × IsFull (x.values ++ c.args.value ∷ []) y × (c.push.new.self ≡ set c.args.chunks.now c.args.at y))) c.in_default.is c.in_ok-value.ensures.pushed in
    let r = all x is in
    subst (Replaces c.args.chunks.now c.args.at (x.values ++ c.args.value ∷ [])) (sym r.2)
    (replaces_one c.args.chunks.now c.args.at r.0 (x.values ++ c.args.value ∷ []) c.requires.at r.1.values r.1.tokens_are)
