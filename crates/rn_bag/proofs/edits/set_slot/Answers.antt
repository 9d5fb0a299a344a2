use Rattle.std.proofs.Common.{◌≡◌, Some, slice_get, take, sym, ap, refl, ◌∙◌, subst}
use Rattle.std.proofs.lemmas.List.{take-set}
use Rattle.rn_bag.specs.link.Chunks.{Slots, tokens_in, values_in}
use Rattle.rn_bag.proofs.EditLemmas.{set_again, same_values}
use Rattle.rn_bag.proofs.edits.set_slot.Goals as goal

pub returns-clause-tokens : goal.returns-clause-tokens
returns-clause-tokens c = λ v at.
    let here : slice_get c.at.result.values c.args.at.slot ≡ Some v = subst (λ (s : Slots). slice_get s.values c.args.at.slot ≡ Some v) (sym c.at.ensures.chunk) (at c.at.result) in
    ap tokens_in (c.set_there.ensures c.at.result c.at.ensures.chunk)
    ∙ set_again c.args.chunks.now c.args.at.chunk c.args.at.slot c.at.result _ v c.requires.chunk c.at.ensures.chunk (c.with_slot-there.ensures.tokens v here)

pub returns-clause-values : goal.returns-clause-values
returns-clause-values c =
    ap values_in (c.set_there.ensures c.at.result c.at.ensures.chunk) ∙ same_values c.args.chunks.now c.args.at.chunk c.at.result _ c.requires.chunk c.at.ensures.chunk refl

pub returns-clause-prefix : goal.returns-clause-prefix
returns-clause-prefix c =
    ap (take c.args.at.chunk) (c.set_there.ensures c.at.result c.at.ensures.chunk) ∙ take-set c.args.chunks.now c.args.at.chunk _
