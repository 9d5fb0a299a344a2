use Rattle.std.proofs.Common.{◌≡◌, ◌∷◌, ◌+◌, drop, sym, ap, ◌∙◌}
use Rattle.std.proofs.lemmas.List.{drop_more}
use Rattle.rn_table.specs.link.Leaves.{instances_in}
use Rattle.rn_table.specs.link.Steps.{after_steps}
use Rattle.rn_table.proofs.pages.edit_all.Goals as goal

pub edit_one-requires : goal.edit_one-requires
edit_one-requires c = (c.requires.0, c.loop-edit.invariant.table c.requires.0 c.requires.1)

pub loop-edit-preserved : goal.loop-edit-preserved
loop-edit-preserved c =
    let k = c.loop-edit.edit-index in
    let edits = c.args.edits.now in
    let first : drop k edits ≡ c.edit-item.result ∷ drop (k + 1) edits = drop_more edits k c.edit-item.result c.loop-edit-test.true ∙ ap (λ s. s ∷ drop (k + 1) edits) (sym c.edit-item.is) in
    record {
      table = λ n is. c.in_ok-edit_one.ensures.table n (c.loop-edit.invariant.table n is);
      instances = ap (after_steps (drop (k + 1) edits)) c.in_ok-edit_one.ensures.instances ∙ ap (λ ss. after_steps ss (instances_in c.loop-edit.leaves)) (sym first) ∙ c.loop-edit.invariant.instances;
      starting = c.in_ok-edit_one.ensures.starting ∙ c.loop-edit.invariant.starting;
    }
