use Rattle.std.proofs.Common.{[], get_or, sym, ap, ◌∙◌, subst}
use Rattle.rn_table.specs.link.Leaves.{Ascending, held_if}
use Rattle.rn_table.specs.link.LeafSteps.{HoldsAfterStep}
use Rattle.rn_table.proofs.DirLemmas.{a_word, held_some}
use Rattle.rn_table.proofs.dir.edit_in_shared.Goals as goal

pub edit-requires-2-clause-ascending : goal.edit-requires-2-clause-ascending
edit-requires-2-clause-ascending c =
    subst Ascending (held_some c.args.kept (get_or c.args.dir.now.value c.args.index []) c.if-kept-eq0.false ∙ sym (let w = a_word c.args.words.now c.args.index c.requires.there in c.in_ok-copied.ensures c.args.index w.0 c.requires.inside c.requires.there w.1 (λ e. c.if-kept-eq0.false (sym (c.requires.word w.0 w.1) ∙ e)) ∙ ap (λ d. get_or d c.args.index []) c.deref.ensures)) c.requires.ascending

pub returns-clause-here : goal.returns-clause-here
returns-clause-here c =
    let old = get_or c.args.dir.now.value c.args.index [] in
    let new = get_or c.edit-2.new.self c.args.index [] in
    subst (λ d. HoldsAfterStep c.args.kept c.args.edit.now (held_if c.args.kept old) (held_if c.args.kept (get_or d c.args.index []))) (sym c.in_ok-dir.ensures.ok)
    (subst (λ h. HoldsAfterStep c.args.kept c.args.edit.now h (held_if c.args.kept new)) ((let w = a_word c.args.words.now c.args.index c.requires.there in c.in_ok-copied.ensures c.args.index w.0 c.requires.inside c.requires.there w.1 (λ e. c.if-kept-eq0.false (sym (c.requires.word w.0 w.1) ∙ e)) ∙ ap (λ d. get_or d c.args.index []) c.deref.ensures) ∙ sym (held_some c.args.kept old c.if-kept-eq0.false))
    (subst (λ r. HoldsAfterStep c.args.kept c.args.edit.now (get_or c.in_ok-copied.copied c.args.index []) r) (sym (held_some c.args.kept new c.if-kept-eq0.false)) c.in_ok-edit.ensures.here))
