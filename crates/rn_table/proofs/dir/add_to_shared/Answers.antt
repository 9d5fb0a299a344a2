use Rattle.std.proofs.Common.{[], get_or, sym, ap, ◌∙◌, subst}
use Rattle.rn_table.specs.link.Leaves.{held_if}
use Rattle.rn_table.specs.link.LeafSteps.{Grows}
use Rattle.rn_table.proofs.DirLemmas.{a_word, held_same}
use Rattle.rn_table.proofs.dir.add_to_shared.Goals as goal

pub returns-clause-here : goal.returns-clause-here
returns-clause-here c =
    subst (λ d. Grows c.args.kept c.args.inst (held_if c.args.kept (get_or c.args.dir.now.value c.args.index [])) (get_or d c.args.index [])) (sym c.in_ok-dir.ensures.ok)
    (subst (λ h. Grows c.args.kept c.args.inst h (get_or c.add-2.new.self c.args.index []))
    (held_same c.args.kept (get_or c.in_ok-copied.copied c.args.index []) (get_or c.args.dir.now.value c.args.index []) (λ some. (let w = a_word c.args.words.now c.args.index c.requires.there in c.in_ok-copied.ensures c.args.index w.0 c.requires.inside c.requires.there w.1 (λ e. some (sym (c.requires.word w.0 w.1) ∙ e)) ∙ ap (λ d. get_or d c.args.index []) c.deref.ensures))) c.in_ok-add.ensures.here)
