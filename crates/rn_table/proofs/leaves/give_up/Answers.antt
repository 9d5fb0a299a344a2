use Rattle.std.proofs.Common.{[], ◌-◌, ◌%◌, ◌<◌, None, get_or, length, refl, sym, ap, ◌∙◌, subst}
use Rattle.std.specs.Option.{option_map_or}
use Rattle.rn_table.proofs.DirLemmas.{dir_gone, page_gone}
use Rattle.rn_table.proofs.leaves.give_up.Goals as goal

pub returns-then-none_kept-clause-same : goal.returns-then-none_kept-clause-same
returns-then-none_kept-clause-same c =
    dir_gone (λ dir. option_map_or (λ d. d.value) dir []) c.args.dirs.now.items c.args.words.now c.args.at (c.args.at - c.args.at % 32) c.index_mut-dir.result.now None c.requires.inside c.index_mut-dir.ensures.value refl
    (λ i v low within is. c.none_kept.ensures c.if-none_kept.true i v low (subst (λ ws. i < length ws) (sym c.words_of_dir-rest.ensures) within) (is ∙ ap (λ ws. get_or ws i v) (sym c.words_of_dir-rest.ensures)))

pub returns-else-none_kept-clause-same : goal.returns-else-none_kept-clause-same
returns-else-none_kept-clause-same c =
    page_gone (λ dir. option_map_or (λ d. d.value) dir []) c.args.dirs.now.items c.args.words.now c.args.at c.index_mut-dir.result.now c.give_up_page.new.dir c.requires.inside c.index_mut-dir.ensures.value c.requires.none c.give_up_page.ensures
