use Rattle.std.proofs.Common.{[], sym, subst, arith}
use Rattle.std.specs.Prelude.{slice_index_or}
use Rattle.std.specs.Option.{option_map_or}
use Rattle.rn_table.specs.link.Leaves.{Ascending}
use Rattle.rn_table.specs.link.LeafSteps.{HoldsAfterStep}
use Rattle.rn_table.proofs.DirLemmas.{read_at, set_here, set_others}
use Rattle.rn_table.proofs.dir.Dir.edit.Goals as goal

pub edit_shared-requires : goal.edit_shared-requires
edit_shared-requires c = subst Ascending (sym (read_at (λ page. option_map_or (λ p. p.value) page []) c.self.inside.pages.items c.args.index c.index_mut-page.result.now c.args.self.now c.self.view_is (omega (arith, c.requires.inside, c.self.invariant)) c.index_mut-page.ensures.value)) c.requires.ascending

pub returns-clause-here : goal.returns-clause-here
returns-clause-here c =
    subst (λ r. HoldsAfterStep c.args.kept c.args.edit.now (slice_index_or c.args.self.now c.args.index []) r) (sym (set_here (λ page. option_map_or (λ p. p.value) page []) c.self.inside.pages.items c.args.index c.edit_shared.new.page (omega (arith, c.requires.inside, c.self.invariant))))
    (subst (λ h. HoldsAfterStep c.args.kept c.args.edit.now (h) (option_map_or (λ p. p.value) c.edit_shared.new.page [])) (read_at (λ page. option_map_or (λ p. p.value) page []) c.self.inside.pages.items c.args.index c.index_mut-page.result.now c.args.self.now c.self.view_is (omega (arith, c.requires.inside, c.self.invariant)) c.index_mut-page.ensures.value) c.in_ok-edit_shared.ensures)

pub returns-clause-others : goal.returns-clause-others
returns-clause-others c = λ i differ. set_others (λ page. option_map_or (λ p. p.value) page []) c.self.inside.pages.items c.args.index c.edit_shared.new.page c.args.self.now c.self.view_is i differ
