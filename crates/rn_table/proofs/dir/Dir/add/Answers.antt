use Rattle.std.proofs.Common.{[], sym, subst, arith}
use Rattle.std.specs.Prelude.{slice_index_or}
use Rattle.std.specs.Option.{option_map_or}
use Rattle.rn_table.specs.link.Leaves.{held_if}
use Rattle.rn_table.specs.link.LeafSteps.{Grows}
use Rattle.rn_table.proofs.DirLemmas.{read_at, set_here, set_others}
use Rattle.rn_table.proofs.dir.Dir.add.Goals as goal

pub returns-clause-here : goal.returns-clause-here
returns-clause-here c =
    subst (λ r. Grows c.args.kept c.args.inst (held_if c.args.kept (slice_index_or c.args.self.now c.args.index [])) r) (sym (set_here (λ page. option_map_or (λ p. p.value) page []) c.self.inside.pages.items c.args.index c.add_shared.new.page (omega (arith, c.requires, c.self.invariant))))
    (subst (λ h. Grows c.args.kept c.args.inst (held_if c.args.kept h) (option_map_or (λ p. p.value) c.add_shared.new.page [])) (read_at (λ page. option_map_or (λ p. p.value) page []) c.self.inside.pages.items c.args.index c.index_mut-page.result.now c.args.self.now c.self.view_is (omega (arith, c.requires, c.self.invariant)) c.index_mut-page.ensures.value) c.in_ok-add_shared.ensures)

pub returns-clause-others : goal.returns-clause-others
returns-clause-others c = λ i differ. set_others (λ page. option_map_or (λ p. p.value) page []) c.self.inside.pages.items c.args.index c.add_shared.new.page c.args.self.now c.self.view_is i differ
