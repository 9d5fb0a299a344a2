use Rattle.std.proofs.Common.{◌≤◌, length, sym, subst, ◌∙◌, ap}
use Rattle.rn_term.specs.link.Kept.{last_cons}
use Rattle.rn_term.proofs.LastLists.{kept_list}
use Rattle.rn_term.proofs.store.Store.last_list.Goals as goal

pub returns-else-end-eq0 : goal.returns-else-end-eq0
returns-else-end-eq0 c =
    kept_list c.self.inside.terms.items c.self.inside.links.items c.self.inside.lists.items
    c.self.inside.floors.items c.self.inside.flags.items c.self.inside.levels.items
    c.self.inside.notes.items c.args.end c.index.result.now c.self.invariant
    (subst (λ s. c.args.end ≤ length s.terms) (sym c.self.view_is) c.requires.within)
    c.if-end-eq0.false c.index.ensures
    ∙ ap (λ s. last_cons s.terms c.args.end) c.self.view_is
