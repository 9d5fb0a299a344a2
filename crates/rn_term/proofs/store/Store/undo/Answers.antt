use Rattle.std.proofs.Common.{◌≤◌, length, sym, subst, take, ◌∙◌}
use Rattle.rn_term.specs.Assignments.{Keeps}
use Rattle.rn_term.specs.Undoing.{Rolled}
use Rattle.rn_term.specs.link.Kept.{AreFloors, AreLevels}
use Rattle.rn_term.proofs.Floors.{floors_of_fewer_notes}
use Rattle.rn_term.proofs.LevelLemmas.{levels_of_fewer_notes}
use Rattle.rn_term.proofs.KeepingLemmas.{kept_prefix}
use Rattle.rn_term.proofs.store.Store.undo.Goals as goal

pub invariant_of-self : goal.invariant_of-self
invariant_of-self c =
    rw (
      c.truncate.ensures.items,
      c.truncate-2.ensures.items,
      c.truncate-3.ensures.items,
      c.truncate-4.ensures.items,
      c.truncate-5.ensures.items,
      c.truncate-6.ensures.items,
    )
    (kept_prefix c.self.inside.terms.items c.take_back.new.links.items c.self.inside.lists.items
    c.self.inside.floors.items c.self.inside.flags.items c.self.inside.levels.items
    c.take_back.new.notes.items
    c.args.to.now.size
    (subst
    (λ ns. Keeps
    (record { terms = take c.args.to.now.size c.self.inside.terms.items; notes = ns }))
    (sym c.take_back.ensures.notes)
    (subst (λ s. Keeps (Rolled s c.args.to.now)) (sym c.self.view_is) c.requires.keeps))
    (subst (λ s. c.args.to.now.size ≤ length s.terms) (sym c.self.view_is) c.requires.not_later.0)
    (c.take_back.ensures.each ∙ c.self.invariant.each)
    c.take_back.ensures.links c.self.invariant.counted c.self.invariant.last
    c.self.invariant.measured
    (subst (λ ns. AreFloors c.self.inside.floors.items
    (record { terms = c.self.inside.terms.items; notes = ns })) (sym c.take_back.ensures.notes)
    (floors_of_fewer_notes c.self.inside.terms.items c.self.inside.notes.items
    c.self.inside.floors.items c.args.to.now.notes c.self.invariant.floored))
    c.self.invariant.marked c.self.invariant.flagged c.self.invariant.few
    (subst (λ ns. AreLevels c.self.inside.levels.items c.self.inside.flags.items
    (record { terms = c.self.inside.terms.items; notes = ns })) (sym c.take_back.ensures.notes)
    (levels_of_fewer_notes c.self.inside.terms.items c.self.inside.notes.items
    c.self.inside.levels.items c.self.inside.flags.items c.args.to.now.notes
    c.self.invariant.leveled)))
