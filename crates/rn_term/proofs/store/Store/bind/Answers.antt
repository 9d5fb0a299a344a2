use Rattle.std.proofs.Common.{◌≡◌, ◌<◌, ◌++◌, ◌∷◌, [], length, sym, ◌∙◌, ap, subst}
use Rattle.std.proofs.lemmas.List.{get_or_read}
use Rattle.std.specs.Prelude.{None, ◌↔◌}
use Rattle.rn_term.specs.Stores.{link_of}
use Rattle.rn_term.specs.Assignments.{IsNote, MayBeOne, Satisfies, value_at}
use Rattle.rn_term.specs.link.Kept.{AreLevels, IsLowAlong}
use Rattle.rn_term.proofs.KeepingLemmas.{kept_note}
use Rattle.rn_term.proofs.AssignmentLemmas.{note_means}
use Rattle.rn_term.proofs.store.Store.bind.Goals as goal

pub invariant_of-self-2 : goal.invariant_of-self-2
invariant_of-self-2 c =
    rw (c.in_ok-push.ensures.items, c.in_ok-reserve.ensures.items)
    (kept_note c.self.inside.terms.items c.self.inside.links.items
    c.self.inside.lists.items c.self.inside.floors.items c.self.inside.flags.items
    c.self.inside.levels.items c.self.inside.notes.items c.args.var
    c.args.to c.lower_along.new.floors.items c.raise.new.levels.items c.self.invariant
    (subst (λ s. IsNote s.terms s.notes (c.args.var, c.args.to)) (sym c.self.view_is)
    (record {
      var = c.requires.var_within;
      to = c.requires.to_within;
      free = c.requires.free;
      fresh = c.requires.unbound;
      apart = c.requires.apart;
    }))
    (subst (λ s. MayBeOne s c.args.var c.args.to) (sym c.self.view_is) c.requires.possible)
    c.lower_along.ensures.lowered
    (subst
    (λ n. IsLowAlong c.self.inside.notes.items c.args.to n c.lower_along.new.floors.items)
    (get_or_read c.self.inside.floors.items c.args.var c.index-floor.result.now
    (rw c.self.invariant.measured
    (subst (λ s. c.args.var < length s.terms) (sym c.self.view_is) c.requires.var_within))
    c.index-floor.ensures 0)
    (subst (λ ns. IsLowAlong ns c.args.to c.index-floor.result.now c.lower_along.new.floors.items)
    c.in_ok-reserve.ensures.items c.lower_along.ensures.along))
    c.raise.ensures.few
    (subst (λ ns. AreLevels c.raise.new.levels.items c.self.inside.flags.items
    (record { terms = c.self.inside.terms.items; notes = ns })) c.in_ok-reserve.ensures.items
    c.raise.ensures.levels)
    c.raise.ensures.enough)

pub returns-clause-means : goal.returns-clause-means
returns-clause-means c = λ vs.
    subst
    (λ s. Satisfies
    (record { terms = c.self.inside.terms.items; notes = c.push.new.self.items }) vs
    ↔ (Satisfies s vs × (value_at vs c.args.var ≡ value_at vs c.args.to))) c.self.view_is
    (note_means (record { terms = c.self.inside.terms.items; notes = c.self.inside.notes.items })
    c.args.var c.args.to vs c.push.new.self.items
    (subst (λ s. link_of s.notes c.args.var ≡ None) (sym c.self.view_is) c.requires.unbound)
    (c.in_ok-push.ensures.items
    ∙ ap (λ ns. ns ++ (c.args.var, c.args.to) ∷ []) c.in_ok-reserve.ensures.items))
