-- The table of then is put in place.
use Rattle.std.proofs.Common.{◌-◌, ◌≤◌, sym, ap, subst, ◌∙◌}
use Rattle.std.specs.Prelude.{Ok, true}
use Rattle.rn_fire.specs.States.{State}
use Rattle.rn_session.specs.Sessions.{UndoesBy}
use Rattle.rn_session.proofs.Sessions.{not_none, of_then, stands_then, undone, with_fewer}
use Rattle.rn_session.proofs.session.Session.undo.Goals as goal

pub rewind-requires-clause-stands : goal.rewind-requires-clause-stands
rewind-requires-clause-stands c =
    let old : State = c.self.inside.state in
    let k = c.args.k in
    let count = c.length-length.ensures.length in
    stands_then old c.self.inside.options c.self.inside.uplinks c.self.inside.kept.items c.pop.new.self.items
    c.in-Some.table c.self.inside.firsts c.self.inside.looked k (c.length-length.result - k) c.self.invariant (not_none k c.if-k-eq0.false)
    (subst (λ n. k ≤ n) count c.if-length-k.false) (ap (λ n. n - k) count)
    (sym c.truncate.ensures.items ∙ c.in-Some.ensures.items)

pub rewind-requires-clause-of_system : goal.rewind-requires-clause-of_system
rewind-requires-clause-of_system c =
    let old : State = c.self.inside.state in
    let k = c.args.k in
    let count = c.length-length.ensures.length in
    of_then old c.self.inside.options c.self.inside.uplinks c.self.inside.kept.items c.pop.new.self.items
    c.in-Some.table c.self.inside.firsts c.self.inside.looked k (c.length-length.result - k) c.self.invariant (not_none k c.if-k-eq0.false)
    (subst (λ n. k ≤ n) count c.if-length-k.false) (ap (λ n. n - k) count)
    (sym c.truncate.ensures.items ∙ c.in-Some.ensures.items)

pub invariant_of-self : goal.invariant_of-self
invariant_of-self c =
    let old : State = c.self.inside.state in
    let k = c.args.k in
    let count = c.length-length.ensures.length in
    with_fewer old c.self.inside.options c.self.inside.uplinks c.self.inside.kept.items c.pop.new.self.items
    c.in-Some.table c.self.inside.firsts c.self.inside.looked k (c.length-length.result - k) c.self.invariant (not_none k c.if-k-eq0.false)
    (subst (λ n. k ≤ n) count c.if-length-k.false) (ap (λ n. n - k) count)
    (sym c.truncate.ensures.items ∙ c.in-Some.ensures.items) c.rewind.new.self c.forget.new.self c.rewind.ensures
    c.length-length-2.ensures.state

pub returns : goal.returns
returns c =
    let old : State = c.self.inside.state in
    let k = c.args.k in
    let count = c.length-length.ensures.length in
    subst (λ x. UndoesBy x k (Ok true) c.rewind.new.self) c.self.view_is
    (undone old c.self.inside.options c.self.inside.uplinks c.self.inside.kept.items c.pop.new.self.items
    c.in-Some.table c.self.inside.firsts c.self.inside.looked k (c.length-length.result - k) c.self.invariant (not_none k c.if-k-eq0.false)
    (subst (λ n. k ≤ n) count c.if-length-k.false) (ap (λ n. n - k) count)
    (sym c.truncate.ensures.items ∙ c.in-Some.ensures.items) c.rewind.new.self c.rewind.ensures)
