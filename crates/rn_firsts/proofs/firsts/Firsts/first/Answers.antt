use Rattle.std.proofs.Common.{◌≡◌, [], sym, subst}
use Rattle.rn_firsts.specs.Known.{IsKnown, IsLookedAt}
use Rattle.rn_firsts.proofs.firsts.Firsts.first.Goals as goal

pub first_again-requires-clause-looked : goal.first_again-requires-clause-looked
first_again-requires-clause-looked c =
    (subst (IsKnown c.args.marked.system.now c.args.marked.table.now.marking c.args.marked.depth) (sym c.self.view_is)
    c.requires.known).looked

pub returns-in_err-found-clause-known : goal.returns-in_err-found-clause-known
returns-in_err-found-clause-known c = record {
  looked = c.first_again.ensures.looked;
  held = (subst (IsKnown c.args.marked.system.now c.args.marked.table.now.marking c.args.marked.depth)
      (sym c.self.view_is) c.requires.known).held;
}

pub returns-in-Some-clause-first : goal.returns-in-Some-clause-first
returns-in-Some-clause-first c = rw c.in-Some.is at c.in_ok-found.ensures.first

pub returns-in-Some-clause-known : goal.returns-in-Some-clause-known
returns-in-Some-clause-known c = record {
  looked = c.first_again.ensures.looked;
  held = (subst (IsKnown c.args.marked.system.now c.args.marked.table.now.marking c.args.marked.depth)
      (sym c.self.view_is) c.requires.known).held;
}

pub first_from-requires-clause-looked : goal.first_from-requires-clause-looked
first_from-requires-clause-looked c =
    subst (IsLookedAt c.args.marked.system.now c.args.marked.table.now.marking c.args.marked.depth c.self.inside.until)
    (rw c.in_default.is at c.in_ok-found.ensures.first)
    c.first_again.ensures.looked

pub returns-clause-known : goal.returns-clause-known
returns-clause-known c =
    let empty : c.first_again.new.again.keys ≡ [] =
    rw c.in_default.is at c.in_ok-found.ensures.first in
    record {
      looked = subst
          (IsLookedAt c.args.marked.system.now c.args.marked.table.now.marking c.args.marked.depth
          c.first_from.new.until)
          (sym empty) c.first_from.ensures.looked;
      held = (subst (IsKnown c.args.marked.system.now c.args.marked.table.now.marking c.args.marked.depth)
          (sym c.self.view_is) c.requires.known).held;
    }
