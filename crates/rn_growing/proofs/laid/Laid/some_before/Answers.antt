use Rattle.std.proofs.Common.{◌≡◌, true, false}
use Rattle.rn_growing.proofs.PuttingBefore.{may_be_list, put_yes, put_no, laid_so}
use Rattle.rn_growing.proofs.laid.Laid.some_before.Goals as goal

pub add-requires-clause-list : goal.add-requires-clause-list
add-requires-clause-list c = may_be_list c.self.inside.store c.new_var.new.self c.in_ok-rest.rest
    c.mark-kept.ensures.kept c.in_ok-rest.ensures.added c.in_ok-rest.ensures.id

pub invariant_of-self-2 : goal.invariant_of-self-2
invariant_of-self-2 c = laid_so c.self.inside.store c.new_var.new.self c.add.new.self
    c.unify.new.store c.self.inside.slots c.args.ids c.args.tail c.in_ok-rest.rest
    c.in_ok-id.id c.args.self.now c.self.view_is c.mark-kept.ensures.kept c.mark-still.ensures.kept
    c.self.invariant c.requires.within c.requires.some c.requires.tail_within
    c.in_ok-rest.ensures.id c.in_ok-rest.ensures.added c.in_ok-id.ensures.id
    c.in_ok-id.ensures.added c.unify.ensures.earlier

pub returns-then-not-branch-clause-put : goal.returns-then-not-branch-clause-put
returns-then-not-branch-clause-put c =
    put_no c.self.inside.store c.new_var.new.self c.add.new.self c.unify.new.store
    c.self.inside.slots c.args.ids c.args.tail c.in_ok-rest.rest c.in_ok-id.id
    c.args.self.now c.self.view_is c.mark-kept.ensures.kept c.mark-still.ensures.kept
    c.self.invariant c.requires.within c.requires.some c.requires.tail_within
    c.in_ok-rest.ensures.id c.in_ok-rest.ensures.added c.in_ok-id.ensures.id
    c.in_ok-id.ensures.added c.unify.ensures.earlier
    (λ may. let e : c.in_ok-unify.field-0 ≡ true = c.in_ok-unify.ensures.exact.1 may in
    let f : c.in_ok-unify.field-0 ≡ false = c.if-not-branch.true in let no : ⊥ = cc in no)

pub returns-clause-put : goal.returns-clause-put
returns-clause-put c =
    put_yes c.self.inside.store c.new_var.new.self c.add.new.self c.unify.new.store
    c.self.inside.slots c.args.ids c.args.tail c.in_ok-rest.rest c.in_ok-id.id
    c.args.self.now c.self.view_is c.mark-kept.ensures.kept c.mark-still.ensures.kept
    c.self.invariant c.requires.within c.requires.some c.requires.tail_within
    c.in_ok-rest.ensures.id c.in_ok-rest.ensures.added c.in_ok-id.ensures.id
    c.in_ok-id.ensures.added c.unify.ensures.earlier
    (c.in_ok-unify.ensures.means c.if-not-branch.false)
