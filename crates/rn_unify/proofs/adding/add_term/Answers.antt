use Rattle.rn_unify.specs.link.Adding.{IsOf}
use Rattle.rn_unify.proofs.Turning.{turns_not}
use Rattle.rn_unify.proofs.Blocks.{whole_added, whole_placed}
use Rattle.rn_unify.proofs.adding.add_term.Goals as goal

pub returns-clause-added : goal.returns-clause-added
returns-clause-added c =
    let s = c.args.store.now in
    let wish = IsOf c.args.term in
    whole_added s s c.add.new.self wish c.args.term c.add.result
    (turns_not s wish c.requires.kept) c.requires.stands
    c.add.ensures.id c.add.ensures.added

pub returns-clause-placed : goal.returns-clause-placed
returns-clause-placed c =
    whole_placed c.args.store.now c.add.new.self c.args.term c.add.result c.requires.stands.2
    c.add.ensures.id c.add.ensures.added
