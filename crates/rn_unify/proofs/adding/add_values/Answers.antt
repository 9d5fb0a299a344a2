use Rattle.rn_term.specs.declared.term.Term.TheVariants as T
use Rattle.rn_unify.specs.declared.equation.Other.TheVariants as O
use Rattle.rn_unify.specs.link.Adding.{IsOf}
use Rattle.rn_unify.specs.link.Equations.{IsOther}
use Rattle.rn_unify.proofs.Blocks.{through_result}
use Rattle.rn_unify.proofs.adding.add_values.Goals as goal

pub returns-in_ok-ids-clause-added : goal.returns-in_ok-ids-clause-added
returns-in_ok-ids-clause-added c =
    through_result c.args.store.now c.add_each.new.store c.add_list.new.store
    (IsOther (O.Values c.args.values.items)) (IsOf (T.List c.in_ok-ids.ids.items))
    c.add_list.result c.in_ok-ids.ensures.added c.add_list.ensures.added

pub returns-in_ok-list-clause-added : goal.returns-in_ok-list-clause-added
returns-in_ok-list-clause-added c = rw (c.in_ok-list.ensures, c.from_vec.ensures) at c.add_term.ensures.added
