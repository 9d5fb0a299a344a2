use Rattle.std.proofs.Common.{refl}
use Rattle.rn_unify.proofs.ListsOfTerms.{others_may_be_lists}
use Rattle.rn_unify.proofs.binding.may_be_list.Goals as goal

pub returns-in_default : goal.returns-in_default
returns-in_default c = record {
  exact = (
    λ yes. others_may_be_lists c.args.store.now c.args.id c.term.result.now c.requires.kept
        c.requires.within c.requires.end c.term.ensures c.in_default.not-Atom
        c.in_default.not-Tuple,
    λ may. refl,
  );
}
