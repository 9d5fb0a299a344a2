use Rattle.std.proofs.Common.{◌<◌, length, reverse}
use Rattle.std.specs.Prelude.{All}
use Rattle.rn_unify.specs.declared.equation.Other.TheVariants as O
use Rattle.rn_unify.specs.link.Adding.{Turns}
use Rattle.rn_unify.specs.link.Equations.{IsOther}
use Rattle.rn_unify.proofs.Blocks.{IsAll}
use Rattle.rn_unify.proofs.adding.add_each.Given as goal

-- the first values stand at ids, and the others are left
abbrev pub invariant-loop-value : goal.invariant-loop-value
invariant-loop-value l = record {
  within : All (λ id. id < length l.store.terms) l.ids.items;
  turned : Turns l.fn.store (IsOther (O.Values l.fn.values.items)) l.store
      (IsAll l.ids.items (reverse l.left.items));
}

abbrev pub decreases-loop-value : goal.decreases-loop-value
decreases-loop-value l = length l.left.items
