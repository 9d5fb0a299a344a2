-- By the kinds of what is known.
use Rattle.std.proofs.Common.{refl, sym, subst}
use Rattle.std.specs.Prelude.{Contains}
use Rattle.rn_looking.specs.Knowing.{known_env}
use Rattle.rn_looking.proofs.KindedValues.{comparisons_fit, read_kinds}
use Rattle.rn_looking.proofs.answers.fails_guard.Goals as goal

pub is_true-requires-clause-fit : goal.is_true-requires-clause-fit
is_true-requires-clause-fit c =
    let knows = c.requires in
    let env = known_env c.args.known.now in
    let there = subst (λ gs. Contains gs c.guard-item.result) c.as_slice-guard-items.ensures
    (c.loop-guard.guard-index, c.loop-guard-test.true, sym c.guard-item.is) in
    comparisons_fit knows.0 env c.guard-item.result
    (read_kinds knows.0 env c.args.known.now.pairs.items refl knows.2)
    (knows.1 c.guard-item.result there)
