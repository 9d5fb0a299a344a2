use Rattle.rn_choices_uses.proofs.PuzzleLemmas.{none_solved}
use Rattle.rn_choices_uses.proofs.puzzle.solve_while.Goals as goal

pub returns-clause-none : goal.returns-clause-none
returns-clause-none g c =
    none_solved c.args.puzzle.sizes.now c.args.puzzle.clashes.now c.find_while.result
    c.find_while.ensures.none
