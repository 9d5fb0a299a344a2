-- The arguments so far.
use Rattle.rn_looking.specs.AnswerKinds.{PutsArgs}
use Rattle.rn_looking.proofs.answers.args_differ.Given as goal

abbrev pub invariant-loop-k : goal.invariant-loop-k
invariant-loop-k l = PutsArgs l.args l.values l.initial.pairs.items l.pairs.items
