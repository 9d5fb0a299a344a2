-- The arguments so far.
use Rattle.std.proofs.Common.{◌≡◌, length}
use Rattle.rn_looking.specs.AnswerKinds.{HaveKindsOfArgs}
use Rattle.rn_looking.proofs.answers.known_args.Given as goal

abbrev pub invariant-loop-arg : goal.invariant-loop-arg
invariant-loop-arg l = record {
  many : length l.values.items ≡ l.arg-index;
  so : HaveKindsOfArgs l.growing l.head l.args l.values.items;
}
