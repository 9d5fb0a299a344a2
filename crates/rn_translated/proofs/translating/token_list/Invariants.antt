use Rattle.std.proofs.Common.{◌≡◌, replicate}
use Rattle.rn_translated.specs.Translation.{black_expr}
use Rattle.rn_translated.proofs.translating.token_list.Given as goal

abbrev pub invariant-loop : goal.invariant-loop
invariant-loop l = l.tokens.items ≡ replicate l.counter black_expr
