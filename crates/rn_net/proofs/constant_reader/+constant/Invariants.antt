use Rattle.rn_net.proofs.Names.{◌≡◌, ◌+◌, ◌≤◌, ◌*◌, ◌-◌, length, ℕ, drop, declaring, Stage, AreConstantsUpTo}
use Rattle.rn_notation.specs.declared.token.TokenKind.TheVariants as Kind
use Rattle.rn_net.proofs.Rows.{row_on}
use Rattle.rn_net.proofs.ConstantPhrases.{constant_row}
use Rattle.rn_net.proofs.constant_reader.+constant.Given as goal

abbrev pub decreases-constants_listed : goal.decreases-constants_listed
decreases-constants_listed l = 5 * l.levels + 4

abbrev pub decreases-constants_up_to : goal.decreases-constants_up_to
decreases-constants_up_to l = 5 * l.levels + 3

abbrev pub decreases-constant : goal.decreases-constant
decreases-constant l = 5 * l.levels + 2

abbrev pub decreases-tuple : goal.decreases-tuple
decreases-tuple l = 5 * l.levels + 1

abbrev pub decreases-list : goal.decreases-list
decreases-list l = 5 * l.levels + 1

abbrev pub invariant-constants_up_to-loop-next : goal.invariant-constants_up_to-loop-next
invariant-constants_up_to-loop-next l = record {
  moved : (l.fn.at ≤ l.now) × (l.now ≤ length l.tokens);
  reads : (depth : ℕ) → l.levels + depth ≡ 64 →
      Stage (AreConstantsUpTo (Kind.Sign l.close)) (drop l.fn.at l.tokens) (declaring depth) (row_on constant_row (Kind.Sign l.close) l.all.items) (drop l.now l.tokens) (declaring depth);
}

abbrev pub decreases-constants_up_to-loop-next : goal.decreases-constants_up_to-loop-next
decreases-constants_up_to-loop-next l = length l.tokens - l.now
