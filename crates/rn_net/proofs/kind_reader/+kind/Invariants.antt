use Rattle.rn_net.proofs.Names.{◌≡◌, ◌+◌, ◌≤◌, ◌*◌, ◌-◌, length, ℕ, drop, declaring, Stage, AreKindsUpTo}
use Rattle.rn_notation.specs.declared.token.TokenKind.TheVariants as Kind
use Rattle.rn_net.proofs.Rows.{row_on}
use Rattle.rn_net.proofs.KindPhrases.{kind_row}
use Rattle.rn_net.proofs.kind_reader.+kind.Given as goal

abbrev pub decreases-kinds_listed : goal.decreases-kinds_listed
decreases-kinds_listed l = 5 * l.levels + 4

abbrev pub decreases-kinds_up_to : goal.decreases-kinds_up_to
decreases-kinds_up_to l = 5 * l.levels + 3

abbrev pub decreases-kind : goal.decreases-kind
decreases-kind l = 5 * l.levels + 2

abbrev pub decreases-tuple : goal.decreases-tuple
decreases-tuple l = 5 * l.levels + 1

abbrev pub decreases-list : goal.decreases-list
decreases-list l = 5 * l.levels + 1

abbrev pub invariant-kinds_up_to-loop-next : goal.invariant-kinds_up_to-loop-next
invariant-kinds_up_to-loop-next l = record {
  moved : (l.fn.at ≤ l.now) × (l.now ≤ length l.tokens);
  reads : (depth : ℕ) → l.levels + (depth + 1) ≡ 64 →
      Stage (AreKindsUpTo (Kind.Sign l.close)) (drop l.fn.at l.tokens) (declaring (depth + 1)) (row_on kind_row (Kind.Sign l.close) l.all.items) (drop l.now l.tokens) (declaring (depth + 1));
}

abbrev pub decreases-kinds_up_to-loop-next : goal.decreases-kinds_up_to-loop-next
decreases-kinds_up_to-loop-next l = length l.tokens - l.now
