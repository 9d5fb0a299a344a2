use Rattle.rn_inscript.proofs.Names.{◌≡◌, ◌+◌, ◌*◌, ◌-◌, List, length, IsExpr, IsTerms, IsProduct, IsFactors, IsExprs, IsMoreExprs, Level, without_minuses, IsSoFar, HasMoved, ready}
use Rattle.rn_inscript.proofs.expressions.+expression.Given as goal

abbrev pub decreases-listed : goal.decreases-listed
decreases-listed l = 10 * l.levels + 10

abbrev pub decreases-exprs : goal.decreases-exprs
decreases-exprs l = 10 * l.levels + 9

abbrev pub decreases-expr : goal.decreases-expr
decreases-expr l = 10 * l.levels + 8

abbrev pub decreases-product : goal.decreases-product
decreases-product l = 10 * l.levels + 7

abbrev pub decreases-unary : goal.decreases-unary
decreases-unary l = 10 * l.levels + 6

abbrev pub decreases-negative : goal.decreases-negative
decreases-negative l = 10 * l.levels + 5

abbrev pub decreases-primary : goal.decreases-primary
decreases-primary l = 10 * l.levels + 5

abbrev pub decreases-bracketed : goal.decreases-bracketed
decreases-bracketed l = 10 * l.levels + 4

abbrev pub decreases-parenthesised : goal.decreases-parenthesised
decreases-parenthesised l = 10 * l.levels + 3

abbrev pub decreases-tuple : goal.decreases-tuple
decreases-tuple l = 10 * l.levels + 3

abbrev pub decreases-list : goal.decreases-list
decreases-list l = 10 * l.levels + 3

abbrev pub invariant-expr-loop-op : goal.invariant-expr-loop-op
invariant-expr-loop-op l = record {
  moved : HasMoved l.tokens l.fn.seen l.seen;
  reads : (around : List Level) → without_minuses around ≡ around → l.levels + length around ≡ 64 →
      IsSoFar 4 IsExpr l.tokens l.fn.seen (ready around l.fn.seen.operators) around (IsTerms l.left) l.seen;
}

abbrev pub decreases-expr-loop-op : goal.decreases-expr-loop-op
decreases-expr-loop-op l = length l.tokens - l.seen.at

abbrev pub invariant-exprs-loop-after_comma : goal.invariant-exprs-loop-after_comma
invariant-exprs-loop-after_comma l = record {
  moved : HasMoved l.tokens l.fn.seen l.seen;
  reads : (around : List Level) → without_minuses around ≡ around → l.levels + length around ≡ 64 →
      IsSoFar 3 IsExprs l.tokens l.fn.seen (ready around l.fn.seen.operators) around (IsMoreExprs l.all.items) l.seen;
}

abbrev pub decreases-exprs-loop-after_comma : goal.decreases-exprs-loop-after_comma
decreases-exprs-loop-after_comma l = length l.tokens - l.seen.at

abbrev pub invariant-product-loop-op : goal.invariant-product-loop-op
invariant-product-loop-op l = record {
  moved : HasMoved l.tokens l.fn.seen l.seen;
  reads : (around : List Level) → without_minuses around ≡ around → l.levels + length around ≡ 64 →
      IsSoFar 5 IsProduct l.tokens l.fn.seen (ready around l.fn.seen.operators) around (IsFactors l.left) l.seen;
}

abbrev pub decreases-product-loop-op : goal.decreases-product-loop-op
decreases-product-loop-op l = length l.tokens - l.seen.at
