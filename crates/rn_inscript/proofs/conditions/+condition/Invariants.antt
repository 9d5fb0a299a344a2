use Rattle.rn_inscript.proofs.Names.{◌≡◌, ◌+◌, ◌*◌, ◌-◌, List, length, IsAlternatives, IsMoreAlternatives, IsBoth, IsMoreBoth, Level, without_minuses, IsSoFar, HasMoved, ready}
use Rattle.rn_inscript.proofs.conditions.+condition.Given as goal

abbrev pub decreases-cond : goal.decreases-cond
decreases-cond l = 10 * l.levels + 9

abbrev pub decreases-alternatives : goal.decreases-alternatives
decreases-alternatives l = 10 * l.levels + 8

abbrev pub decreases-both : goal.decreases-both
decreases-both l = 10 * l.levels + 7

abbrev pub decreases-simple : goal.decreases-simple
decreases-simple l = 10 * l.levels + 6

abbrev pub decreases-negation : goal.decreases-negation
decreases-negation l = 10 * l.levels + 5

abbrev pub invariant-alternatives-loop-all : goal.invariant-alternatives-loop-all
invariant-alternatives-loop-all l = record {
  moved : HasMoved l.tokens l.fn.seen l.seen;
  reads : (around : List Level) → without_minuses around ≡ around → l.levels + length around ≡ 64 →
      IsSoFar 1 IsAlternatives l.tokens l.fn.seen (ready around l.fn.seen.operators) around (IsMoreAlternatives l.all.items) l.seen;
}

abbrev pub decreases-alternatives-loop-all : goal.decreases-alternatives-loop-all
decreases-alternatives-loop-all l = length l.tokens - l.seen.at

abbrev pub invariant-both-loop-all : goal.invariant-both-loop-all
invariant-both-loop-all l = record {
  moved : HasMoved l.tokens l.fn.seen l.seen;
  reads : (around : List Level) → without_minuses around ≡ around → l.levels + length around ≡ 64 →
      IsSoFar 2 IsBoth l.tokens l.fn.seen (ready around l.fn.seen.operators) around (IsMoreBoth l.all.items) l.seen;
}

abbrev pub decreases-both-loop-all : goal.decreases-both-loop-all
decreases-both-loop-all l = length l.tokens - l.seen.at
