use Rattle.std.proofs.Common.{rules, ◌≡◌, drop, [], ◌∷◌, ◌++◌, sym, subst, arith}
use Rattle.rn_notation.specs.declared.word.TheConstants as word
use Rattle.rn_reading.specs.link.Stages.{done}
use Rattle.rn_reading.specs.Single as read
use Rattle.rn_reading.proofs.Sorts.{and_then, many}
use Rattle.rn_reading.proofs.Uncounted.{At, started, goes, stops, reads, fails, another, no_more, so_fails, so_reads}
use Rattle.rn_pt.specs.Grammar.{TransitionsUpTo}
use Rattle.rn_pt.proofs.Phrases.{transition, closed, no_transition, transition_begins, close_brace}
use Rattle.rn_pt.proofs.net_reader.transitions_up_to.Goals as goal

pub loop-all-init : goal.loop-all-init
loop-all-init c = record {
  moved = (omega arith, c.requires);
  reads = subst (λ all. At TransitionsUpTo (drop c.args.at c.args.tokens.now) c.args.tokens.now (and_then (many transition) (λ more. closed (all ++ more))) c.args.at) (let h : [] ≡ c.new-all.result.items = search rules in h)
      (started (and_then (many transition) closed) c.args.tokens.now c.args.at);
}

pub returns-in_err-more-clause-reads : goal.returns-in_err-more-clause-reads
returns-in_err-more-clause-reads c = so_fails TransitionsUpTo c.args.tokens.now c.args.at c.from_residual.result c.in_err-more.field-0.0 c.from_residual.ensures.1
    (fails transition (λ a. and_then (many transition) (λ more. closed ((c.loop-all.all.items ++ a ∷ []) ++ more))) c.args.tokens.now c.loop-all.now c.in_err-more.field-0.0 (another (read.word word.TRANS) transition closed c.loop-all.all.items c.args.tokens.now c.loop-all.now (no_transition c.loop-all.all.items) c.loop-all.invariant.reads c.in-Some.ensures.0) c.in_err-more.ensures.reads)

pub loop-all-preserved : goal.loop-all-preserved
loop-all-preserved c = record {
  moved = (omega (arith, c.loop-all.invariant.moved.0, c.in_ok-more.ensures.moved.0), c.in_ok-more.ensures.moved.1);
  reads = subst (λ all. At TransitionsUpTo (drop c.args.at c.args.tokens.now) c.args.tokens.now (and_then (many transition) (λ more. closed (all ++ more))) c.in_ok-more.after) (sym c.in_ok-push.ensures.items)
      (reads transition (λ a. and_then (many transition) (λ more. closed ((c.loop-all.all.items ++ a ∷ []) ++ more))) c.args.tokens.now c.loop-all.now c.in_ok-more.after (another (read.word word.TRANS) transition closed c.loop-all.all.items c.args.tokens.now c.loop-all.now (no_transition c.loop-all.all.items) c.loop-all.invariant.reads c.in-Some.ensures.0) c.in_ok-more.ensures.reads);
}

pub returns-in_err-end-clause-reads : goal.returns-in_err-end-clause-reads
returns-in_err-end-clause-reads c = so_fails TransitionsUpTo c.args.tokens.now c.args.at c.from_residual-in_err-end.result c.in_err-end.field-0.0 c.from_residual-in_err-end.ensures.1
    (stops close_brace (λ s. done c.loop-all.all.items) c.args.tokens.now c.loop-all.now c.in_err-end.field-0.0 (no_more (read.word word.TRANS) transition closed c.loop-all.all.items c.args.tokens.now c.loop-all.now transition_begins c.loop-all.invariant.reads c.in_default.ensures) c.loop-all.invariant.moved.1 c.in_err-end.ensures)

pub returns-clause-reads : goal.returns-clause-reads
returns-clause-reads c = so_reads c.args.tokens.now c.in_ok-end.end c.from_vec.ensures (goes close_brace (λ s. done c.loop-all.all.items) c.args.tokens.now c.loop-all.now c.in_ok-end.end (no_more (read.word word.TRANS) transition closed c.loop-all.all.items c.args.tokens.now c.loop-all.now transition_begins c.loop-all.invariant.reads c.in_default.ensures) c.in_ok-end.ensures)
