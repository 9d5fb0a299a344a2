use Rattle.std.proofs.Common.{rules, ◌≡◌, drop, [], ◌∷◌, ◌++◌, sym, ap, subst, arith}
use Rattle.rn_notation.specs.declared.word.TheConstants as word
use Rattle.rn_reading.specs.link.Stages.{done}
use Rattle.rn_reading.specs.Single as read
use Rattle.rn_reading.proofs.Sorts.{and_then, many}
use Rattle.rn_reading.proofs.Uncounted.{At, started, reads, fails, another, no_more, so_fails, so_reads}
use Rattle.rn_pt.specs.Grammar.{PartsUpTo, weighted_net_of}
use Rattle.rn_pt.proofs.Phrases.{place, parts_end, no_place, place_begins, transitions_up_to}
use Rattle.rn_pt.proofs.net_reader.parts_up_to.Goals as goal

pub loop-places-init : goal.loop-places-init
loop-places-init c = record {
  moved = (omega arith, c.requires);
  reads = subst (λ all. At PartsUpTo (drop c.args.at c.args.tokens.now) c.args.tokens.now (and_then (many place) (λ more. parts_end (all ++ more))) c.args.at) (let h : [] ≡ c.new-places.result.items = search rules in h)
      (started (and_then (many place) parts_end) c.args.tokens.now c.args.at);
}

pub returns-in_err-more-clause-reads : goal.returns-in_err-more-clause-reads
returns-in_err-more-clause-reads c = so_fails PartsUpTo c.args.tokens.now c.args.at c.from_residual.result c.in_err-more.field-0.0 c.from_residual.ensures.1
    (fails place (λ a. and_then (many place) (λ more. parts_end ((c.loop-places.places.items ++ a ∷ []) ++ more))) c.args.tokens.now c.loop-places.now c.in_err-more.field-0.0 (another (read.word word.PLACE) place parts_end c.loop-places.places.items c.args.tokens.now c.loop-places.now (no_place c.loop-places.places.items) c.loop-places.invariant.reads c.in-Some.ensures.0) c.in_err-more.ensures.reads)

pub loop-places-preserved : goal.loop-places-preserved
loop-places-preserved c = record {
  moved = (omega (arith, c.loop-places.invariant.moved.0, c.in_ok-more.ensures.moved.0), c.in_ok-more.ensures.moved.1);
  reads = subst (λ all. At PartsUpTo (drop c.args.at c.args.tokens.now) c.args.tokens.now (and_then (many place) (λ more. parts_end (all ++ more))) c.in_ok-more.after) (sym c.in_ok-push.ensures.items)
      (reads place (λ a. and_then (many place) (λ more. parts_end ((c.loop-places.places.items ++ a ∷ []) ++ more))) c.args.tokens.now c.loop-places.now c.in_ok-more.after (another (read.word word.PLACE) place parts_end c.loop-places.places.items c.args.tokens.now c.loop-places.now (no_place c.loop-places.places.items) c.loop-places.invariant.reads c.in-Some.ensures.0) c.in_ok-more.ensures.reads);
}

pub returns-in_err-transitions-clause-reads : goal.returns-in_err-transitions-clause-reads
returns-in_err-transitions-clause-reads c = so_fails PartsUpTo c.args.tokens.now c.args.at c.from_residual-in_err-transitions.result c.in_err-transitions.field-0.0 c.from_residual-in_err-transitions.ensures.1
    (fails transitions_up_to (λ transitions. done (weighted_net_of c.loop-places.places.items transitions)) c.args.tokens.now c.loop-places.now c.in_err-transitions.field-0.0 (no_more (read.word word.PLACE) place parts_end c.loop-places.places.items c.args.tokens.now c.loop-places.now place_begins c.loop-places.invariant.reads c.in_default.ensures) c.in_err-transitions.ensures.reads)

pub returns-clause-reads : goal.returns-clause-reads
returns-clause-reads c = so_reads c.args.tokens.now c.in_ok-transitions.end (ap (λ ps. weighted_net_of ps c.in_ok-transitions.transitions) c.from_vec-places.ensures) (reads transitions_up_to (λ transitions. done (weighted_net_of c.loop-places.places.items transitions)) c.args.tokens.now c.loop-places.now c.in_ok-transitions.end (no_more (read.word word.PLACE) place parts_end c.loop-places.places.items c.args.tokens.now c.loop-places.now place_begins c.loop-places.invariant.reads c.in_default.ensures) c.in_ok-transitions.ensures.reads)
