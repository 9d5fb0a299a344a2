use Rattle.rn_net.proofs.Names.{◌≡◌, length, drop, [], refl, sym, subst, arith, between, Stage, ArePartsUpTo, with_part, plain_net_of}
use Rattle.rn_net.proofs.Steps.{failed, then_read, then_fails, begin}
use Rattle.rn_net.proofs.NetPhrases.{parts, part_sort, many_on, many_next, many_close}
use Rattle.rn_net.proofs.net_reader.parts_up_to.Goals as goal

pub returns-in-Some-clause-reads : goal.returns-in-Some-clause-reads
returns-in-Some-clause-reads c = many_close (parts c.args.notation) c.args.tokens.now c.parts.now _ between c.parts.invariant.reads c.in-Some.ensures.0 c.in-Some.ensures.1 refl refl

pub returns-in_err-more-clause-reads : goal.returns-in_err-more-clause-reads
returns-in_err-more-clause-reads c = failed (ArePartsUpTo c.args.notation c.args.name) c.args.tokens.now c.args.at between between c.from_residual.result c.in_err-more.field-0.0 c.from_residual.ensures.1
    (then_fails (part_sort c.args.notation) (λ a. many_on (parts c.args.notation) (with_part c.parts.net a)) (length c.args.tokens.now) c.in_err-more.field-0.0 (many_next (parts c.args.notation) c.args.tokens.now c.parts.now c.parts.invariant.reads c.in_default.ensures) c.in_err-more.ensures.reads)

pub parts-preserved : goal.parts-preserved
parts-preserved c = record {
  moved = (omega (arith, c.in_ok-more.ensures.moved.0, c.parts.invariant.moved.0), c.in_ok-more.ensures.moved.1);
  reads = subst (λ all. Stage (ArePartsUpTo c.args.notation c.args.name) (drop c.args.at c.args.tokens.now) between (many_on (parts c.args.notation) all) (drop c.in_ok-more.after c.args.tokens.now) between) (sym c.in_ok-net.ensures)
      (then_read (part_sort c.args.notation) (λ a. many_on (parts c.args.notation) (with_part c.parts.net a)) (many_next (parts c.args.notation) c.args.tokens.now c.parts.now c.parts.invariant.reads c.in_default.ensures) c.in_ok-more.ensures.reads);
}

pub parts-init : goal.parts-init
parts-init c = record {
  moved = (omega arith, c.requires.inside);
  reads = subst (λ n. Stage (ArePartsUpTo c.args.notation c.args.name) (drop c.args.at c.args.tokens.now) between (many_on (parts c.args.notation) n) (drop c.args.at c.args.tokens.now) between) (let h : plain_net_of c.args.name [] [] [] ≡ plain_net_of c.args.name c.new.result c.new-2.result c.new-3.result = cc (c.new.ensures, c.new-2.ensures, c.new-3.ensures) in h)
      (begin (many_on (parts c.args.notation) (plain_net_of c.args.name [] [] [])) (drop c.args.at c.args.tokens.now) between (λ ts e rest x. x) (λ ts e rest alike x. x));
}
