use Rattle.rn_net.proofs.Names.{rules, ◌≡◌, [], ◌∙◌, arith, drop, length, refl, subst, between, AreInscriptionsUpTo, Stage}
use Rattle.rn_net.proofs.InscriptionReading.{statement_sort}
use Rattle.rn_net.proofs.NetPhrases.{inscriptions, many_on, many_next, many_close, with_more}
use Rattle.rn_net.proofs.Steps.{then_read, then_fails, begin, failed, same_end}
use Rattle.rn_net.proofs.inscription_reader.inscriptions_up_to.Goals as goal

pub returns-in-Some-clause-reads : goal.returns-in-Some-clause-reads
returns-in-Some-clause-reads c =
    same_end (c.from_vec.ensures ∙ c.shrink_to_fit.ensures.items)
    (many_close (inscriptions c.args.notation) c.args.tokens.now c.inscriptions.now _ between
    c.inscriptions.invariant.reads c.in-Some.ensures.0 c.in-Some.ensures.1 refl refl)

pub returns-in_err-more-clause-reads : goal.returns-in_err-more-clause-reads
returns-in_err-more-clause-reads c =
    let notation = c.args.notation in
    failed (AreInscriptionsUpTo notation) c.args.tokens.now c.args.at between between
    c.from_residual.result c.in_err-more.field-0.0 c.from_residual.ensures.1
    (then_fails (statement_sort notation)
    (λ a. many_on (inscriptions notation) (with_more c.inscriptions.all.items a))
    (length c.args.tokens.now) c.in_err-more.field-0.0
    (many_next (inscriptions notation) c.args.tokens.now c.inscriptions.now
    c.inscriptions.invariant.reads c.in_default.ensures) c.in_err-more.ensures.reads)

pub inscriptions-init : goal.inscriptions-init
inscriptions-init c =
    let tokens = c.args.tokens.now in
    let notation = c.args.notation in record {
      moved = (omega arith, c.requires);
      reads = subst (λ all. Stage (AreInscriptionsUpTo notation) (drop c.args.at tokens) between
          (many_on (inscriptions notation) all) (drop c.args.at tokens) between)
          (let h : [] ≡ c.new-all.result.items = search rules in h)
          (begin (many_on (inscriptions notation) []) (drop c.args.at tokens) between
          (λ ts e rest x. x) (λ ts e rest alike x. x));
    }

pub inscriptions-preserved : goal.inscriptions-preserved
inscriptions-preserved c =
    let notation = c.args.notation in record {
      moved = (
        omega (arith, c.in_ok-more.ensures.moved.0, c.inscriptions.invariant.moved.0),
        c.in_ok-more.ensures.moved.1,
      );
      reads = subst (λ all. Stage (AreInscriptionsUpTo notation)
          (drop c.args.at c.args.tokens.now) between (many_on (inscriptions notation) all)
          (drop c.in_ok-more.after c.args.tokens.now) between)
          (let h : with_more c.inscriptions.all.items c.in_ok-more.more ≡ c.append.new.self.items
          = search rules in h)
          (then_read (statement_sort notation)
          (λ a. many_on (inscriptions notation) (with_more c.inscriptions.all.items a))
          (many_next (inscriptions notation) c.args.tokens.now c.inscriptions.now
          c.inscriptions.invariant.reads c.in_default.ensures) c.in_ok-more.ensures.reads);
    }
