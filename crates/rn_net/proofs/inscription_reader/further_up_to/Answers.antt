use Rattle.rn_net.proofs.Names.{rules, ◌≡◌, [], ◌∷◌, ◌++◌, arith, drop, refl, subst, done, at_first, count_after, between, inscribing, AreFurtherUpTo, Stage, semicolon}
use Rattle.rn_reading.specs.declared.fault.ReadFault.TheVariants as Fault
use Rattle.rn_net.proofs.InscriptionReading.{expr_row, further_on, further_read, further_fails, further_comma}
use Rattle.rn_net.proofs.Openings.{moved}
use Rattle.rn_net.proofs.Rows.{row_close}
use Rattle.rn_net.proofs.Sorts.{kind_read, kind_stuck}
use Rattle.rn_net.proofs.Steps.{begin, failed, failed_as, same_end}
use Rattle.rn_net.proofs.inscription_reader.further_up_to.Goals as goal

pub loop-next-init : goal.loop-next-init
loop-next-init c =
    let tokens = c.args.tokens.now in record {
      moved = (omega arith, c.requires);
      reads = λ count. (
        count,
        subst (λ all. Stage AreFurtherUpTo (drop c.args.at tokens) (inscribing 0 count)
            (further_on all) (drop c.args.at tokens) (inscribing 0 count))
            (let h : [] ≡ c.new-all.result.items = search rules in h)
            (begin (further_on []) (drop c.args.at tokens) (inscribing 0 count)
            (λ ts e rest x. x) (λ ts e rest alike x. x)),
      );
    }

pub returns-in_err-more-clause-reads : goal.returns-in_err-more-clause-reads
returns-in_err-more-clause-reads c = λ count.
    let tokens = c.args.tokens.now in
    let s = c.loop-next.invariant.reads count in
    failed AreFurtherUpTo tokens c.args.at (inscribing 0 count) between c.from_residual.result
    c.in_err-more.field-0.0 c.from_residual.ensures.1
    (further_fails c.reading_laws.ensures.one_expression c.loop-next.all.items tokens c.in-Some.next
    c.in_err-more.field-0.0 (omega (arith, c.in-Some.ensures.1, c.in-Some.ensures.0.1.1))
    (further_comma tokens c.loop-next.now c.in-Some.next s.1 c.in-Some.ensures.0 c.in-Some.ensures.1)
    c.in_err-more.ensures.refused)

pub loop-next-preserved : goal.loop-next-preserved
loop-next-preserved c =
    let tokens = c.args.tokens.now in
    let r = c.in_ok-more.ensures.read in
    let m = moved tokens c.in-Some.next c.in_ok-more.after
    (omega (arith, c.in-Some.ensures.1, c.in-Some.ensures.0.1.1)) r in record {
      moved = (omega (arith, c.in-Some.ensures.1, m.0, c.loop-next.invariant.moved.0), m.1);
      reads = λ count.
          let s = c.loop-next.invariant.reads count in (
            count_after at_first r.taken,
            subst (λ all. Stage AreFurtherUpTo (drop c.args.at tokens) (inscribing 0 count)
                (further_on all) (drop c.in_ok-more.after tokens)
                (inscribing 0 (count_after at_first r.taken)))
                (let h : c.loop-next.all.items ++ c.in_ok-more.more ∷ [] ≡ c.push.new.self.items
                = search rules in h)
                (further_read c.reading_laws.ensures.one_expression c.loop-next.all.items tokens
                c.in-Some.next c.in_ok-more.after (further_comma tokens c.loop-next.now c.in-Some.next s.1
                c.in-Some.ensures.0 c.in-Some.ensures.1) r),
          );
    }

pub returns-in_err-end-clause-reads : goal.returns-in_err-end-clause-reads
returns-in_err-end-clause-reads c = λ count.
    let tokens = c.args.tokens.now in
    let s = c.loop-next.invariant.reads count in
    failed_as AreFurtherUpTo tokens c.args.at (inscribing 0 count) between
    c.from_residual-in_err-end.result c.in_err-end.field-0.0 (Fault.Stopped c.loop-next.now)
    c.from_residual-in_err-end.ensures.1 c.in_err-end.ensures.1
    (kind_stuck (λ spot. done c.loop-next.all.items) tokens c.loop-next.now
    (row_close expr_row semicolon tokens c.loop-next.now s.1 c.in_default.ensures)
    c.loop-next.invariant.moved.1 c.in_err-end.ensures.0)

pub returns-clause-reads : goal.returns-clause-reads
returns-clause-reads c = λ count.
    let tokens = c.args.tokens.now in
    let s = c.loop-next.invariant.reads count in
    same_end c.from_vec.ensures
    (kind_read (λ spot. done c.loop-next.all.items) tokens c.loop-next.now _ between
    (row_close expr_row semicolon tokens c.loop-next.now s.1 c.in_default.ensures)
    c.in_ok-end.ensures.0 c.in_ok-end.ensures.1 refl refl)
