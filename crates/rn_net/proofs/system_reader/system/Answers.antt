use Rattle.rn_net.proofs.Names.{◌≡◌, [], ◌∙◌, ap, arith, drop, length, refl, subst, sym, Ok, Err, err_from_is_err_and, done, Top, SystemAnswer, between, plain_of, IsItem, Fails, Stage}
use Rattle.rn_net.proofs.Systems.{at_end, not_bare, same_notation, top_fails, top_last, top_read}
use Rattle.rn_net.proofs.system_reader.system.Goals as goal

pub returns-in_err-notation : goal.returns-in_err-notation
returns-in_err-notation c =
    let p = err_from_is_err_and c.from_residual.result c.from_residual.ensures.1 in
    subst (SystemAnswer c.args.tokens.now) (sym (p.1 ∙ ap Err p.2)) c.in_err-notation.ensures.reads

pub items-init : goal.items-init
items-init c =
    let tokens = c.args.tokens.now in
    let notation = c.in_ok-notation.notation in
    let start = c.in_ok-notation.start in record {
      moved = c.in_ok-notation.ensures.moved;
      same = refl;
      reads = subst (λ p. Top tokens (drop start tokens) p)
          (let h : plain_of notation [] [] ≡ plain_of notation c.new.result c.new-2.result
          = cc (c.new.ensures, c.new-2.ensures) in h)
          c.in_ok-notation.ensures.reads.0;
      bare = c.in_ok-notation.ensures.reads.1;
    }

pub returns-in_err-more : goal.returns-in_err-more
returns-in_err-more c =
    let tokens = c.args.tokens.now in
    let p = err_from_is_err_and c.from_residual-in_err-more.result
    c.from_residual-in_err-more.ensures.1 in
    subst (SystemAnswer tokens) (sym (p.1 ∙ ap Err p.2))
    (top_fails c.in_err-more.field-0.0 c.items.invariant.bare c.items.invariant.reads
    (subst (λ n. Fails (IsItem n) (drop c.items.now tokens) between (length tokens)
    c.in_err-more.field-0.0) (sym c.items.invariant.same) c.in_err-more.ensures.reads))

pub returns-then-after-count : goal.returns-then-after-count
returns-then-after-count c =
    let tokens = c.args.tokens.now in
    let last = top_last c.items.invariant.reads
    (subst (λ n. Stage (IsItem n) (drop c.items.now tokens) between (done c.in_ok-more.more)
    (drop c.in_ok-more.after tokens) between) (sym c.items.invariant.same)
    c.in_ok-more.ensures.reads)
    (at_end tokens c.in_ok-more.after (omega (arith, c.if-after-count.true, c.len-count.ensures))) in
    subst (λ p. SystemAnswer tokens (Ok (p, c.len-count.result))) (sym c.in_ok-plain.ensures)
    (last.0, last.1, omega (arith, c.len-count.ensures))

pub items-preserved : goal.items-preserved
items-preserved c =
    let tokens = c.args.tokens.now in record {
      moved = c.in_ok-more.ensures.moved.1;
      same = ap (λ p. p.notation) c.in_ok-plain.ensures
          ∙ same_notation c.items.plain c.in_ok-more.more ∙ c.items.invariant.same;
      reads = subst (λ p. Top tokens (drop c.in_ok-more.after tokens) p) (sym c.in_ok-plain.ensures)
          (top_read c.items.invariant.reads
          (subst (λ n. Stage (IsItem n) (drop c.items.now tokens) between (done c.in_ok-more.more)
          (drop c.in_ok-more.after tokens) between) (sym c.items.invariant.same)
          c.in_ok-more.ensures.reads));
      bare = not_bare tokens c.in_ok-more.after
          (omega (arith, c.in_ok-more.ensures.moved.1, c.if-after-count.false, c.len-count.ensures));
    }
