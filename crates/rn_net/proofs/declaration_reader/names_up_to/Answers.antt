use Rattle.rn_net.proofs.Names.{rules, ◌≡◌, length, drop, [], ◌∷◌, ◌++◌, refl, sym, subst, arith, done, comma, colon, declaring, Stage, AreNamesUpTo}
use Rattle.rn_reading.specs.declared.fault.ReadFault.TheVariants as Fault
use Rattle.rn_net.proofs.Sorts.{kind_read, kind_stuck, tell_apart}
use Rattle.rn_net.proofs.Steps.{failed, failed_as, same_end, then_read, then_fails}
use Rattle.rn_net.proofs.Rows.{row_on, row_first, row_comma, row_close}
use Rattle.rn_net.proofs.DeclarationPhrases.{names, name_row}
use Rattle.rn_net.proofs.declaration_reader.names_up_to.Goals as goal

colon-comma : colon ≡ comma → ⊥
colon-comma h = tell_apart colon comma h (λ e. omega (arith, e))

pub returns-in_err-first-clause-reads : goal.returns-in_err-first-clause-reads
returns-in_err-first-clause-reads c = failed AreNamesUpTo c.args.tokens.now c.args.at (declaring 0) (declaring 0) c.from_residual.result c.in_err-first.field-0.0 c.from_residual.ensures.1
    (then_fails names (λ e. row_on name_row colon (e ∷ [])) (length c.args.tokens.now) c.in_err-first.field-0.0 (row_first name_row colon (drop c.args.at c.args.tokens.now) (declaring 0)) c.in_err-first.ensures.reads)

pub loop-next-init : goal.loop-next-init
loop-next-init c = record {
  moved = c.in_ok-first.ensures.moved;
  reads = subst (λ all. Stage AreNamesUpTo (drop c.args.at c.args.tokens.now) (declaring 0) (row_on name_row colon all) (drop c.in_ok-first.after_first c.args.tokens.now) (declaring 0)) (let h : c.in_ok-first.first ∷ [] ≡ c.push.new.self.items = search rules in h)
      (then_read names (λ e. row_on name_row colon (e ∷ [])) (row_first name_row colon (drop c.args.at c.args.tokens.now) (declaring 0)) c.in_ok-first.ensures.reads);
}

pub returns-in_err-more-clause-reads : goal.returns-in_err-more-clause-reads
returns-in_err-more-clause-reads c = failed AreNamesUpTo c.args.tokens.now c.args.at (declaring 0) (declaring 0) c.from_residual-in_err-more.result c.in_err-more.field-0.0 c.from_residual-in_err-more.ensures.1
    (then_fails names (λ e. row_on name_row colon (c.loop-next.all.items ++ e ∷ [])) (length c.args.tokens.now) c.in_err-more.field-0.0 (row_comma name_row colon c.args.tokens.now c.loop-next.now c.in-Some.next colon-comma c.loop-next.invariant.reads c.in-Some.ensures.0 c.in-Some.ensures.1) c.in_err-more.ensures.reads)

pub loop-next-preserved : goal.loop-next-preserved
loop-next-preserved c = record {
  moved = (omega (arith, c.in-Some.ensures.1, c.in_ok-more.ensures.moved.0), c.in_ok-more.ensures.moved.1);
  reads = subst (λ all. Stage AreNamesUpTo (drop c.args.at c.args.tokens.now) (declaring 0) (row_on name_row colon all) (drop c.in_ok-more.after c.args.tokens.now) (declaring 0)) (sym c.in_ok-push-2.ensures.items)
      (then_read names (λ e. row_on name_row colon (c.loop-next.all.items ++ e ∷ [])) (row_comma name_row colon c.args.tokens.now c.loop-next.now c.in-Some.next colon-comma c.loop-next.invariant.reads c.in-Some.ensures.0 c.in-Some.ensures.1) c.in_ok-more.ensures.reads);
}

pub returns-in_err-end-clause-reads : goal.returns-in_err-end-clause-reads
returns-in_err-end-clause-reads c = failed_as AreNamesUpTo c.args.tokens.now c.args.at (declaring 0) (declaring 0) c.from_residual-in_err-end.result c.in_err-end.field-0.0 (Fault.Stopped c.loop-next.now) c.from_residual-in_err-end.ensures.1 c.in_err-end.ensures.1
    (kind_stuck (λ spot. done c.loop-next.all.items) c.args.tokens.now c.loop-next.now (row_close name_row colon c.args.tokens.now c.loop-next.now c.loop-next.invariant.reads c.in_default.ensures) c.loop-next.invariant.moved.1 c.in_err-end.ensures.0)

pub returns-clause-reads : goal.returns-clause-reads
returns-clause-reads c = same_end c.from_vec.ensures (kind_read (λ spot. done c.loop-next.all.items) c.args.tokens.now c.loop-next.now _ (declaring 0) (row_close name_row colon c.args.tokens.now c.loop-next.now c.loop-next.invariant.reads c.in_default.ensures) c.in_ok-end.ensures.0 c.in_ok-end.ensures.1 refl refl)
