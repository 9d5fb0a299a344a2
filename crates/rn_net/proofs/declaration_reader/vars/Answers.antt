use Rattle.rn_net.proofs.Names.{length, refl, done, colon, between, AreVars, var_of}
use Rattle.rn_reading.specs.declared.fault.ReadFault.TheVariants as Fault
use Rattle.rn_net.proofs.Sorts.{kind_read, kind_stuck}
use Rattle.rn_net.proofs.Steps.{failed, failed_as, same_end, then_read, then_fails}
use Rattle.rn_net.proofs.KindPhrases as KP
use Rattle.std.specs.Prelude.{map}
use Rattle.rn_net.proofs.Rows.{row_up_to}
use Rattle.rn_net.proofs.DeclarationPhrases.{name_row, vars_begun, vars_kind, vars_end}
use Rattle.rn_net.proofs.declaration_reader.vars.Goals as goal

pub returns-in_err-names-clause-reads : goal.returns-in_err-names-clause-reads
returns-in_err-names-clause-reads c = failed AreVars c.args.tokens.now c.args.at between between c.from_residual.result c.in_err-names.field-0.0 c.from_residual.ensures.1
    (then_fails (row_up_to name_row colon) vars_kind (length c.args.tokens.now) c.in_err-names.field-0.0 (vars_begun c.args.tokens.now c.args.at c.args.start c.requires.next c.requires.start) c.in_err-names.ensures.reads)

pub returns-in_err-kind-clause-reads : goal.returns-in_err-kind-clause-reads
returns-in_err-kind-clause-reads c = failed AreVars c.args.tokens.now c.args.at between between c.from_residual-in_err-kind.result c.in_err-kind.field-0.0 c.from_residual-in_err-kind.ensures.1
    (then_fails KP.kinds (vars_end c.in_ok-names.names) (length c.args.tokens.now) c.in_err-kind.field-0.0 (then_read (row_up_to name_row colon) vars_kind (vars_begun c.args.tokens.now c.args.at c.args.start c.requires.next c.requires.start) c.in_ok-names.ensures.reads) (c.in_err-kind.ensures.reads 0 refl))

pub returns-in_err-end-clause-reads : goal.returns-in_err-end-clause-reads
returns-in_err-end-clause-reads c = failed_as AreVars c.args.tokens.now c.args.at between between c.from_residual-in_err-end.result c.in_err-end.field-0.0 (Fault.Stopped c.in_ok-kind.after) c.from_residual-in_err-end.ensures.1 c.in_err-end.ensures.1
    (kind_stuck (λ s. done (map (var_of c.in_ok-kind.kind) c.in_ok-names.names)) c.args.tokens.now c.in_ok-kind.after (then_read KP.kinds (vars_end c.in_ok-names.names) (then_read (row_up_to name_row colon) vars_kind (vars_begun c.args.tokens.now c.args.at c.args.start c.requires.next c.requires.start) c.in_ok-names.ensures.reads) (c.in_ok-kind.ensures.reads 0 refl)) c.in_ok-kind.ensures.moved.1 c.in_err-end.ensures.0)

pub returns-clause-reads : goal.returns-clause-reads
returns-clause-reads c = same_end c.in_ok-vars.ensures (kind_read (λ s. done (map (var_of c.in_ok-kind.kind) c.in_ok-names.names)) c.args.tokens.now c.in_ok-kind.after _ between (then_read KP.kinds (vars_end c.in_ok-names.names) (then_read (row_up_to name_row colon) vars_kind (vars_begun c.args.tokens.now c.args.at c.args.start c.requires.next c.requires.start) c.in_ok-names.ensures.reads) (c.in_ok-kind.ensures.reads 0 refl)) c.in_ok-end.ensures.0 c.in_ok-end.ensures.1 refl refl)
