use Rattle.rn_net.proofs.Names.{refl, semicolon, between, declaring, IsInitialUpTo}
use Rattle.rn_reading.specs.declared.fault.ReadFault.TheVariants as Fault
use Rattle.rn_net.proofs.Steps.{failed_as, same_end, whole_reads}
use Rattle.rn_net.proofs.Rows.{row_up_to}
use Rattle.rn_net.proofs.ConstantPhrases.{constant_row}
use Rattle.rn_net.proofs.DeclarationPhrases.{initial_none, initial_stuck, initial_open}
use Rattle.rn_net.proofs.declaration_reader.initial_up_to.Goals as goal

pub returns-in-Some-clause-reads : goal.returns-in-Some-clause-reads
returns-in-Some-clause-reads c = same_end c.new.ensures (initial_none c.args.tokens.now c.args.at _ c.in-Some.ensures.0 c.in-Some.ensures.1)

pub returns-in_err-start-clause-reads : goal.returns-in_err-start-clause-reads
returns-in_err-start-clause-reads c = failed_as IsInitialUpTo c.args.tokens.now c.args.at (declaring 0) between c.from_residual.result c.in_err-start.field-0.0 (Fault.Stopped c.args.at) c.from_residual.ensures.1 c.in_err-start.ensures.1
    (initial_stuck c.args.tokens.now c.args.at c.requires.inside c.in_default.ensures c.in_err-start.ensures.0)

pub returns-clause-reads : goal.returns-clause-reads
returns-clause-reads c = whole_reads (row_up_to constant_row semicolon) c.args.tokens.now c.args.at c.in_ok-start.start (declaring 0) (declaring 0) between c.constants_up_to.result (initial_open c.args.tokens.now c.args.at c.in_ok-start.start c.in_default.ensures c.in_ok-start.ensures.0 c.in_ok-start.ensures.1) (c.constants_up_to.ensures.reads 0 refl between refl)
