use Rattle.rn_net.proofs.Names.{refl, arith, between, IsNet}
use Rattle.rn_reading.specs.declared.fault.ReadFault.TheVariants as Fault
use Rattle.rn_net.proofs.Sorts.{kind_read, kind_stuck, name_fails}
use Rattle.rn_net.proofs.Steps.{failed, failed_as, whole_reads}
use Rattle.rn_net.proofs.NetPhrases.{net_begun, net_open, net_named, net_inside}
use Rattle.rn_net.proofs.net_reader.net.Goals as goal

pub returns-in_err-name-clause-reads : goal.returns-in_err-name-clause-reads
returns-in_err-name-clause-reads c = failed (IsNet c.args.notation) c.args.tokens.now c.args.at between between c.from_residual.result c.in_err-name.field-0.0 c.from_residual.ensures.1
    (name_fails (net_open c.args.notation) c.args.tokens.now c.args.start c.in_err-name.field-0.0 (net_begun c.args.notation c.args.tokens.now c.args.at c.args.start c.requires.next c.requires.start) (omega (arith, c.requires.start, c.requires.next.1.1)) c.in_err-name.ensures)

pub returns-in_err-inside-clause-reads : goal.returns-in_err-inside-clause-reads
returns-in_err-inside-clause-reads c = failed_as (IsNet c.args.notation) c.args.tokens.now c.args.at between between c.from_residual-in_err-inside.result c.in_err-inside.field-0.0 (Fault.Stopped c.in_ok-name.after_name) c.from_residual-in_err-inside.ensures.1 c.in_err-inside.ensures.1
    (kind_stuck (λ b. net_inside c.args.notation c.in_ok-name.name) c.args.tokens.now c.in_ok-name.after_name (net_named c.args.notation c.args.tokens.now c.args.at c.args.start c.in_ok-name.after_name c.in_ok-name.name c.requires.next c.requires.start c.in_ok-name.ensures.0 c.in_ok-name.ensures.1) (omega (arith, c.in_ok-name.ensures.1, c.in_ok-name.ensures.0.2.1)) c.in_err-inside.ensures.0)

pub returns-clause-reads : goal.returns-clause-reads
returns-clause-reads c = whole_reads (net_inside c.args.notation c.in_ok-name.name) c.args.tokens.now c.args.at c.in_ok-inside.inside between between between c.parts_up_to.result (kind_read (λ b. net_inside c.args.notation c.in_ok-name.name) c.args.tokens.now c.in_ok-name.after_name c.in_ok-inside.inside between (net_named c.args.notation c.args.tokens.now c.args.at c.args.start c.in_ok-name.after_name c.in_ok-name.name c.requires.next c.requires.start c.in_ok-name.ensures.0 c.in_ok-name.ensures.1) c.in_ok-inside.ensures.0 c.in_ok-inside.ensures.1 refl refl) c.parts_up_to.ensures.reads
