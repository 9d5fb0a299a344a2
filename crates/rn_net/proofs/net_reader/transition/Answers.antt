use Rattle.rn_net.proofs.Names.{length, refl, arith, done, between, IsTransition, transition_of}
use Rattle.rn_reading.specs.declared.fault.ReadFault.TheVariants as Fault
use Rattle.rn_net.proofs.Sorts.{kind_read, kind_stuck, name_fails}
use Rattle.rn_net.proofs.Steps.{failed, failed_as, then_read, then_fails}
use Rattle.rn_net.proofs.NetPhrases.{inscriptions_sort, transition_begun, transition_open, transition_named, transition_inside}
use Rattle.rn_net.proofs.net_reader.transition.Goals as goal

pub returns-in_err-name-clause-reads : goal.returns-in_err-name-clause-reads
returns-in_err-name-clause-reads c = failed (IsTransition c.args.notation) c.args.tokens.now c.args.at between between c.from_residual.result c.in_err-name.field-0.0 c.from_residual.ensures.1
    (name_fails (transition_open c.args.notation) c.args.tokens.now c.args.start c.in_err-name.field-0.0 (transition_begun c.args.notation c.args.tokens.now c.args.at c.args.start c.requires.next c.requires.start) (omega (arith, c.requires.start, c.requires.next.1.1)) c.in_err-name.ensures)

pub returns-in_err-inside-clause-reads : goal.returns-in_err-inside-clause-reads
returns-in_err-inside-clause-reads c = failed_as (IsTransition c.args.notation) c.args.tokens.now c.args.at between between c.from_residual-in_err-inside.result c.in_err-inside.field-0.0 (Fault.Stopped c.in_ok-name.after_name) c.from_residual-in_err-inside.ensures.1 c.in_err-inside.ensures.1
    (kind_stuck (λ b. transition_inside c.args.notation c.in_ok-name.name) c.args.tokens.now c.in_ok-name.after_name (transition_named c.args.notation c.args.tokens.now c.args.at c.args.start c.in_ok-name.after_name c.in_ok-name.name c.requires.next c.requires.start c.in_ok-name.ensures.0 c.in_ok-name.ensures.1) (omega (arith, c.in_ok-name.ensures.1, c.in_ok-name.ensures.0.2.1)) c.in_err-inside.ensures.0)

pub returns-in_err-inscriptions-clause-reads : goal.returns-in_err-inscriptions-clause-reads
returns-in_err-inscriptions-clause-reads c = failed (IsTransition c.args.notation) c.args.tokens.now c.args.at between between c.from_residual-in_err-inscriptions.result c.in_err-inscriptions.field-0.0 c.from_residual-in_err-inscriptions.ensures.1
    (then_fails (inscriptions_sort c.args.notation) (λ all. done (transition_of c.in_ok-name.name all)) (length c.args.tokens.now) c.in_err-inscriptions.field-0.0 (kind_read (λ b. transition_inside c.args.notation c.in_ok-name.name) c.args.tokens.now c.in_ok-name.after_name c.in_ok-inside.inside between (transition_named c.args.notation c.args.tokens.now c.args.at c.args.start c.in_ok-name.after_name c.in_ok-name.name c.requires.next c.requires.start c.in_ok-name.ensures.0 c.in_ok-name.ensures.1) c.in_ok-inside.ensures.0 c.in_ok-inside.ensures.1 refl refl) c.in_err-inscriptions.ensures.reads)

pub returns-clause-reads : goal.returns-clause-reads
returns-clause-reads c = then_read (inscriptions_sort c.args.notation) (λ all. done (transition_of c.in_ok-name.name all)) (kind_read (λ b. transition_inside c.args.notation c.in_ok-name.name) c.args.tokens.now c.in_ok-name.after_name c.in_ok-inside.inside between (transition_named c.args.notation c.args.tokens.now c.args.at c.args.start c.in_ok-name.after_name c.in_ok-name.name c.requires.next c.requires.start c.in_ok-name.ensures.0 c.in_ok-name.ensures.1) c.in_ok-inside.ensures.0 c.in_ok-inside.ensures.1 refl refl) c.in_ok-inscriptions.ensures.reads
