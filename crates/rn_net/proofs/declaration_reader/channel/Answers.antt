use Rattle.rn_net.proofs.Names.{length, refl, arith, done, close_paren, between, IsChannel, channel_of}
use Rattle.rn_reading.specs.declared.fault.ReadFault.TheVariants as Fault
use Rattle.rn_net.proofs.Sorts.{kind_read, kind_stuck, name_fails}
use Rattle.rn_net.proofs.Steps.{failed, failed_as, then_read, then_fails}
use Rattle.rn_net.proofs.KindPhrases as KP
use Rattle.rn_net.proofs.DeclarationPhrases.{channel_begun, channel_named, channel_inside, channel_open, channel_kinds, channel_end}
use Rattle.rn_net.proofs.declaration_reader.channel.Goals as goal

pub returns-in_err-name-clause-reads : goal.returns-in_err-name-clause-reads
returns-in_err-name-clause-reads c = failed IsChannel c.args.tokens.now c.args.at between between c.from_residual.result c.in_err-name.field-0.0 c.from_residual.ensures.1
    (name_fails channel_open c.args.tokens.now c.args.start c.in_err-name.field-0.0 (channel_begun c.args.tokens.now c.args.at c.args.start c.requires.next c.requires.start) (omega (arith, c.requires.start, c.requires.next.1.1)) c.in_err-name.ensures)

pub returns-in_err-inside-clause-reads : goal.returns-in_err-inside-clause-reads
returns-in_err-inside-clause-reads c = failed_as IsChannel c.args.tokens.now c.args.at between between c.from_residual-in_err-inside.result c.in_err-inside.field-0.0 (Fault.Stopped c.in_ok-name.after_name) c.from_residual-in_err-inside.ensures.1 c.in_err-inside.ensures.1
    (kind_stuck (λ p. channel_kinds c.in_ok-name.name) c.args.tokens.now c.in_ok-name.after_name (channel_named c.args.tokens.now c.args.at c.args.start c.in_ok-name.after_name c.in_ok-name.name c.requires.next c.requires.start c.in_ok-name.ensures.0 c.in_ok-name.ensures.1) (omega (arith, c.in_ok-name.ensures.1, c.in_ok-name.ensures.0.2.1)) c.in_err-inside.ensures.0)

pub returns-in_err-kinds-clause-reads : goal.returns-in_err-kinds-clause-reads
returns-in_err-kinds-clause-reads c = failed IsChannel c.args.tokens.now c.args.at between between c.from_residual-in_err-kinds.result c.in_err-kinds.field-0.0 c.from_residual-in_err-kinds.ensures.1
    (then_fails (KP.listed close_paren) (channel_end c.in_ok-name.name) (length c.args.tokens.now) c.in_err-kinds.field-0.0 (channel_inside c.args.tokens.now c.args.at c.args.start c.in_ok-name.after_name c.in_ok-inside.inside c.in_ok-name.name c.requires.next c.requires.start c.in_ok-name.ensures.0 c.in_ok-name.ensures.1 c.in_ok-inside.ensures.0 c.in_ok-inside.ensures.1) (c.in_err-kinds.ensures.reads 0 refl))

pub returns-in_err-end-clause-reads : goal.returns-in_err-end-clause-reads
returns-in_err-end-clause-reads c = failed_as IsChannel c.args.tokens.now c.args.at between between c.from_residual-in_err-end.result c.in_err-end.field-0.0 (Fault.Stopped c.in_ok-kinds.after) c.from_residual-in_err-end.ensures.1 c.in_err-end.ensures.1
    (kind_stuck (λ s. done (channel_of c.in_ok-name.name c.in_ok-kinds.kinds)) c.args.tokens.now c.in_ok-kinds.after (then_read (KP.listed close_paren) (channel_end c.in_ok-name.name) (channel_inside c.args.tokens.now c.args.at c.args.start c.in_ok-name.after_name c.in_ok-inside.inside c.in_ok-name.name c.requires.next c.requires.start c.in_ok-name.ensures.0 c.in_ok-name.ensures.1 c.in_ok-inside.ensures.0 c.in_ok-inside.ensures.1) (c.in_ok-kinds.ensures.reads 0 refl)) c.in_ok-kinds.ensures.moved.1 c.in_err-end.ensures.0)

pub returns-clause-reads : goal.returns-clause-reads
returns-clause-reads c = kind_read (λ s. done (channel_of c.in_ok-name.name c.in_ok-kinds.kinds)) c.args.tokens.now c.in_ok-kinds.after _ between (then_read (KP.listed close_paren) (channel_end c.in_ok-name.name) (channel_inside c.args.tokens.now c.args.at c.args.start c.in_ok-name.after_name c.in_ok-inside.inside c.in_ok-name.name c.requires.next c.requires.start c.in_ok-name.ensures.0 c.in_ok-name.ensures.1 c.in_ok-inside.ensures.0 c.in_ok-inside.ensures.1) (c.in_ok-kinds.ensures.reads 0 refl)) c.in_ok-end.ensures.0 c.in_ok-end.ensures.1 refl refl
