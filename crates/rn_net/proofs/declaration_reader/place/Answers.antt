use Rattle.rn_net.proofs.Names.{rules, length, [], refl, arith, done, between, kind_at, IsPlace, place_of}
use Rattle.rn_net.proofs.Sorts.{name_fails}
use Rattle.rn_net.proofs.Steps.{failed, same_end, then_read, then_fails}
use Rattle.rn_net.proofs.KindPhrases as KP
use Rattle.rn_net.specs.declared.kinds.PKindForm.TheVariants as K
use Rattle.rn_net.proofs.DeclarationPhrases.{place_begun, place_on, place_named, place_colon, place_no_colon, place_end, ends}
use Rattle.rn_net.proofs.declaration_reader.place.Goals as goal

pub returns-in_err-name-clause-reads : goal.returns-in_err-name-clause-reads
returns-in_err-name-clause-reads c = failed IsPlace c.args.tokens.now c.args.at between between c.from_residual.result c.in_err-name.field-0.0 c.from_residual.ensures.1
    (name_fails place_on c.args.tokens.now c.args.start c.in_err-name.field-0.0 (place_begun c.args.tokens.now c.args.at c.args.start c.requires.next c.requires.start) (omega (arith, c.requires.start, c.requires.next.1.1)) c.in_err-name.ensures)

pub returns-in_err-kind-clause-reads : goal.returns-in_err-kind-clause-reads
returns-in_err-kind-clause-reads c = failed IsPlace c.args.tokens.now c.args.at between between c.from_residual-in_err-kind.result c.in_err-kind.field-0.0 c.from_residual-in_err-kind.ensures.1
    (then_fails KP.kinds (place_end c.in_ok-name.name) (length c.args.tokens.now) c.in_err-kind.field-0.0 (place_colon c.args.tokens.now c.in_ok-name.after_name c.in-Some.after_colon c.in_ok-name.name (place_named c.args.tokens.now c.args.at c.args.start c.in_ok-name.after_name c.in_ok-name.name c.requires.next c.requires.start c.in_ok-name.ensures.0 c.in_ok-name.ensures.1) c.in-Some.ensures.0 c.in-Some.ensures.1) (c.in_err-kind.ensures.reads 0 refl))

pub returns-in_err-max-clause-reads : goal.returns-in_err-max-clause-reads
returns-in_err-max-clause-reads c = failed IsPlace c.args.tokens.now c.args.at between between c.from_residual-in_err-max.result c.in_err-max.field-0.0 c.from_residual-in_err-max.ensures.1
    (then_fails ends (λ end. done (place_of c.in_ok-name.name c.in_ok-kind.kind end.initial end.max)) (length c.args.tokens.now) c.in_err-max.field-0.0 (then_read KP.kinds (place_end c.in_ok-name.name) (place_colon c.args.tokens.now c.in_ok-name.after_name c.in-Some.after_colon c.in_ok-name.name (place_named c.args.tokens.now c.args.at c.args.start c.in_ok-name.after_name c.in_ok-name.name c.requires.next c.requires.start c.in_ok-name.ensures.0 c.in_ok-name.ensures.1) c.in-Some.ensures.0 c.in-Some.ensures.1) (c.in_ok-kind.ensures.reads 0 refl)) c.in_err-max.ensures.reads)

pub returns-in-Some-clause-reads : goal.returns-in-Some-clause-reads
returns-in-Some-clause-reads c = then_read ends (λ end. done (place_of c.in_ok-name.name c.in_ok-kind.kind end.initial end.max)) (then_read KP.kinds (place_end c.in_ok-name.name) (place_colon c.args.tokens.now c.in_ok-name.after_name c.in-Some.after_colon c.in_ok-name.name (place_named c.args.tokens.now c.args.at c.args.start c.in_ok-name.after_name c.in_ok-name.name c.requires.next c.requires.start c.in_ok-name.ensures.0 c.in_ok-name.ensures.1) c.in-Some.ensures.0 c.in-Some.ensures.1) (c.in_ok-kind.ensures.reads 0 refl)) c.in_ok-max.ensures.reads

pub returns-in_err-max-2-clause-reads : goal.returns-in_err-max-2-clause-reads
returns-in_err-max-2-clause-reads c = failed IsPlace c.args.tokens.now c.args.at between between c.from_residual-in_err-max-2.result c.in_err-max-2.field-0.0 c.from_residual-in_err-max-2.ensures.1
    (then_fails ends (λ end. done (place_of c.in_ok-name.name (kind_at c.in_ok-name.name.spot (K.Tuple [])) end.initial end.max)) (length c.args.tokens.now) c.in_err-max-2.field-0.0 (place_no_colon c.args.tokens.now c.in_ok-name.after_name c.in_ok-name.name (place_named c.args.tokens.now c.args.at c.args.start c.in_ok-name.after_name c.in_ok-name.name c.requires.next c.requires.start c.in_ok-name.ensures.0 c.in_ok-name.ensures.1) c.in_default.ensures) c.in_err-max-2.ensures.reads)

pub returns-clause-reads : goal.returns-clause-reads
returns-clause-reads c = same_end (search rules) (then_read ends (λ end. done (place_of c.in_ok-name.name (kind_at c.in_ok-name.name.spot (K.Tuple [])) end.initial end.max)) (place_no_colon c.args.tokens.now c.in_ok-name.after_name c.in_ok-name.name (place_named c.args.tokens.now c.args.at c.args.start c.in_ok-name.after_name c.in_ok-name.name c.requires.next c.requires.start c.in_ok-name.ensures.0 c.in_ok-name.ensures.1) c.in_default.ensures) c.in_ok-max-2.ensures.reads)
