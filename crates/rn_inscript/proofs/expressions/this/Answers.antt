use Rattle.rn_inscript.proofs.Names.{◌≡◌, false, arith, ◌∙◌, ap, refl, nat_tests, IsPrimary, at_spot, this_word}
use Rattle.rn_notation.specs.declared.token.TokenKind.TheVariants as Kind
use Rattle.rn_inscript.specs.declared.exprs.PForm.TheVariants as F
use Rattle.rn_inscript.proofs.OperandPhrases.{begins_primary, this-only}
use Rattle.rn_inscript.proofs.OperandReading.{none_begins, leaf_read}
use Rattle.rn_inscript.proofs.ReaderExits.{ended_at}
use Rattle.rn_inscript.proofs.expressions.this.Goals as goal

pub returns-then-number-ne-THIS-clause-reads : goal.returns-then-number-ne-THIS-clause-reads
returns-then-number-ne-THIS-clause-reads c = λ around.
    let h : begins_primary (Kind.Word c.args.number) ≡ false = grind (arith, nat_tests) in none_begins c.args.tokens.now c.args.seen around (Kind.Word c.args.number) c.requires.next c.requires.kind h

pub returns-clause-reads : goal.returns-clause-reads
returns-clause-reads c = λ around.
    let is : c.args.number ≡ 17 = grind (arith, nat_tests) in
    let kind : c.args.token.kind.now ≡ this_word = c.requires.kind ∙ ap Kind.Word is in
    ended_at refl c.past.ensures (leaf_read c.args.tokens.now c.args.seen around this_word (at_spot c.args.token.spot F.This) c.requires.next kind refl refl (λ rest. IsPrimary.this kind) (λ ts e rest x. this-only kind x))
