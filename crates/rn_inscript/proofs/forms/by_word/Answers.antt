use Rattle.rn_inscript.proofs.Names.{◌≡◌, false, sym, ◌∙◌, ap, arith, None, nat_tests, common_steps, arc_of}
use Rattle.rn_notation.specs.declared.token.TokenKind.TheVariants as Kind
use Rattle.rn_inscript.proofs.LinkReading.{no_word}
use Rattle.rn_inscript.proofs.InscriptionPhrases.{leads}
use Rattle.rn_inscript.proofs.forms.by_word.Goals as goal

pub returns-else-number-eq-THIS-clause-reads : goal.returns-else-number-eq-THIS-clause-reads
returns-else-number-eq-THIS-clause-reads c = let a : arc_of (Kind.Word c.args.number) ≡ None = ap arc_of (sym c.requires.kind) ∙ sym c.arc_of.ensures ∙ c.in_default.is in let h : leads (Kind.Word c.args.number) ≡ false = grind (arith, nat_tests, common_steps, a) in no_word c.args.tokens.now c.args.seen c.args.number c.requires.next c.requires.kind h
