use Rattle.rn_inscript.proofs.Names.{◌≡◌, false, ◌∙◌, ap, arith, nat_tests}
use Rattle.rn_notation.specs.declared.token.TokenKind.TheVariants as Kind
use Rattle.rn_inscript.proofs.LinkReading.{other_reads}
use Rattle.rn_inscript.proofs.InscriptionPhrases.{leads}
use Rattle.rn_inscript.proofs.forms.inscribed.Goals as goal

pub returns-else-number-eq-COLON-clause-reads : goal.returns-else-number-eq-COLON-clause-reads
returns-else-number-eq-COLON-clause-reads c = let h : leads (Kind.Sign c.in-Sign.number) ≡ false = grind (arith, nat_tests) in
    other_reads c.args.tokens.now c.args.seen c.equality.result c.in-Some.ensures.next (ap leads c.in-Sign.is ∙ h) c.equality.ensures.reads

pub returns-in-Number-clause-reads : goal.returns-in-Number-clause-reads
returns-in-Number-clause-reads c = other_reads c.args.tokens.now c.args.seen c.equality-in-Number.result c.in-Some.ensures.next (ap leads c.in-Number.is) c.equality-in-Number.ensures.reads

pub returns-in-Text-clause-reads : goal.returns-in-Text-clause-reads
returns-in-Text-clause-reads c = other_reads c.args.tokens.now c.args.seen c.equality-in-Text.result c.in-Some.ensures.next (ap leads c.in-Text.is) c.equality-in-Text.ensures.reads
