use Rattle.std.proofs.Common.{ap, nat_eq, w64}
use Rattle.std.proofs.lemmas.Nat.Bits.{bit_at_clear_same, bit_at_clear_other}
use Rattle.rn_bag.proofs.words.without_bit.Goals as goal

pub returns-clause-gone : goal.returns-clause-gone
returns-clause-gone c = ap (λ b. nat_eq b 1) (bit_at_clear_same w64 c.args.word c.args.number c.requires)

pub returns-clause-others : goal.returns-clause-others
returns-clause-others c = λ i low other. ap (λ b. nat_eq b 1) (bit_at_clear_other w64 c.args.word c.args.number c.requires i low other)
