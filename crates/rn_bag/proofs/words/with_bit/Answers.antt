use Rattle.std.proofs.Common.{ap, nat_eq, w64}
use Rattle.std.proofs.lemmas.Nat.Bits.{bit_at_set_same, bit_at_set_other}
use Rattle.rn_bag.proofs.words.with_bit.Goals as goal

pub returns-clause-there : goal.returns-clause-there
returns-clause-there c = ap (λ b. nat_eq b 1) (bit_at_set_same w64 c.args.word c.args.number c.requires)

pub returns-clause-others : goal.returns-clause-others
returns-clause-others c = λ i other. ap (λ b. nat_eq b 1) (bit_at_set_other w64 c.args.word c.args.number c.requires i other)
