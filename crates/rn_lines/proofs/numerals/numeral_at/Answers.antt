use Rattle.std.proofs.lemmas.List.Sums.{prefix_len-le-length}
use Rattle.rn_value.specs.Characters.{is_digit}
use Rattle.rn_lines.proofs.numerals.numeral_at.Goals as goal

pub split_at-requires : goal.split_at-requires
split_at-requires c = rw c.digits_length.ensures (prefix_len-le-length is_digit c.args.bytes.now)
