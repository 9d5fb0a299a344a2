use Rattle.std.proofs.lemmas.List.Sums.{prefix_len-le-length}
use Rattle.rn_value.specs.Characters.{is_name_byte}
use Rattle.rn_lines.proofs.instances.name_at.Goals as goal

pub split_at-requires : goal.split_at-requires
split_at-requires c = rw c.name_length.ensures (prefix_len-le-length is_name_byte c.args.bytes.now)
