-- Token by token.
use Rattle.std.proofs.Common.{◌∙◌, ap, sym}
use Rattle.std.specs.Option.{option_copied}
use Rattle.rn_growing.proofs.Growth.{at_in}
use Rattle.rn_looking.proofs.narrowed.count_passing.Goals as goal

pub is_passed-requires : goal.is_passed-requires
is_passed-requires c =
    c.requires c.in-Some.token.now
    (at_in c.args.bag.now c.loop-a.a c.in-Some.token.now
    (sym c.get.ensures ∙ ap option_copied c.in-Some.is))
