use Rattle.std.proofs.Common.{◌∙◌}
use Rattle.rn_holders.proofs.NearMentions.{kinds_near}
use Rattle.rn_incr.proofs.RefreshLemmas.{all_held}
use Rattle.rn_incr.proofs.held.holders_at.Goals as goal

pub hold_all-requires : goal.hold_all-requires
hold_all-requires c =
    kinds_near c.args.system.now c.args.table.now.marking c.requires.good
    (λ h net place v of has. (c.requires.tokens h net place v of has).0)

pub returns : goal.returns
returns c =
    all_held c.args.table.now.marking c.as_slice.result.now c.hold_all.new.holders.items
    (c.as_slice.ensures.value ∙ c.in_ok-numbers.ensures) c.in_ok-hold_all.ensures.has
