use Rattle.std.proofs.Common.{◌∙◌, ap}
use Rattle.std.specs.List.{list_any}
use Rattle.std.specs.Prelude.{slice_index_or, false}
use Rattle.rn_channel.specs.Heights.{net_answers, calls_answered}
use Rattle.rn_channel.proofs.LevelLemmas.{level_after}
use Rattle.rn_channel.proofs.heights.next_level.Goals as goal

pub returns : goal.returns
returns c = λ k is.
    let level = c.args.level.now in
    level_after c.args.system.now k level c.in_ok-next.next.items is c.in_ok-next.ensures.len
    (λ d below.
    c.in_ok-next.ensures.next d below
    ∙ ap (list_any (net_answers (calls_answered (λ e. slice_index_or level e false)) d)) c.as_slice.ensures)
