-- The last entry is the end.
use Rattle.std.proofs.Common.{◌≡◌, sym, ap, ◌∙◌}
use Rattle.std.specs.Prelude.{Some}
use Rattle.std.specs.Option.{option_copied}
use Rattle.rn_model.specs.Runs.{entries_of}
use Rattle.rn_fire.specs.link.States.{firings_in}
use Rattle.rn_replay.specs.link.Parts.{last_of}
use Rattle.rn_replay.proofs.LastEntries.{last_end}
use Rattle.rn_replay.proofs.WholeEntries.{end_told}
use Rattle.rn_replay.proofs.ending.told_end.Goals as goal

pub returns : goal.returns
returns c =
    let whole = c.requires in
    let es = c.args.entries.now in
    let last = sym (ap last_of whole.are ∙ last_end whole.fired whole.reason)
    ∙ sym c.last.ensures.value ∙ ap option_copied c.in-Some.is in
    let is = c.reason_of.ensures in
    let same : whole.reason ≡ c.reason_of.result.now = cc in
    end_told es whole ∙ ap (λ r. entries_of (firings_in es) (Some r)) same
