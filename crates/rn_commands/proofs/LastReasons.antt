-- The last entry of a log that has ended.
use Rattle.std.proofs.Common.{◌≡◌, ◌≢◌, ◌+◌, List, length, refl, ap, ◌∙◌}
use Rattle.std.specs.Prelude.{Option, None, Some}
use Rattle.rn_model.specs.declared.log.Entry.{Entry}
use Rattle.rn_model.specs.declared.log.Entry.TheVariants.{End}
use Rattle.rn_model.specs.declared.log.Reason.{Reason}
use Rattle.rn_model.specs.Runs.{entries_of}
use Rattle.rn_fire.specs.States.{State, logged}
use Rattle.rn_fire.proofs.EntryLemmas.{count_ended}
use Rattle.rn_replay.specs.link.Parts.{last_of}
use Rattle.rn_replay.proofs.LastEntries.{last_end}

end_there : (ended : Option Reason) → ended ≢ None → (reason : Reason) × (ended ≡ Some reason)
end_there None some = absurd (some refl)
end_there (Some reason) some = (reason, refl)

-- it is the log's end
pub last_ends : (s : State) (es : List Entry) → s.ended ≢ None → es ≡ logged s →
    (reason : Reason) × (s.ended ≡ Some reason) × (last_of es ≡ Some (End reason))
last_ends s es some are =
    let end = end_there s.ended some in (
      end.0,
      end.1,
      ap last_of (are ∙ ap (entries_of s.fired) end.1) ∙ last_end s.fired end.0,
    )

-- its entries are its firings and the end
pub entries_but_end : (s : State) → s.ended ≢ None → length (logged s) ≡ length s.fired + 1
entries_but_end s some =
    let end = end_there s.ended some in
    ap (λ e. length (entries_of s.fired e)) end.1 ∙ count_ended s.fired end.0
