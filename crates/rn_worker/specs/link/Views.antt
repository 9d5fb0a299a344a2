-- What a worker sees with a snapshot: what changed since the one before. This only connects the code to
-- the definitions.
use Rattle.std.specs.Prelude.{ℕ, List, IfSome, MatchOption, ⊤, take}
use Rattle.rn_model.specs.declared.log.Entry.{Entry}
use Rattle.rn_model.specs.declared.system.System.{System}
use Rattle.rn_model.specs.Markings.{Marking}
use Rattle.rn_model.specs.Runs.{end_of}
use Rattle.rn_reach.specs.Reach.{DifferAtMostIn}
use Rattle.rn_fire.specs.declared.setup.Setup.{Setup}
use Rattle.rn_fire.specs.States.{State, end_marking}
use Rattle.rn_firsts.specs.Known.{ComesAfter}
use Rattle.rn_firsts.specs.Resting.{KnowsIdle, Resting}
use Rattle.rn_worker.specs.link.Seen.{Shows, marking_after}
use Rattle.rn_worker.specs.declared.looking.View.{View}

-- the snapshot shows the log of which these entries were seen
abbrev pub ShowsView : Setup → List Entry → View → Type 0
ShowsView setup es v = Shows setup es v.sight

-- since the first so many entries a state may have changed in these instances at most
abbrev pub ChangedSince : State → ℕ → List ℕ → Type 0
ChangedSince s looked changed =
    DifferAtMostIn changed (end_of s.setup.system (take looked s.fired)) (end_marking s)

-- the number that the next instance gets after the first so many entries
abbrev pub next_after : State → ℕ → ℕ
next_after s looked = (end_of s.setup.system (take looked s.fired)).next

-- where it is known what changed from some entries on, that is so
abbrev pub ChangedBetween : Setup → List Entry → List Entry → View → Type 0
ChangedBetween setup before after v = IfSome v.changed (λ changed.
    DifferAtMostIn changed.items (marking_after setup before) (marking_after setup after))

-- where it is known what changed, the snapshot comes after one of which this holds
abbrev pub FollowsOne : System → (Marking → Type 0) → View → Type 0
FollowsOne system Known v = MatchOption v.changed ⊤ (λ changed. (before : Marking)
    × Known before × ComesAfter system changed.items before v.sight.table.marking)

-- it comes after one of which is so what is known of idle instances
abbrev pub FollowsIn : System → ℕ → Resting → View → Type 0
FollowsIn system depth k v = FollowsOne system (λ m. KnowsIdle system m depth k) v

-- the same of a system and its options
abbrev pub FollowsIdle : Setup → Resting → View → Type 0
FollowsIdle setup k v = FollowsIn setup.system setup.options.depth k v
