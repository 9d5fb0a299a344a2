-- The commands and their options: names, limits, and which command takes which.
use Rattle.std.specs.Prelude.{ℕ, List, Bool, true, false, Option, Some, None, codes, bytes_eq}
use Rattle.std.specs.Prelude.{if◌then◌else◌}
use Rattle.rn_model.specs.Limits.{most_workers, most_steps, greatest_depth, greatest_sweep}
use Rattle.rn_words.specs.declared.table.Verb.{Verb}
use Rattle.rn_words.specs.declared.table.Verb.TheVariants.{Run, Check, Print, Enabled, Replay, Gen}
use Rattle.rn_words.specs.declared.table.Verb.TheVariants.{Session, Counts, Moves, Pt, Migrate}
use Rattle.rn_words.specs.declared.table.Setting.{Setting}
use Rattle.rn_words.specs.declared.table.Setting.TheVariants.{Workers, Steps, Depth, Sweep, Pick, Seed}
use Rattle.rn_words.specs.declared.table.Picked.{Picked}
use Rattle.rn_words.specs.declared.table.Picked.TheVariants.{Any, Least}

-- the command of a word
abbrev pub verb_named : List ℕ → Option Verb
verb_named word =
    if bytes_eq word (codes "run") then Some Run
    else if bytes_eq word (codes "check") then Some Check
    else if bytes_eq word (codes "print") then Some Print
    else if bytes_eq word (codes "enabled") then Some Enabled
    else if bytes_eq word (codes "replay") then Some Replay
    else if bytes_eq word (codes "gen") then Some Gen
    else if bytes_eq word (codes "session") then Some Session
    else if bytes_eq word (codes "counts") then Some Counts
    else if bytes_eq word (codes "moves") then Some Moves
    else if bytes_eq word (codes "pt") then Some Pt
    else if bytes_eq word (codes "migrate") then Some Migrate
    else None

-- the option of a name, which stands after `--`
abbrev pub setting_named : List ℕ → Option Setting
setting_named name =
    if bytes_eq name (codes "workers") then Some Workers
    else if bytes_eq name (codes "steps") then Some Steps
    else if bytes_eq name (codes "depth") then Some Depth
    else if bytes_eq name (codes "drop") then Some Sweep
    else if bytes_eq name (codes "pick") then Some Pick
    else if bytes_eq name (codes "seed") then Some Seed
    else None

-- which binding a value of `--pick` names
abbrev pub pick_named : List ℕ → Option Picked
pick_named word =
    if bytes_eq word (codes "any") then Some Any
    else if bytes_eq word (codes "least") then Some Least
    else None

-- the word of a command
abbrev pub verb_word : Verb → List ℕ
verb_word Run = codes "run"
verb_word Check = codes "check"
verb_word Print = codes "print"
verb_word Enabled = codes "enabled"
verb_word Replay = codes "replay"
verb_word Gen = codes "gen"
verb_word Session = codes "session"
verb_word Counts = codes "counts"
verb_word Moves = codes "moves"
verb_word Pt = codes "pt"
verb_word Migrate = codes "migrate"

-- the name of an option, which stands after `--`
abbrev pub setting_name : Setting → List ℕ
setting_name Workers = codes "workers"
setting_name Steps = codes "steps"
setting_name Depth = codes "depth"
setting_name Sweep = codes "drop"
setting_name Pick = codes "pick"
setting_name Seed = codes "seed"

-- whether a command takes an option
abbrev pub takes : Verb → Setting → Bool
takes Run setting = true
takes Enabled Depth = true
takes Replay Steps = true
takes Replay Depth = true
takes Gen Workers = true
takes Gen Sweep = true
takes Gen Seed = true
takes Session Steps = true
takes Session Depth = true
takes Counts Steps = true
takes Counts Depth = true
takes Moves Steps = true
takes Moves Depth = true
takes verb setting = false

-- the least number that an option may have
abbrev pub least : Setting → ℕ
least Workers = 1
least setting = 0

-- the greatest seed
abbrev pub greatest_seed : ℕ
greatest_seed = 999999

-- the greatest number that an option may have; `--pick` has none
abbrev pub most : Setting → ℕ
most Workers = most_workers
most Steps = most_steps
most Sweep = greatest_sweep
most Depth = greatest_depth
most Pick = 0
most Seed = greatest_seed

-- the most workers that the workload text is made for
abbrev pub most_copies : ℕ
most_copies = 10000
