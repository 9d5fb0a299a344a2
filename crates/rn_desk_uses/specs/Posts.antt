-- What holds of a worker's post, and of its tally.
use Rattle.std.specs.Prelude.{◌≡◌, ℕ, ◌+◌, List, [], ◌∷◌, ◌++◌, length}
use Rattle.rn_desk.specs.declared.desk.Desk.{Desk}
use Rattle.rn_desk.specs.Entries.{authored}
use Rattle.rn_desk.specs.Passes.{IsBack, mine}
use Rattle.rn_desk_uses.specs.declared.sheet.Sheet.{Sheet}
use Rattle.rn_desk_uses.specs.declared.sheet.Line.{Line}
use Rattle.rn_desk_uses.specs.declared.post.RoundTally.{RoundTally}
use Rattle.rn_desk_uses.specs.declared.post.Post.{Post}

-- the worker has this number, and has neither a turn nor lines of its own
abbrev pub IsAtWork : Desk Sheet Line ℕ → ℕ → Post → Type 0
IsAtWork d n p = IsBack (λ s. s.title) d n p.pass × (mine p.pass ≡ [])
    × (p.tally.worker ≡ n) × (p.tally.fired ≡ 0) × (p.tally.refused ≡ 0)

-- the worker has this number and no turn, and its tally counts its own lines, and the rounds
abbrev pub IsDone : Desk Sheet Line ℕ → ℕ → ℕ → Post → Type 0
IsDone d rounds n p = IsBack (λ s. s.title) d n p.pass × (p.tally.worker ≡ n)
    × (p.tally.fired ≡ length (mine p.pass)) × (p.tally.fired + p.tally.refused ≡ rounds)

-- the tally is of this worker, and counts the lines with its number, and the rounds
abbrev pub FiredBy : List Line → ℕ → ℕ → RoundTally → Type 0
FiredBy lines rounds n t = (t.worker ≡ n) × (t.fired ≡ length (authored (λ l. l.worker) n lines))
    × (t.fired + t.refused ≡ rounds)

-- the last line is of this round, and no worker authored it
abbrev pub EndsWithNote : List Line → ℕ → Type 0
EndsWithNote lines round = (before : List Line) × (lines ≡ before ++ record { worker = 0; round = round } ∷ [])
