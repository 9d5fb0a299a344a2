-- What holds of a worker's post, before its work and after.
use Rattle.std.specs.Prelude.{◌≡◌, ℕ, [], length}
use Rattle.rn_model.specs.declared.log.Entry.{Entry}
use Rattle.rn_model.specs.declared.log.Options.{Options}
use Rattle.rn_model.specs.declared.system.System.{System}
use Rattle.rn_desk.specs.declared.desk.Desk.{Desk}
use Rattle.rn_desk.specs.Passes.{IsBack, fixed_of, mine, seen}
use Rattle.rn_fire.specs.declared.setup.Setup.{Setup}
use Rattle.rn_fire.specs.States.{State}
use Rattle.rn_worker.specs.declared.posts.Post.{Post}
use Rattle.rn_worker.specs.link.Seen.{HasEnded}

-- the worker has this number, and has neither a turn nor firings of its own
abbrev pub IsAtWork : Desk State Entry Setup → ℕ → Post → Type 0
IsAtWork d n p = IsBack (λ s. s.setup) d n p.pass × (mine p.pass ≡ [])
    × (p.tally.worker ≡ n) × (p.tally.fired ≡ 0) × (p.tally.swept ≡ 0)

-- The worker has this number and no turn, and has seen the log's end. Its tally counts its own
-- firings; where none is dropped during the run it says so.
pub record IsDone (d : Desk State Entry Setup) (sweep_every n : ℕ) (p : Post) : Type 0 where
  pub back : IsBack (λ s. s.setup) d n p.pass
  pub ended : HasEnded (seen p.pass)
  pub worker : p.tally.worker ≡ n
  pub fired : p.tally.fired ≡ length (mine p.pass)
  pub swept : sweep_every ≡ 0 → p.tally.swept ≡ 0

-- the desk keeps the state of this system and these options
abbrev pub IsOfSetup : Desk State Entry Setup → System → Options → Type 0
IsOfSetup d system options =
    fixed_of (λ s. s.setup) d ≡ record { system = system; options = options }
