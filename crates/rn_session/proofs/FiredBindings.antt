-- What the firing of a numbered binding makes of a session.
use Rattle.std.proofs.Common.{◌≡◌, ℕ, ◌<◌, length, subst}
use Rattle.std.specs.Prelude.{None, Result, Ok, Err}
use Rattle.rn_items.specs.declared.memory.NoMemory.{NoMemory as Refused}
use Rattle.rn_model.specs.declared.binding.Binding.{Binding}
use Rattle.rn_served.specs.Listed.{IsNumbered}
use Rattle.rn_served.specs.Served.{MayFire}
use Rattle.rn_served.specs.declared.requests.FireAnswer.{FireAnswer}
use Rattle.rn_served.specs.declared.requests.FireAnswer.TheVariants as Gives
use Rattle.rn_fire.specs.States.{State, end_marking}
use Rattle.rn_session.specs.link.Keeping.{CommitsTo}
use Rattle.rn_session.specs.Sessions.{FiresBy, so_far}

module _ (old : State) (k : ℕ) (b : Binding) (going : old.ended ≡ None)
    (below : length old.fired < old.setup.options.steps)
    (numbered : IsNumbered old.setup.system (end_marking old) old.setup.options.depth k b) where
  may_fire : MayFire old.setup.system old.setup.options (so_far old) k b
  may_fire = record { going = going; below = below; numbered = numbered }

  fires_now : (r : Result FireAnswer Refused) (new : State) → CommitsTo old b r new →
      FiresBy old k r new
  fires_now (Ok (Gives.Fired step)) new (fired, count, fires, after, setup) =
      ((b, fired, may_fire, count, fires, after), setup)
  fires_now (Ok Gives.Faulted) new (cause, fires, after, setup) =
      ((b, cause, may_fire, fires, after), setup)
  fires_now (Ok (Gives.Refused number)) new commits = absurd commits
  fires_now (Err refused) new commits = commits

  -- where nothing had changed before it
  pub fires_by : (mid : State) (r : Result FireAnswer Refused) (new : State) → mid ≡ old →
      CommitsTo mid b r new → FiresBy old k r new
  fires_by mid r new same commits =
      fires_now r new (subst (λ s. CommitsTo s b r new) same commits)
