-- What is known of the instances in which nothing starts.
use Rattle.std.specs.Prelude.{ℕ, ◌≡◌, Bool, true, List}
use Rattle.rn_model.specs.declared.system.System.{System}
use Rattle.rn_model.specs.Markings.{Marking}
use Rattle.rn_finder.specs.Idle.{AreIdle}
use Rattle.rn_firsts.specs.Known.{HaveLiveHolders}

-- The set of the instances of which it is known; and, where they are held, which instances may refer
-- to which.
pub record Resting : Type 0 where
  pub idle : List ℕ
  pub held : Bool
  pub holders : List (List ℕ)

-- What is known is so at this marking.
pub record KnowsIdle (system : System) (m : Marking) (depth : ℕ) (k : Resting) : Type 0 where
  pub idle : AreIdle system m depth k.idle
  pub held : k.held ≡ true → HaveLiveHolders system m k.holders
