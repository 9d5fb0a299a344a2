-- A snapshot that comes after one of which something is known. This only connects the code to the
-- definitions.
use Rattle.std.specs.Prelude.{ℕ}
use Rattle.rn_model.specs.declared.system.System.{System}
use Rattle.rn_fire.specs.declared.setup.Setup.{Setup}
use Rattle.rn_firsts.specs.Known.{IsKnown, Known}
use Rattle.rn_worker.specs.declared.looking.View.{View}
use Rattle.rn_worker.specs.link.Views.{FollowsOne}

-- where it is known what changed, the snapshot comes after one of which something is known
abbrev pub FollowsIn : System → ℕ → Known → View → Type 0
FollowsIn system depth k v = FollowsOne system (λ m. IsKnown system m depth k) v

-- the same of a system and its options
abbrev pub FollowsKnown : Setup → Known → View → Type 0
FollowsKnown setup k v = FollowsIn setup.system setup.options.depth k v
