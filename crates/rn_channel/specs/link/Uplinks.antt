-- What uplinks say of a system.
use Rattle.std.specs.Prelude.{◌≡◌, List, [], ◌∷◌, map, ⊤, suc}
use Rattle.rn_model.specs.declared.system.System.{System}
use Rattle.rn_model.specs.declared.system.Net.{Net}
use Rattle.rn_model.specs.Limits.{greatest_depth}
use Rattle.rn_channel.specs.link.Kept.{HasRows, least_height}
use Rattle.rn_channel.specs.declared.uplinks.NetUplinks.{NetUplinks}
use Rattle.rn_channel.specs.declared.uplinks.Uplinks.{Uplinks}

-- the rows and heights of a net of the system
pub record AreOfNet (system : System) (net : Net) (kept : NetUplinks) : Type 0 where
  pub rows : HasRows kept.rows net.transitions
  pub heights : kept.heights ≡ map (λ t. least_height system t 0 (suc greatest_depth)) net.transitions

-- those of each net, in order
abbrev pub AreOfNets : System → List Net → List NetUplinks → Type 0
AreOfNets system [] [] = ⊤
AreOfNets system (net ∷ nets) (kept ∷ others) =
    AreOfNet system net kept × AreOfNets system nets others
AreOfNets system _ _ = ⊥

-- these are the uplinks and heights of the system
abbrev pub AreUplinksOf : System → Uplinks → Type 0
AreUplinksOf system uplinks = AreOfNets system system.nets uplinks.nets.items
