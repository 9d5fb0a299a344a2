-- The keys by which unknowns and decisions are looked up. Two that are the same have one key. It
-- only connects the code's steps to what is promised.
use Rattle.std.specs.Prelude.{ℕ, ◌+◌, ◌*◌, ◌%◌, ◌^◌, List, [], ◌∷◌}
use Rattle.rn_growing.specs.declared.decision.Site.{Site}
use Rattle.rn_growing.specs.declared.decision.Site.TheVariants.{Left, Right, UplinkArg, Target}
use Rattle.rn_growing.specs.declared.decision.Site.TheVariants.{DownlinkArg, Inscription}
use Rattle.rn_growing.specs.declared.keys.TheConstants.{FACTOR}
use Rattle.rn_growing.specs.declared.slot.Slot.{Slot}
use Rattle.rn_growing.specs.declared.slot.Unknown.{Unknown}
use Rattle.rn_growing.specs.declared.slot.Unknown.TheVariants.{Var, Hole}

-- one more number goes into a key
unfoldable pub stirred : ℕ → ℕ → ℕ
stirred key n = (key * FACTOR % 2 ^ 64 + n) % 2 ^ 64

-- and all of a list, one after another
abbrev pub all_stirred : ℕ → List ℕ → ℕ
all_stirred key [] = key
all_stirred key (n ∷ ns) = all_stirred (stirred key n) ns

abbrev pub path_key : List ℕ → ℕ
path_key path = all_stirred 1 path

abbrev pub site_key : ℕ → Site → ℕ
site_key key (Left k) = stirred (stirred key 1) k
site_key key (Right k) = stirred (stirred key 2) k
site_key key (UplinkArg k) = stirred (stirred key 3) k
site_key key (Target k) = stirred (stirred key 4) k
site_key key (DownlinkArg i k) = stirred (stirred (stirred key 5) i) k
site_key key (Inscription k) = stirred (stirred key 6) k

-- the key of an operator application of the node on a path
abbrev pub hole_key : List ℕ → Site → List ℕ → ℕ
hole_key path site way = all_stirred (site_key (path_key path) site) way

-- the key of an unknown of the node on a path
abbrev pub unknown_key : List ℕ → Unknown → ℕ
unknown_key path (Var x) = stirred (stirred (path_key path) 7) x
unknown_key path (Hole site way) = hole_key path site way

abbrev pub slot_key : Slot → ℕ
slot_key slot = unknown_key slot.path slot.unknown
