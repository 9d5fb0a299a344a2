-- Which rule is broken where, and which first.
use Rattle.std.specs.Prelude.{Contains}
use Rattle.rn_notation.specs.declared.token.Spot.{Spot}
use Rattle.rn_net.specs.declared.plain.Plain.{Plain}
use Rattle.rn_declared.specs.declared.fault.Rule.{Rule}
use Rattle.rn_declared.specs.Faults.{IsFirstOf, broken}
use Rattle.rn_rules.specs.Systems.{system_faults}

-- this rule is broken at this spot
abbrev pub Breaks : Plain → Rule → Spot → Type 0
Breaks plain rule spot = Contains (system_faults plain) (broken rule spot)

-- This rule is broken at this spot, none is at an earlier spot, and none of a lower number at the
-- same.
abbrev pub BreaksFirst : Plain → Rule → Spot → Type 0
BreaksFirst plain rule spot = IsFirstOf (system_faults plain) (broken rule spot)
