-- What is known by name, without the numbers of patterns. It connects the code with the definitions,
-- and states no rule.
use Rattle.rn_declared.specs.declared.table.Declared.{Declared}
use Rattle.rn_declared.specs.declared.table.DeclaredPlaces.{DeclaredPlaces}
use Rattle.rn_declared.specs.declared.channels.DeclaredChannels.{DeclaredChannels}
use Rattle.rn_rules.specs.declared.scope.KindedNames.{KindedNames}
use Rattle.rn_rules.specs.declared.scope.PlaceNames.{PlaceNames}
use Rattle.rn_rules.specs.declared.scope.ChannelNames.{ChannelNames}

abbrev pub declared_of : {N : Type 0} → KindedNames N → Declared
declared_of names = record { table = names.table; patterns = names.patterns }

abbrev pub places_of : {N : Type 0} → PlaceNames N → DeclaredPlaces
places_of places = record { declared = declared_of places.names; capped = places.capped }

abbrev pub channels_of : {N : Type 0} → ChannelNames N → DeclaredChannels
channels_of names = record { tables = names.tables; patterns = names.patterns }
