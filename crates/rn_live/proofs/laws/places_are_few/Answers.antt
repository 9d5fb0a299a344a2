use Rattle.rn_live.proofs.GoodPlaces.{good_places}
use Rattle.rn_live.proofs.laws.places_are_few.Goals as goal

pub returns : goal.returns
returns c = good_places
