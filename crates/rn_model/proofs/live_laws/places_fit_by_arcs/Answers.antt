use Rattle.rn_model.proofs.PlacesOfArcs.{places_fit_by_arcs}
use Rattle.rn_model.proofs.live_laws.places_fit_by_arcs.Goals as goal

pub returns : goal.returns
returns c = places_fit_by_arcs
