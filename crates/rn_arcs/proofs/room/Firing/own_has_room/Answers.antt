use Rattle.std.proofs.Common.{◌∙◌, sym, subst, refl}
use Rattle.rn_arcs.specs.link.Room.{PlacesHaveRoom}
use Rattle.rn_arcs.proofs.room.Firing.own_has_room.Goals as goal

pub returns-in-Old : goal.returns-in-Old
returns-in-Old c = (
  λ yes n is. subst (PlacesHaveRoom c.args.self.now c.args.node.now.net) (sym c.in-Old.is ∙ is)
      (c.places_have_room.ensures.0 yes),
  λ all. c.places_have_room.ensures.1 (all _ c.in-Old.is),
)

pub returns-in-New : goal.returns-in-New
returns-in-New c = (
  λ yes n is. let new = c.in-New.is in absurd (let no : ⊥ = cc in no),
  λ all. refl,
)
