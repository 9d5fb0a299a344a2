use Rattle.std.proofs.Common.{◌∙◌, ap, sym, subst, refl}
use Rattle.std.proofs.lemmas.Bool.{false≢true}
use Rattle.rn_value.specs.declared.value.InstRef.TheVariants.{New}
use Rattle.rn_model.specs.declared.system.Creation.{Creation}
use Rattle.rn_model.specs.Systems.{transition_of}
use Rattle.rn_arcs.specs.link.Room.{PlacesHaveRoom, MadeHaveRoom}
use Rattle.rn_arcs.proofs.EachIndex.{none_there}
use Rattle.rn_arcs.proofs.room.Firing.node_has_room.Goals as goal

pub returns-then-not-own_has_room : goal.returns-then-not-own_has_room
returns-then-not-own_has_room c = (
  λ yes. absurd (false≢true yes),
  λ has. absurd
      (false≢true (sym c.if-not-own_has_room.true ∙ c.own_has_room.ensures.1 has.0)),
)

pub returns-in-None : goal.returns-in-None
returns-in-None c = (
  λ yes. (
    c.own_has_room.ensures.0 c.if-not-own_has_room.false,
    none_there
        (λ j (made : Creation). PlacesHaveRoom c.args.self.now made.net
        (New c.args.node.now.path j))
        (transition_of c.args.self.now.system.now c.args.node.now).creations
        (ap (λ t. t.creations) c.in-None.ensures),
  ),
  λ has. refl,
)

pub returns-in-Some : goal.returns-in-Some
returns-in-Some c =
    let same = c.as_slice.ensures ∙ ap (λ t. t.creations) c.in-Some.ensures in (
      λ yes. (
        c.own_has_room.ensures.0 c.if-not-own_has_room.false,
        subst (MadeHaveRoom c.args.self.now c.args.node.now.path) same
            (c.made_have_room.ensures.0 yes),
      ),
      λ has. c.made_have_room.ensures.1
          (subst (MadeHaveRoom c.args.self.now c.args.node.now.path) (sym same) has.1),
    )
