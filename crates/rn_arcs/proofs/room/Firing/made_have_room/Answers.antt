use Rattle.std.proofs.Common.{◌∙◌, sym}
use Rattle.std.proofs.lemmas.Bool.{false≢true}
use Rattle.std.proofs.lemmas.Option.{slice_get-get_or}
use Rattle.rn_value.specs.declared.value.InstRef.TheVariants.{New}
use Rattle.rn_model.specs.declared.system.Creation.{Creation}
use Rattle.rn_arcs.specs.link.Room.{PlacesHaveRoom}
use Rattle.rn_arcs.proofs.EachIndex.{below_next, one_fails, all_hold}
use Rattle.rn_arcs.proofs.room.Firing.made_have_room.Goals as goal

pub returns-then-not-places_have_room : goal.returns-then-not-places_have_room
returns-then-not-places_have_room c =
    let cs = c.args.creations.now in
    let i = c.loop-index.index in
    one_fails
    (λ j (made : Creation). PlacesHaveRoom c.args.self.now made.net (New c.args.path.now j)) cs i
    _ (slice_get-get_or cs i _ c.loop-index-test.true)
    (λ here. false≢true
    (sym c.if-not-places_have_room.true ∙ c.places_have_room.ensures.1 here))

pub loop-index-preserved : goal.loop-index-preserved
loop-index-preserved c =
    let cs = c.args.creations.now in
    let i = c.loop-index.index in
    below_next
    (λ j (made : Creation). PlacesHaveRoom c.args.self.now made.net (New c.args.path.now j)) cs i
    _ (slice_get-get_or cs i _ c.loop-index-test.true) c.loop-index.invariant
    (c.places_have_room.ensures.0 c.if-not-places_have_room.false)

pub returns : goal.returns
returns c =
    all_hold
    (λ j (made : Creation). PlacesHaveRoom c.args.self.now made.net (New c.args.path.now j))
    c.args.creations.now c.loop-index.index c.loop-index-test.false c.loop-index.invariant
