use Rattle.std.proofs.Common.{◌≡◌, ◌∙◌, sym, subst, refl, false}
use Rattle.std.specs.Prelude.{◌↔◌, All, IsTrue}
use Rattle.std.specs.List.{list_any}
use Rattle.rn_model.specs.Demands.{filled_at}
use Rattle.rn_arcs.specs.Demanded.{HasFills, fill_place}
use Rattle.rn_arcs.specs.link.Joining.{Rising}
use Rattle.rn_arcs.specs.link.Room.{node_is_limited, NodeHasRoom}
use Rattle.rn_arcs.specs.declared.room.Firing.{Firing}
use Rattle.rn_arcs.proofs.RoomLemmas.{room_exactly, free_have_room}
use Rattle.rn_arcs.proofs.room.has_room.Goals as goal

pub nodes_have_room-requires : goal.nodes_have_room-requires
nodes_have_room-requires c = (
  c.requires.asked.rises,
  subst (Rising fill_place) (sym c.as_slice-fills.ensures) c.in_ok-filled.ensures.rises,
)

pub returns-then-not-are_limited : goal.returns-then-not-are_limited
returns-then-not-are_limited c =
    let none = subst (λ ns. list_any (node_is_limited c.args.system.now) ns ≡ false)
    c.as_slice-nodes.ensures (sym c.are_limited.ensures ∙ c.if-not-are_limited.true) in (
      λ yes. free_have_room c.args.system.now c.args.table.now.marking c.args.binding.now none,
      λ all. refl,
    )

pub returns : goal.returns
returns c =
    let firing : Firing = record {
      system = c.args.system;
      table = c.args.table;
      asked = c.args.asked;
      fills = c.as_slice-fills.result;
    } in
    room_exactly firing c.args.binding.now c.requires.asked
    (subst (λ fs. HasFills fs (filled_at c.args.system.now c.args.binding.now))
    (sym c.as_slice-fills.ensures) c.in_ok-filled.ensures.exact)
    c.nodes_have_room.result
    (subst (λ ns. IsTrue c.nodes_have_room.result ↔ All (NodeHasRoom firing) ns)
    c.as_slice-nodes.ensures c.nodes_have_room.ensures)
