use Rattle.std.proofs.Common.{[], get_or, ap, sym, ◌∙◌}
use Rattle.rn_incr.specs.link.Kept.{AreNoted}
use Rattle.rn_incr.proofs.PutLemmas.{near_after, near_before, on_ok}
use Rattle.rn_incr.proofs.kept.KeptLists.put.Goals as goal
use Rattle.rn_incr.proofs.kept.KeptLists.put.Goals.{then-is_ok, else-is_ok}

pub settle-requires : goal.settle-requires
settle-requires c =
    let fresh = c.args.fresh.items in
    let xs = c.as_slice.result.now in
    let before = c.self.inside.lists.items in
    let first = c.self.inside.busy in
    let now = c.note_all-noted.new.busy in
    let slice = c.as_slice-2.result.now in
    elim c.if-is_ok.branch [
      | then-is_ok w ↦
          near_after fresh xs before slice c.args.numbers.now first now c.if-is_ok.self-inside.busy
          c.as_slice.ensures.value (ap (λ k. k.busy) w.self-inside-is) c.requires c.self.invariant.1
          c.note_all-noted.ensures.grows c.args.end w.put_all.new.lists.items
          (c.as_slice-2.ensures.value ∙ ap (λ k. k.lists.items) w.self-inside-is)
          (record {
            room = w.lengthen.new.lists.items;
            same = λ n. w.lengthen.ensures.same n
                ∙ ap (λ ls. get_or ls n []) c.in_ok-make_room.ensures.same;
            long = w.lengthen.ensures.long;
            put = w.put_all.ensures.put;
          })
          (on_ok c.note_all-noted.result (AreNoted now xs)
          (sym c.is_ok.ensures.value ∙ w.if-is_ok.true) c.note_all-noted.ensures.noted)
      | else-is_ok w ↦
          near_before fresh xs before slice c.args.numbers.now first now c.if-is_ok.self-inside.busy
          c.as_slice.ensures.value (ap (λ k. k.busy) w.self-inside-is) c.requires c.self.invariant.1
          c.note_all-noted.ensures.grows
          (c.as_slice-2.ensures.value ∙ ap (λ k. k.lists.items) w.self-inside-is
          ∙ c.in_ok-make_room.ensures.same)
    ]
