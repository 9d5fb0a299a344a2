use Rattle.std.proofs.Common.{◌≡◌, ◌∙◌, length, lit<, refl, subst, ap, arith}
use Rattle.std.specs.Prelude.{count_by, not, vec_capacity}
use Rattle.std.proofs.lemmas.List.Sums.{count_by-le-length}
use Rattle.rn_live.specs.link.Marks.{Finds, holds, is_start_below}
use Rattle.rn_live.proofs.FindLemmas.{rest_fits, still_room}
use Rattle.rn_live.proofs.HolderLemmas.{few_places}
use Rattle.rn_live.proofs.LiveMarks.{IsUnderWay, starts_found, one_gone, marks_are_live}
use Rattle.rn_live.proofs.marking.mark_live.Goals as goal

pub visit_starts-requires : goal.visit_starts-requires
visit_starts-requires c =
    let marks = c.unmark.new.marks.items in
    let most = count_by-le-length not marks in
    let none : length c.args.found.now.waiting.items ≡ 0 = ap length c.requires.none_waits in
    omega (arith, most, none, c.unmark.ensures.size, c.requires.room)

pub loop-number-init : goal.loop-number-init
loop-number-init c =
    let m = c.args.table.now.marking in
    let old = c.args.found.now in
    let new = c.visit_starts.new.found in
    let found : Finds m (is_start_below m c.args.starting.now c.next.result) c.unmark.new.marks.items new.marks.items old.waiting.items new.waiting.items (vec_capacity old.waiting) (vec_capacity new.waiting)
    = c.visit_starts.ensures in
    let most = count_by-le-length not c.unmark.new.marks.items in
    let none : length old.waiting.items ≡ 0 = ap length c.requires.none_waits in
    record {
      so = starts_found c.args.system.now m c.args.starting.now c.next.result (vec_capacity old.waiting) (vec_capacity new.waiting) c.unmark.new.marks.items new.marks.items old.waiting.items new.waiting.items
          c.requires.of_system c.unmark.ensures.none c.requires.none_waits (omega (arith, c.next.ensures.number, c.requires.below, c.unmark.ensures.size)) c.next.ensures.below found;
      room = still_room m (is_start_below m c.args.starting.now c.next.result) found (omega (arith, most, none, c.unmark.ensures.size, c.requires.room));
      size = refl;
      capacity = refl;
    }

pub visit_holder-requires-clause-places : goal.visit_holder-requires-clause-places
visit_holder-requires-clause-places c = few_places c.args.table.now.marking c.in-Some.number 4294967296 (lit< tt) c.requires.places

pub visit_holder-requires-clause-room : goal.visit_holder-requires-clause-room
visit_holder-requires-clause-room c =
    rest_fits c.pop.new.self.items c.in-Some.number c.loop-number.found.waiting.items (count_by not c.loop-number.found.marks.items)
    (vec_capacity c.loop-number.found.waiting) (vec_capacity c.pop.new.self) c.in-Some.ensures.items c.loop-number.invariant.room c.in-Some.ensures.capacity

pub loop-number-preserved : goal.loop-number-preserved
loop-number-preserved c =
    let system = c.args.system.now in
    let m = c.args.table.now.marking in
    let k = c.in-Some.number in
    let before = c.loop-number.found in
    let rest = c.pop.new.self in
    let new = c.visit_holder.new.found in
    let fits = rest_fits rest.items k before.waiting.items (count_by not before.marks.items) (vec_capacity before.waiting) (vec_capacity rest) c.in-Some.ensures.items c.loop-number.invariant.room c.in-Some.ensures.capacity in
    record {
      so = one_gone system m k (vec_capacity rest) (vec_capacity new.waiting) before.marks.items new.marks.items rest.items new.waiting.items
          (subst (IsUnderWay system m before.marks.items) c.in-Some.ensures.items c.loop-number.invariant.so) c.visit_holder.ensures;
      room = still_room m (holds m k) c.visit_holder.ensures fits;
      size = c.visit_holder.ensures.size ∙ c.loop-number.invariant.size;
      capacity = c.visit_holder.ensures.room_stays ∙ c.in-Some.ensures.capacity ∙ c.loop-number.invariant.capacity;
    }

pub returns-clause-marks : goal.returns-clause-marks
returns-clause-marks c =
    marks_are_live c.args.system.now c.args.table.now.marking c.loop-number.found.marks.items c.loop-number.found.waiting.items
    (grind (arith, c.in_default.ensures, c.in_default.is, c.in_default.not-Some)) c.loop-number.invariant.so
