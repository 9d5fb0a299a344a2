use Rattle.std.proofs.Common.{◌≡◌, ◌∙◌, List, sym, subst, rules}
use Rattle.std.specs.Prelude.{flat_map}
use Rattle.rn_model.specs.declared.log.MarkLine.{MarkLine}
use Rattle.rn_pour.specs.Flows.{Standing, Flows, Breaks}
use Rattle.rn_end_marking.specs.MarkTexts.{line_text}
use Rattle.rn_end_marking.specs.link.Lines.{lines_below, marked_lines}
use Rattle.rn_end_marking.proofs.LinesInOrder.{few_places}
use Rattle.rn_end_marking.proofs.PouredLines.{lines_on, lines_broken, below_more, below_split, marked_are, short_at, on_err}
use Rattle.rn_end_marking.proofs.pouring.pour_marks.Goals as goal

pub pour_instance-requires-clause-places : goal.pour_instance-requires-clause-places
pour_instance-requires-clause-places g c = few_places c.args.marks.now.table.now.marking c.requires.places c.loop-number.number

pub pour_instance-requires-clause-short : goal.pour_instance-requires-clause-short
pour_instance-requires-clause-short g c =
    let marks = c.args.marks.now in
    let n = c.loop-number.number in
    λ marked. short_at marks.format marks.system.now marks.nets.now marks.table.now.marking n c.requires.short ((c.requires.live n).0 marked)

pub loop-number-preserved : goal.loop-number-preserved
loop-number-preserved g c =
    let sink = g.O.Sink in
    let start : Standing = record {
      held = sink.held c.args.sink.now;
      faults = sink.faults c.args.sink.now;
      writes = sink.writes c.args.sink.now;
      empty_writes = sink.empty_writes c.args.sink.now;
    } in
    let before : Standing = record {
      held = sink.held c.loop-number.sink;
      faults = sink.faults c.loop-number.sink;
      writes = sink.writes c.loop-number.sink;
      empty_writes = sink.empty_writes c.loop-number.sink;
    } in
    let since : Standing = record {
      held = sink.held c.pour_instance.new.sink;
      faults = sink.faults c.pour_instance.new.sink;
      writes = sink.writes c.pour_instance.new.sink;
      empty_writes = sink.empty_writes c.pour_instance.new.sink;
    } in
    let marks = c.args.marks.now in
    let m = marks.table.now.marking in
    let live = marks.live.now.marks in
    let f = line_text marks.format marks.system.now marks.nets.now in
    let n = c.loop-number.number in
    record {
      came = subst (λ lines. Flows start c.args.window.now.kept (flat_map f lines) since c.pour_instance.new.window.kept) (sym (below_more m live n))
          (lines_on f start before since c.args.window.now.kept c.loop-number.window.kept (lines_below m live n) (marked_lines m live n)
          c.loop-number.invariant.came c.pour_instance.new.window.kept c.in_ok-pour_instance.ensures.ok);
      room = c.in_ok-pour_instance.ensures.room ∙ c.loop-number.invariant.room;
    }

pub returns-clause-ok : goal.returns-clause-ok
returns-clause-ok g c =
    let sink = g.O.Sink in
    let start : Standing = record {
      held = sink.held c.args.sink.now;
      faults = sink.faults c.args.sink.now;
      writes = sink.writes c.args.sink.now;
      empty_writes = sink.empty_writes c.args.sink.now;
    } in
    let since : Standing = record {
      held = sink.held c.loop-number.sink;
      faults = sink.faults c.loop-number.sink;
      writes = sink.writes c.loop-number.sink;
      empty_writes = sink.empty_writes c.loop-number.sink;
    } in
    let marks = c.args.marks.now in
    let m = marks.table.now.marking in
    let live = marks.live.now.marks in
    let f = line_text marks.format marks.system.now marks.nets.now in
    let end = c.next-number-end.result in
    let same : c.loop-number.number ≡ end = search rules in
    λ lines part. subst (λ ls. Flows start c.args.window.now.kept (flat_map f ls) since c.loop-number.window.kept)
    (marked_are m live marks.system.now c.requires.live end c.next-number-end.ensures.below lines part)
    (subst (λ k. Flows start c.args.window.now.kept (flat_map f (lines_below m live k)) since c.loop-number.window.kept) same c.loop-number.invariant.came)

pub returns-in_err-pour_instance-clause-err : goal.returns-in_err-pour_instance-clause-err
returns-in_err-pour_instance-clause-err g c =
    let sink = g.O.Sink in
    let start : Standing = record {
      held = sink.held c.args.sink.now;
      faults = sink.faults c.args.sink.now;
      writes = sink.writes c.args.sink.now;
      empty_writes = sink.empty_writes c.args.sink.now;
    } in
    let before : Standing = record {
      held = sink.held c.loop-number.sink;
      faults = sink.faults c.loop-number.sink;
      writes = sink.writes c.loop-number.sink;
      empty_writes = sink.empty_writes c.loop-number.sink;
    } in
    let since : Standing = record {
      held = sink.held c.pour_instance.new.sink;
      faults = sink.faults c.pour_instance.new.sink;
      writes = sink.writes c.pour_instance.new.sink;
      empty_writes = sink.empty_writes c.pour_instance.new.sink;
    } in
    let marks = c.args.marks.now in
    let m = marks.table.now.marking in
    let live = marks.live.now.marks in
    let f = line_text marks.format marks.system.now marks.nets.now in
    let n = c.loop-number.number in
    let end = c.next-number-end.result in
    let split = below_split m live n end c.loop-number-test.true in
    on_err c.from_residual.result _ (λ (lines : List MarkLine) part. subst (λ ls. Breaks start c.args.window.now.kept (flat_map f ls) since)
    (marked_are m live marks.system.now c.requires.live end c.next-number-end.ensures.below lines part)
    (lines_broken f start before since c.args.window.now.kept c.loop-number.window.kept (lines_below m live n) (marked_lines m live n)
    c.loop-number.invariant.came (lines_below m live end) split.0 split.1 c.in_err-pour_instance.ensures.err))
