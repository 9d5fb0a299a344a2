use Rattle.std.proofs.Common.{◌≡◌, ◌+◌, ◌++◌, ◌∙◌, take, ap, sym, subst, arith, rules}
use Rattle.std.specs.Prelude.{Some, [], slice_get, option_and_then, unwrap_or, flat_map}
use Rattle.rn_model.specs.Markings.{instance_at, tokens_at}
use Rattle.rn_live.specs.link.Marks.{places_of}
use Rattle.rn_live.proofs.HolderLemmas.{place_at, tokens_are}
use Rattle.rn_pour.specs.Flows.{Standing, Flows}
use Rattle.rn_end_marking.specs.MarkTexts.{line_text}
use Rattle.rn_end_marking.specs.link.Lines.{line_of, lines_from}
use Rattle.rn_end_marking.proofs.LinesInOrder.{one_more}
use Rattle.rn_end_marking.proofs.PouredLines.{lines_on, lines_broken, places_prefix, short_place, on_err}
use Rattle.rn_end_marking.proofs.pouring.pour_places.Goals as goal

pub pour_place-requires-clause-short : goal.pour_place-requires-clause-short
pour_place-requires-clause-short g c =
    let marks = c.args.marks.now in
    let m = marks.table.now.marking in
    let n = c.args.number in
    let i = c.loop-place.place in
    let tokens = c.in-Some.bag.now in
    let is : option_and_then (λ j. slice_get j.places i) (instance_at m n) ≡ Some tokens = search rules in
    let same : tokens_at m n i ≡ tokens = tokens_are m n i ∙ ap (λ s. unwrap_or s []) (place_at m n i ∙ is) in
    λ some. short_place marks.format marks.system.now marks.nets.now m n c.args.net i tokens c.requires.short c.requires.net same some

pub loop-place-preserved : goal.loop-place-preserved
loop-place-preserved g c =
    let sink = g.O.Sink in
    let start : Standing = record {
      held = sink.held c.args.sink.now;
      faults = sink.faults c.args.sink.now;
      writes = sink.writes c.args.sink.now;
      empty_writes = sink.empty_writes c.args.sink.now;
    } in
    let before : Standing = record {
      held = sink.held c.loop-place.sink;
      faults = sink.faults c.loop-place.sink;
      writes = sink.writes c.loop-place.sink;
      empty_writes = sink.empty_writes c.loop-place.sink;
    } in
    let since : Standing = record {
      held = sink.held c.pour_place.new.sink;
      faults = sink.faults c.pour_place.new.sink;
      writes = sink.writes c.pour_place.new.sink;
      empty_writes = sink.empty_writes c.pour_place.new.sink;
    } in
    let marks = c.args.marks.now in
    let m = marks.table.now.marking in
    let f = line_text marks.format marks.system.now marks.nets.now in
    let n = c.args.number in
    let net = c.args.net in
    let i = c.loop-place.place in
    let places = places_of m n in
    let tokens = c.in-Some.bag.now in
    let is : option_and_then (λ j. slice_get j.places i) (instance_at m n) ≡ Some tokens = search rules in
    let here : 0 + i ≡ i = omega arith in
    let xs = lines_from n net 0 (take i places) in
    let ys = line_of n net i tokens in
    let more : lines_from n net 0 (take (i + 1) places) ≡ xs ++ ys
    = one_more n net 0 i places tokens (place_at m n i ∙ is) ∙ ap (λ j. xs ++ line_of n net j tokens) here in
    record {
      came = subst (λ lines. Flows start c.args.window.now.kept (flat_map f lines) since c.pour_place.new.window.kept) (sym more)
          (lines_on f start before since c.args.window.now.kept c.loop-place.window.kept xs ys c.loop-place.invariant.came
          c.pour_place.new.window.kept c.in_ok-pour_place.ensures.ok);
      room = c.in_ok-pour_place.ensures.room ∙ c.loop-place.invariant.room;
    }

pub returns-in_err-pour_place-clause-err : goal.returns-in_err-pour_place-clause-err
returns-in_err-pour_place-clause-err g c =
    let sink = g.O.Sink in
    let start : Standing = record {
      held = sink.held c.args.sink.now;
      faults = sink.faults c.args.sink.now;
      writes = sink.writes c.args.sink.now;
      empty_writes = sink.empty_writes c.args.sink.now;
    } in
    let before : Standing = record {
      held = sink.held c.loop-place.sink;
      faults = sink.faults c.loop-place.sink;
      writes = sink.writes c.loop-place.sink;
      empty_writes = sink.empty_writes c.loop-place.sink;
    } in
    let since : Standing = record {
      held = sink.held c.pour_place.new.sink;
      faults = sink.faults c.pour_place.new.sink;
      writes = sink.writes c.pour_place.new.sink;
      empty_writes = sink.empty_writes c.pour_place.new.sink;
    } in
    let marks = c.args.marks.now in
    let m = marks.table.now.marking in
    let f = line_text marks.format marks.system.now marks.nets.now in
    let n = c.args.number in
    let net = c.args.net in
    let i = c.loop-place.place in
    let places = places_of m n in
    let tokens = c.in-Some.bag.now in
    let is : option_and_then (λ j. slice_get j.places i) (instance_at m n) ≡ Some tokens = search rules in
    let here : 0 + i ≡ i = omega arith in
    let xs = lines_from n net 0 (take i places) in
    let ys = line_of n net i tokens in
    let more : lines_from n net 0 (take (i + 1) places) ≡ xs ++ ys
    = one_more n net 0 i places tokens (place_at m n i ∙ is) ∙ ap (λ j. xs ++ line_of n net j tokens) here in
    let split = places_prefix n net 0 (i + 1) places in
    on_err c.from_residual.result _
    (lines_broken f start before since c.args.window.now.kept c.loop-place.window.kept xs ys c.loop-place.invariant.came
    (lines_from n net 0 places) split.0 (split.1 ∙ ap (λ lines. lines ++ split.0) more) c.in_err-pour_place.ensures.err)
