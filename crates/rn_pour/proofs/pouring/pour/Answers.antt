use Rattle.std.proofs.Common.{◌≡◌, [], length, take, sym, ap, ◌∙◌, Result, Ok, Err, OnErr, subst, refl, arith}
use Rattle.rn_pour.specs.Flows.{Standing, Flows}
use Rattle.rn_pour.proofs.Flows.{flows_nothing, poured, piece_written, piece_broken, piece_taken, piece_refused}
use Rattle.rn_pour.proofs.pouring.pour.Goals as goal

on_err : {T E : Type 0} (r : Result T E) (P : Type 0) → P → OnErr r P
on_err (Ok x) P p = tt
on_err (Err e) P p = p

pub loop-next-init : goal.loop-next-init
loop-next-init g c = record { within = omega arith; came = flows_nothing _ _; room = refl }

pub loop-next-preserved : goal.loop-next-preserved
loop-next-preserved g c =
    let sink = g.O.Sink in
    let text = g.T.Text.text c.args.text.now in
    let start : Standing = record {
      held = sink.held c.args.sink.now;
      faults = sink.faults c.args.sink.now;
      writes = sink.writes c.args.sink.now;
      empty_writes = sink.empty_writes c.args.sink.now;
    } in
    let before : Standing = record {
      held = sink.held c.loop-next.sink;
      faults = sink.faults c.loop-next.sink;
      writes = sink.writes c.loop-next.sink;
      empty_writes = sink.empty_writes c.loop-next.sink;
    } in
    let since : Standing = record {
      held = sink.held c.write_all.new.sink;
      faults = sink.faults c.write_all.new.sink;
      writes = sink.writes c.write_all.new.sink;
      empty_writes = sink.empty_writes c.write_all.new.sink;
    } in
    let wrote = c.in_ok-write_all.ensures in
    let taken = piece_taken before since _ _ _ (c.kept.ensures ∙ c.in-Some.ensures.piece)
    wrote.all wrote.no_fault wrote.calls_ok wrote.none_empty in
    let flows = piece_written start before since _ _ text _ _ c.loop-next.invariant.came taken in
    record {
      within = omega (arith, c.in-Some.ensures.within);
      came = subst (λ k. Flows start c.args.window.now.kept (take c.in-Some.next text) since k)
          (sym (ap (λ s. s.kept) c.begin.ensures))
          (subst (λ n. Flows start c.args.window.now.kept (take n text) since [])
          (sym c.in-Some.ensures.next) flows);
      room = ap (λ s. s.room) c.begin.ensures ∙ c.put_from.ensures.room ∙ c.loop-next.invariant.room;
    }

pub loop-next-smaller : goal.loop-next-smaller
loop-next-smaller g c =
    let none : length c.begin.new.self.kept ≡ 0 = ap (λ s. length s.kept) c.begin.ensures in
    omega (arith, none, c.in-Some.ensures.next, c.in-Some.ensures.within, c.requires.room, c.loop-next.invariant.room)

pub returns-clause-ok : goal.returns-clause-ok
returns-clause-ok g c =
    let sink = g.O.Sink in
    let start : Standing = record {
      held = sink.held c.args.sink.now;
      faults = sink.faults c.args.sink.now;
      writes = sink.writes c.args.sink.now;
      empty_writes = sink.empty_writes c.args.sink.now;
    } in
    let before : Standing = record {
      held = sink.held c.loop-next.sink;
      faults = sink.faults c.loop-next.sink;
      writes = sink.writes c.loop-next.sink;
      empty_writes = sink.empty_writes c.loop-next.sink;
    } in
    subst (λ k. Flows start c.args.window.now.kept (g.T.Text.text c.args.text.now) before k)
    (sym (c.put_from.ensures.all c.in_default.is))
    (poured start before before _ _ _ _ 0 c.loop-next.invariant.came)

pub returns-in_err-write_all-clause-err : goal.returns-in_err-write_all-clause-err
returns-in_err-write_all-clause-err g c =
    let sink = g.O.Sink in
    let text = g.T.Text.text c.args.text.now in
    let start : Standing = record {
      held = sink.held c.args.sink.now;
      faults = sink.faults c.args.sink.now;
      writes = sink.writes c.args.sink.now;
      empty_writes = sink.empty_writes c.args.sink.now;
    } in
    let before : Standing = record {
      held = sink.held c.loop-next.sink;
      faults = sink.faults c.loop-next.sink;
      writes = sink.writes c.loop-next.sink;
      empty_writes = sink.empty_writes c.loop-next.sink;
    } in
    let since : Standing = record {
      held = sink.held c.write_all.new.sink;
      faults = sink.faults c.write_all.new.sink;
      writes = sink.writes c.write_all.new.sink;
      empty_writes = sink.empty_writes c.write_all.new.sink;
    } in
    let failed = c.in_err-write_all.ensures in
    let broken = piece_refused before since _ _ _ (c.kept.ensures ∙ c.in-Some.ensures.piece)
    failed.prefix failed.one_fault failed.cause failed.seldom failed.none_empty in
    on_err c.from_residual.result _ (piece_broken start before since _ _ text _ _ c.loop-next.invariant.came broken)
