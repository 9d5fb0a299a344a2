-- The four lines are short, and an answer with them is written.
use Rattle.std.proofs.Common.{Fits, w64, arith, rules}
use Rattle.rn_pour.specs.Flows.{Standing}
use Rattle.rn_commands.specs.link.Workloads.{tally_lines}
use Rattle.rn_commands.proofs.ShortLines.{tally_short}
use Rattle.rn_commands.proofs.ToldRuns.{breaks_tally, tells_tally}
use Rattle.rn_commands.proofs.telling.write_tallied.Goals as goal

pub write_text-requires-clause-short : goal.write_text-requires-clause-short
write_text-requires-clause-short g c =
    let t = c.tally_of-tally.result in
    let fired : Fits w64 t.fired = search rules in
    let made : Fits w64 t.made = search rules in
    let live : Fits w64 t.live = search rules in
    let short = tally_short t.fired t.made t.live t.end.now (omega (arith, fired.fits))
    (omega (arith, made.fits)) (omega (arith, live.fits)) in
    omega (arith, short, c.tally_of-tally.ensures.short)

pub returns-in-Ok : goal.returns-in-Ok
returns-in-Ok g c =
    let t = c.tally_of-tally.result in
    let wrote = c.in-Ok.ensures in
    let out : Standing = record {
      held = g.O.Sink.held c.args.out.now;
      faults = g.O.Sink.faults c.args.out.now;
      writes = g.O.Sink.writes c.args.out.now;
      empty_writes = g.O.Sink.empty_writes c.args.out.now;
    } in
    let out_after : Standing = record {
      held = g.O.Sink.held c.write_text.new.sink;
      faults = g.O.Sink.faults c.write_text.new.sink;
      writes = g.O.Sink.writes c.write_text.new.sink;
      empty_writes = g.O.Sink.empty_writes c.write_text.new.sink;
    } in
    let err : Standing = record {
      held = g.E.Sink.held c.args.err.now;
      faults = g.E.Sink.faults c.args.err.now;
      writes = g.E.Sink.writes c.args.err.now;
      empty_writes = g.E.Sink.empty_writes c.args.err.now;
    } in
    let err_after : Standing = record {
      held = g.E.Sink.held c.tell.new.err;
      faults = g.E.Sink.faults c.tell.new.err;
      writes = g.E.Sink.writes c.tell.new.err;
      empty_writes = g.E.Sink.empty_writes c.tell.new.err;
    } in
    tells_tally c.args.state c.of-closing.result c.of-closing.ensures out out_after
    (tally_lines t.fired t.made t.live t.end.now) c.tell.result err err_after c.args.err.now c.tell.new.err
    c.tally_of-tally.ensures.tally wrote.all wrote.no_fault wrote.seldom wrote.none_empty c.tell.ensures

pub returns-in-Err : goal.returns-in-Err
returns-in-Err g c =
    let t = c.tally_of-tally.result in
    let wrote = c.in-Err.ensures in
    let out : Standing = record {
      held = g.O.Sink.held c.args.out.now;
      faults = g.O.Sink.faults c.args.out.now;
      writes = g.O.Sink.writes c.args.out.now;
      empty_writes = g.O.Sink.empty_writes c.args.out.now;
    } in
    let out_after : Standing = record {
      held = g.O.Sink.held c.write_text.new.sink;
      faults = g.O.Sink.faults c.write_text.new.sink;
      writes = g.O.Sink.writes c.write_text.new.sink;
      empty_writes = g.O.Sink.empty_writes c.write_text.new.sink;
    } in
    let err : Standing = record {
      held = g.E.Sink.held c.args.err.now;
      faults = g.E.Sink.faults c.args.err.now;
      writes = g.E.Sink.writes c.args.err.now;
      empty_writes = g.E.Sink.empty_writes c.args.err.now;
    } in
    breaks_tally c.args.state c.of-closing.result c.of-closing.ensures out out_after
    (tally_lines t.fired t.made t.live t.end.now) err c.args.err.now
    c.tally_of-tally.ensures.tally wrote.prefix wrote.one_fault wrote.seldom wrote.none_empty
