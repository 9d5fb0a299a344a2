-- All is done, or the run that is due is done and written.
use Rattle.std.proofs.Common.{◌≡◌, ◌∙◌, ◌⊎◌, inl, inr, map, string_bytes, codes, ap, refl, sym, subst, arith}
use Rattle.rn_words.specs.declared.command.Command.TheVariants as command
use Rattle.rn_answering.specs.declared.status.TheConstants.{DONE, FAULTED, NET_REFUSED, NO_MEMORY, READ_FAULT, RECORD_REFUSED, WRITE_FAULT}
use Rattle.rn_outside.specs.Bytes.{IsCalledSeldom}
use Rattle.rn_answering.specs.Writing.{TakesLine}
use Rattle.rn_pour.specs.Flows.{Standing}
use Rattle.rn_commands.specs.Written.{WritesAnswer}
use Rattle.rn_app.specs.declared.beginning.Begun.TheVariants.{Done}
use Rattle.rn_app.specs.TopCall.{IsNoInput, IsNoRecord, IsUnread}
use Rattle.rn_app.proofs.Causes.{Laws}
use Rattle.rn_app.proofs.Written.{Call, IsWritten, err_faults_clause, faulted_clause, few_faults_clause, least_clause, least_faulted_clause, line_faults, memory_clause, never_read}
use Rattle.rn_app.proofs.Written.{only_clause, quiet_clause, run_clause, seeded_clause, seeded_faulted_clause, write_fault_clause, writes_clause}
use Rattle.rn_app.proofs.Answering.{complete_clause, in_place, input_clause, migrate_clause, moves_clause, never_done, record_clause, run_is_undone, status_is, words_clause}
use Rattle.rn_app.proofs.DueRuns.{due_comes}
use Rattle.rn_app.proofs.top.renew_top.Goals as goal

pub returns-in-Done : goal.returns-in-Done
returns-in-Done g c =
    let begun = c.in-Done.ensures in
    record {
      run = λ is options accepted. absurd (run_is_undone c.in-Done.status DONE (inl refl) is (begun.refuses_run (command.Run options) accepted tt));
      faulted = λ is options accepted. absurd (run_is_undone c.in-Done.status FAULTED (inr refl) is (begun.refuses_run (command.Run options) accepted tt));
      seeded = λ is options seed accepted. absurd (run_is_undone c.in-Done.status DONE (inl refl) is (begun.refuses_run (command.RunSeeded options seed) accepted tt));
      seeded_faulted = λ is options seed accepted. absurd (run_is_undone c.in-Done.status FAULTED (inr refl) is (begun.refuses_run (command.RunSeeded options seed) accepted tt));
      least = λ is options accepted. absurd (run_is_undone c.in-Done.status DONE (inl refl) is (begun.refuses_run (command.RunLeast options) accepted tt));
      least_faulted = λ is options accepted. absurd (run_is_undone c.in-Done.status FAULTED (inr refl) is (begun.refuses_run (command.RunLeast options) accepted tt));
      writes = begun.writes;
      quiet = λ is. begun.quiet (ap Done is);
      only = begun.only;
      read_fault = λ is. begun.read_fault (ap Done is);
      write_fault = λ is. begun.write_fault (ap Done is);
      memory = λ is. begun.memory (ap Done is);
      refuses_words = begun.refuses_words;
      refuses_input = begun.refuses_input;
      refuses_record = begun.refuses_record;
      refuses_moved = begun.refuses_moved;
      refuses_migrated = begun.refuses_migrated;
      complete = begun.complete;
      taken = c.begin.ensures.taken;
      reads = c.begin.ensures.reads;
      each_gives = c.begin.ensures.each_gives;
      inputless = c.begin.ensures.inputless;
      limited = c.begin.ensures.limited;
      input_faults = λ other. begun.input_faults (λ is. other (status_is is));
      one_read_fault = λ is. begun.one_read_fault (ap Done is);
      out_faults = λ other. begun.out_faults (λ is. other (status_is is));
      err_faults = begun.err_faults;
      few_faults = begun.few_faults;
      seldom = begun.seldom;
      none_empty = begun.none_empty;
    }

-- where a run is left, what it comes to is written, or it has no end
either : {A B P : Type 0} → A ⊎ B → (A → P) → (B → P) → P
either (inl a) f g = f a
either (inr b) f g = g b

pub returns-in-Working : goal.returns-in-Working
returns-in-Working g c =
    let begun = c.in-Working.ensures in
    let status = c.finish.result in
    let out = c.finish.new.out in
    let err = c.finish.new.err in
    either c.finish.ensures.recorded
    (λ told.
    let a = told.0 in
    let out_stands : g.row.O.Denot → Standing = λ o. record { held = g.O.Sink.held o; faults = g.O.Sink.faults o; writes = g.O.Sink.writes o; empty_writes = g.O.Sink.empty_writes o } in
    let err_stands : g.row.E.Denot → Standing = λ e. record { held = g.E.Sink.held e; faults = g.E.Sink.faults e; writes = g.E.Sink.writes e; empty_writes = g.E.Sink.empty_writes e } in
    let wrote : WritesAnswer a status (out_stands c.args.out.now) (out_stands out) (err_stands c.args.err.now) (err_stands err) c.args.err.now err =
    subst (λ e. WritesAnswer a status (out_stands c.args.out.now) (out_stands out) (err_stands e) (err_stands err) e err) begun.unwritten.1
    (subst (λ o. WritesAnswer a status (out_stands o) (out_stands out) (err_stands c.begin.new.err) (err_stands err) c.begin.new.err err) begun.unwritten.0 told.2) in
    let k : Call g.row.E.Denot = record {
      words = map string_bytes c.args.words.now;
      left = g.I.Source.left c.args.input.now;
      left_after = g.I.Source.left c.begin.new.input;
      result = status;
      out = g.O.Sink.held c.args.out.now;
      out_after = g.O.Sink.held out;
      out_faults = g.O.Sink.faults c.args.out.now;
      out_faults_after = g.O.Sink.faults out;
      sink = c.args.err.now;
      sink_after = err;
      err = g.E.Sink.held c.args.err.now;
      err_after = g.E.Sink.held err;
      err_faults = g.E.Sink.faults c.args.err.now;
      err_faults_after = g.E.Sink.faults err;
    } in
    let w : IsWritten k a = record {
      comes = due_comes (map string_bytes c.args.words.now) (g.I.Source.left c.args.input.now) (g.I.Source.left c.begin.new.input) c.in-Working.ready a begun.working told.1;
      written = wrote.written;
      told = wrote.told;
      memory = wrote.memory;
      nothing = wrote.nothing;
      failed = wrote.failed;
      same = ap (λ sink. g.E.Sink.faults sink);
    } in
    let laws : Laws = record {
      words = c.words_laws.ensures.accepted;
      texts = c.input_laws.ensures.texts;
      systems = c.input_laws.ensures.systems;
      notations = c.input_laws.ensures.notations;
      formats = c.input_laws.ensures.formats;
      readings = c.input_laws.ensures.readings;
      parts = c.parts_laws.ensures;
      one = c.answer_laws.ensures;
      read = c.input_laws.ensures.read;
      limits = c.words_laws.ensures.limits;
    } in
    record {
      run = run_clause k a w laws;
      faulted = faulted_clause k a w laws;
      seeded = seeded_clause k a w laws;
      seeded_faulted = seeded_faulted_clause k a w laws;
      least = least_clause k a w laws;
      least_faulted = least_faulted_clause k a w laws;
      writes = writes_clause k a w;
      quiet = quiet_clause k a w;
      only = only_clause k a w;
      read_fault = λ is. absurd (never_read k a w is);
      write_fault = write_fault_clause k a w;
      memory = λ is. let said = memory_clause k a w is in (said.0, inr said.1);
      refuses_words = λ fault faulty. (words_clause k a w laws fault faulty, (c.begin.ensures.refuses_words fault faulty).1);
      refuses_input = input_clause k a w laws;
      refuses_record = record_clause k a w laws;
      refuses_moved = moves_clause k a w laws;
      refuses_migrated = migrate_clause k a w laws;
      complete = λ command accepted fine reads. complete_clause k a w laws command accepted fine;
      taken = c.begin.ensures.taken;
      reads = c.begin.ensures.reads;
      each_gives = c.begin.ensures.each_gives;
      inputless = c.begin.ensures.inputless;
      limited = c.begin.ensures.limited;
      input_faults = λ other. begun.input_faults never_done;
      one_read_fault = λ is. absurd (never_read k a w is);
      out_faults = λ other. (w.written other).2;
      err_faults = err_faults_clause k a w;
      few_faults = few_faults_clause k a w;
      seldom = wrote.seldom;
      none_empty = wrote.none_empty;
    }
    )
    (λ endless.
    let is = endless.1 in
    let same : out ≡ c.args.out.now = endless.2 ∙ begun.unwritten.0 in
    let line : TakesLine (g.E.Sink.held c.args.err.now) (g.E.Sink.held err) (g.E.Sink.faults c.args.err.now) (g.E.Sink.faults err) (codes "memory\n") =
    subst (λ e. TakesLine (g.E.Sink.held e) (g.E.Sink.held err) (g.E.Sink.faults e) (g.E.Sink.faults err) (codes "memory\n")) begun.unwritten.1 endless.3 in
    let no_done : status ≡ DONE → ⊥ = λ other. let no : NO_MEMORY ≡ DONE = sym is ∙ other in cc in
    let no_fault : status ≡ FAULTED → ⊥ = λ other. let no : NO_MEMORY ≡ FAULTED = sym is ∙ other in cc in
    let no_read : status ≡ READ_FAULT → ⊥ = λ other. let no : NO_MEMORY ≡ READ_FAULT = sym is ∙ other in cc in
    let no_write : status ≡ WRITE_FAULT → ⊥ = λ other. let no : NO_MEMORY ≡ WRITE_FAULT = sym is ∙ other in cc in
    record {
      run = λ done. absurd (no_done done);
      faulted = λ faulted. absurd (no_fault faulted);
      seeded = λ done. absurd (no_done done);
      seeded_faulted = λ faulted. absurd (no_fault faulted);
      least = λ done. absurd (no_done done);
      least_faulted = λ faulted. absurd (no_fault faulted);
      writes = λ mine. absurd (mine.3 is);
      quiet = λ done. absurd (no_done done);
      only = omega (arith, is);
      read_fault = λ fault. absurd (no_read fault);
      write_fault = λ fault. absurd (no_write fault);
      memory = λ _. (line, inl same);
      refuses_words = λ fault faulty. (inr (inr is), (c.begin.ensures.refuses_words fault faulty).1);
      refuses_input = λ command accepted. in_place (g.I.Source.left c.args.input.now) (IsNoInput command) NET_REFUSED status (inr (inr is));
      refuses_record = λ options accepted. in_place (g.I.Source.left c.args.input.now) (IsNoRecord options) RECORD_REFUSED status (inr (inr is));
      refuses_moved = λ options accepted. in_place (g.I.Source.left c.args.input.now) (IsNoRecord options) RECORD_REFUSED status (inr (inr is));
      refuses_migrated = λ accepted. in_place (g.I.Source.left c.args.input.now) IsUnread RECORD_REFUSED status (inr (inr is));
      complete = λ command accepted fine reads outs errs. inr (inl is);
      taken = c.begin.ensures.taken;
      reads = c.begin.ensures.reads;
      each_gives = c.begin.ensures.each_gives;
      inputless = c.begin.ensures.inputless;
      limited = c.begin.ensures.limited;
      input_faults = λ other. begun.input_faults never_done;
      one_read_fault = λ fault. absurd (no_read fault);
      out_faults = λ other. ap (λ sink. g.O.Sink.faults sink) same;
      err_faults = λ mine. absurd (mine.3 is);
      few_faults = (
        inl (ap (λ sink. g.O.Sink.faults sink) same),
        line_faults (g.E.Sink.held c.args.err.now) (g.E.Sink.held err) (g.E.Sink.faults c.args.err.now) (g.E.Sink.faults err) _ line,
      );
      seldom = (
        subst (λ o. IsCalledSeldom (g.O.Sink.held o) (g.O.Sink.held out) (g.O.Sink.writes o) (g.O.Sink.writes out)) begun.unwritten.0 c.finish.ensures.seldom.0,
        subst (λ e. IsCalledSeldom (g.E.Sink.held e) (g.E.Sink.held err) (g.E.Sink.writes e) (g.E.Sink.writes err)) begun.unwritten.1 c.finish.ensures.seldom.1,
      );
      none_empty = (
        c.finish.ensures.none_empty.0 ∙ ap (λ sink. g.O.Sink.empty_writes sink) begun.unwritten.0,
        c.finish.ensures.none_empty.1 ∙ ap (λ sink. g.E.Sink.empty_writes sink) begun.unwritten.1,
      );
    })
