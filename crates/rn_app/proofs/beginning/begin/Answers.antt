-- What words and input come to is written, or a run is due.
use Rattle.std.proofs.Common.{◌≡◌, ◌∙◌, Ok, Err, inl, inr, map, string_bytes, ap, refl, sym, subst, arith}
use Rattle.std.specs.Prelude.{⊤}
use Rattle.rn_answering.specs.declared.status.TheConstants.{DONE, NET_REFUSED, NO_MEMORY, READ_FAULT, RECORD_REFUSED, WRITE_FAULT}
use Rattle.rn_outside.proofs.ByteLemmas.{IsCalledSeldom-never}
use Rattle.rn_app.specs.declared.beginning.Begun.TheVariants.{Done}
use Rattle.rn_app.specs.Begun.{IsDue}
use Rattle.rn_app.specs.link.Begun.{IfAnswered}
use Rattle.rn_app.specs.TopCall.{IsNoInput, IsNoRecord, IsUnread}
use Rattle.rn_app.proofs.Causes.{Laws}
use Rattle.rn_app.proofs.Written.{Call, IsWritten, err_faults_clause, few_faults_clause, line_faults, memory_clause, never_read, only_clause, quiet_clause, write_fault_clause, writes_clause}
use Rattle.rn_app.proofs.Answering.{came, came_refused, complete_clause, if_some, in_place, input_clause, migrate_clause, moves_clause, never_done, read_failed, record_clause, refused_clause, status_is, words_clause}
use Rattle.rn_app.proofs.DueRuns.{due_needs, was_due}
use Rattle.rn_app.proofs.WordsAndInput.{no_read_memory, not_faulty}
use Rattle.rn_app.proofs.beginning.begin.Goals as goal

pub returns-in-Ok-Answered : goal.returns-in-Ok-Answered
returns-in-Ok-Answered g c =
    let k : Call g.row.E.Denot = record {
      words = map string_bytes c.args.words.now;
      left = g.I.Source.left c.args.input.now;
      left_after = g.I.Source.left c.prepare.new.input;
      result = c.write_answer.result;
      out = g.O.Sink.held c.args.out.now;
      out_after = g.O.Sink.held c.write_answer.new.out;
      out_faults = g.O.Sink.faults c.args.out.now;
      out_faults_after = g.O.Sink.faults c.write_answer.new.out;
      sink = c.args.err.now;
      sink_after = c.write_answer.new.err;
      err = g.E.Sink.held c.args.err.now;
      err_after = g.E.Sink.held c.write_answer.new.err;
      err_faults = g.E.Sink.faults c.args.err.now;
      err_faults_after = g.E.Sink.faults c.write_answer.new.err;
    } in
    let wrote = c.write_answer.ensures in
    let w : IsWritten k c.in-Ok-Answered.answer = record {
      comes = came (map string_bytes c.args.words.now) (g.I.Source.left c.args.input.now) (g.I.Source.left c.prepare.new.input) (g.I.Source.faults c.args.input.now) (g.I.Source.faults c.prepare.new.input) c.prepare.result c.in-Ok-Answered.answer (c.in-Ok-Answered.is ∙ ap Ok c.in-Ok-Answered.field-0-is) c.prepare.ensures.comes;
      written = wrote.written;
      told = wrote.told;
      memory = wrote.memory;
      nothing = wrote.nothing;
      failed = wrote.failed;
      same = ap (λ sink. g.E.Sink.faults sink);
    } in
    let laws : Laws = record {
      words = c.words_laws.ensures.accepted;
      texts = c.input_laws.ensures.texts;
      systems = c.input_laws.ensures.systems;
      notations = c.input_laws.ensures.notations;
      formats = c.input_laws.ensures.formats;
      readings = c.input_laws.ensures.readings;
      parts = c.parts_laws.ensures;
      one = c.answer_laws.ensures;
      read = c.input_laws.ensures.read;
      limits = c.words_laws.ensures.limits;
    } in
    record {
      working = tt;
      unwritten = tt;
      done = λ command accepted none. tt;
      refuses_run = λ command accepted needs. refused_clause k c.in-Ok-Answered.answer w laws (subst (λ r. IfAnswered r (λ a. a.status ≡ NET_REFUSED)) (c.in-Ok-Answered.is ∙ ap Ok c.in-Ok-Answered.field-0-is) (c.prepare.ensures.refuses_run command accepted needs));
      writes = writes_clause k c.in-Ok-Answered.answer w;
      quiet = λ is. quiet_clause k c.in-Ok-Answered.answer w (status_is is);
      only = only_clause k c.in-Ok-Answered.answer w;
      read_fault = λ is. absurd (never_read k c.in-Ok-Answered.answer w (status_is is));
      write_fault = λ is. write_fault_clause k c.in-Ok-Answered.answer w (status_is is);
      memory = λ is. let said = memory_clause k c.in-Ok-Answered.answer w (status_is is) in (said.0, inr said.1);
      refuses_words = λ fault faulty. (words_clause k c.in-Ok-Answered.answer w laws fault faulty, (c.prepare.ensures.refuses_words fault faulty).0);
      refuses_input = input_clause k c.in-Ok-Answered.answer w laws;
      refuses_record = record_clause k c.in-Ok-Answered.answer w laws;
      refuses_moved = moves_clause k c.in-Ok-Answered.answer w laws;
      refuses_migrated = migrate_clause k c.in-Ok-Answered.answer w laws;
      complete = λ command accepted fine reads. complete_clause k c.in-Ok-Answered.answer w laws command accepted fine;
      taken = c.prepare.ensures.taken;
      reads = c.prepare.ensures.reads;
      each_gives = c.prepare.ensures.each_gives;
      inputless = c.prepare.ensures.inputless;
      limited = c.prepare.ensures.limited;
      input_faults = λ other. c.prepare.ensures.faults (λ stopped. absurd cc);
      one_read_fault = λ is. absurd (never_read k c.in-Ok-Answered.answer w (status_is is));
      out_faults = λ other. (wrote.written (λ is. other (ap Done is))).2;
      err_faults = err_faults_clause k c.in-Ok-Answered.answer w;
      few_faults = few_faults_clause k c.in-Ok-Answered.answer w;
      seldom = wrote.seldom;
      none_empty = wrote.none_empty;
    }

pub returns-in-Err-Refused : goal.returns-in-Err-Refused
returns-in-Err-Refused g c =
    let k : Call g.row.E.Denot = record {
      words = map string_bytes c.args.words.now;
      left = g.I.Source.left c.args.input.now;
      left_after = g.I.Source.left c.prepare.new.input;
      result = c.write_answer-in-Err-Refused.result;
      out = g.O.Sink.held c.args.out.now;
      out_after = g.O.Sink.held c.write_answer-in-Err-Refused.new.out;
      out_faults = g.O.Sink.faults c.args.out.now;
      out_faults_after = g.O.Sink.faults c.write_answer-in-Err-Refused.new.out;
      sink = c.args.err.now;
      sink_after = c.write_answer-in-Err-Refused.new.err;
      err = g.E.Sink.held c.args.err.now;
      err_after = g.E.Sink.held c.write_answer-in-Err-Refused.new.err;
      err_faults = g.E.Sink.faults c.args.err.now;
      err_faults_after = g.E.Sink.faults c.write_answer-in-Err-Refused.new.err;
    } in
    let wrote = c.write_answer-in-Err-Refused.ensures in
    let w : IsWritten k c.in-Err-Refused.answer = record {
      comes = came_refused (map string_bytes c.args.words.now) (g.I.Source.left c.args.input.now) (g.I.Source.left c.prepare.new.input) (g.I.Source.faults c.args.input.now) (g.I.Source.faults c.prepare.new.input) c.prepare.result c.in-Err-Refused.answer (c.in-Err-Refused.is ∙ ap Err c.in-Err-Refused.field-0-is) c.prepare.ensures.comes;
      written = wrote.written;
      told = wrote.told;
      memory = wrote.memory;
      nothing = wrote.nothing;
      failed = wrote.failed;
      same = ap (λ sink. g.E.Sink.faults sink);
    } in
    let laws : Laws = record {
      words = c.words_laws.ensures.accepted;
      texts = c.input_laws.ensures.texts;
      systems = c.input_laws.ensures.systems;
      notations = c.input_laws.ensures.notations;
      formats = c.input_laws.ensures.formats;
      readings = c.input_laws.ensures.readings;
      parts = c.parts_laws.ensures;
      one = c.answer_laws.ensures;
      read = c.input_laws.ensures.read;
      limits = c.words_laws.ensures.limits;
    } in
    record {
      working = tt;
      unwritten = tt;
      done = λ command accepted none. tt;
      refuses_run = λ command accepted needs. refused_clause k c.in-Err-Refused.answer w laws (subst (λ r. IfAnswered r (λ a. a.status ≡ NET_REFUSED)) (c.in-Err-Refused.is ∙ ap Err c.in-Err-Refused.field-0-is) (c.prepare.ensures.refuses_run command accepted needs));
      writes = writes_clause k c.in-Err-Refused.answer w;
      quiet = λ is. quiet_clause k c.in-Err-Refused.answer w (status_is is);
      only = only_clause k c.in-Err-Refused.answer w;
      read_fault = λ is. absurd (never_read k c.in-Err-Refused.answer w (status_is is));
      write_fault = λ is. write_fault_clause k c.in-Err-Refused.answer w (status_is is);
      memory = λ is. let said = memory_clause k c.in-Err-Refused.answer w (status_is is) in (said.0, inr said.1);
      refuses_words = λ fault faulty. (words_clause k c.in-Err-Refused.answer w laws fault faulty, (c.prepare.ensures.refuses_words fault faulty).0);
      refuses_input = input_clause k c.in-Err-Refused.answer w laws;
      refuses_record = record_clause k c.in-Err-Refused.answer w laws;
      refuses_moved = moves_clause k c.in-Err-Refused.answer w laws;
      refuses_migrated = migrate_clause k c.in-Err-Refused.answer w laws;
      complete = λ command accepted fine reads. complete_clause k c.in-Err-Refused.answer w laws command accepted fine;
      taken = c.prepare.ensures.taken;
      reads = c.prepare.ensures.reads;
      each_gives = c.prepare.ensures.each_gives;
      inputless = c.prepare.ensures.inputless;
      limited = c.prepare.ensures.limited;
      input_faults = λ other. c.prepare.ensures.faults (λ stopped. absurd cc);
      one_read_fault = λ is. absurd (never_read k c.in-Err-Refused.answer w (status_is is));
      out_faults = λ other. (wrote.written (λ is. other (ap Done is))).2;
      err_faults = err_faults_clause k c.in-Err-Refused.answer w;
      few_faults = few_faults_clause k c.in-Err-Refused.answer w;
      seldom = wrote.seldom;
      none_empty = wrote.none_empty;
    }

pub returns-in-Err-ReadFault : goal.returns-in-Err-ReadFault
returns-in-Err-ReadFault g c =
    let status = c.write_line.ensures.status in
    record {
      working = tt;
      unwritten = tt;
      done = λ command accepted none. tt;
      refuses_run = λ command accepted needs. inr (inl status);
      writes = λ mine. absurd (mine.1 status);
      quiet = λ is. absurd (let no : READ_FAULT ≡ DONE = sym status ∙ status_is is in cc);
      only = omega (arith, status);
      read_fault = λ is. (read_failed (map string_bytes c.args.words.now) (g.I.Source.left c.args.input.now) (g.I.Source.left c.prepare.new.input) (g.I.Source.faults c.args.input.now) (g.I.Source.faults c.prepare.new.input) c.prepare.result (c.in-Err-ReadFault.is ∙ ap Err c.in-Err-ReadFault.field-0-is) c.prepare.ensures.comes, refl, c.write_line.ensures.line);
      write_fault = λ is. absurd (let no : READ_FAULT ≡ WRITE_FAULT = sym status ∙ status_is is in cc);
      memory = λ is. absurd (let no : READ_FAULT ≡ NO_MEMORY = sym status ∙ status_is is in cc);
      refuses_words = λ fault faulty. absurd ((c.prepare.ensures.refuses_words fault faulty).1 (c.in-Err-ReadFault.is ∙ ap Err c.in-Err-ReadFault.field-0-is));
      refuses_input = λ command accepted. in_place (g.I.Source.left c.args.input.now) (IsNoInput command) NET_REFUSED c.write_line.result (inl status);
      refuses_record = λ options accepted. in_place (g.I.Source.left c.args.input.now) (IsNoRecord options) RECORD_REFUSED c.write_line.result (inl status);
      refuses_moved = λ options accepted. in_place (g.I.Source.left c.args.input.now) (IsNoRecord options) RECORD_REFUSED c.write_line.result (inl status);
      refuses_migrated = λ accepted. in_place (g.I.Source.left c.args.input.now) IsUnread RECORD_REFUSED c.write_line.result (inl status);
      complete = λ command accepted fine reads outs errs. absurd (reads (read_failed (map string_bytes c.args.words.now) (g.I.Source.left c.args.input.now) (g.I.Source.left c.prepare.new.input) (g.I.Source.faults c.args.input.now) (g.I.Source.faults c.prepare.new.input) c.prepare.result (c.in-Err-ReadFault.is ∙ ap Err c.in-Err-ReadFault.field-0-is) c.prepare.ensures.comes));
      taken = c.prepare.ensures.taken;
      reads = c.prepare.ensures.reads;
      each_gives = c.prepare.ensures.each_gives;
      inputless = c.prepare.ensures.inputless;
      limited = c.prepare.ensures.limited;
      input_faults = λ other. absurd (other (ap Done status));
      one_read_fault = λ is. c.prepare.ensures.one_fault (c.in-Err-ReadFault.is ∙ ap Err c.in-Err-ReadFault.field-0-is);
      out_faults = λ other. refl;
      err_faults = λ mine. absurd (mine.1 status);
      few_faults = (inl refl, line_faults (g.E.Sink.held c.args.err.now) (g.E.Sink.held c.write_line.new.err) (g.E.Sink.faults c.args.err.now) (g.E.Sink.faults c.write_line.new.err) _ c.write_line.ensures.line);
      seldom = (IsCalledSeldom-never (g.O.Sink.held c.args.out.now) (g.O.Sink.writes c.args.out.now), c.write_line.ensures.seldom);
      none_empty = (refl, c.write_line.ensures.none_empty);
    }

pub returns-in-Err-NoMemory : goal.returns-in-Err-NoMemory
returns-in-Err-NoMemory g c =
    let status = c.write_line-in-Err-NoMemory.ensures.status in
    record {
      working = tt;
      unwritten = tt;
      done = λ command accepted none. tt;
      refuses_run = λ command accepted needs. inr (inr (inr status));
      writes = λ mine. absurd (mine.3 status);
      quiet = λ is. absurd (let no : NO_MEMORY ≡ DONE = sym status ∙ status_is is in cc);
      only = omega (arith, status);
      read_fault = λ is. absurd (let no : NO_MEMORY ≡ READ_FAULT = sym status ∙ status_is is in cc);
      write_fault = λ is. absurd (let no : NO_MEMORY ≡ WRITE_FAULT = sym status ∙ status_is is in cc);
      memory = λ is. (c.write_line-in-Err-NoMemory.ensures.line, inl refl);
      refuses_words = λ fault faulty. (inr (inr status), (c.prepare.ensures.refuses_words fault faulty).0);
      refuses_input = λ command accepted. in_place (g.I.Source.left c.args.input.now) (IsNoInput command) NET_REFUSED c.write_line-in-Err-NoMemory.result (inr (inr status));
      refuses_record = λ options accepted. in_place (g.I.Source.left c.args.input.now) (IsNoRecord options) RECORD_REFUSED c.write_line-in-Err-NoMemory.result (inr (inr status));
      refuses_moved = λ options accepted. in_place (g.I.Source.left c.args.input.now) (IsNoRecord options) RECORD_REFUSED c.write_line-in-Err-NoMemory.result (inr (inr status));
      refuses_migrated = λ accepted. in_place (g.I.Source.left c.args.input.now) IsUnread RECORD_REFUSED c.write_line-in-Err-NoMemory.result (inr (inr status));
      complete = λ command accepted fine reads outs errs. inr (inl status);
      taken = c.prepare.ensures.taken;
      reads = c.prepare.ensures.reads;
      each_gives = c.prepare.ensures.each_gives;
      inputless = c.prepare.ensures.inputless;
      limited = c.prepare.ensures.limited;
      input_faults = λ other. c.prepare.ensures.faults (no_read_memory c.prepare.result (c.in-Err-NoMemory.is ∙ ap Err c.in-Err-NoMemory.field-0-is));
      one_read_fault = λ is. absurd (let no : NO_MEMORY ≡ READ_FAULT = sym status ∙ status_is is in cc);
      out_faults = λ other. refl;
      err_faults = λ mine. absurd (mine.3 status);
      few_faults = (inl refl, line_faults (g.E.Sink.held c.args.err.now) (g.E.Sink.held c.write_line-in-Err-NoMemory.new.err) (g.E.Sink.faults c.args.err.now) (g.E.Sink.faults c.write_line-in-Err-NoMemory.new.err) _ c.write_line-in-Err-NoMemory.ensures.line);
      seldom = (IsCalledSeldom-never (g.O.Sink.held c.args.out.now) (g.O.Sink.writes c.args.out.now), c.write_line-in-Err-NoMemory.ensures.seldom);
      none_empty = (refl, c.write_line-in-Err-NoMemory.ensures.none_empty);
    }

pub returns-in-Ok-Due : goal.returns-in-Ok-Due
returns-in-Ok-Due g c =
    let due : IsDue (map string_bytes c.args.words.now) (g.I.Source.left c.args.input.now) (g.I.Source.left c.prepare.new.input) c.in-Ok-Due.ready = was_due (map string_bytes c.args.words.now) (g.I.Source.left c.args.input.now) (g.I.Source.left c.prepare.new.input) (g.I.Source.faults c.args.input.now) (g.I.Source.faults c.prepare.new.input) c.prepare.result c.in-Ok-Due.ready (c.in-Ok-Due.is ∙ ap Ok c.in-Ok-Due.field-0-is) c.prepare.ensures.comes in
    record {
      working = due;
      unwritten = (refl, refl);
      done = λ command accepted none. none (due_needs c.words_laws.ensures.accepted (map string_bytes c.args.words.now) (g.I.Source.left c.args.input.now) (g.I.Source.left c.prepare.new.input) c.in-Ok-Due.ready command due accepted);
      refuses_run = λ command accepted needs. tt;
      writes = tt;
      quiet = λ is. absurd (never_done is);
      only = tt;
      read_fault = λ is. absurd (never_done is);
      write_fault = λ is. absurd (never_done is);
      memory = λ is. absurd (never_done is);
      refuses_words = λ fault faulty. absurd (not_faulty c.words_laws.ensures.accepted (map string_bytes c.args.words.now) due.chosen fault due.given faulty);
      refuses_input = λ command accepted. if_some (g.I.Source.left c.args.input.now) (λ bytes. IsNoInput command bytes → ⊤) (λ bytes is wrong. tt);
      refuses_record = λ options accepted. if_some (g.I.Source.left c.args.input.now) (λ bytes. IsNoRecord options bytes → ⊤) (λ bytes is wrong. tt);
      refuses_moved = λ options accepted. if_some (g.I.Source.left c.args.input.now) (λ bytes. IsNoRecord options bytes → ⊤) (λ bytes is wrong. tt);
      refuses_migrated = λ accepted. if_some (g.I.Source.left c.args.input.now) (λ bytes. IsUnread bytes → ⊤) (λ bytes is wrong. tt);
      complete = λ command accepted fine reads outs errs. tt;
      taken = c.prepare.ensures.taken;
      reads = c.prepare.ensures.reads;
      each_gives = c.prepare.ensures.each_gives;
      inputless = c.prepare.ensures.inputless;
      limited = c.prepare.ensures.limited;
      input_faults = λ other. c.prepare.ensures.faults (λ stopped. absurd cc);
      one_read_fault = λ is. absurd (never_done is);
      out_faults = λ other. refl;
      err_faults = tt;
      few_faults = (inl refl, inl refl);
      seldom = (IsCalledSeldom-never (g.O.Sink.held c.args.out.now) (g.O.Sink.writes c.args.out.now), IsCalledSeldom-never (g.E.Sink.held c.args.err.now) (g.E.Sink.writes c.args.err.now));
      none_empty = (refl, refl);
    }
