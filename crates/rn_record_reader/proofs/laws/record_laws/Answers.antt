use Rattle.rn_record.specs.RecordText.{header_text}
use Rattle.rn_record_reader.specs.Runs.{bytes_after}
use Rattle.rn_record_reader.proofs.GroupedRuns.{records_migrate}
use Rattle.rn_record_reader.proofs.SameReading.{told_one}
use Rattle.rn_record_reader.proofs.SpelledRuns.{marks_named, one_spelling, whole_runs}
use Rattle.rn_record_reader.proofs.WrittenRuns.{texts_tell}
use Rattle.rn_record_reader.proofs.laws.record_laws.Goals as goal

pub returns-clause-reading : goal.returns-clause-reading
returns-clause-reading c = λ system format bytes v w is. told_one format system (bytes_after (header_text format) bytes) v w

pub returns-clause-spelling : goal.returns-clause-spelling
returns-clause-spelling c = one_spelling

pub returns-clause-whole : goal.returns-clause-whole
returns-clause-whole c = whole_runs

pub returns-clause-texts : goal.returns-clause-texts
returns-clause-texts c = texts_tell

pub returns-clause-named : goal.returns-clause-named
returns-clause-named c = marks_named

pub returns-clause-migrate : goal.returns-clause-migrate
returns-clause-migrate c = records_migrate
