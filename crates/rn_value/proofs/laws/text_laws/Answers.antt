use Rattle.rn_value.proofs.GrowingNames.{texts_stay}
use Rattle.rn_value.proofs.OneLine.{on_one_line}
use Rattle.rn_value.proofs.Written.{grammar_written, texts_determine, written_determine, one_spelling}
use Rattle.rn_value.proofs.laws.text_laws.Goals as goal

pub returns : goal.returns
returns c = record {
  exact = grammar_written;
  determine = texts_determine;
  written_determine = written_determine;
  one_spelling = one_spelling;
  one_line = on_one_line;
  stay = texts_stay;
}
