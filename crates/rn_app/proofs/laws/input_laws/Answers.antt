use Rattle.rn_app.proofs.OneInput.{not_refused, notations_are_formats, one_notation, one_system, run_is_read}
use Rattle.rn_app.proofs.laws.input_laws.Goals as goal

pub returns : goal.returns
returns c = record {
  texts = not_refused c.net_laws.ensures.one_text c.net_laws.ensures.not_refused;
  systems = one_system c.net_laws.ensures.one_text;
  notations = one_notation c.net_laws.ensures.one_text;
  formats = notations_are_formats c.net_laws.ensures.notations;
  readings = c.record_laws.ensures.reading;
  read = run_is_read c.checked_texts_are_good.ensures c.logs_have_text.ensures.logs c.logs_are_readable.ensures c.net_laws.ensures.notations c.record_laws.ensures.texts;
}
