-- The laws are lemmas; four stand on those of net texts.
use Rattle.rn_print.proofs.ReadBack.{texts_are_read_back, spots_do_not_count, texts_are_fixed, texts_tell_apart, what_is_read, not_refused, migrated_texts_are_read}
use Rattle.rn_print.proofs.laws.printing_laws.Goals as goal

pub returns : goal.returns
returns c = record {
  texts_are_read_back = texts_are_read_back;
  spots_do_not_count = spots_do_not_count;
  texts_are_fixed = texts_are_fixed c.net_laws.ensures.one_text;
  texts_tell_apart = texts_tell_apart c.net_laws.ensures.one_text;
  what_is_read = what_is_read c.net_laws.ensures.one_text;
  not_refused = not_refused c.net_laws.ensures.not_refused;
  migrated_texts_are_read = migrated_texts_are_read;
}
