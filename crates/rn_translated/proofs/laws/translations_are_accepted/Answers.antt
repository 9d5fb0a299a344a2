use Rattle.rn_translated.proofs.TranslationsChecked.{translations_are_checked}
use Rattle.rn_translated.proofs.TranslationsChecked.{spots_do_not_count}
use Rattle.rn_translated.proofs.TranslationsChecked.{translations_are_accepted}
use Rattle.rn_translated.proofs.TranslationsChecked.{one_system_is_read}
use Rattle.rn_translated.proofs.laws.translations_are_accepted.Goals as goal

pub returns-clause-checked : goal.returns-clause-checked
returns-clause-checked c = translations_are_checked

pub returns-clause-spots : goal.returns-clause-spots
returns-clause-spots c = spots_do_not_count

pub returns-clause-accepted : goal.returns-clause-accepted
returns-clause-accepted c = translations_are_accepted

pub returns-clause-read : goal.returns-clause-read
returns-clause-read c = one_system_is_read c.printing_laws.ensures.what_is_read
