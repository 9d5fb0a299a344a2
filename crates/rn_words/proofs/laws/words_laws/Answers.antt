use Rattle.rn_words.proofs.AcceptedWords.{reads_what_is_accepted}
use Rattle.rn_words.proofs.FirstBadWord.{faults_name_the_first}
use Rattle.rn_words.proofs.GivenNumbers.{accepted_are_within_limits}
use Rattle.rn_words.proofs.laws.words_laws.Goals as goal

pub returns-clause-accepted : goal.returns-clause-accepted
returns-clause-accepted c = reads_what_is_accepted

pub returns-clause-limits : goal.returns-clause-limits
returns-clause-limits c = accepted_are_within_limits

pub returns-clause-first : goal.returns-clause-first
returns-clause-first c = faults_name_the_first
