use Rattle.std.proofs.Common.{length}
use Rattle.renew_rows.proofs.saying.words_of.Given as goal

abbrev pub decreases-words : goal.decreases-words
decreases-words l = length l.rest
