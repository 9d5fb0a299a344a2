use Rattle.rn_translated.proofs.TextLengths.{texts_have_their_length}
use Rattle.rn_translated.proofs.laws.translations_have_their_length.Goals as goal

pub returns : goal.returns
returns c = texts_have_their_length
