use Rattle.rn_notation.proofs.Names.{sym, subst, prefix_len-le-length, is_letter, is_name_byte, IsToken, Name, Word}
use Rattle.rn_value.proofs.WordLemmas.{name_byte-letter, identifier-utf8}
use Rattle.rn_notation.specs.link.Scanning.{token}
use Rattle.rn_notation.proofs.NumberLemmas.{prefixed, prefix_cuts}
use Rattle.rn_notation.proofs.words.word_piece.Goals as goal

pub split_at-requires : goal.split_at-requires
split_at-requires c = rw c.word_length-length.ensures (prefix_len-le-length is_name_byte c.args.text.now)

pub returns-in-Some : goal.returns-in-Some
returns-in-Some c =
    let w = prefixed is_letter is_name_byte _ _ _ name_byte-letter c.requires c.split_at.ensures.front c.word_length-length.ensures in
    prefix_cuts (token (Word c.in-Some.index)) w (IsToken.word w.is w.stops (sym c.in-Some.ensures))

pub ascii_text-requires : goal.ascii_text-requires
ascii_text-requires c = identifier-utf8 _ (prefixed is_letter is_name_byte _ _ _ name_byte-letter c.requires c.split_at.ensures.front c.word_length-length.ensures).is

pub returns : goal.returns
returns c =
    let w = prefixed is_letter is_name_byte _ _ _ name_byte-letter c.requires c.split_at.ensures.front c.word_length-length.ensures in
    prefix_cuts (token (Name c.in_ok-ascii_text.field-0)) w (subst (λ s. IsToken (Name s) c.split_at.result.0.now w.rest) (sym c.in_ok-ascii_text.ensures) (IsToken.name w.is w.stops (sym c.in_default.ensures)))
