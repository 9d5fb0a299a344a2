-- The reserved words, the sign and the name of declarations, by their meaning.
use Rattle.std.specs.Prelude.{codes}
use Rattle.rn_notation.specs.declared.sign.TheConstants as sign
use Rattle.rn_notation.specs.declared.word.TheConstants as word
use Rattle.rn_notation.specs.declared.token.TokenKind.{TokenKind}
use Rattle.rn_notation.specs.declared.token.TokenKind.TheVariants.{Name, Word, Sign}

abbrev pub semicolon : TokenKind
semicolon = Sign sign.SEMICOLON

-- `max`, which is no reserved word
abbrev pub max_name : TokenKind
max_name = Name (codes "max")

-- `notation`, which is no reserved word
abbrev pub notation_name : TokenKind
notation_name = Name (codes "notation")

abbrev pub net_word : TokenKind
net_word = Word word.NET

abbrev pub place_word : TokenKind
place_word = Word word.PLACE

abbrev pub trans_word : TokenKind
trans_word = Word word.TRANS

abbrev pub channel_word : TokenKind
channel_word = Word word.CHANNEL

abbrev pub var_word : TokenKind
var_word = Word word.VAR

abbrev pub int_word : TokenKind
int_word = Word word.INT

abbrev pub text_word : TokenKind
text_word = Word word.TEXT
