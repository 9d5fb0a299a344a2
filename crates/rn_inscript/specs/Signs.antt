-- Signs and reserved words by their meaning in expressions, conditions and inscriptions.
use Rattle.std.specs.Prelude.{nat_eq, if◌then◌else◌, Option, Some, None}
use Rattle.rn_notation.specs.declared.sign.TheConstants as sign
use Rattle.rn_notation.specs.declared.word.TheConstants as word
use Rattle.rn_notation.specs.declared.token.TokenKind.{TokenKind}
use Rattle.rn_notation.specs.declared.token.TokenKind.TheVariants.{Name, Word, Sign}
use Rattle.rn_inscript.specs.declared.exprs.PForm.{PForm}
use Rattle.rn_inscript.specs.declared.exprs.PForm.TheVariants as F
use Rattle.rn_model.specs.declared.expr.OpKind.{OpKind}
use Rattle.rn_model.specs.declared.expr.CompareKind.{CompareKind}
use Rattle.rn_model.specs.declared.expr.CompareKind.TheVariants.{Same, Differs, Less, AtMost}
use Rattle.rn_model.specs.declared.expr.CompareKind.TheVariants.{Greater, AtLeast}
use Rattle.rn_model.specs.declared.system.ArcKind.{ArcKind}
use Rattle.rn_model.specs.declared.system.ArcKind.TheVariants.{Input, Output, Test, Reserve}
use Rattle.rn_model.specs.declared.system.ArcKind.TheVariants.{FlexInput, FlexOutput, Inhibit}
use Rattle.rn_model.specs.declared.system.ArcKind.TheVariants.{Clear}
use Rattle.rn_model.specs.declared.expr.OpKind.TheVariants.{Add, Sub, Mul, Div, Rem}

-- signs
abbrev pub open_brace : TokenKind
open_brace = Sign sign.LEFT_BRACE

abbrev pub close_brace : TokenKind
close_brace = Sign sign.RIGHT_BRACE

abbrev pub open_bracket : TokenKind
open_bracket = Sign sign.LEFT_BRACKET

abbrev pub close_bracket : TokenKind
close_bracket = Sign sign.RIGHT_BRACKET

abbrev pub open_paren : TokenKind
open_paren = Sign sign.LEFT_PAREN

abbrev pub close_paren : TokenKind
close_paren = Sign sign.RIGHT_PAREN

abbrev pub comma : TokenKind
comma = Sign sign.COMMA

abbrev pub colon : TokenKind
colon = Sign sign.COLON

abbrev pub minus : TokenKind
minus = Sign sign.MINUS

abbrev pub equals : TokenKind
equals = Sign sign.EQUALS

abbrev pub and_sign : TokenKind
and_sign = Sign sign.AND

abbrev pub or_sign : TokenKind
or_sign = Sign sign.OR

abbrev pub not_sign : TokenKind
not_sign = Sign sign.NOT

-- reserved words
abbrev pub guard_word : TokenKind
guard_word = Word word.GUARD

abbrev pub action_word : TokenKind
action_word = Word word.ACTION

abbrev pub print_word : TokenKind
print_word = Word word.PRINT

abbrev pub new_word : TokenKind
new_word = Word word.NEW

abbrev pub this_word : TokenKind
this_word = Word word.THIS

-- the operation that `+` or `-` is
abbrev pub plus_of : TokenKind → Option OpKind
plus_of (Sign k) = if nat_eq k sign.PLUS then Some Add else if nat_eq k sign.MINUS then Some Sub else None
plus_of _ = None

-- the operation that `*`, `/` or `%` is
abbrev pub times_of : TokenKind → Option OpKind
times_of (Sign k) =
    if nat_eq k sign.STAR then Some Mul
    else if nat_eq k sign.SLASH then Some Div
    else if nat_eq k sign.PERCENT then Some Rem
    else None
times_of _ = None

-- the comparison that a sign is
abbrev pub compare_of : TokenKind → Option CompareKind
compare_of (Sign k) =
    if nat_eq k sign.SAME then Some Same
    else if nat_eq k sign.DIFFERS then Some Differs
    else if nat_eq k sign.LESS then Some Less
    else if nat_eq k sign.AT_MOST then Some AtMost
    else if nat_eq k sign.GREATER then Some Greater
    else if nat_eq k sign.AT_LEAST then Some AtLeast
    else None
compare_of _ = None

-- the kind of arc that a word begins
abbrev pub arc_of : TokenKind → Option ArcKind
arc_of (Word k) =
    if nat_eq k word.IN then Some Input
    else if nat_eq k word.OUT then Some Output
    else if nat_eq k word.TEST then Some Test
    else if nat_eq k word.RESERVE then Some Reserve
    else if nat_eq k word.FLEXIN then Some FlexInput
    else if nat_eq k word.FLEXOUT then Some FlexOutput
    else if nat_eq k word.INHIBIT then Some Inhibit
    else if nat_eq k word.CLEAR then Some Clear
    else None
arc_of _ = None

-- the target of a downlink that a token is: a variable or `this`
abbrev pub target_of : TokenKind → Option PForm
target_of (Name s) = Some (F.Name s)
target_of (Word k) = if nat_eq k word.THIS then Some F.This else None
target_of _ = None
