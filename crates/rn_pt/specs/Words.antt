-- The words of weighted nets.
use Rattle.std.specs.Prelude.{ℕ, nat_eq, Option, Some, None, if◌then◌else◌, codes, option_map}
use Rattle.std.specs.Cmp.Lexicographic.{pointwise}
use Rattle.rn_notation.specs.declared.word.TheConstants as word
use Rattle.rn_notation.specs.declared.token.Token.{Token}
use Rattle.rn_notation.specs.declared.token.Spot.{Spot}
use Rattle.rn_notation.specs.declared.token.TokenKind.{TokenKind}
use Rattle.rn_notation.specs.declared.token.TokenKind.TheVariants.{Name, Word}
use Rattle.rn_model.specs.declared.system.ArcKind.{ArcKind}
use Rattle.rn_model.specs.declared.system.ArcKind.TheVariants.{Input, Output, Inhibit}
use Rattle.rn_pt.specs.declared.plain.ArcWord.{ArcWord}

-- the kind of arc that the reserved word with this number begins
abbrev pub arc_kind : ℕ → Option ArcKind
arc_kind k =
    if nat_eq k word.IN then Some Input
    else if nat_eq k word.OUT then Some Output
    else if nat_eq k word.INHIBIT then Some Inhibit
    else None

-- the word that begins an arc
abbrev pub arc_word_of : Spot → TokenKind → Option ArcWord
arc_word_of spot (Word k) = option_map (λ kind. record { kind = kind; spot = spot }) (arc_kind k)
arc_word_of spot _ = None

abbrev pub arc_word : Token → Option ArcWord
arc_word t = arc_word_of t.spot t.kind

-- the spot of the name `pt`
abbrev pub pt_word_of : Spot → TokenKind → Option Spot
pt_word_of spot (Name text) = if pointwise nat_eq text (codes "pt") then Some spot else None
pt_word_of spot _ = None

abbrev pub pt_word : Token → Option Spot
pt_word t = pt_word_of t.spot t.kind
