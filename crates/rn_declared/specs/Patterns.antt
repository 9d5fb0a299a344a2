-- Patterns of kinds: which kinds come of a pattern, and what two patterns have in common.
use Rattle.std.specs.Prelude.{Bool, true, false, ◌&&◌, List, [], ◌∷◌, map, IsTrue}
use Rattle.rn_value.specs.Kinds.{fit_all}
use Rattle.rn_value.specs.declared.value.Kind.{Kind, out-Kind}
use Rattle.rn_value.specs.declared.value.Kind.TheOpen as K
use Rattle.rn_net.specs.declared.kinds.PKind.{PKind, fold-PKind}
use Rattle.rn_net.specs.declared.kinds.PKindForm.TheOpen as F
use Rattle.rn_declared.specs.declared.pattern.Pattern.{Pattern, out-Pattern, roll-Pattern}
use Rattle.rn_declared.specs.declared.pattern.Pattern.{fold-Pattern}
use Rattle.rn_declared.specs.declared.pattern.Pattern.TheVariants as Pattern
use Rattle.rn_declared.specs.declared.pattern.Pattern.TheOpen as P

-- one pattern at a kind, with a test in place of each part
abbrev pub gives_step : P.Pattern-F (Kind → Bool) → K.Kind-F Kind → Bool
gives_step P.Any kind = true
gives_step P.Int K.Int = true
gives_step P.Text K.Text = true
gives_step (P.Tuple tests) (K.Tuple kinds) = fit_all tests kinds
gives_step (P.List test) (K.List kind) = test kind
gives_step P.Net K.Net = true
gives_step _ _ = false

-- whether a kind comes of a pattern by putting some kind for each `Any`
abbrev pub gives_kind : Pattern → Kind → Bool
gives_kind = fold-Pattern (Kind → Bool) (λ p kind. gives_step p (out-Kind kind))

abbrev pub IsKindBy : Pattern → Kind → Type 0
IsKindBy pattern kind = IsTrue (gives_kind pattern kind)

-- each test at the pattern at its index, where there are as many of both
abbrev pub all_share : List (Pattern → Bool) → List Pattern → Bool
all_share [] [] = true
all_share (test ∷ tests) (pattern ∷ patterns) = test pattern && all_share tests patterns
all_share _ _ = false

-- one pattern beside another, with a test in place of each part
abbrev pub share_step : P.Pattern-F (Pattern → Bool) → P.Pattern-F Pattern → Bool
share_step P.Any q = true
share_step P.Int P.Int = true
share_step P.Text P.Text = true
share_step (P.Tuple tests) (P.Tuple patterns) = all_share tests patterns
share_step (P.List test) (P.List pattern) = test pattern
share_step P.Net P.Net = true
share_step _ P.Any = true
share_step _ _ = false

-- whether some kind comes of both patterns
abbrev pub share : Pattern → Pattern → Bool
share = fold-Pattern (Pattern → Bool) (λ p q. share_step p (out-Pattern q))

-- the patterns of both, one by one. Past the end of the second ones each of the first is kept
abbrev pub all_both : List (Pattern → Pattern) → List Pattern → List Pattern
all_both [] patterns = []
all_both (both ∷ boths) [] = both Pattern.Any ∷ all_both boths []
all_both (both ∷ boths) (pattern ∷ patterns) = both pattern ∷ all_both boths patterns

-- one pattern beside another, with what the parts have in common with each pattern
abbrev pub both_step : P.Pattern-F (Pattern → Pattern) → P.Pattern-F Pattern → Pattern
both_step P.Any q = roll-Pattern q
both_step P.Int q = Pattern.Int
both_step P.Text q = Pattern.Text
both_step (P.Tuple boths) (P.Tuple patterns) = Pattern.Tuple (all_both boths patterns)
both_step (P.Tuple boths) _ = Pattern.Tuple (map (λ both. both Pattern.Any) boths)
both_step (P.List both) (P.List pattern) = Pattern.List (both pattern)
both_step (P.List both) _ = Pattern.List (both Pattern.Any)
both_step P.Net q = Pattern.Net

-- the pattern of all kinds that come of both, where they share some
abbrev pub both_of : Pattern → Pattern → Pattern
both_of = fold-Pattern (Pattern → Pattern) (λ p q. both_step p (out-Pattern q))

-- the pattern of one kind that stands in a text, with those of its parts
abbrev pub pattern_step : F.PKindForm-F Pattern Pattern → Pattern
pattern_step F.Int = Pattern.Int
pattern_step F.Text = Pattern.Text
pattern_step (F.Tuple parts) = Pattern.Tuple parts
pattern_step (F.List part) = Pattern.List part
pattern_step F.Net = Pattern.Net

-- the pattern of which this kind alone comes
abbrev pub pattern_of : PKind → Pattern
pattern_of = fold-PKind Pattern Pattern pattern_step (λ kind. kind.form)
