-- Laws over patterns of kinds. Each is the contract of a function that does nothing.
use Rattle.std.specs.Prelude.{◌≡◌, ◌↔◌, true}
use Rattle.rn_value.specs.declared.value.Kind.{Kind}
use Rattle.rn_declared.specs.declared.pattern.Pattern.{Pattern}
use Rattle.rn_declared.specs.Patterns.{IsKindBy, share, both_of}

-- Patterns share a kind exactly where some kind comes of both.
abbrev pub PatternsShareKinds : Type 0
PatternsShareKinds = (p q : Pattern) →
    (share p q ≡ true) ↔ ((kind : Kind) × IsKindBy p kind × IsKindBy q kind)

-- Of what two patterns that share a kind have in common come exactly the kinds that come of both.
abbrev pub BothGiveTheirKinds : Type 0
BothGiveTheirKinds = (p q : Pattern) (kind : Kind) → share p q ≡ true →
    IsKindBy (both_of p q) kind ↔ (IsKindBy p kind × IsKindBy q kind)
