-- What follows where nothing is broken in expressions.
use Rattle.std.proofs.Common.{◌≡◌, true, not, [], refl, sym, ap, ◌∙◌}
use Rattle.rn_notation.specs.declared.token.Spot.{Spot}
use Rattle.rn_value.specs.declared.value.Kind.{Kind, out-Kind}
use Rattle.rn_model.proofs.KindsOfValues.{same_is_equal}
use Rattle.rn_declared.specs.declared.fault.Rule.{Rule}
use Rattle.rn_declared.specs.declared.pattern.Pattern.{Pattern}
use Rattle.rn_declared.specs.Faults.{broken_if}
use Rattle.rn_declared.specs.Patterns.{gives_kind, share}
use Rattle.rn_rules.specs.Expressions.{Seen, apart, misfit, operand_faults, whole}
use Rattle.rn_declared.proofs.PatternKinds.{share_gives, gives-Int, gives-Net}
use Rattle.rn_declared.proofs.Faultless.{both_nil, holds}
use Rattle.rn_check.proofs.DeclaredKinds.{same-Int, same-Net, int_same, net_same}

-- two expressions that must share a kind do
pub not_apart : (a b : Seen) (spot : Spot) → a.faults ≡ [] → b.faults ≡ [] →
    apart a b spot ≡ [] → share a.pattern b.pattern ≡ true
not_apart a b spot ea eb e =
    let opened : apart a b spot ≡ broken_if (not (share a.pattern b.pattern)) Rule.Kinds spot =
    rw (ea, eb) refl in
    holds (share a.pattern b.pattern) Rule.Kinds spot (sym opened ∙ e)

pub fits_asked : (a : Seen) (p : Pattern) → a.faults ≡ [] → misfit a p ≡ [] →
    share p a.pattern ≡ true
fits_asked a p ea e = not_apart (whole a.spot p) a a.spot refl ea e

-- the one kind of whole numbers, and that of nets
pub only_int : (k : Kind) → gives_kind Pattern.Int k ≡ true → Kind.Int ≡ k
only_int k g =
    same_is_equal Kind.Int k (same-Int k ∙ sym (int_same (out-Kind k)) ∙ sym (gives-Int k) ∙ g)

pub only_net : (k : Kind) → gives_kind Pattern.Net k ≡ true → Kind.Net ≡ k
only_net k g =
    same_is_equal Kind.Net k (same-Net k ∙ sym (net_same (out-Kind k)) ∙ sym (gives-Net k) ∙ g)

pub int_shared : (q : Pattern) → share Pattern.Int q ≡ true → gives_kind q Kind.Int ≡ true
int_shared q e =
    let found = share_gives Pattern.Int q e in
    ap (gives_kind q) (only_int found.0 found.1) ∙ found.2

pub net_shared : (q : Pattern) → share Pattern.Net q ≡ true → gives_kind q Kind.Net ≡ true
net_shared q e =
    let found = share_gives Pattern.Net q e in
    ap (gives_kind q) (only_net found.0 found.1) ∙ found.2

-- an operand is a whole number
pub operand_fits : (a : Seen) → operand_faults a ≡ [] →
    (a.faults ≡ []) × (gives_kind a.pattern Kind.Int ≡ true)
unfolding operand_faults
operand_fits a e =
    let both = both_nil a.faults (misfit a Pattern.Int) e in
    (both.0, int_shared a.pattern (fits_asked a Pattern.Int both.0 both.1))
