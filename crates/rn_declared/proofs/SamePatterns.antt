-- A pattern shares a kind with itself.
use Rattle.std.proofs.Common.{◌≡◌, Bool, true, List, [], ◌∷◌, ◌&&◌, map, refl, sym, ap, ◌∙◌}
use Rattle.std.specs.List.{AllByRecursion}
use Rattle.rn_declared.specs.declared.pattern.Pattern.{Pattern, out-Pattern, map-Pattern}
use Rattle.rn_declared.specs.declared.pattern.Pattern.TheVariants as Pattern
use Rattle.rn_declared.specs.declared.pattern.Pattern.TheOpen as P
use Rattle.rn_declared.specs.declared.numbered.Form.{Form}
use Rattle.rn_declared.specs.declared.numbered.Form.TheVariants as F
use Rattle.rn_declared.specs.link.Forms.{pattern_of_form}
use Rattle.rn_declared.proofs.PatternKinds.{by_pattern, share-out}
use Rattle.rn_declared.specs.Patterns.{share, share_step, all_share}

abbrev share_at : P.Pattern-F Pattern → P.Pattern-F Pattern → Bool
share_at x y = share_step (map-Pattern Pattern (Pattern → Bool) share x) y

all_selves : (ps : List Pattern) → AllByRecursion (λ p. share p p ≡ true) ps →
    all_share (map share ps) ps ≡ true
all_selves [] all = refl
all_selves (p ∷ ps) all = ap (λ b. b && all_share (map share ps) ps) all.0 ∙ all_selves ps all.1

pub share_self : (p : Pattern) → share p p ≡ true
share_self = by_pattern (λ p. share p p ≡ true) (record {
  any = share-out Pattern.Any Pattern.Any ∙ rw Pattern.outs-Any refl;
  int = share-out Pattern.Int Pattern.Int ∙ rw Pattern.outs-Int refl;
  text = share-out Pattern.Text Pattern.Text ∙ rw Pattern.outs-Text refl;
  tuple = λ ps all. share-out (Pattern.Tuple ps) (Pattern.Tuple ps) ∙ rw (Pattern.outs-Tuple ps) (all_selves ps all);
  list = λ p here. share-out (Pattern.List p) (Pattern.List p) ∙ rw (Pattern.outs-List p) here;
  net = share-out Pattern.Net Pattern.Net ∙ rw Pattern.outs-Net refl;
})

pub share_same : (p q : Pattern) → p ≡ q → true ≡ share p q
share_same p q e = sym (ap (share p) (sym e) ∙ share_self p)

abbrev pub opened : {N : Type 0} → Form N → P.Pattern-F Pattern
opened F.Any = P.Any
opened F.Int = P.Int
opened F.Text = P.Text
opened (F.Tuple parts) = P.Tuple parts
opened (F.List part) = P.List part
opened F.Net = P.Net

pub opened_is : {N : Type 0} (f : Form N) → out-Pattern (pattern_of_form f) ≡ opened f
opened_is F.Any = Pattern.outs-Any
opened_is F.Int = Pattern.outs-Int
opened_is F.Text = Pattern.outs-Text
opened_is (F.Tuple parts) = Pattern.outs-Tuple parts
opened_is (F.List part) = Pattern.outs-List part
opened_is F.Net = Pattern.outs-Net

pub shared_is : {N : Type 0} (f g : Form N) →
    share (pattern_of_form f) (pattern_of_form g)
    ≡ share_step (map-Pattern Pattern (Pattern → Bool) share (opened f)) (opened g)
shared_is f g =
    share-out (pattern_of_form f) (pattern_of_form g) ∙ rw (opened_is f, opened_is g) refl

pub ruleset sharing = (share_same, shared_is)
