-- What a pattern has in common with itself, and with one of another form.
use Rattle.std.proofs.Common.{◌≡◌, ◌≢◌, List, [], ◌∷◌, map, refl, sym, ap, ◌∙◌}
use Rattle.std.specs.List.{AllByRecursion}
use Rattle.rn_declared.specs.declared.pattern.Pattern.{Pattern, map-Pattern, roll-out-Pattern}
use Rattle.rn_declared.specs.declared.pattern.Pattern.TheVariants as Pattern
use Rattle.rn_declared.specs.declared.pattern.Pattern.TheOpen as P
use Rattle.rn_declared.specs.declared.numbered.Form.{Form}
use Rattle.rn_declared.specs.declared.numbered.Form.TheVariants as F
use Rattle.rn_declared.specs.link.Forms.{pattern_of_form}
use Rattle.rn_declared.specs.Patterns.{both_of, both_step, all_both}
use Rattle.rn_declared.proofs.PatternKinds.{by_pattern, both-out}
use Rattle.rn_declared.proofs.SamePatterns.{opened, opened_is}

abbrev both_at : P.Pattern-F Pattern → P.Pattern-F Pattern → Pattern
both_at x y = both_step (map-Pattern Pattern (Pattern → Pattern) both_of x) y

all_with_any : (ps : List Pattern) → AllByRecursion (λ p. both_of p Pattern.Any ≡ p) ps →
    map (λ both. both Pattern.Any) (map both_of ps) ≡ ps
all_with_any [] all = refl
all_with_any (p ∷ ps) all =
    ap (λ q. q ∷ map (λ both. both Pattern.Any) (map both_of ps)) all.0
    ∙ ap (λ qs. p ∷ qs) (all_with_any ps all.1)

-- with `Any` it has all in common
pub both_any : (p : Pattern) → both_of p Pattern.Any ≡ p
both_any = by_pattern (λ p. both_of p Pattern.Any ≡ p) (record {
  any = both-out Pattern.Any Pattern.Any ∙ rw Pattern.outs-Any Pattern.rolls-Any;
  int = both-out Pattern.Int Pattern.Any ∙ rw Pattern.outs-Int refl;
  text = both-out Pattern.Text Pattern.Any ∙ rw Pattern.outs-Text refl;
  tuple = λ ps all. both-out (Pattern.Tuple ps) Pattern.Any ∙ rw (Pattern.outs-Tuple ps, Pattern.outs-Any) (ap Pattern.Tuple (all_with_any ps all));
  list = λ p here. both-out (Pattern.List p) Pattern.Any ∙ rw (Pattern.outs-List p, Pattern.outs-Any) (ap Pattern.List here);
  net = both-out Pattern.Net Pattern.Any ∙ rw Pattern.outs-Net refl;
})

all_with_selves : (ps : List Pattern) → AllByRecursion (λ p. both_of p p ≡ p) ps →
    all_both (map both_of ps) ps ≡ ps
all_with_selves [] all = refl
all_with_selves (p ∷ ps) all =
    ap (λ q. q ∷ all_both (map both_of ps) ps) all.0 ∙ ap (λ qs. p ∷ qs) (all_with_selves ps all.1)

-- with itself too
pub both_self : (p : Pattern) → both_of p p ≡ p
both_self = by_pattern (λ p. both_of p p ≡ p) (record {
  any = both-out Pattern.Any Pattern.Any ∙ rw Pattern.outs-Any Pattern.rolls-Any;
  int = both-out Pattern.Int Pattern.Int ∙ rw Pattern.outs-Int refl;
  text = both-out Pattern.Text Pattern.Text ∙ rw Pattern.outs-Text refl;
  tuple = λ ps all. both-out (Pattern.Tuple ps) (Pattern.Tuple ps) ∙ rw (Pattern.outs-Tuple ps) (ap Pattern.Tuple (all_with_selves ps all));
  list = λ p here. both-out (Pattern.List p) (Pattern.List p) ∙ rw (Pattern.outs-List p) (ap Pattern.List here);
  net = both-out Pattern.Net Pattern.Net ∙ rw Pattern.outs-Net refl;
})

pub both_same : (p q : Pattern) → p ≡ q → p ≡ both_of p q
both_same p q e = sym (ap (both_of p) (sym e) ∙ both_self p)

-- what is left of a form beside one of another
pub both_is : {N : Type 0} (f g : Form N) →
    both_of (pattern_of_form f) (pattern_of_form g) ≡ both_at (opened f) (opened g)
both_is f g =
    both-out (pattern_of_form f) (pattern_of_form g) ∙ rw (opened_is f, opened_is g) refl

-- the first is kept where the second is of another form
pub both_kept : (ps : List Pattern) → map (λ both. both Pattern.Any) (map both_of ps) ≡ ps
both_kept [] = refl
both_kept (p ∷ ps) =
    ap (λ q. q ∷ map (λ both. both Pattern.Any) (map both_of ps)) (both_any p) ∙ ap (λ qs. p ∷ qs) (both_kept ps)

-- the pattern of any kind has with another just that in common
pub any_both : (q : Pattern) → both_of Pattern.Any q ≡ q
any_both q = both-out Pattern.Any q ∙ rw Pattern.outs-Any (roll-out-Pattern q)

-- a tuple is kept beside what is none
pub tuple_kept : {N : Type 0} (ps : List Pattern) (f : Form N) →
    ((qs : List Pattern) → f ≢ F.Tuple qs) → both_of (Pattern.Tuple ps) (pattern_of_form f) ≡ Pattern.Tuple ps
tuple_kept {N = N} ps F.Any apart = both_any (Pattern.Tuple ps)
tuple_kept {N = N} ps F.Int apart = both_is {N = N} (F.Tuple ps) F.Int ∙ ap Pattern.Tuple (both_kept ps)
tuple_kept {N = N} ps F.Text apart = both_is {N = N} (F.Tuple ps) F.Text ∙ ap Pattern.Tuple (both_kept ps)
tuple_kept {N = N} ps (F.Tuple qs) apart = absurd (apart qs refl)
tuple_kept {N = N} ps (F.List q) apart = both_is {N = N} (F.Tuple ps) (F.List q) ∙ ap Pattern.Tuple (both_kept ps)
tuple_kept {N = N} ps F.Net apart = both_is {N = N} (F.Tuple ps) F.Net ∙ ap Pattern.Tuple (both_kept ps)

pub ruleset both = (both_same, both_is, both_any, both_kept)
