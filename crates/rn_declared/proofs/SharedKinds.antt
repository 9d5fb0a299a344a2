-- Patterns of which one kind comes share a kind.
use Rattle.std.proofs.Common.{◌≡◌, true, List, [], ◌∷◌, map, refl, sym, ◌∙◌}
use Rattle.std.specs.List.{AllByRecursion}
use Rattle.rn_items.proofs.Bools.{both_true, true_both}
use Rattle.rn_value.specs.Kinds.{fit_all}
use Rattle.rn_value.specs.declared.value.Kind.{Kind, out-Kind}
use Rattle.rn_value.specs.declared.value.Kind.TheOpen as K
use Rattle.rn_declared.specs.declared.pattern.Pattern.{Pattern, out-Pattern}
use Rattle.rn_declared.specs.declared.pattern.Pattern.TheVariants as Pattern
use Rattle.rn_declared.specs.declared.pattern.Pattern.TheOpen as P
use Rattle.rn_declared.specs.Patterns.{gives_step, gives_kind, share, share_step, all_share}
use Rattle.rn_declared.specs.PatternLaws.{PatternsShareKinds}
use Rattle.rn_declared.proofs.PatternKinds.{by_pattern, gives_at, gives-out, share-out, share_gives}
use Rattle.rn_declared.proofs.PatternKinds.{gives-Int, gives-Text, gives-Tuple, gives-List, gives-Net}

abbrev ShareGiven : Pattern → Type 0
ShareGiven p = (q : Pattern) (k : Kind) → gives_kind p k ≡ true → gives_kind q k ≡ true →
    share p q ≡ true

int_at : (y : P.Pattern-F Pattern) (z : K.Kind-F Kind) → gives_step P.Int z ≡ true →
    gives_at y z ≡ true → share_step P.Int y ≡ true
int_at P.Any z e g = refl
int_at P.Int z e g = refl
int_at _ K.Int e g = absurd (let no : ⊥ = cc in no)
int_at _ _ e g = absurd (let no : ⊥ = cc in no)

text_at : (y : P.Pattern-F Pattern) (z : K.Kind-F Kind) → gives_step P.Text z ≡ true →
    gives_at y z ≡ true → share_step P.Text y ≡ true
text_at P.Any z e g = refl
text_at P.Text z e g = refl
text_at _ K.Text e g = absurd (let no : ⊥ = cc in no)
text_at _ _ e g = absurd (let no : ⊥ = cc in no)

net_at : (y : P.Pattern-F Pattern) (z : K.Kind-F Kind) → gives_step P.Net z ≡ true →
    gives_at y z ≡ true → share_step P.Net y ≡ true
net_at P.Any z e g = refl
net_at P.Net z e g = refl
net_at _ K.Net e g = absurd (let no : ⊥ = cc in no)
net_at _ _ e g = absurd (let no : ⊥ = cc in no)

parts_share : (ps qs : List Pattern) (ks : List Kind) → AllByRecursion ShareGiven ps →
    fit_all (map gives_kind ps) ks ≡ true → fit_all (map gives_kind qs) ks ≡ true →
    all_share (map share ps) qs ≡ true
parts_share [] [] ks all e g = refl
parts_share [] (q ∷ qs) [] all e g = absurd (let no : ⊥ = cc in no)
parts_share [] (q ∷ qs) (k ∷ ks) all e g = absurd (let no : ⊥ = cc in no)
parts_share (p ∷ ps) qs [] all e g = absurd (let no : ⊥ = cc in no)
parts_share (p ∷ ps) [] (k ∷ ks) all e g = absurd (let no : ⊥ = cc in no)
parts_share (p ∷ ps) (q ∷ qs) (k ∷ ks) all e g =
    let one = both_true (gives_kind p k) (fit_all (map gives_kind ps) ks) e in
    let other = both_true (gives_kind q k) (fit_all (map gives_kind qs) ks) g in
    true_both (share p q) (all_share (map share ps) qs) (all.0 q k one.0 other.0)
    (parts_share ps qs ks all.1 one.1 other.1)

tuple_at : (ps : List Pattern) (y : P.Pattern-F Pattern) (z : K.Kind-F Kind) →
    AllByRecursion ShareGiven ps → gives_step (P.Tuple (map gives_kind ps)) z ≡ true →
    gives_at y z ≡ true → share_step (P.Tuple (map share ps)) y ≡ true
tuple_at ps P.Any z all e g = refl
tuple_at ps (P.Tuple qs) (K.Tuple ks) all e g = parts_share ps qs ks all e g
tuple_at ps _ (K.Tuple ks) all e g = absurd (let no : ⊥ = cc in no)
tuple_at ps _ _ all e g = absurd (let no : ⊥ = cc in no)

list_at : (p : Pattern) (y : P.Pattern-F Pattern) (z : K.Kind-F Kind) → ShareGiven p →
    gives_step (P.List (gives_kind p)) z ≡ true → gives_at y z ≡ true →
    share_step (P.List (share p)) y ≡ true
list_at p P.Any z here e g = refl
list_at p (P.List q) (K.List k) here e g = here q k e g
list_at p _ (K.List k) here e g = absurd (let no : ⊥ = cc in no)
list_at p _ _ here e g = absurd (let no : ⊥ = cc in no)

given_share : (p : Pattern) → ShareGiven p
given_share = by_pattern ShareGiven (record {
  any = λ q k e g. share-out Pattern.Any q ∙ rw Pattern.outs-Any;
  int = λ q k e g.
      share-out Pattern.Int q ∙ rw Pattern.outs-Int
      (int_at (out-Pattern q) (out-Kind k) (sym (gives-Int k) ∙ e) (sym (gives-out q k) ∙ g));
  text = λ q k e g.
      share-out Pattern.Text q ∙ rw Pattern.outs-Text
      (text_at (out-Pattern q) (out-Kind k) (sym (gives-Text k) ∙ e) (sym (gives-out q k) ∙ g));
  tuple = λ ps all q k e g.
      share-out (Pattern.Tuple ps) q ∙ rw (Pattern.outs-Tuple ps)
      (tuple_at ps (out-Pattern q) (out-Kind k) all (sym (gives-Tuple ps k) ∙ e)
      (sym (gives-out q k) ∙ g));
  list = λ p here q k e g.
      share-out (Pattern.List p) q ∙ rw (Pattern.outs-List p)
      (list_at p (out-Pattern q) (out-Kind k) here (sym (gives-List p k) ∙ e)
      (sym (gives-out q k) ∙ g));
  net = λ q k e g.
      share-out Pattern.Net q ∙ rw Pattern.outs-Net
      (net_at (out-Pattern q) (out-Kind k) (sym (gives-Net k) ∙ e) (sym (gives-out q k) ∙ g));
})

pub patterns_share_kinds : PatternsShareKinds
patterns_share_kinds p q = (share_gives p q, λ found. given_share p q found.0 found.1 found.2)
