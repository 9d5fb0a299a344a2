-- A kind that comes of two patterns comes of what they have in common.
use Rattle.std.proofs.Common.{◌≡◌, true, List, [], ◌∷◌, map, sym, ap, ◌∙◌}
use Rattle.std.specs.List.{AllByRecursion}
use Rattle.rn_items.proofs.Bools.{both_true, true_both}
use Rattle.rn_value.specs.Kinds.{fit_all}
use Rattle.rn_value.specs.declared.value.Kind.{Kind, out-Kind}
use Rattle.rn_value.specs.declared.value.Kind.TheOpen as K
use Rattle.rn_declared.specs.declared.pattern.Pattern.{Pattern, out-Pattern, roll-out-Pattern}
use Rattle.rn_declared.specs.declared.pattern.Pattern.TheVariants as Pattern
use Rattle.rn_declared.specs.declared.pattern.Pattern.TheOpen as P
use Rattle.rn_declared.specs.Patterns.{gives_step, gives_kind, both_of, both_step, all_both}
use Rattle.rn_declared.specs.PatternLaws.{BothGiveTheirKinds}
use Rattle.rn_declared.proofs.PatternKinds.{by_pattern, gives_at, gives-out, both-out, both_gives}
use Rattle.rn_declared.proofs.PatternKinds.{gives-Any, gives-Tuple, gives-List}

abbrev Meets : Pattern → Type 0
Meets p = (q : Pattern) (k : Kind) → gives_kind p k ≡ true → gives_kind q k ≡ true →
    gives_kind (both_of p q) k ≡ true

any_meets : Meets Pattern.Any
any_meets q k e g =
    let same : both_of Pattern.Any q ≡ q =
    both-out Pattern.Any q ∙ rw Pattern.outs-Any (roll-out-Pattern q) in
    ap (λ p. gives_kind p k) same ∙ g

int_meets : Meets Pattern.Int
int_meets q k e g =
    let same : both_of Pattern.Int q ≡ Pattern.Int = both-out Pattern.Int q ∙ rw Pattern.outs-Int in
    ap (λ p. gives_kind p k) same ∙ e

text_meets : Meets Pattern.Text
text_meets q k e g =
    let same : both_of Pattern.Text q ≡ Pattern.Text =
    both-out Pattern.Text q ∙ rw Pattern.outs-Text in
    ap (λ p. gives_kind p k) same ∙ e

net_meets : Meets Pattern.Net
net_meets q k e g =
    let same : both_of Pattern.Net q ≡ Pattern.Net = both-out Pattern.Net q ∙ rw Pattern.outs-Net in
    ap (λ p. gives_kind p k) same ∙ e

parts_meet : (ps qs : List Pattern) (ks : List Kind) → AllByRecursion Meets ps →
    fit_all (map gives_kind ps) ks ≡ true → fit_all (map gives_kind qs) ks ≡ true →
    fit_all (map gives_kind (all_both (map both_of ps) qs)) ks ≡ true
parts_meet [] [] ks all e g = e
parts_meet [] (q ∷ qs) [] all e g = absurd (let no : ⊥ = cc in no)
parts_meet [] (q ∷ qs) (k ∷ ks) all e g = absurd (let no : ⊥ = cc in no)
parts_meet (p ∷ ps) qs [] all e g = absurd (let no : ⊥ = cc in no)
parts_meet (p ∷ ps) [] (k ∷ ks) all e g = absurd (let no : ⊥ = cc in no)
parts_meet (p ∷ ps) (q ∷ qs) (k ∷ ks) all e g =
    let one = both_true (gives_kind p k) (fit_all (map gives_kind ps) ks) e in
    let other = both_true (gives_kind q k) (fit_all (map gives_kind qs) ks) g in
    true_both (gives_kind (both_of p q) k)
    (fit_all (map gives_kind (all_both (map both_of ps) qs)) ks) (all.0 q k one.0 other.0)
    (parts_meet ps qs ks all.1 one.1 other.1)

tuples_meet : (ps qs : List Pattern) (z : K.Kind-F Kind) → AllByRecursion Meets ps →
    gives_step (P.Tuple (map gives_kind ps)) z ≡ true →
    gives_step (P.Tuple (map gives_kind qs)) z ≡ true →
    gives_step (P.Tuple (map gives_kind (all_both (map both_of ps) qs))) z ≡ true
tuples_meet ps qs (K.Tuple ks) all e g = parts_meet ps qs ks all e g
tuples_meet ps qs _ all e g = absurd (let no : ⊥ = cc in no)

-- beside anything else than a tuple each part is beside `Any`
abbrev beside_any : List Pattern → List Pattern
beside_any ps = map (λ both. both Pattern.Any) (map both_of ps)

any_parts : (ps : List Pattern) (ks : List Kind) → AllByRecursion Meets ps →
    fit_all (map gives_kind ps) ks ≡ true → fit_all (map gives_kind (beside_any ps)) ks ≡ true
any_parts [] ks all e = e
any_parts (p ∷ ps) [] all e = absurd (let no : ⊥ = cc in no)
any_parts (p ∷ ps) (k ∷ ks) all e =
    let one = both_true (gives_kind p k) (fit_all (map gives_kind ps) ks) e in
    true_both (gives_kind (both_of p Pattern.Any) k) (fit_all (map gives_kind (beside_any ps)) ks)
    (all.0 Pattern.Any k one.0 (gives-Any k)) (any_parts ps ks all.1 one.1)

any_tuple : (ps : List Pattern) (z : K.Kind-F Kind) → AllByRecursion Meets ps →
    gives_step (P.Tuple (map gives_kind ps)) z ≡ true →
    gives_step (P.Tuple (map gives_kind (beside_any ps))) z ≡ true
any_tuple ps (K.Tuple ks) all e = any_parts ps ks all e
any_tuple ps _ all e = absurd (let no : ⊥ = cc in no)

else_tuple : (ps : List Pattern) (k : Kind) → AllByRecursion Meets ps →
    gives_step (P.Tuple (map gives_kind ps)) (out-Kind k) ≡ true →
    gives_kind (Pattern.Tuple (beside_any ps)) k ≡ true
else_tuple ps k all e = gives-Tuple (beside_any ps) k ∙ any_tuple ps (out-Kind k) all e

tuple_at : (ps : List Pattern) (y : P.Pattern-F Pattern) (k : Kind) → AllByRecursion Meets ps →
    gives_step (P.Tuple (map gives_kind ps)) (out-Kind k) ≡ true →
    gives_at y (out-Kind k) ≡ true →
    gives_kind (both_step (P.Tuple (map both_of ps)) y) k ≡ true
tuple_at ps (P.Tuple qs) k all e g =
    gives-Tuple (all_both (map both_of ps) qs) k ∙ tuples_meet ps qs (out-Kind k) all e g
tuple_at ps P.Any k all e g = else_tuple ps k all e
tuple_at ps P.Int k all e g = else_tuple ps k all e
tuple_at ps P.Text k all e g = else_tuple ps k all e
tuple_at ps (P.List q) k all e g = else_tuple ps k all e
tuple_at ps P.Net k all e g = else_tuple ps k all e

tuple_meets : (ps : List Pattern) → AllByRecursion Meets ps → Meets (Pattern.Tuple ps)
tuple_meets ps all q k e g =
    let same : both_of (Pattern.Tuple ps) q
    ≡ both_step (P.Tuple (map both_of ps)) (out-Pattern q) =
    both-out (Pattern.Tuple ps) q ∙ rw (Pattern.outs-Tuple ps) in
    ap (λ p. gives_kind p k) same
    ∙ tuple_at ps (out-Pattern q) k all (sym (gives-Tuple ps k) ∙ e) (sym (gives-out q k) ∙ g)

lists_meet : (p q : Pattern) (z : K.Kind-F Kind) → Meets p →
    gives_step (P.List (gives_kind p)) z ≡ true → gives_step (P.List (gives_kind q)) z ≡ true →
    gives_step (P.List (gives_kind (both_of p q))) z ≡ true
lists_meet p q (K.List k) here e g = here q k e g
lists_meet p q _ here e g = absurd (let no : ⊥ = cc in no)

any_list : (p : Pattern) (z : K.Kind-F Kind) → Meets p →
    gives_step (P.List (gives_kind p)) z ≡ true →
    gives_step (P.List (gives_kind (both_of p Pattern.Any))) z ≡ true
any_list p (K.List k) here e = here Pattern.Any k e (gives-Any k)
any_list p _ here e = absurd (let no : ⊥ = cc in no)

else_list : (p : Pattern) (k : Kind) → Meets p →
    gives_step (P.List (gives_kind p)) (out-Kind k) ≡ true →
    gives_kind (Pattern.List (both_of p Pattern.Any)) k ≡ true
else_list p k here e = gives-List (both_of p Pattern.Any) k ∙ any_list p (out-Kind k) here e

list_at : (p : Pattern) (y : P.Pattern-F Pattern) (k : Kind) → Meets p →
    gives_step (P.List (gives_kind p)) (out-Kind k) ≡ true → gives_at y (out-Kind k) ≡ true →
    gives_kind (both_step (P.List (both_of p)) y) k ≡ true
list_at p (P.List q) k here e g =
    gives-List (both_of p q) k ∙ lists_meet p q (out-Kind k) here e g
list_at p P.Any k here e g = else_list p k here e
list_at p P.Int k here e g = else_list p k here e
list_at p P.Text k here e g = else_list p k here e
list_at p (P.Tuple qs) k here e g = else_list p k here e
list_at p P.Net k here e g = else_list p k here e

list_meets : (p : Pattern) → Meets p → Meets (Pattern.List p)
list_meets p here q k e g =
    let same : both_of (Pattern.List p) q ≡ both_step (P.List (both_of p)) (out-Pattern q) =
    both-out (Pattern.List p) q ∙ rw (Pattern.outs-List p) in
    ap (λ p. gives_kind p k) same
    ∙ list_at p (out-Pattern q) k here (sym (gives-List p k) ∙ e) (sym (gives-out q k) ∙ g)

-- a kind that comes of two patterns comes of what they have in common
pub gives_both : (p : Pattern) → Meets p
gives_both = by_pattern Meets (record {
  any = any_meets;
  int = int_meets;
  text = text_meets;
  tuple = tuple_meets;
  list = list_meets;
  net = net_meets;
})

pub both_give_their_kinds : BothGiveTheirKinds
both_give_their_kinds p q kind shared =
    (both_gives p q shared kind, λ both. gives_both p q kind both.0 both.1)
