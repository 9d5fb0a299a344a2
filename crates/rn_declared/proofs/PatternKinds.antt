-- Which kinds come of patterns, and of what two patterns have in common.
use Rattle.std.proofs.Common.{◌≡◌, Bool, true, List, [], ◌∷◌, map, refl, sym, ap, ◌∙◌}
use Rattle.std.proofs.Common.{subst}
use Rattle.std.specs.List.{AllByRecursion}
use Rattle.rn_items.proofs.Bools.{both_true, true_both}
use Rattle.rn_value.specs.Kinds.{fit_all}
use Rattle.rn_value.specs.declared.value.Kind.{Kind, out-Kind}
use Rattle.rn_value.specs.declared.value.Kind.TheVariants as Kind
use Rattle.rn_value.specs.declared.value.Kind.TheOpen as K
use Rattle.rn_declared.specs.declared.pattern.Pattern.{Pattern, out-Pattern, roll-Pattern, map-Pattern}
use Rattle.rn_declared.specs.declared.pattern.Pattern.{fold_out-Pattern, roll-out-Pattern, ind-Pattern}
use Rattle.rn_declared.specs.declared.pattern.Pattern.TheVariants as Pattern
use Rattle.rn_declared.specs.declared.pattern.Pattern.TheOpen as P
use Rattle.rn_declared.specs.Patterns.{gives_step, gives_kind, share, share_step, all_share, both_of}
use Rattle.rn_declared.specs.Patterns.{both_step, all_both}

-- what holds of a pattern where it holds of its parts
pub record ByPattern (H : Pattern → Type 0) : Type 0 where
  pub any : H Pattern.Any
  pub int : H Pattern.Int
  pub text : H Pattern.Text
  pub tuple : (parts : List Pattern) → AllByRecursion H parts → H (Pattern.Tuple parts)
  pub list : (part : Pattern) → H part → H (Pattern.List part)
  pub net : H Pattern.Net

module _ {X : Type 0} (H : X → Type 0) where
  pub each_part : (parts : List ((x : X) × H x)) → AllByRecursion H (map (λ e. e.0) parts)
  each_part [] = tt
  each_part (part ∷ parts) = (part.1, each_part parts)

module _ (H : Pattern → Type 0) (f : ByPattern H) where
  abbrev Part : Type 0
  Part = (p : Pattern) × H p

  layer : (y : P.Pattern-F Part) → H (roll-Pattern (map-Pattern Part Pattern (λ e. e.0) y))
  layer P.Any = subst H (sym Pattern.rolls-Any) f.any
  layer P.Int = subst H (sym Pattern.rolls-Int) f.int
  layer P.Text = subst H (sym Pattern.rolls-Text) f.text
  layer (P.Tuple parts) =
      let ps : List Pattern = map (λ e. e.0) parts in
      subst H (sym (Pattern.rolls-Tuple ps)) (f.tuple ps (each_part H parts))
  layer (P.List part) = subst H (sym (Pattern.rolls-List part.0)) (f.list part.0 part.1)
  layer P.Net = subst H (sym Pattern.rolls-Net) f.net

  pub by_pattern : (p : Pattern) → H p
  by_pattern = ind-Pattern H (λ x y is. subst (λ w. H (roll-Pattern w)) is (layer y))

-- one layer of a pattern at a kind, and beside another
abbrev pub gives_at : P.Pattern-F Pattern → K.Kind-F Kind → Bool
gives_at x z = gives_step (map-Pattern Pattern (Kind → Bool) gives_kind x) z

pub gives-out : (p : Pattern) (k : Kind) → gives_kind p k ≡ gives_at (out-Pattern p) (out-Kind k)
gives-out p k =
    ap (λ f. f k) (fold_out-Pattern (Kind → Bool) (λ p kind. gives_step p (out-Kind kind)) p)

-- which kinds come of a pattern of each form
pub gives-Any : (k : Kind) → gives_kind Pattern.Any k ≡ true
gives-Any k = gives-out Pattern.Any k ∙ rw Pattern.outs-Any

pub gives-Int : (k : Kind) → gives_kind Pattern.Int k ≡ gives_step P.Int (out-Kind k)
gives-Int k = gives-out Pattern.Int k ∙ rw Pattern.outs-Int

pub gives-Text : (k : Kind) → gives_kind Pattern.Text k ≡ gives_step P.Text (out-Kind k)
gives-Text k = gives-out Pattern.Text k ∙ rw Pattern.outs-Text

pub gives-Tuple : (ps : List Pattern) (k : Kind) →
    gives_kind (Pattern.Tuple ps) k ≡ gives_step (P.Tuple (map gives_kind ps)) (out-Kind k)
gives-Tuple ps k = gives-out (Pattern.Tuple ps) k ∙ rw (Pattern.outs-Tuple ps)

pub gives-List : (p : Pattern) (k : Kind) →
    gives_kind (Pattern.List p) k ≡ gives_step (P.List (gives_kind p)) (out-Kind k)
gives-List p k = gives-out (Pattern.List p) k ∙ rw (Pattern.outs-List p)

pub gives-Net : (k : Kind) → gives_kind Pattern.Net k ≡ gives_step P.Net (out-Kind k)
gives-Net k = gives-out Pattern.Net k ∙ rw Pattern.outs-Net

abbrev share_at : P.Pattern-F Pattern → P.Pattern-F Pattern → Bool
share_at x y = share_step (map-Pattern Pattern (Pattern → Bool) share x) y

-- whether two patterns share a kind, by the layers of both
pub share-out : (p q : Pattern) → share p q ≡ share_at (out-Pattern p) (out-Pattern q)
share-out p q =
    ap (λ f. f q) (fold_out-Pattern (Pattern → Bool) (λ p q. share_step p (out-Pattern q)) p)

abbrev both_at : P.Pattern-F Pattern → P.Pattern-F Pattern → Pattern
both_at x y = both_step (map-Pattern Pattern (Pattern → Pattern) both_of x) y

pub both-out : (p q : Pattern) → both_of p q ≡ both_at (out-Pattern p) (out-Pattern q)
both-out p q =
    ap (λ f. f q) (fold_out-Pattern (Pattern → Pattern) (λ p q. both_step p (out-Pattern q)) p)

share_any_at : (x : P.Pattern-F Pattern) → share_at x P.Any ≡ true
share_any_at P.Any = refl
share_any_at P.Int = refl
share_any_at P.Text = refl
share_any_at (P.Tuple ps) = refl
share_any_at (P.List p) = refl
share_any_at P.Net = refl

share_any : (p : Pattern) → share p Pattern.Any ≡ true
share_any p =
    share-out p Pattern.Any ∙ ap (share_at (out-Pattern p)) Pattern.outs-Any
    ∙ share_any_at (out-Pattern p)

-- the kinds of what two patterns that share some have in common are kinds of both
abbrev Within : Pattern → Type 0
Within p = (q : Pattern) → share p q ≡ true → (k : Kind) → gives_kind (both_of p q) k ≡ true →
    (gives_kind p k ≡ true) × (gives_kind q k ≡ true)

any_within : Within Pattern.Any
any_within q e k g =
    let same : both_of Pattern.Any q ≡ q =
    both-out Pattern.Any q ∙ rw Pattern.outs-Any (roll-out-Pattern q) in
    (gives-Any k, sym (ap (λ p. gives_kind p k) same) ∙ g)

int_at : (y : P.Pattern-F Pattern) (z : K.Kind-F Kind) → share_step P.Int y ≡ true →
    gives_step P.Int z ≡ true → gives_at y z ≡ true
int_at P.Any z e g = refl
int_at P.Int z e g = g
int_at _ z e g = absurd (let no : ⊥ = cc in no)

int_within : Within Pattern.Int
int_within q e k g =
    let same : both_of Pattern.Int q ≡ Pattern.Int = both-out Pattern.Int q ∙ rw Pattern.outs-Int in
    let here = sym (ap (λ p. gives_kind p k) same) ∙ g in
    let shared : share_step P.Int (out-Pattern q) ≡ true =
    sym (share-out Pattern.Int q ∙ rw Pattern.outs-Int) ∙ e in (
      here,
      gives-out q k
          ∙ int_at (out-Pattern q) (out-Kind k) shared (sym (gives-Int k) ∙ here),
    )

text_at : (y : P.Pattern-F Pattern) (z : K.Kind-F Kind) → share_step P.Text y ≡ true →
    gives_step P.Text z ≡ true → gives_at y z ≡ true
text_at P.Any z e g = refl
text_at P.Text z e g = g
text_at _ z e g = absurd (let no : ⊥ = cc in no)

text_within : Within Pattern.Text
text_within q e k g =
    let same : both_of Pattern.Text q ≡ Pattern.Text =
    both-out Pattern.Text q ∙ rw Pattern.outs-Text in
    let here = sym (ap (λ p. gives_kind p k) same) ∙ g in
    let shared : share_step P.Text (out-Pattern q) ≡ true =
    sym (share-out Pattern.Text q ∙ rw Pattern.outs-Text) ∙ e in (
      here,
      gives-out q k
          ∙ text_at (out-Pattern q) (out-Kind k) shared (sym (gives-Text k) ∙ here),
    )

net_at : (y : P.Pattern-F Pattern) (z : K.Kind-F Kind) → share_step P.Net y ≡ true →
    gives_step P.Net z ≡ true → gives_at y z ≡ true
net_at P.Any z e g = refl
net_at P.Net z e g = g
net_at _ z e g = absurd (let no : ⊥ = cc in no)

net_within : Within Pattern.Net
net_within q e k g =
    let same : both_of Pattern.Net q ≡ Pattern.Net = both-out Pattern.Net q ∙ rw Pattern.outs-Net in
    let here = sym (ap (λ p. gives_kind p k) same) ∙ g in
    let shared : share_step P.Net (out-Pattern q) ≡ true =
    sym (share-out Pattern.Net q ∙ rw Pattern.outs-Net) ∙ e in (
      here,
      gives-out q k
          ∙ net_at (out-Pattern q) (out-Kind k) shared (sym (gives-Net k) ∙ here),
    )

-- the parts of two tuples
parts_within : (ps qs : List Pattern) (ks : List Kind) → AllByRecursion Within ps →
    all_share (map share ps) qs ≡ true →
    fit_all (map gives_kind (all_both (map both_of ps) qs)) ks ≡ true →
    (fit_all (map gives_kind ps) ks ≡ true) × (fit_all (map gives_kind qs) ks ≡ true)
parts_within [] [] ks all e g = (g, g)
parts_within [] (q ∷ qs) ks all e g = absurd (let no : ⊥ = cc in no)
parts_within (p ∷ ps) [] ks all e g = absurd (let no : ⊥ = cc in no)
parts_within (p ∷ ps) (q ∷ qs) [] all e g = absurd (let no : ⊥ = cc in no)
parts_within (p ∷ ps) (q ∷ qs) (k ∷ ks) (here, later) e g =
    let shares = both_true (share p q) (all_share (map share ps) qs) e in
    let fits = both_true (gives_kind (both_of p q) k)
    (fit_all (map gives_kind (all_both (map both_of ps) qs)) ks) g in
    let first = here q shares.0 k fits.0 in
    let others = parts_within ps qs ks later shares.1 fits.1 in (
      true_both (gives_kind p k) (fit_all (map gives_kind ps) ks) first.0 others.0,
      true_both (gives_kind q k) (fit_all (map gives_kind qs) ks) first.1 others.1,
    )

any_parts : (ps : List Pattern) (ks : List Kind) → AllByRecursion Within ps →
    fit_all (map gives_kind (map (λ both. both Pattern.Any) (map both_of ps))) ks ≡ true →
    fit_all (map gives_kind ps) ks ≡ true
any_parts [] ks all g = g
any_parts (p ∷ ps) [] all g = absurd (let no : ⊥ = cc in no)
any_parts (p ∷ ps) (k ∷ ks) (here, later) g =
    let fits = both_true (gives_kind (both_of p Pattern.Any) k)
    (fit_all (map gives_kind (map (λ both. both Pattern.Any) (map both_of ps))) ks) g in
    true_both (gives_kind p k) (fit_all (map gives_kind ps) ks)
    (here Pattern.Any (share_any p) k fits.0).0 (any_parts ps ks later fits.1)

tuples_at : (ps qs : List Pattern) (z : K.Kind-F Kind) → AllByRecursion Within ps →
    all_share (map share ps) qs ≡ true →
    gives_step (P.Tuple (map gives_kind (all_both (map both_of ps) qs))) z ≡ true →
    (gives_step (P.Tuple (map gives_kind ps)) z ≡ true)
    × (gives_step (P.Tuple (map gives_kind qs)) z ≡ true)
tuples_at ps qs (K.Tuple ks) all e g = parts_within ps qs ks all e g
tuples_at ps qs _ all e g = absurd (let no : ⊥ = cc in no)

any_tuple_at : (ps : List Pattern) (z : K.Kind-F Kind) → AllByRecursion Within ps →
    gives_step (P.Tuple (map gives_kind (map (λ both. both Pattern.Any) (map both_of ps)))) z
    ≡ true → gives_step (P.Tuple (map gives_kind ps)) z ≡ true
any_tuple_at ps (K.Tuple ks) all g = any_parts ps ks all g
any_tuple_at ps _ all g = absurd (let no : ⊥ = cc in no)

tuple_at : (ps : List Pattern) (y : P.Pattern-F Pattern) (k : Kind) → AllByRecursion Within ps →
    share_step (P.Tuple (map share ps)) y ≡ true →
    gives_kind (both_step (P.Tuple (map both_of ps)) y) k ≡ true →
    (gives_step (P.Tuple (map gives_kind ps)) (out-Kind k) ≡ true)
    × (gives_at y (out-Kind k) ≡ true)
tuple_at ps (P.Tuple qs) k all e g =
    tuples_at ps qs (out-Kind k) all e (sym (gives-Tuple (all_both (map both_of ps) qs) k) ∙ g)
tuple_at ps P.Any k all e g = (
  any_tuple_at ps (out-Kind k) all
      (sym (gives-Tuple (map (λ both. both Pattern.Any) (map both_of ps)) k) ∙ g),
  refl,
)
tuple_at ps P.Int k all e g = absurd (let no : ⊥ = cc in no)
tuple_at ps P.Text k all e g = absurd (let no : ⊥ = cc in no)
tuple_at ps (P.List q) k all e g = absurd (let no : ⊥ = cc in no)
tuple_at ps P.Net k all e g = absurd (let no : ⊥ = cc in no)

tuple_within : (ps : List Pattern) → AllByRecursion Within ps → Within (Pattern.Tuple ps)
tuple_within ps all q e k g =
    let shared : share_step (P.Tuple (map share ps)) (out-Pattern q) ≡ true =
    sym (share-out (Pattern.Tuple ps) q ∙ rw (Pattern.outs-Tuple ps)) ∙ e in
    let same : both_of (Pattern.Tuple ps) q
    ≡ both_step (P.Tuple (map both_of ps)) (out-Pattern q) =
    both-out (Pattern.Tuple ps) q ∙ rw (Pattern.outs-Tuple ps) in
    let both = tuple_at ps (out-Pattern q) k all shared (sym (ap (λ p. gives_kind p k) same) ∙ g) in
    (gives-Tuple ps k ∙ both.0, gives-out q k ∙ both.1)

lists_at : (p q : Pattern) (z : K.Kind-F Kind) → Within p → share p q ≡ true →
    gives_step (P.List (gives_kind (both_of p q))) z ≡ true →
    (gives_step (P.List (gives_kind p)) z ≡ true) × (gives_step (P.List (gives_kind q)) z ≡ true)
lists_at p q (K.List k) here e g = here q e k g
lists_at p q _ here e g = absurd (let no : ⊥ = cc in no)

list_at : (p : Pattern) (y : P.Pattern-F Pattern) (k : Kind) → Within p →
    share_step (P.List (share p)) y ≡ true →
    gives_kind (both_step (P.List (both_of p)) y) k ≡ true →
    (gives_step (P.List (gives_kind p)) (out-Kind k) ≡ true) × (gives_at y (out-Kind k) ≡ true)
list_at p (P.List q) k here e g =
    lists_at p q (out-Kind k) here e (sym (gives-List (both_of p q) k) ∙ g)
list_at p P.Any k here e g = (
  (lists_at p Pattern.Any (out-Kind k) here (share_any p)
      (sym (gives-List (both_of p Pattern.Any) k) ∙ g)).0,
  refl,
)
list_at p P.Int k here e g = absurd (let no : ⊥ = cc in no)
list_at p P.Text k here e g = absurd (let no : ⊥ = cc in no)
list_at p (P.Tuple qs) k here e g = absurd (let no : ⊥ = cc in no)
list_at p P.Net k here e g = absurd (let no : ⊥ = cc in no)

list_within : (p : Pattern) → Within p → Within (Pattern.List p)
list_within p here q e k g =
    let shared : share_step (P.List (share p)) (out-Pattern q) ≡ true =
    sym (share-out (Pattern.List p) q ∙ rw (Pattern.outs-List p)) ∙ e in
    let same : both_of (Pattern.List p) q ≡ both_step (P.List (both_of p)) (out-Pattern q) =
    both-out (Pattern.List p) q ∙ rw (Pattern.outs-List p) in
    let both = list_at p (out-Pattern q) k here shared (sym (ap (λ p. gives_kind p k) same) ∙ g) in
    (gives-List p k ∙ both.0, gives-out q k ∙ both.1)

-- what comes of what two patterns that share a kind have in common comes of both
pub both_gives : (p : Pattern) → Within p
both_gives = by_pattern Within (record {
  any = any_within;
  int = int_within;
  text = text_within;
  tuple = tuple_within;
  list = list_within;
  net = net_within;
})

-- of each pattern comes some kind
abbrev GivesSome : Pattern → Type 0
GivesSome p = (k : Kind) × (gives_kind p k ≡ true)

some_of_each : (ps : List Pattern) → AllByRecursion GivesSome ps →
    (ks : List Kind) × (fit_all (map gives_kind ps) ks ≡ true)
some_of_each [] all = ([], refl)
some_of_each (p ∷ ps) (here, later) =
    let others = some_of_each ps later in (
      here.0 ∷ others.0,
      true_both (gives_kind p here.0) (fit_all (map gives_kind ps) others.0) here.1 others.1,
    )

some_tuple : (ps : List Pattern) → AllByRecursion GivesSome ps → GivesSome (Pattern.Tuple ps)
some_tuple ps all =
    let found = some_of_each ps all in (
      Kind.Tuple found.0,
      gives-Tuple ps (Kind.Tuple found.0)
          ∙ ap (gives_step (P.Tuple (map gives_kind ps))) (Kind.outs-Tuple found.0) ∙ found.1,
    )

some_list : (p : Pattern) → GivesSome p → GivesSome (Pattern.List p)
some_list p (k, is) = (
  Kind.List k,
  gives-List p (Kind.List k) ∙ ap (gives_step (P.List (gives_kind p))) (Kind.outs-List k) ∙ is,
)

-- some kind comes of each pattern
pub gives_some : (p : Pattern) → GivesSome p
gives_some = by_pattern GivesSome (record {
  any = (Kind.Int, gives-Any Kind.Int);
  int = (Kind.Int, gives-Int Kind.Int ∙ ap (gives_step P.Int) Kind.outs-Int);
  text = (Kind.Text, gives-Text Kind.Text ∙ ap (gives_step P.Text) Kind.outs-Text);
  tuple = some_tuple;
  list = some_list;
  net = (Kind.Net, gives-Net Kind.Net ∙ ap (gives_step P.Net) Kind.outs-Net);
})

-- two patterns that share some kind share one that comes of both
pub share_gives : (p q : Pattern) → share p q ≡ true →
    (k : Kind) × (gives_kind p k ≡ true) × (gives_kind q k ≡ true)
share_gives p q e =
    let found = gives_some (both_of p q) in
    let both = both_gives p q e found.0 found.1 in
    (found.0, both.0, both.1)
