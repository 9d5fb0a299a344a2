-- What a token does to the levels of a text, where brackets alone are counted.
use Rattle.std.proofs.Common.{◌≡◌, ℕ, suc, ◌+◌, ◌-◌, ◌≤◌, Bool, true, false, not, ◌&&◌, ◌||◌, List}
use Rattle.std.proofs.Common.{[], ◌∷◌}
use Rattle.std.proofs.Common.{length, drop, refl, sym, ap, ◌∙◌, subst, arith, nat_eq, nat_le}
use Rattle.std.specs.Prelude.{Some, if◌then◌else◌}
use Rattle.std.specs.List.{AllByRecursion}
use Rattle.std.proofs.lemmas.Bool.Decides.{nat_tests}
use Rattle.std.proofs.lemmas.Grind.{common_steps}
use Rattle.std.proofs.Math.Bool.{and-false}
use Rattle.rn_value.specs.Words.{IsName}
use Rattle.rn_model.specs.declared.expr.OpKind.{OpKind}
use Rattle.rn_model.specs.declared.expr.CompareKind.{CompareKind}
use Rattle.rn_notation.specs.declared.token.Token.{Token}
use Rattle.rn_notation.specs.declared.token.TokenKind.{TokenKind}
use Rattle.rn_notation.specs.declared.token.TokenKind.TheVariants.{Name, Word, Number, Text, Sign}
use Rattle.rn_inscript.specs.Signs.{plus_of, times_of, compare_of}
use Rattle.rn_inscript.specs.Levels.{Level, Count, at_first, opens, closes}
use Rattle.rn_inscript.specs.Levels.Level.{bracket, negative}
use Rattle.rn_inscript.specs.Levels.{without_minuses, levels_at, levels_after, after_token}
use Rattle.rn_inscript.specs.Levels.{goes_too_far, is_paren, is_minus, is_operator}
use Rattle.rn_net.specs.Words.{semicolon}
use Rattle.rn_net.specs.Levels.{Region}
use Rattle.rn_net.specs.Levels.Region.{between, declaring, inscribing}
use Rattle.rn_net.specs.Levels.{begun_by, after, inscribed_by, inscribed_from, open_after}
use Rattle.rn_net.specs.Levels.{is_too_deep, is_semicolon, is_comma, IsShallow}
use Rattle.rn_items.proofs.Bools.{and_right}

-- each name among these tokens is an identifier and no reserved word
abbrev pub IsNamed : TokenKind → Type 0
IsNamed (Name s) = IsName s
IsNamed _ = Unit {0}

abbrev pub AllNamed : List Token → Type 0
AllNamed = AllByRecursion (λ t. IsNamed t.kind)

-- the name that a token is
pub named : {k : TokenKind} {s : List ℕ} → k ≡ Name s → IsNamed k → IsName s
named e h = subst IsNamed e h

-- how many brackets are open
abbrev pub brackets : List Level → ℕ
brackets [] = 0
brackets (bracket ∷ levels) = suc (brackets levels)
brackets (negative ∷ levels) = brackets levels

minuses_count : (levels : List Level) → brackets (without_minuses levels) ≡ brackets levels
minuses_count [] = refl
minuses_count (bracket ∷ levels) = refl
minuses_count (negative ∷ levels) = minuses_count levels

few_brackets : (levels : List Level) → brackets levels ≤ length levels
few_brackets [] = omega arith
few_brackets (bracket ∷ levels) = omega (arith, few_brackets levels)
few_brackets (negative ∷ levels) = omega (arith, few_brackets levels)

drop_one : (levels : List Level) → brackets levels ≤ suc (brackets (drop 1 levels))
drop_one [] = omega arith
drop_one (bracket ∷ levels) = omega arith
drop_one (negative ∷ levels) = omega arith

chosen : (b : Bool) (levels : List Level) →
    brackets (if b then without_minuses levels else levels) ≡ brackets levels
chosen true levels = minuses_count levels
chosen false levels = refl

brackets_at : (c : Count) (k : TokenKind) → brackets (levels_at c k) ≡ brackets c.levels
brackets_at c k = chosen (c.ended && not (is_paren k)) c.levels

-- what opens, what closes, and what does neither
pub record IsOpening (k : TokenKind) : Type 0 where
  pub opens_one : opens k ≡ true
  pub goes_on : is_semicolon k ≡ false

pub record IsClosing (k : TokenKind) : Type 0 where
  pub opens_none : opens k ≡ false
  pub closes_one : closes k ≡ true
  pub goes_on : is_semicolon k ≡ false

pub record IsNeither (k : TokenKind) : Type 0 where
  pub opens_none : opens k ≡ false
  pub closes_none : closes k ≡ false
  pub goes_on : is_semicolon k ≡ false

pub opening : {k : TokenKind} → opens k ≡ true → is_semicolon k ≡ false → IsOpening k
opening a b = record { opens_one = a; goes_on = b }

pub closing : {k : TokenKind} → opens k ≡ false → closes k ≡ true → is_semicolon k ≡ false →
    IsClosing k
closing a b c = record { opens_none = a; closes_one = b; goes_on = c }

pub neither : {k : TokenKind} → opens k ≡ false → closes k ≡ false → is_semicolon k ≡ false →
    IsNeither k
neither a b c = record { opens_none = a; closes_none = b; goes_on = c }

-- a token that begins an inscription where it is the first one
pub record Begins (k : TokenKind) : Type 0 where
  pub starts : begun_by k ≡ inscribed_from k
  pub goes_on : is_semicolon k ≡ false
  pub no_comma : is_comma k ≡ false

pub neither_sign : (k : ℕ) → 10 ≤ k → IsNeither (Sign k)
neither_sign k h = record {
  opens_none = grind (arith, nat_tests);
  closes_none = grind (arith, nat_tests);
  goes_on = grind (arith, nat_tests);
}

pub plus_neither : (k : TokenKind) (op : OpKind) → plus_of k ≡ Some op → IsNeither k
plus_neither (Sign k) op h = neither_sign k (grind (arith, nat_tests, common_steps))
plus_neither (Name s) op h = cc
plus_neither (Number n) op h = cc
plus_neither (Text s) op h = cc
plus_neither (Word k) op h = cc

pub times_neither : (k : TokenKind) (op : OpKind) → times_of k ≡ Some op → IsNeither k
times_neither (Sign k) op h = neither_sign k (grind (arith, nat_tests, common_steps))
times_neither (Name s) op h = cc
times_neither (Number n) op h = cc
times_neither (Text s) op h = cc
times_neither (Word k) op h = cc

pub compare_neither : (k : TokenKind) (kind : CompareKind) → compare_of k ≡ Some kind →
    IsNeither k
compare_neither (Sign k) kind h = neither_sign k (grind (arith, nat_tests, common_steps))
compare_neither (Name s) kind h = cc
compare_neither (Number n) kind h = cc
compare_neither (Text s) kind h = cc
compare_neither (Word k) kind h = cc

-- In a declaration so many brackets are open, and none of the tokens goes too deep.
pub record Declared (n : ℕ) (ts : List Token) : Type 0 where
  pub few : n ≤ 64
  pub shallow : IsShallow (declaring n) ts
  pub names : AllNamed ts

-- what is said of the first token and of those after it
pub first : (r : Region) (t : Token) (ts : List Token) {k : TokenKind} → t.kind ≡ k →
    IsShallow r (t ∷ ts) → (is_too_deep r k ≡ false) × IsShallow (after r k) ts
first r t ts e h = subst (λ k. (is_too_deep r k ≡ false) × IsShallow (after r k) ts) e h

not_deep : (n : ℕ) → nat_le 64 n ≡ false → n + 1 ≤ 64
not_deep n h = grind (arith, nat_tests)

pub declared_open : {n : ℕ} {t : Token} {ts : List Token} {k : TokenKind} → IsOpening k →
    t.kind ≡ k → Declared n (t ∷ ts) → Declared (n + 1) ts
declared_open {n = n} {t = t} {ts = ts} {k = k} o e d =
    let f = first (declaring n) t ts e d.shallow in
    let e : is_too_deep (declaring n) k ≡ nat_le 64 n = rw o.opens_one in
    let deep : nat_le 64 n ≡ false = sym e ∙ f.0 in
    let next : after (declaring n) k ≡ declaring (n + 1) = rw (o.goes_on, o.opens_one) in
    record {
      few = not_deep n deep;
      shallow = subst (λ r. IsShallow r ts) next f.1;
      names = d.names.1;
    }

pub declared_close : {n : ℕ} {t : Token} {ts : List Token} {k : TokenKind} → IsClosing k →
    t.kind ≡ k → Declared (n + 1) (t ∷ ts) → Declared n ts
declared_close {n = n} {t = t} {ts = ts} {k = k} o e d =
    let f = first (declaring (n + 1)) t ts e d.shallow in
    let one : (n + 1) - 1 ≡ n = omega arith in
    let next : after (declaring (n + 1)) k ≡ declaring n =
    rw (o.goes_on, o.opens_none, o.closes_one, one) in
    record {
      few = omega (arith, d.few);
      shallow = subst (λ r. IsShallow r ts) next f.1;
      names = d.names.1;
    }

pub declared_on : {n : ℕ} {t : Token} {ts : List Token} {k : TokenKind} → IsNeither k →
    t.kind ≡ k → Declared n (t ∷ ts) → Declared n ts
declared_on {n = n} {t = t} {ts = ts} {k = k} o e d =
    let f = first (declaring n) t ts e d.shallow in
    let next : after (declaring n) k ≡ declaring n =
    rw (o.goes_on, o.opens_none, o.closes_none) in
    record {
      few = d.few;
      shallow = subst (λ r. IsShallow r ts) next f.1;
      names = d.names.1;
    }

-- In an inscription at least so many brackets are open, and none of the tokens goes too far.
pub record Inscribed (n : ℕ) (ts : List Token) : Type 0 where
  pub depth : ℕ
  pub count : Count
  pub inside : n ≤ depth
  pub around : n ≤ brackets count.levels
  pub few : n ≤ 64
  pub shallow : IsShallow (inscribing depth count) ts
  pub names : AllNamed ts

opened : (c : Count) (k : TokenKind) → IsOpening k →
    brackets (levels_after c k) ≡ suc (brackets c.levels)
opened c k o =
    let e : brackets (levels_after c k) ≡ suc (brackets (levels_at c k)) = rw o.opens_one in
    e ∙ ap suc (brackets_at c k)

closed : (c : Count) (k : TokenKind) → IsClosing k →
    brackets c.levels ≤ suc (brackets (levels_after c k))
closed c k o =
    let e : brackets (levels_after c k) ≡ brackets (drop 1 (levels_at c k)) =
    rw (o.opens_none, o.closes_one) in
    omega (arith, e, brackets_at c k, drop_one (levels_at c k))

added : (b : Bool) (levels : List Level) →
    brackets (if b then negative ∷ levels else levels) ≡ brackets levels
added true levels = refl
added false levels = refl

stayed : (c : Count) (k : TokenKind) → IsNeither k →
    brackets (levels_after c k) ≡ brackets c.levels
stayed c k o =
    let e : brackets (levels_after c k) ≡
    brackets (if is_minus k && not c.ended then negative ∷ levels_at c k else levels_at c k) =
    rw (o.opens_none, o.closes_none) in
    e ∙ added (is_minus k && not c.ended) (levels_at c k) ∙ brackets_at c k

first_false : (b c : Bool) → (b || c) ≡ false → b ≡ false
first_false true c h = h
first_false false c h = refl

room_left : (c : Count) (k : TokenKind) → IsOpening k → goes_too_far c k ≡ false →
    brackets c.levels + 1 ≤ 64
room_left c k o h =
    let e : goes_too_far c k
    ≡ (nat_le 64 (length (levels_at c k)) || (is_operator k && nat_le 256 c.operators)) =
    rw o.opens_one in
    let small = not_deep (length (levels_at c k))
    (first_false (nat_le 64 (length (levels_at c k)))
    (is_operator k && nat_le 256 c.operators) (sym e ∙ h)) in
    omega (arith, small, few_brackets (levels_at c k), brackets_at c k)

-- no comma opens or closes
open_no_comma : (k : TokenKind) → opens k ≡ true → is_comma k ≡ false
open_no_comma (Sign k) h = grind (arith, nat_tests)
open_no_comma (Name s) h = refl
open_no_comma (Number n) h = refl
open_no_comma (Text s) h = refl
open_no_comma (Word k) h = refl

close_no_comma : (k : TokenKind) → closes k ≡ true → is_comma k ≡ false
close_no_comma (Sign k) h = grind (arith, nat_tests)
close_no_comma (Name s) h = refl
close_no_comma (Number n) h = refl
close_no_comma (Text s) h = refl
close_no_comma (Word k) h = refl

next_region : (m : ℕ) (c : Count) (k : TokenKind) → is_semicolon k ≡ false → is_comma k ≡ false →
    after (inscribing m c) k ≡ inscribing (open_after m k) (after_token c k)
next_region m c k h none = rw (h, none)

pub inscribed_open : {n : ℕ} {t : Token} {ts : List Token} {k : TokenKind} → IsOpening k →
    t.kind ≡ k → Inscribed n (t ∷ ts) → Inscribed (n + 1) ts
inscribed_open {t = t} {ts = ts} {k = k} o e d =
    let f = first (inscribing d.depth d.count) t ts e d.shallow in
    let deeper : open_after d.depth k ≡ d.depth + 1 = rw o.opens_one in
    record {
      depth = open_after d.depth k;
      count = after_token d.count k;
      inside = omega (arith, deeper, d.inside);
      around = omega (arith, opened d.count k o, d.around);
      few = omega (arith, room_left d.count k o f.0, d.around);
      shallow = subst (λ r. IsShallow r ts)
          (next_region d.depth d.count k o.goes_on (open_no_comma k o.opens_one)) f.1;
      names = d.names.1;
    }

pub inscribed_close : {n : ℕ} {t : Token} {ts : List Token} {k : TokenKind} → IsClosing k →
    t.kind ≡ k → Inscribed (n + 1) (t ∷ ts) → Inscribed n ts
inscribed_close {t = t} {ts = ts} {k = k} o e d =
    let f = first (inscribing d.depth d.count) t ts e d.shallow in
    let less : open_after d.depth k ≡ d.depth - 1 = rw (o.opens_none, o.closes_one) in
    record {
      depth = open_after d.depth k;
      count = after_token d.count k;
      inside = omega (arith, less, d.inside);
      around = omega (arith, closed d.count k o, d.around);
      few = omega (arith, d.few);
      shallow = subst (λ r. IsShallow r ts)
          (next_region d.depth d.count k o.goes_on (close_no_comma k o.closes_one)) f.1;
      names = d.names.1;
    }

none_open : (m : ℕ) → nat_eq m 0 ≡ true → m ≡ 0
none_open m h = grind (arith, nat_tests)

-- a comma outside of all brackets begins anew, and all else goes on
goes_on_from : (m : ℕ) (c : Count) {n : ℕ} {k : TokenKind} {ts : List Token} → IsNeither k → n ≤ m →
    n ≤ brackets c.levels → n ≤ 64 → IsShallow (inscribed_by m c k) ts → AllNamed ts →
    (anew : Bool) → (is_comma k && nat_eq m 0) ≡ anew → Inscribed n ts
goes_on_from m c {n = n} {k = k} {ts = ts} o inside around few shallow names true is =
    let none = none_open m (and_right (is_comma k) (nat_eq m 0) is) in
    let next : inscribed_by m c k ≡ inscribing 0 at_first = rw (o.goes_on, is) in
    record {
      depth = 0;
      count = at_first;
      inside = omega (arith, inside, none);
      around = omega (arith, inside, none);
      few = few;
      shallow = subst (λ r. IsShallow r ts) next shallow;
      names = names;
    }
goes_on_from m c {n = n} {k = k} {ts = ts} o inside around few shallow names false is =
    let next : inscribed_by m c k ≡ inscribing (open_after m k) (after_token c k) =
    rw (o.goes_on, is) in
    let same : open_after m k ≡ m = rw (o.opens_none, o.closes_none) in
    record {
      depth = open_after m k;
      count = after_token c k;
      inside = omega (arith, same, inside);
      around = omega (arith, stayed c k o, around);
      few = few;
      shallow = subst (λ r. IsShallow r ts) next shallow;
      names = names;
    }

pub inscribed_on : {n : ℕ} {t : Token} {ts : List Token} {k : TokenKind} → IsNeither k →
    t.kind ≡ k → Inscribed n (t ∷ ts) → Inscribed n ts
inscribed_on {t = t} {ts = ts} {k = k} o e d =
    let f = first (inscribing d.depth d.count) t ts e d.shallow in
    goes_on_from d.depth d.count o d.inside d.around d.few f.1 d.names.1 (is_comma k && nat_eq d.depth 0) refl

at_first_near : (k : TokenKind) → goes_too_far at_first k ≡ false
at_first_near k =
    let one = and-false (opens k || (is_minus k && true)) in
    let two = and-false (is_operator k) in
    rw (one, two)

-- an inscription's first token, where a statement may begin
pub inscribed_first : {t : Token} {ts : List Token} → Begins t.kind →
    IsShallow between (t ∷ ts) → AllNamed (t ∷ ts) → Inscribed 0 (t ∷ ts)
inscribed_first {t = t} {ts = ts} o h names = record {
  depth = 0;
  count = at_first;
  inside = omega arith;
  around = omega arith;
  few = omega arith;
  shallow = (
    at_first_near t.kind,
    subst (λ r. IsShallow r ts)
        (o.starts ∙ sym (next_region 0 at_first t.kind o.goes_on o.no_comma)) h.1,
  );
  names = names;
}

-- the semicolon after an inscription
pub inscribed_end : {n : ℕ} {t : Token} {ts : List Token} → t.kind ≡ semicolon →
    Inscribed n (t ∷ ts) → IsShallow between ts × AllNamed ts
inscribed_end {t = t} {ts = ts} e d =
    ((first (inscribing d.depth d.count) t ts e d.shallow).1, d.names.1)

-- the semicolon after a declaration
pub declared_end : {n : ℕ} {t : Token} {ts : List Token} → t.kind ≡ semicolon →
    Declared n (t ∷ ts) → IsShallow between ts × AllNamed ts
declared_end {n = n} {t = t} {ts = ts} e d = ((first (declaring n) t ts e d.shallow).1, d.names.1)
