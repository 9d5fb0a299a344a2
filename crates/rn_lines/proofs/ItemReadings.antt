-- Reading of the items of a mark, in both directions.
use Rattle.std.proofs.Common.{◌≡◌, ◌<◌, ◌≤◌, ◌+◌, ◌-◌, ℕ, zero, suc, List, [], ◌∷◌, ◌++◌, length, Bool, true, false, cond, nat_eq, refl, sym, ap, ◌∙◌, subst, arith, append_assoc, length-append}
use Rattle.std.specs.Prelude.{Option, Some, None}
use Rattle.std.proofs.lemmas.Bool.Decides.{nat_tests}
use Rattle.std.proofs.lemmas.Option.{same_Some, cond_some}
use borrow.Author.Tests.{eqb-true}
use Rattle.rn_value.specs.Characters.{is_digit, is_name_byte}
use Rattle.rn_value.specs.Grammar.{IsNumeral}
use Rattle.rn_value.proofs.Numerals.{IsNumeral-first}
use Rattle.rn_value.proofs.Spans.{Stops}
use Rattle.rn_lines.specs.ValueText.{Seen, IsValue, most_brackets}
use Rattle.rn_lines.specs.LineText.{Held, IsCount, AreItems}
use Rattle.rn_lines.specs.Reading.{◌>>=◌, Misses, byte_at, front_at}
use Rattle.rn_lines.specs.LineReading.{is_several, step_at, several_at, count_at, item_at, items_at}
use Rattle.rn_lines.specs.declared.unread.Unread.{Unread}
use Rattle.rn_lines.specs.declared.unread.Unread.TheVariants as unread
use Rattle.rn_lines.proofs.NumeralReading.{bind_some, step_reads, step_read}
use Rattle.rn_lines.proofs.InstanceReading.{byte_reads, byte_read}
use Rattle.rn_lines.proofs.Beginnings.{front_reads, front_read}

-- numerals of numbers from 2 on
long : (c : ℕ) (rest : List ℕ) (d : ℕ) → is_several (c ∷ (rest ++ d ∷ [])) ≡ true
long c [] d = refl
long c (x ∷ rest) d = refl

longer : {n : ℕ} {a : List ℕ} → IsNumeral n a → (d : ℕ) → is_several (a ++ d ∷ []) ≡ true
longer p d =
    let f = IsNumeral-first p in
    subst (λ a. is_several (a ++ d ∷ []) ≡ true) (sym f.2) (long f.0 f.1 d)

several : {n : ℕ} {a : List ℕ} → IsNumeral n a → 2 ≤ n → is_several a ≡ true
several (IsNumeral.digit {d = d} small) low = grind (arith, nat_tests)
several (IsNumeral.more {d = d} some p small) low = longer p (48 + d)

is_from_two : {n : ℕ} {a : List ℕ} → IsNumeral n a → is_several a ≡ true → 2 ≤ n
is_from_two (IsNumeral.digit {d = d} small) e = grind (arith, nat_tests)
is_from_two (IsNumeral.more {n = n} {d = d} some p small) e = omega arith

-- Counts.
abbrev pub is_star : ℕ → Bool
is_star c = nat_eq c 42

abbrev those : List ℕ × List ℕ → Option (List ℕ × List ℕ)
those n = cond (is_several n.0) (Some n) None

count_reads : {times count : List ℕ} → IsCount times count → (rest : List ℕ) → Stops is_star rest → Stops is_digit rest → count_at (count ++ rest) ≡ Some (times, rest)
count_reads IsCount.once [] star digits = refl
count_reads IsCount.once (c ∷ rest) star digits =
    let none : List ℕ × List ℕ = ([], c ∷ rest) in
    ap (λ t. cond t (several_at rest) (Some none)) star
count_reads (IsCount.often {times = times} low p) rest star digits =
    let read : List ℕ × List ℕ = (times, rest) in
    ap (λ o. o >>= those) (step_reads p rest digits) ∙ ap (λ t. cond t (Some read) None) (several p low)

record CountAt (bytes : List ℕ) (x : List ℕ × List ℕ) : Type 0 where
  text : List ℕ
  whole : bytes ≡ text ++ x.1
  stands : IsCount x.0 text

count_read : (bytes : List ℕ) (x : List ℕ × List ℕ) → count_at bytes ≡ Some x → CountAt bytes x
count_read [] x e = subst (CountAt []) (same_Some ([], []) x e) (record { text = []; whole = refl; stands = IsCount.once })
count_read (c ∷ bytes) x e = by (nat_eq c 42) refl e
  where
    none : List ℕ × List ℕ
    none = ([], c ∷ bytes)

    by : (t : Bool) → nat_eq c 42 ≡ t → cond t (several_at bytes) (Some none) ≡ Some x → CountAt (c ∷ bytes) x
    by true is e =
        let n = bind_some (step_at bytes) those x e in
        let tests = cond_some (is_several n.0.0) n.0 x n.2 in
        let here = step_read bytes n.0 n.1 in
        let star : c ≡ 42 = eqb-true c 42 is in
        subst (CountAt (c ∷ bytes)) tests.1
        (record { text = 42 ∷ n.0.0; whole = (λ i. star i ∷ here.0 i); stands = IsCount.often (is_from_two here.1 tests.0) here.1 })
    by false is e = subst (CountAt (c ∷ bytes)) (same_Some none x e) (record { text = []; whole = refl; stands = IsCount.once })

-- Items.
abbrev as_item : Seen → List ℕ × List ℕ → Option (Held × List ℕ)
as_item v n = Some (record { token = record { value = v.value; named = v.named }; times = n.0 }, n.1)

abbrev after_value : Seen → Option (Held × List ℕ)
after_value v = count_at v.rest >>= as_item v

abbrev one_more : Held → List Held → Option (List Held)
one_more h hs = Some (h ∷ hs)

-- what follows an item is the end or a space
pub record Delimits (a : List ℕ) : Type 0 where
  pub star : Stops is_star a
  pub digit : Stops is_digit a
  pub name : Stops is_name_byte a

pub item_delimits : {hs : List Held} {a : List ℕ} → AreItems hs a → Delimits a
item_delimits AreItems.none = record { star = tt; digit = tt; name = tt }
item_delimits (AreItems.some t c others) = record { star = refl; digit = refl; name = refl }

count_stops : {times count : List ℕ} → IsCount times count → (rest : List ℕ) → Stops is_digit rest → Stops is_digit (count ++ rest)
count_stops IsCount.once rest stops = stops
count_stops (IsCount.often low p) rest stops = refl

pub items_length : {hs : List Held} {a : List ℕ} → AreItems hs a → length hs ≤ length a
items_length AreItems.none = omega arith
items_length (AreItems.some {text = text} {count = count} {rest = rest} t c others) =
    let h = items_length others in
    let size = length-append text (count ++ rest) in
    let more = length-append count rest in
    omega (arith, h, size, more)

item_reads : (h : Held) (text count rest : List ℕ) → IsValue most_brackets h.token.value h.token.named text → IsCount h.times count → Delimits rest →
    item_at (32 ∷ (text ++ (count ++ rest))) ≡ Some (h, rest)
item_reads h text count rest stands counts d =
    let v : Seen = record { value = h.token.value; named = h.token.named; rest = count ++ rest } in
    ap (λ o. o >>= λ text. front_at text >>= after_value) (byte_reads 32 (text ++ (count ++ rest)))
    ∙ ap (λ o. o >>= after_value) (front_reads h.token.value h.token.named text (count ++ rest) stands (count_stops counts rest d.digit))
    ∙ ap (λ o. o >>= as_item v) (count_reads counts rest d.star d.digit)

record ItemAt (bytes : List ℕ) (x : Held × List ℕ) : Type 0 where
  text : List ℕ
  count : List ℕ
  whole : bytes ≡ 32 ∷ (text ++ (count ++ x.1))
  stands : IsValue most_brackets x.0.token.value x.0.token.named text
  counts : IsCount x.0.times count

item_read : (bytes : List ℕ) (x : Held × List ℕ) → item_at bytes ≡ Some x → ItemAt bytes x
item_read bytes x e =
    let space = bind_some (byte_at 32 bytes) (λ text. front_at text >>= after_value) x e in
    let v = bind_some (front_at space.0) after_value x space.2 in
    let n = bind_some (count_at v.0.rest) (as_item v.0) x v.2 in
    let here = front_read space.0 v.0 v.1 in
    let more = count_read v.0.rest n.0 n.1 in
    subst (ItemAt bytes) (same_Some (record { token = record { value = v.0.value; named = v.0.named }; times = n.0.0 }, n.0.1) x n.2)
    (record {
      text = here.text;
      count = more.text;
      whole = byte_read 32 bytes space.0 space.1 ∙ ap (λ b. 32 ∷ b) (here.whole ∙ ap (λ b. here.text ++ b) more.whole);
      stands = here.stands;
      counts = more.stands;
    })

pub items_reads : {hs : List Held} {a : List ℕ} → AreItems hs a → (most : ℕ) → length hs ≤ most → items_at most a ≡ Some hs
items_reads AreItems.none zero few = refl
items_reads AreItems.none (suc most) few = refl
items_reads (AreItems.some t c others) zero few = absurd (omega arith)
items_reads (AreItems.some {text = text} {count = count} {rest = rest} {times = times} {v = v} {named = named} t c others) (suc most) few =
    let first : Held = record { token = record { value = v; named = named }; times = times } in
    ap (λ o. o >>= λ h. items_at most h.1 >>= one_more h.0) (item_reads first text count rest t c (item_delimits others))
    ∙ ap (λ o. o >>= one_more first) (items_reads others most (omega arith))

pub items_read : (most : ℕ) (bytes : List ℕ) (hs : List Held) → items_at most bytes ≡ Some hs → AreItems hs bytes
items_read zero [] hs e = subst (λ hs. AreItems hs []) (same_Some [] hs e) AreItems.none
items_read zero (c ∷ bytes) hs e = cc
items_read (suc most) [] hs e = subst (λ hs. AreItems hs []) (same_Some [] hs e) AreItems.none
items_read (suc most) (c ∷ bytes) hs e =
    let h = bind_some (item_at (c ∷ bytes)) (λ h. items_at most h.1 >>= one_more h.0) hs e in
    let more = bind_some (items_at most h.0.1) (one_more h.0.0) hs h.2 in
    let here = item_read (c ∷ bytes) h.0 h.1 in
    let others = items_read most h.0.1 more.0 more.1 in
    subst (λ hs. AreItems hs (c ∷ bytes)) (same_Some (h.0.0 ∷ more.0) hs more.2)
    (subst (AreItems (h.0.0 ∷ more.0)) (sym here.whole) (AreItems.some here.stands here.counts others))

-- Items are read one after the other, as by a loop.
abbrev pub with_items : List Held → Option (List Held) → Option (List Held)
with_items front read = read >>= λ hs. Some (front ++ hs)

regroup : (front : List Held) (h : Held) (read : Option (List Held)) → with_items front (read >>= one_more h) ≡ with_items (front ++ h ∷ []) read
regroup front h None = refl
regroup front h (Some hs) = ap (λ (hs : List Held). Some hs) (sym (append_assoc front (h ∷ []) hs))

step : (most i : ℕ) (rest : List ℕ) → i < most → 0 < length rest → items_at (most - i) rest ≡ (item_at rest >>= λ h. items_at (most - (i + 1)) h.1 >>= one_more h.0)
step most i [] low some = absurd (omega arith)
step most i (c ∷ rest) low some =
    let k : most - i ≡ suc (most - (i + 1)) = omega arith in
    ap (λ k. items_at k (c ∷ rest)) k

pub item_on : (most i : ℕ) (rest next : List ℕ) (h : Held) (front new : List Held) (whole : Option (List Held)) → i < most → 0 < length rest → item_at rest ≡ Some (h, next) → new ≡ front ++ h ∷ [] →
    with_items front (items_at (most - i) rest) ≡ whole → with_items new (items_at (most - (i + 1)) next) ≡ whole
item_on most i rest next h front new whole low some read put so_far =
    ap (λ front. with_items front (items_at (most - (i + 1)) next)) put
    ∙ sym (regroup front h (items_at (most - (i + 1)) next))
    ∙ ap (λ o. with_items front (o >>= λ h. items_at (most - (i + 1)) h.1 >>= one_more h.0)) (sym read)
    ∙ ap (with_items front) (sym (step most i rest low some))
    ∙ so_far

pub item_ends : (e : Unread) (most i : ℕ) (rest : List ℕ) (front : List Held) (whole : Option (List Held)) → i < most → 0 < length rest → Misses e (item_at rest) →
    with_items front (items_at (most - i) rest) ≡ whole → Misses e whole
item_ends (unread.NoMemory _) most i rest front whole low some none so_far = tt
item_ends unread.NotThere most i rest front whole low some none so_far =
    sym so_far
    ∙ ap (with_items front) (step most i rest low some)
    ∙ ap (λ o. with_items front (o >>= λ h. items_at (most - (i + 1)) h.1 >>= one_more h.0)) none
