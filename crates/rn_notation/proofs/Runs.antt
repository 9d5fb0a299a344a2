-- Runs of characters that stand for themselves, and what goes on with items one after another.
use Rattle.rn_notation.proofs.Names.{◌≡◌, ◌<◌, ◌≤◌, ◌-◌, ℕ, suc, List, [], ◌∷◌, ◌++◌, length, take, drop, map, true, false, refl, sym, ap, ◌∙◌, subst, arith, append_assoc, Option, Some, None, encode_utf8, encode_utf8_all, slice_index, IsUtf8, AllByRecursion, flat_map, nat_tests, get_or_append_left, append-nil, length-append, take_at, take-append-drop, flat_map-map, both_true, itself, IsPart, is_special, IsFault, GoesOn, IsRun, Found, fault, IsSpelledBy, Cuts, Cause, scalar, scalars}
use Rattle.std.proofs.lemmas.List.Concat.{flat_map-append}
use Rattle.std.specs.Option.{unwrap_or}
use Rattle.memchr.specs.Find.{Nowhere, IsFirst, Passes, is_byte3}
use Rattle.rn_notation.proofs.Characters.{some_bytes}
use Rattle.rn_notation.proofs.Parts.{plain_char}

pub all_more : {X : Type 0} (P : X → Type 0) (xs ys : List X) → AllByRecursion P xs → AllByRecursion P ys → AllByRecursion P (xs ++ ys)
all_more P [] ys all more = more
all_more P (x ∷ xs) ys all more = (all.0, all_more P xs ys all.1 more)

-- first these items, then those
pub goes_on : {X : Type 0} {P : X → Type 0} {s m : X → List ℕ} {text before rest more after longer : List ℕ} → GoesOn P s m text before rest → GoesOn P s m rest more after → longer ≡ before ++ more → GoesOn P s m text longer after
goes_on {P = P} {s = s} {m = m} {rest = rest} {after = after} a b e = record {
  items = a.items ++ b.items;
  are = all_more P a.items b.items a.are b.are;
  whole = a.whole ∙ ap (λ t. flat_map s a.items ++ t) b.whole ∙ sym (append_assoc (flat_map s a.items) (flat_map s b.items) after) ∙ ap (λ t. t ++ after) (sym (flat_map-append s a.items b.items));
  means = rw (flat_map-append, ← a.means, ← b.means) e;
}

pub one_item : {X : Type 0} {P : X → Type 0} {s m : X → List ℕ} {text bytes rest : List ℕ} (x : X) → P x → text ≡ s x ++ rest → bytes ≡ m x → GoesOn P s m text bytes rest
one_item {s = s} {m = m} {rest = rest} x is whole means = record { items = x ∷ []; are = (is, tt); whole = rw append-nil whole; means = rw append-nil means }

map_are : {X Y : Type 0} (f : X → Y) (P : X → Type 0) (Q : Y → Type 0) → ((x : X) → P x → Q (f x)) → (xs : List X) → AllByRecursion P xs → AllByRecursion Q (map f xs)
map_are f P Q is [] are = tt
map_are f P Q is (x ∷ xs) are = (is x are.0, map_are f P Q is xs are.1)

-- items taken for others that are spelled and stand for the same
pub taken_as : {X Y : Type 0} {P : X → Type 0} {text bytes rest : List ℕ} (f : X → Y) (Q : Y → Type 0) (s m : Y → List ℕ) → ((x : X) → P x → Q (f x)) → GoesOn P (λ x. s (f x)) (λ x. m (f x)) text bytes rest → GoesOn Q s m text bytes rest
taken_as {P = P} {rest = rest} f Q s m is so = record {
  items = map f so.items;
  are = map_are f P Q is so.items so.are;
  whole = so.whole ∙ ap (λ t. t ++ rest) (sym (flat_map-map s f so.items));
  means = so.means ∙ sym (flat_map-map m f so.items);
}

-- what ends where a rest begins
pub cuts_before : (source prefix rest : List ℕ) (n : ℕ) (found : Found) → source ≡ prefix ++ rest → n ≡ length source - length rest → IsSpelledBy found prefix rest → Cuts source n found
cuts_before source prefix rest n found e f stands =
    let long = ap length e ∙ length-append prefix rest in record { prefix = prefix; rest = rest; whole = e; size = omega (arith, long); stands = stands }

-- a fault at the start of a text
pub fault_here : (text : List ℕ) (cause : Cause) → IsFault cause [] text → Cuts text 0 (fault cause)
fault_here text cause fails = record { prefix = []; rest = text; whole = refl; size = refl; stands = fails }

abbrev IsPlain : ℕ → Type 0
IsPlain b = is_special b ≡ false

plain_byte : (b : ℕ) → ¬ (is_byte3 34 92 10 b ≡ true) → IsPlain b
plain_byte b h = grind (arith, nat_tests)

plain_bytes : (run : List ℕ) → ((k : ℕ) → k < length run → ¬ (is_byte3 34 92 10 (slice_index run k) ≡ true)) → AllByRecursion IsPlain run
plain_bytes [] h = tt
plain_bytes (b ∷ run) h = (plain_byte b (h 0 (omega arith)), plain_bytes run (λ k less. h (suc k) (omega (arith, less))))

others : (xs ys : List ℕ) → AllByRecursion IsPlain (xs ++ ys) → AllByRecursion IsPlain ys
others [] ys all = all
others (x ∷ xs) ys all = others xs ys all.1

plain_chars : (cs : List ℕ) → scalars cs ≡ true → AllByRecursion IsPlain (encode_utf8_all cs) → AllByRecursion (λ c. IsPart (itself c)) cs
plain_chars [] are plain = tt
plain_chars (c ∷ cs) are plain =
    let both = both_true (scalar c) (scalars cs) are in
    ((both.0, first (encode_utf8 c) refl plain), plain_chars cs both.1 (others (encode_utf8 c) (encode_utf8_all cs) plain))
  where
    first : (bytes : List ℕ) → encode_utf8 c ≡ bytes → AllByRecursion IsPlain (bytes ++ encode_utf8_all cs) → is_special c ≡ false
    first [] e plain = let some = some_bytes c in let none = ap length e in absurd (omega (arith, some, none))
    first (b ∷ bytes) e plain = plain_char b c bytes [] (sym e ∙ sym (append-nil (encode_utf8 c))) plain.0

none_before : (P : ℕ → Type 0) (n : ℕ) (found : Option ℕ) → IsFirst P 0 n found → Nowhere P 0 (unwrap_or found n)
none_before P n None first = first
none_before P n (Some k) first = first.0.before

pub run_stands : (text run rest more : List ℕ) (most : ℕ) (found : Option ℕ) → text ≡ run ++ more → rest ≡ drop (length run) text → length run ≤ most →
    IsFirst (Passes (is_byte3 34 92 10) text) 0 (length text) found → most ≡ unwrap_or found (length text) → IsUtf8 run → IsRun text run rest
run_stands text run rest more most found prefix back within first e utf8 =
    let none = subst (Nowhere (Passes (is_byte3 34 92 10) text) 0) (sym e) (none_before (Passes (is_byte3 34 92 10) text) (length text) found first) in
    let front = ap (take (length run)) prefix ∙ take_at run more (length run) refl in
    record {
      items = utf8.0;
      are = plain_chars utf8.0 utf8.1.0 (rw utf8.1.1 (plain_bytes run (λ k less passes. none k (omega arith) (omega (arith, less, within))
          (ap (is_byte3 34 92 10) (ap (λ t. slice_index t k) prefix ∙ get_or_append_left run more 0 k less) ∙ passes))));
      whole = rw utf8.1.1 (sym (take-append-drop (length run) text) ∙ ap (λ t. t ++ drop (length run) text) front ∙ ap (λ t. run ++ t) (sym back));
      means = sym utf8.1.1;
    }

pub shortens : {X : Type 0} {P : X → Type 0} {s m : X → List ℕ} {text bytes rest : List ℕ} → GoesOn P s m text bytes rest → length rest ≤ length text
shortens {s = s} {rest = rest} so = let long = ap length so.whole ∙ length-append (flat_map s so.items) rest in omega (arith, long)
