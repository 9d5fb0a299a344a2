-- What a change of one chunk does to all tokens, and to the order of all slots.
use Rattle.std.proofs.Common.{◌≡◌, ◌≢◌, ℕ, zero, suc, ◌+◌, ◌-◌, ◌<◌, ◌≤◌, Some, slice_get, Result, Ok, Err, OnOk, OnErr, Bool, true, false, cond, List, [], ◌∷◌, ◌++◌, length, take, drop, get_or, set, append_assoc, append-nil, length-take, length-drop, length-append, refl, sym, ap, ◌∙◌, subst, arith}
use Rattle.std.proofs.lemmas.List.{take-append-drop, take-append-le, take_more, take_all, drop_all, set_split, set_at, take-set, get_or_default}
use Rattle.std.proofs.lemmas.List.Concat.{flat_map-append}
use Rattle.std.proofs.lemmas.Bool.{not-true}
use Rattle.std.specs.List.{AllByRecursion}
use Rattle.rn_value.specs.declared.value.Value.{Value}
use Rattle.rn_bag.specs.declared.cut.Cut.TheVariants.{UpTo}
use Rattle.rn_bag.specs.Cuts.{is_before, AllBefore, NoneBefore, NoneBelow, Ascends}
use Rattle.rn_bag.specs.Slots.{there_from}
use Rattle.rn_bag.specs.link.Chunks.{Slots, HasRoom, IsChunk, AreCounted, AreSound, tokens_in_chunk, tokens_in, values_in, Replaces}
use Rattle.rn_bag.specs.link.Tags.{IsFull}
use Rattle.rn_bag.specs.link.SlotIndices.{tokens_before, tokens_after, values_before, values_after}
use Rattle.rn_bag.specs.Words.{has_bit}
use Rattle.rn_bag.proofs.SlotLemmas.{there_all, there_whole, there_parts, there_next, there_agrees, all_joined, all_prefix, all_suffix, all_weaker}
use Rattle.rn_bag.proofs.AscendingLemmas.{below, order, none_below, ascends_suffix, ascends_prefix}
use Rattle.rn_bag.proofs.SlotIndexLemmas.{tokens_before_is, tokens_after_is, values_before_is, values_after_is, values_parts, tokens_parts}

-- one slot changes: the tokens before it, what it gives, and the tokens after it
slot_parts : (t u : ℕ → Bool) (n : ℕ) (vs : List Value) (v : Value) → n < length vs → v ≡ get_or vs n v → ((i : ℕ) → i < length vs → i ≢ n → u i ≡ t i) →
    there_from u 0 vs ≡ there_from t 0 (take n vs) ++ cond (u n) (v ∷ there_from t (suc n) (drop (suc n) vs)) (there_from t (suc n) (drop (suc n) vs))
slot_parts t u n vs v within is same =
    let next : n + 1 ≡ suc n = omega arith in
    let before : there_from u 0 (take n vs) ≡ there_from t 0 (take n vs) = there_agrees u t 0 (take n vs) (λ i low high. same i (omega (arith, length-take n vs)) (omega (arith, length-take n vs))) in
    let after : there_from u (suc n) (drop (suc n) vs) ≡ there_from t (suc n) (drop (suc n) vs) = there_agrees u t (suc n) (drop (suc n) vs) (λ i low high. same i (omega (arith, length-drop (suc n) vs)) (omega arith)) in
    there_parts u n vs
    ∙ ap (λ r. r ++ there_from u n (drop n vs)) before
    ∙ ap (λ r. there_from t 0 (take n vs) ++ r) (there_next u n n vs v within is
    ∙ ap (λ j. cond (u n) (v ∷ there_from u (suc n) (drop j vs)) (there_from u (suc n) (drop j vs))) next
    ∙ ap (λ r. cond (u n) (v ∷ r) r) after)

pub slot_cleared : (t u : ℕ → Bool) (n : ℕ) (vs : List Value) (v : Value) → n < length vs → v ≡ get_or vs n v → ((i : ℕ) → i < length vs → i ≢ n → u i ≡ t i) → u n ≡ false →
    there_from u 0 vs ≡ there_from t 0 (take n vs) ++ there_from t (suc n) (drop (suc n) vs)
slot_cleared t u n vs v within is same clear =
    slot_parts t u n vs v within is same
    ∙ ap (λ b. there_from t 0 (take n vs) ++ cond b (v ∷ there_from t (suc n) (drop (suc n) vs)) (there_from t (suc n) (drop (suc n) vs))) clear

pub slot_set : (t u : ℕ → Bool) (n : ℕ) (vs : List Value) (v : Value) → n < length vs → v ≡ get_or vs n v → ((i : ℕ) → i < length vs → i ≢ n → u i ≡ t i) → u n ≡ true →
    there_from u 0 vs ≡ there_from t 0 (take n vs) ++ v ∷ there_from t (suc n) (drop (suc n) vs)
slot_set t u n vs v within is same there =
    slot_parts t u n vs v within is same
    ∙ ap (λ b. there_from t 0 (take n vs) ++ cond b (v ∷ there_from t (suc n) (drop (suc n) vs)) (there_from t (suc n) (drop (suc n) vs))) there

regroup : {A : Type 0} (a f r d : List A) → a ++ ((f ++ r) ++ d) ≡ (a ++ f) ++ (r ++ d)
regroup a f r d = ap (λ z. a ++ z) (append_assoc f r d) ∙ sym (append_assoc a f (r ++ d))

-- a chunk in place of another
replaced : (ss : List Slots) (i : ℕ) (y : Slots) → i < length ss → tokens_in (set ss i y) ≡ tokens_in (take i ss) ++ (tokens_in_chunk y ++ tokens_in (drop (suc i) ss))
replaced ss i y within = ap tokens_in (set_split ss i y within) ∙ flat_map-append tokens_in_chunk (take i ss) (y ∷ drop (suc i) ss)

replaced_values : (ss : List Slots) (i : ℕ) (y : Slots) → i < length ss → values_in (set ss i y) ≡ values_in (take i ss) ++ (y.values ++ values_in (drop (suc i) ss))
replaced_values ss i y within = ap values_in (set_split ss i y within) ∙ flat_map-append (λ (s : Slots). s.values) (take i ss) (y ∷ drop (suc i) ss)

pub replaced_tokens : (ss : List Slots) (i n : ℕ) (x y : Slots) (rest : List Value) → i < length ss → x ≡ get_or ss i x → tokens_in_chunk y ≡ there_from (has_bit x.there) 0 (take n x.values) ++ rest →
    tokens_in (set ss i y) ≡ tokens_before ss i n ++ (rest ++ tokens_in (drop (suc i) ss))
replaced_tokens ss i n x y rest within is here =
    replaced ss i y within
    ∙ ap (λ z. tokens_in (take i ss) ++ (z ++ tokens_in (drop (suc i) ss))) here
    ∙ regroup (tokens_in (take i ss)) (there_from (has_bit x.there) 0 (take n x.values)) rest (tokens_in (drop (suc i) ss))
    ∙ ap (λ z. z ++ (rest ++ tokens_in (drop (suc i) ss))) (sym (tokens_before_is ss i n x within is))

pub same_values : (ss : List Slots) (i : ℕ) (x y : Slots) → i < length ss → x ≡ get_or ss i x → y.values ≡ x.values → values_in (set ss i y) ≡ values_in ss
same_values ss i x y within is same =
    replaced_values ss i y within ∙ ap (λ z. values_in (take i ss) ++ (z ++ values_in (drop (suc i) ss))) same ∙ sym (values_parts ss i x within is)

-- a token goes
pub cleared : (ss : List Slots) (i n : ℕ) (x y : Slots) → i < length ss → x ≡ get_or ss i x → tokens_in_chunk y ≡ there_from (has_bit x.there) 0 (take n x.values) ++ there_from (has_bit x.there) (suc n) (drop (suc n) x.values) →
    tokens_in (set ss i y) ≡ tokens_before ss i n ++ tokens_after ss i (suc n)
cleared ss i n x y within is here =
    replaced_tokens ss i n x y (there_from (has_bit x.there) (suc n) (drop (suc n) x.values)) within is here
    ∙ ap (λ z. tokens_before ss i n ++ z) (sym (tokens_after_is ss i (suc n) x within is))

-- a token comes back
pub set_again : (ss : List Slots) (i n : ℕ) (x y : Slots) (v : Value) → i < length ss → x ≡ get_or ss i x → tokens_in_chunk y ≡ there_from (has_bit x.there) 0 (take n x.values) ++ v ∷ there_from (has_bit x.there) (suc n) (drop (suc n) x.values) →
    tokens_in (set ss i y) ≡ tokens_before ss i n ++ v ∷ tokens_after ss i (suc n)
set_again ss i n x y v within is here =
    replaced_tokens ss i n x y (v ∷ there_from (has_bit x.there) (suc n) (drop (suc n) x.values)) within is here
    ∙ ap (λ z. tokens_before ss i n ++ v ∷ z) (sym (tokens_after_is ss i (suc n) x within is))

-- a chunk without tokens goes
pub dropped : (ss : List Slots) (i : ℕ) (y : Slots) → i < length ss → tokens_in_chunk y ≡ [] → tokens_in (take i ss ++ drop (suc i) ss) ≡ tokens_in (set ss i y)
dropped ss i y within none =
    flat_map-append tokens_in_chunk (take i ss) (drop (suc i) ss) ∙ sym (replaced ss i y within ∙ ap (λ z. tokens_in (take i ss) ++ (z ++ tokens_in (drop (suc i) ss))) none)

ascends_without : (xs ys zs : List Value) → Ascends (xs ++ (ys ++ zs)) → Ascends (xs ++ zs)
ascends_without [] ys zs up = ascends_suffix ys zs up
ascends_without (x ∷ xs) ys zs up =
    let P : Value → Type 0 = λ z. below z x ≡ false in
    (all_joined P xs zs (all_prefix P xs (ys ++ zs) up.0) (all_suffix P ys zs (all_suffix P xs (ys ++ zs) up.0)), ascends_without xs ys zs up.1)

pub dropped_ascends : (ss : List Slots) (i : ℕ) (y : Slots) → i < length ss → Ascends (values_in (set ss i y)) → Ascends (values_in (take i ss ++ drop (suc i) ss))
dropped_ascends ss i y within up =
    subst Ascends (sym (flat_map-append (λ (s : Slots). s.values) (take i ss) (drop (suc i) ss)))
    (ascends_without (values_in (take i ss)) y.values (values_in (drop (suc i) ss)) (subst Ascends (replaced_values ss i y within) up))

-- the token of a slot
pub token_here : (ss : List Slots) (i n : ℕ) (x : Slots) (v : Value) → i < length ss → x ≡ get_or ss i x → n < length x.values → v ≡ get_or x.values n v → has_bit x.there n ≡ true → tokens_after ss i n ≡ v ∷ tokens_after ss i (suc n)
token_here ss i n x v within is inside at there =
    let next : n + 1 ≡ suc n = omega arith in
    let here : there_from (has_bit x.there) n (drop n x.values) ≡ v ∷ there_from (has_bit x.there) (suc n) (drop (suc n) x.values) =
    there_next (has_bit x.there) n n x.values v inside at
    ∙ ap (λ j. cond (has_bit x.there n) (v ∷ there_from (has_bit x.there) (suc n) (drop j x.values)) (there_from (has_bit x.there) (suc n) (drop j x.values))) next
    ∙ ap (λ b. cond b (v ∷ there_from (has_bit x.there) (suc n) (drop (suc n) x.values)) (there_from (has_bit x.there) (suc n) (drop (suc n) x.values))) there in
    tokens_after_is ss i n x within is ∙ ap (λ z. z ++ tokens_in (drop (suc i) ss)) here ∙ ap (λ z. v ∷ z) (sym (tokens_after_is ss i (suc n) x within is))

pub no_token_here : (ss : List Slots) (i n : ℕ) (x : Slots) (v : Value) → i < length ss → x ≡ get_or ss i x → n < length x.values → v ≡ get_or x.values n v → has_bit x.there n ≡ false → tokens_after ss i n ≡ tokens_after ss i (suc n)
no_token_here ss i n x v within is inside at out =
    let next : n + 1 ≡ suc n = omega arith in
    let here : there_from (has_bit x.there) n (drop n x.values) ≡ there_from (has_bit x.there) (suc n) (drop (suc n) x.values) =
    there_next (has_bit x.there) n n x.values v inside at
    ∙ ap (λ j. cond (has_bit x.there n) (v ∷ there_from (has_bit x.there) (suc n) (drop j x.values)) (there_from (has_bit x.there) (suc n) (drop j x.values))) next
    ∙ ap (λ b. cond b (v ∷ there_from (has_bit x.there) (suc n) (drop (suc n) x.values)) (there_from (has_bit x.there) (suc n) (drop (suc n) x.values))) out in
    tokens_after_is ss i n x within is ∙ ap (λ z. z ++ tokens_in (drop (suc i) ss)) here ∙ sym (tokens_after_is ss i (suc n) x within is)

-- a value after those that aren't above it and before those that are
pub ascends_around : (v : Value) (xs ys : List Value) → Ascends xs → Ascends ys → AllBefore UpTo v xs → NoneBefore UpTo v ys → Ascends (xs ++ v ∷ ys)
ascends_around v [] ys up down low high = (none_below v ys high, down)
ascends_around v (x ∷ xs) ys up down low high =
    let P : Value → Type 0 = λ z. below z x ≡ false in
    let above : below v x ≡ false = not-true (below v x) low.0 in
    let later : AllByRecursion P ys = all_weaker (λ z. below z v ≡ false) P ys (λ z h. order.chain z v x h above) (none_below v ys high) in
    (all_joined P xs (v ∷ ys) up.0 (above, later), ascends_around v xs ys up.1 down low.1 high)

kept_ascends : (b : Bool) (x : Value) (xs : List Value) → NoneBelow x xs → Ascends xs → Ascends (cond b (x ∷ xs) xs)
kept_ascends true x xs none up = (none, up)
kept_ascends false x xs none up = up

cond_append : (b : Bool) (x : Value) (xs ys : List Value) → cond b (x ∷ xs) xs ++ ys ≡ cond b (x ∷ (xs ++ ys)) (xs ++ ys)
cond_append true x xs ys = refl
cond_append false x xs ys = refl

pub thin_prefix : (t : ℕ → Bool) (n : ℕ) (xs ys : List Value) → Ascends (xs ++ ys) → Ascends (there_from t n xs ++ ys)
thin_prefix t n [] ys up = up
thin_prefix t n (x ∷ xs) ys up =
    let P : Value → Type 0 = λ z. below z x ≡ false in
    let none : AllByRecursion P (there_from t (suc n) xs ++ ys) = all_joined P (there_from t (suc n) xs) ys (there_all P t (suc n) xs (all_prefix P xs ys up.0)) (all_suffix P xs ys up.0) in
    subst Ascends (sym (cond_append (t n) x (there_from t (suc n) xs) ys)) (kept_ascends (t n) x (there_from t (suc n) xs ++ ys) none (thin_prefix t (suc n) xs ys up.1))

pub thin_suffix : (t : ℕ → Bool) (n : ℕ) (xs ys : List Value) → Ascends (xs ++ ys) → Ascends (xs ++ there_from t n ys)
thin_suffix t n [] ys up = subst Ascends (append-nil (there_from t n ys)) (thin_prefix t n ys [] (subst Ascends (sym (append-nil ys)) up))
thin_suffix t n (x ∷ xs) ys up =
    let P : Value → Type 0 = λ z. below z x ≡ false in
    (all_joined P xs (there_from t n ys) (all_prefix P xs ys up.0) (there_all P t n ys (all_suffix P xs ys up.0)), thin_suffix t n xs ys up.1)

-- the slots of a chunk made anew ascend among the others
pub grown_ascends : (ss : List Slots) (i n : ℕ) (x : Slots) (v : Value) → Ascends (values_in ss) → i < length ss → x ≡ get_or ss i x → AllBefore UpTo v (values_before ss i n) → NoneBefore UpTo v (values_after ss i n) →
    Ascends (values_in (take i ss) ++ ((there_from (has_bit x.there) 0 (take n x.values) ++ v ∷ there_from (has_bit x.there) n (drop n x.values)) ++ values_in (drop (suc i) ss)))
grown_ascends ss i n x v up within is low high =
    let a : List Value = values_in (take i ss) in
    let d : List Value = values_in (drop (suc i) ss) in
    let f : List Value = there_from (has_bit x.there) 0 (take n x.values) in
    let r : List Value = there_from (has_bit x.there) n (drop n x.values) in
    let cut : values_in ss ≡ (a ++ take n x.values) ++ (drop n x.values ++ d) =
    values_parts ss i x within is ∙ ap (λ z. a ++ (z ++ d)) (sym (take-append-drop n x.values)) ∙ regroup a (take n x.values) (drop n x.values) d in
    let whole : Ascends ((a ++ take n x.values) ++ (drop n x.values ++ d)) = subst Ascends cut up in
    let prefix : Ascends (a ++ f) = thin_suffix (has_bit x.there) 0 a (take n x.values) (ascends_prefix (a ++ take n x.values) (drop n x.values ++ d) whole) in
    let suffix : Ascends (r ++ d) = thin_prefix (has_bit x.there) n (drop n x.values) d (ascends_suffix (a ++ take n x.values) (drop n x.values ++ d) whole) in
    let before : AllBefore UpTo v (a ++ take n x.values) = subst (AllBefore UpTo v) (values_before_is ss i n x within is) low in
    let after : NoneBefore UpTo v (drop n x.values ++ d) = subst (NoneBefore UpTo v) (values_after_is ss i n x within is) high in
    let L : Value → Type 0 = λ z. is_before UpTo v z ≡ true in
    let H : Value → Type 0 = λ z. is_before UpTo v z ≡ false in
    let before_kept : AllBefore UpTo v (a ++ f) = all_joined L a f (all_prefix L a (take n x.values) before) (there_all L (has_bit x.there) 0 (take n x.values) (all_suffix L a (take n x.values) before)) in
    let after_kept : NoneBefore UpTo v (r ++ d) = all_joined H r d (there_all H (has_bit x.there) n (drop n x.values) (all_prefix H (drop n x.values) d after)) (all_suffix H (drop n x.values) d after) in
    subst Ascends (sym (regroup a f (v ∷ r) d)) (ascends_around v (a ++ f) (r ++ d) prefix suffix before_kept after_kept)

-- two chunks in place of one
two_placed : (ss : List Slots) (i : ℕ) (x y z : Slots) → i < length ss → x ≡ get_or ss i x → set (take (i + 1) ss ++ z ∷ drop (i + 1) ss) i y ≡ take i ss ++ y ∷ z ∷ drop (suc i) ss
two_placed ss i x y z within is =
    let next : i + 1 ≡ suc i = omega arith in
    let size : length (take i ss) ≡ i = omega (arith, length-take i ss) in
    let more : take (i + 1) ss ≡ take i ss ++ x ∷ [] = take_more ss i x within ∙ ap (λ y. take i ss ++ y ∷ []) (sym is) in
    ap (λ r. set (r ++ z ∷ drop (i + 1) ss) i y) more
    ∙ ap (λ r. set r i y) (append_assoc (take i ss) (x ∷ []) (z ∷ drop (i + 1) ss))
    ∙ set_at (take i ss) x (z ∷ drop (i + 1) ss) y i size
    ∙ ap (λ j. take i ss ++ y ∷ z ∷ drop j ss) next

-- the number of items that pass is no more than that of all
cond_length : (b : Bool) (v : Value) (vs : List Value) (n : ℕ) → length vs ≤ n → length (cond b (v ∷ vs) vs) ≤ suc n
cond_length true v vs n few = omega arith
cond_length false v vs n few = omega arith

pub there_length : (t : ℕ → Bool) (n : ℕ) (vs : List Value) → length (there_from t n vs) ≤ length vs
there_length t n [] = omega arith
there_length t n (v ∷ vs) = cond_length (t n) v (there_from t (suc n) vs) (length vs) (there_length t (suc n) vs)

-- where as many pass as there are, all do
cond_full : (b : Bool) (v : Value) (r vs : List Value) → length r ≤ length vs → length (cond b (v ∷ r) r) ≡ length (v ∷ vs) → (b ≡ true) × (length r ≡ length vs)
cond_full true v r vs few size = (refl, omega arith)
cond_full false v r vs few size = absurd (omega arith)

pub there_full : (t : ℕ → Bool) (n : ℕ) (vs : List Value) → length (there_from t n vs) ≡ length vs → there_from t n vs ≡ vs
there_full t n [] size = refl
there_full t n (v ∷ vs) size =
    let r : List Value = there_from t (suc n) vs in
    let both : (t n ≡ true) × (length r ≡ length vs) = cond_full (t n) v r vs (there_length t (suc n) vs) size in
    ap (λ b. cond b (v ∷ r) r) both.0 ∙ ap (λ z. v ∷ z) (there_full t (suc n) vs both.1)

pub replaces_one : (ss : List Slots) (i : ℕ) (y : Slots) (ws : List Value) → i < length ss → y.values ≡ ws → tokens_in_chunk y ≡ ws → Replaces ss i ws (set ss i y)
replaces_one ss i y ws within values tokens = record {
  prefix = take-set ss i y;
  tokens = replaced ss i y within ∙ ap (λ z. tokens_in (take i ss) ++ (z ++ tokens_in (drop (suc i) ss))) tokens;
  values = replaced_values ss i y within ∙ ap (λ z. values_in (take i ss) ++ (z ++ values_in (drop (suc i) ss))) values;
}

-- two chunks of these tokens where one was
two_replace : (ss new : List Slots) (i : ℕ) (y z : Slots) (ts us vs ws : List Value) → i < length ss → new ≡ take i ss ++ y ∷ z ∷ drop (suc i) ss →
    tokens_in_chunk y ≡ ts → y.values ≡ us → tokens_in_chunk z ≡ vs → z.values ≡ vs → ts ++ vs ≡ ws → us ++ vs ≡ ws → Replaces ss i ws new
two_replace ss new i y z ts us vs ws within placed y_tokens y_values z_tokens z_values tokens values =
    let t : List Value = tokens_in (drop (suc i) ss) in
    let d : List Value = values_in (drop (suc i) ss) in
    let size : length (take i ss) ≡ i = omega (arith, length-take i ss) in
    record {
      tokens = ap tokens_in placed
          ∙ flat_map-append tokens_in_chunk (take i ss) (y ∷ z ∷ drop (suc i) ss)
          ∙ ap (λ w. tokens_in (take i ss) ++ (w ++ (tokens_in_chunk z ++ t))) y_tokens
          ∙ ap (λ w. tokens_in (take i ss) ++ (ts ++ (w ++ t))) z_tokens
          ∙ ap (λ w. tokens_in (take i ss) ++ w) (sym (append_assoc ts vs t) ∙ ap (λ w. w ++ t) tokens);
      values = ap values_in placed
          ∙ flat_map-append (λ (s : Slots). s.values) (take i ss) (y ∷ z ∷ drop (suc i) ss)
          ∙ ap (λ w. values_in (take i ss) ++ (w ++ (z.values ++ d))) y_values
          ∙ ap (λ w. values_in (take i ss) ++ (us ++ (w ++ d))) z_values
          ∙ ap (λ w. values_in (take i ss) ++ w) (sym (append_assoc us vs d) ∙ ap (λ w. w ++ d) values);
      prefix = ap (take i) placed ∙ take-append-le i (take i ss) (y ∷ z ∷ drop (suc i) ss) (omega (arith, size)) ∙ take_all i (take i ss) (omega (arith, size));
    }

pub replaces_two : (ss : List Slots) (i : ℕ) (y z : Slots) (us vs ws : List Value) → i < length ss → y.values ≡ us → tokens_in_chunk y ≡ us → z.values ≡ vs → tokens_in_chunk z ≡ vs → us ++ vs ≡ ws → Replaces ss i ws (set (take (i + 1) ss ++ z ∷ drop (i + 1) ss) i y)
replaces_two ss i y z us vs ws within y_values y_tokens z_values z_tokens parts =
    let x : Slots = get_or ss i y in
    two_replace ss (set (take (i + 1) ss ++ z ∷ drop (i + 1) ss) i y) i y z us us vs ws within (two_placed ss i x y z within (get_or_default ss i y x within)) y_tokens y_values z_tokens z_values parts parts

-- a chunk comes after a full one
pub comes_after : (ss : List Slots) (i : ℕ) (x z : Slots) (v : Value) → i < length ss → x ≡ get_or ss i x → tokens_in_chunk x ≡ x.values → z.values ≡ v ∷ [] → tokens_in_chunk z ≡ v ∷ [] →
    Replaces ss i (x.values ++ v ∷ []) (take (i + 1) ss ++ z ∷ drop (i + 1) ss)
comes_after ss i x z v within is full z_values z_tokens =
    let next : i + 1 ≡ suc i = omega arith in
    let more : take (i + 1) ss ≡ take i ss ++ x ∷ [] = take_more ss i x within ∙ ap (λ y. take i ss ++ y ∷ []) (sym is) in
    let placed : take (i + 1) ss ++ z ∷ drop (i + 1) ss ≡ take i ss ++ x ∷ z ∷ drop (suc i) ss =
    ap (λ r. r ++ z ∷ drop (i + 1) ss) more ∙ append_assoc (take i ss) (x ∷ []) (z ∷ drop (i + 1) ss) ∙ ap (λ j. take i ss ++ x ∷ z ∷ drop j ss) next in
    two_replace ss (take (i + 1) ss ++ z ∷ drop (i + 1) ss) i x z x.values x.values (v ∷ []) (x.values ++ v ∷ []) within placed full refl z_tokens z_values refl refl

-- what comes of a chunk made anew with one more token
pub replaced_gives : (ss new : List Slots) (i n : ℕ) (x : Slots) (v : Value) (ws : List Value) → i < length ss → x ≡ get_or ss i x → ws ≡ there_from (has_bit x.there) 0 (take n x.values) ++ v ∷ there_from (has_bit x.there) n (drop n x.values) → Replaces ss i ws new →
    tokens_in new ≡ tokens_before ss i n ++ v ∷ tokens_after ss i n
replaced_gives ss new i n x v ws within is given r =
    r.tokens
    ∙ ap (λ z. tokens_in (take i ss) ++ (z ++ tokens_in (drop (suc i) ss))) given
    ∙ regroup (tokens_in (take i ss)) (there_from (has_bit x.there) 0 (take n x.values)) (v ∷ there_from (has_bit x.there) n (drop n x.values)) (tokens_in (drop (suc i) ss))
    ∙ ap (λ w. w ++ v ∷ (there_from (has_bit x.there) n (drop n x.values) ++ tokens_in (drop (suc i) ss))) (sym (tokens_before_is ss i n x within is))
    ∙ ap (λ w. tokens_before ss i n ++ v ∷ w) (sym (tokens_after_is ss i n x within is))

pub replaced_sound : (ss new : List Slots) (i n : ℕ) (x : Slots) (v : Value) (ws : List Value) → Ascends (values_in ss) → i < length ss → x ≡ get_or ss i x → AllBefore UpTo v (values_before ss i n) → NoneBefore UpTo v (values_after ss i n) → ws ≡ there_from (has_bit x.there) 0 (take n x.values) ++ v ∷ there_from (has_bit x.there) n (drop n x.values) → Replaces ss i ws new →
    Ascends (values_in new)
replaced_sound ss new i n x v ws up within is low high given r =
    subst Ascends (sym (r.values ∙ ap (λ z. values_in (take i ss) ++ (z ++ values_in (drop (suc i) ss))) given)) (grown_ascends ss i n x v up within is low high)

pub grown_length : (t : ℕ → Bool) (n : ℕ) (vs ws : List Value) (v : Value) → length vs ≤ 64 → ws ≡ there_from t 0 (take n vs) ++ v ∷ there_from t n (drop n vs) → (0 < length ws) × (length ws ≤ 65)
grown_length t n vs ws v small is =
    let parts : length ws ≡ length (there_from t 0 (take n vs)) + suc (length (there_from t n (drop n vs))) = ap length is ∙ length-append (there_from t 0 (take n vs)) (v ∷ there_from t n (drop n vs)) in
    let prefix : length (there_from t 0 (take n vs)) ≤ length (take n vs) = there_length t 0 (take n vs) in
    let suffix : length (there_from t n (drop n vs)) ≤ length (drop n vs) = there_length t n (drop n vs) in
    (omega (arith, parts), omega (arith, parts, prefix, suffix, length-take n vs, length-drop n vs))

-- an element of a list by its place
pub at_get : (vs : List Value) (n : ℕ) (v : Value) → slice_get vs n ≡ Some v → (n < length vs) × (v ≡ get_or vs n v)
at_get [] n v e = absurd (let no : ⊥ = cc in no)
at_get (w ∷ vs) zero v e = (omega arith, let same : w ≡ v = cc in sym same)
at_get (w ∷ vs) (suc n) v e = let rest = at_get vs n v e in (omega (arith, rest.0), rest.1)

-- an element within a list
pub element : (vs : List Value) (n : ℕ) → n < length vs → (v : Value) × (slice_get vs n ≡ Some v)
element [] n within = absurd (omega arith)
element (v ∷ vs) zero within = (v, refl)
element (v ∷ vs) (suc n) within = element vs n (omega arith)

cleared_of : (t u : ℕ → Bool) (n : ℕ) (vs : List Value) → n < length vs → u n ≡ false → ((i : ℕ) → i < length vs → i ≢ n → u i ≡ t i) →
    there_from u 0 vs ≡ there_from t 0 (take n vs) ++ there_from t (suc n) (drop (suc n) vs)
cleared_of t u n vs within gone same =
    let e = element vs n within in
    let found = at_get vs n e.0 e.1 in
    slot_cleared t u n vs e.0 within found.1 same gone

-- what follows on Ok, and what follows in either case
pub on_ok_then : {T E : Type 0} (A B : Type 0) (r : Result T E) → (A → B) → OnOk r A → OnOk r B
on_ok_then A B (Ok x) f h = f h
on_ok_then A B (Err e) f h = tt

pub either_way : {T E : Type 0} (A B C : Type 0) (r : Result T E) → (A → C) → (B → C) → OnOk r A → OnErr r B → C
either_way A B C (Ok x) f g h k = f h
either_way A B C (Err e) f g h k = g k

-- an element of a list that is long enough
pub read_at : {A : Type 0} (xs : List A) (i : ℕ) → i < length xs → (x : A) × (x ≡ get_or xs i x)
read_at [] i within = absurd (omega arith)
read_at (x ∷ xs) zero within = (x, refl)
read_at (x ∷ xs) (suc i) within = read_at xs i (omega arith)

-- lists with the same elements before an index are long enough alike
pub prefix_long : {A : Type 0} (xs ys : List A) (i : ℕ) → take i ys ≡ take i xs → i < length xs → i ≤ length ys
prefix_long xs ys i same within = omega (arith, ap length same, length-take i xs, length-take i ys)

-- the fields of a chunk after a slot changed
chunk_parts : (t : ℕ → Bool) (n : ℕ) (vs : List Value) → n < length vs → t n ≡ true →
    length (there_from t 0 vs) ≡ suc (length (there_from t 0 (take n vs)) + length (there_from t (suc n) (drop (suc n) vs)))
chunk_parts t n vs within there =
    let e = read_at vs n within in
    let parts = slot_set t t n vs e.0 within e.1 (λ i low other. refl) there in
    ap length parts ∙ length-append (there_from t 0 (take n vs)) (e.0 ∷ there_from t (suc n) (drop (suc n) vs)) ∙ omega arith

pub clear_chunk : (vs : List Value) (t u count n : ℕ) → IsChunk vs t count → n < length vs → has_bit t n ≡ true → has_bit u n ≡ false → ((i : ℕ) → i < 64 → i ≢ n → has_bit u i ≡ has_bit t i) →
    (0 < count) × IsChunk vs u (count - 1)
clear_chunk vs t u count n is within there gone others =
    let before = chunk_parts (has_bit t) n vs within there in
    let after : length (there_from (has_bit u) 0 vs) ≡ length (there_from (has_bit t) 0 (take n vs)) + length (there_from (has_bit t) (suc n) (drop (suc n) vs)) =
    ap length (cleared_of (has_bit t) (has_bit u) n vs within gone (λ i low other. others i (omega (arith, is.room.small, low)) other))
    ∙ length-append (there_from (has_bit t) 0 (take n vs)) (there_from (has_bit t) (suc n) (drop (suc n) vs)) in
    (omega (arith, is.counted, before), record { room = is.room; counted = omega (arith, is.counted, before, after) })

pub set_chunk : (vs : List Value) (t u count n : ℕ) → IsChunk vs t count → n < length vs → has_bit t n ≡ false → has_bit u n ≡ true → ((i : ℕ) → i ≢ n → has_bit u i ≡ has_bit t i) →
    IsChunk vs u (count + 1)
set_chunk vs t u count n is within free there others =
    let e = read_at vs n within in
    let before : length (there_from (has_bit t) 0 vs) ≡ length (there_from (has_bit t) 0 (take n vs)) + length (there_from (has_bit t) (suc n) (drop (suc n) vs)) =
    ap length (slot_cleared (has_bit t) (has_bit t) n vs e.0 within e.1 (λ i low other. refl) free) ∙ length-append (there_from (has_bit t) 0 (take n vs)) (there_from (has_bit t) (suc n) (drop (suc n) vs)) in
    let after : length (there_from (has_bit u) 0 vs) ≡ length (there_from (has_bit t) 0 (take n vs)) + suc (length (there_from (has_bit t) (suc n) (drop (suc n) vs))) =
    ap length (slot_set (has_bit t) (has_bit u) n vs e.0 within e.1 (λ i low other. others i other) there) ∙ length-append (there_from (has_bit t) 0 (take n vs)) (e.0 ∷ there_from (has_bit t) (suc n) (drop (suc n) vs)) in
    record { room = is.room; counted = omega (arith, is.counted, before, after) }

pub few_counted : (vs : List Value) (t count : ℕ) → IsChunk vs t count → count ≤ 64
few_counted vs t count is = omega (arith, is.counted, is.room.small, there_length (has_bit t) 0 vs)

-- where each slot of a chunk holds a token and the value comes after them
pub full_grown : (x : Slots) (n : ℕ) (v : Value) → n ≡ length x.values → length (tokens_in_chunk x) ≡ n →
    (tokens_in_chunk x ≡ x.values) × (x.values ++ v ∷ [] ≡ there_from (has_bit x.there) 0 (take n x.values) ++ v ∷ there_from (has_bit x.there) n (drop n x.values))
full_grown x n v end full =
    let size : length (tokens_in_chunk x) ≡ length x.values = full ∙ end in
    let all : tokens_in_chunk x ≡ x.values = there_full (has_bit x.there) 0 x.values size in
    let prefix : there_from (has_bit x.there) 0 (take n x.values) ≡ x.values = ap (there_from (has_bit x.there) 0) (take_all n x.values (omega (arith, end))) ∙ all in
    let rest : there_from (has_bit x.there) n (drop n x.values) ≡ [] = ap (there_from (has_bit x.there) n) (drop_all n x.values (omega (arith, end))) in
    (all, ap (λ r. r ++ v ∷ []) (sym prefix) ∙ ap (λ r. there_from (has_bit x.there) 0 (take n x.values) ++ v ∷ r) (sym rest))

pub replaced_tokens_of : (ss : List Slots) (i : ℕ) (x y : Slots) → i < length ss → x ≡ get_or ss i x → tokens_in_chunk y ≡ tokens_in_chunk x → tokens_in (set ss i y) ≡ tokens_in ss
replaced_tokens_of ss i x y within is same =
    replaced ss i y within ∙ ap (λ z. tokens_in (take i ss) ++ (z ++ tokens_in (drop (suc i) ss))) same ∙ sym (tokens_parts ss i x within is)

-- the same facts, of a chunk that is seen
pub without_seen : (old : Slots) (vs : List Value) (t u k count n : ℕ) → (let new : Slots = record { values = vs; there = t; before = k } in new ≡ old) → IsChunk vs t count → n < length old.values → has_bit old.there n ≡ true → has_bit u n ≡ false → ((i : ℕ) → i < 64 → i ≢ n → has_bit u i ≡ has_bit t i) →
    (0 < count) × IsChunk old.values u (count - 1) × (there_from (has_bit u) 0 old.values ≡ there_from (has_bit old.there) 0 (take n old.values) ++ there_from (has_bit old.there) (suc n) (drop (suc n) old.values))
without_seen old vs t u k count n is chunk within there gone others =
    let F : Slots → Type 0 = λ s. n < length s.values → has_bit s.there n ≡ true →
    (0 < count) × IsChunk s.values u (count - 1) × (there_from (has_bit u) 0 s.values ≡ there_from (has_bit s.there) 0 (take n s.values) ++ there_from (has_bit s.there) (suc n) (drop (suc n) s.values)) in
    subst F is (λ inside here.
    let both = clear_chunk vs t u count n chunk inside here gone others in
    (both.0, both.1, cleared_of (has_bit t) (has_bit u) n vs inside gone (λ i low other. others i (omega (arith, chunk.room.small, low)) other))) within there

pub with_seen : (old : Slots) (vs : List Value) (t u k count n : ℕ) → (let new : Slots = record { values = vs; there = t; before = k } in new ≡ old) → IsChunk vs t count → n < length old.values → has_bit old.there n ≡ false → has_bit u n ≡ true → ((i : ℕ) → i ≢ n → has_bit u i ≡ has_bit t i) →
    IsChunk old.values u (count + 1) × ((v : Value) → slice_get old.values n ≡ Some v → there_from (has_bit u) 0 old.values ≡ there_from (has_bit old.there) 0 (take n old.values) ++ v ∷ there_from (has_bit old.there) (suc n) (drop (suc n) old.values))
with_seen old vs t u k count n is chunk within free there others =
    let F : Slots → Type 0 = λ s. n < length s.values → has_bit s.there n ≡ false →
    IsChunk s.values u (count + 1) × ((v : Value) → slice_get s.values n ≡ Some v → there_from (has_bit u) 0 s.values ≡ there_from (has_bit s.there) 0 (take n s.values) ++ v ∷ there_from (has_bit s.there) (suc n) (drop (suc n) s.values)) in
    subst F is (λ inside here. (
      set_chunk vs t u count n chunk inside here there others,
      λ v at. let found = at_get vs n v at in slot_set (has_bit t) (has_bit u) n vs v found.0 found.1 (λ i low other. others i other) there,
    )) within free

-- the first token
pub first_put : (new : List Slots) (vs : List Value) (v : Value) → vs ≡ v ∷ [] → (y : Slots) × IsFull vs y × (new ≡ y ∷ []) → (tokens_in new ≡ v ∷ []) × AreSound new
first_put new vs v one r =
    let values : values_in new ≡ v ∷ [] = ap values_in r.2 ∙ append-nil r.0.values ∙ r.1.values ∙ one in
    let single : Ascends (v ∷ []) = (tt, tt) in
    let counted : AreCounted 0 0 (r.0 ∷ []) = (r.1.first, omega arith, tt) in (
      ap tokens_in r.2 ∙ append-nil (tokens_in_chunk r.0) ∙ r.1.tokens_are ∙ one,
      record { ascend = subst Ascends (sym values) single; counted = subst (AreCounted 0 0) (sym r.2) counted },
    )

-- a chunk whose slots all hold a token
pub full_chunk : (vs ts : List Value) (word count : ℕ) → vs ≡ ts → count ≡ length ts → HasRoom ts → ((i : ℕ) → i < count → has_bit word i ≡ true) → IsChunk vs word count
full_chunk vs ts word count is size room all = record {
  room = subst HasRoom (sym is) room;
  counted = size ∙ sym (ap length (ap (there_from (has_bit word) 0) is ∙ there_whole (has_bit word) 0 ts (λ i low high. all i (omega (arith, size)))));
}

pub nothing : (xs : List Value) → length xs ≡ 0 → xs ≡ []
nothing [] e = refl
nothing (x ∷ xs) e = absurd (omega arith)
