-- Slots by the index of a chunk, and the index in it.
use Rattle.std.proofs.Common.{◌≡◌, ℕ, zero, suc, ◌+◌, ◌<◌, ◌≤◌, true, false, List, [], ◌∷◌, ◌++◌, length, take, drop, get_or, append_assoc, append-nil, length-drop, refl, sym, ap, ◌∙◌, subst, arith}
use Rattle.std.proofs.lemmas.List.{take-append-drop, take_more, take_all, drop_all}
use Rattle.std.proofs.lemmas.List.Concat.{flat_map-append}
use Rattle.std.specs.List.{AllByRecursion}
use Rattle.rn_value.specs.declared.value.Value.{Value}
use Rattle.rn_bag.specs.declared.cut.Cut.{Cut}
use Rattle.rn_bag.specs.Cuts.{is_before, AllBefore, NoneBefore, Ascends}
use Rattle.rn_bag.specs.Slots.{there_from}
use Rattle.rn_bag.specs.link.Chunks.{Slots, tokens_in_chunk, tokens_in, values_in}
use Rattle.rn_bag.specs.link.SlotIndices.{tokens_before, tokens_after, values_before, values_after}
use Rattle.rn_bag.specs.Words.{has_bit}
use Rattle.rn_bag.proofs.SlotLemmas.{there_all, there_parts, all_joined, all_prefix, all_suffix}
use Rattle.rn_bag.proofs.AscendingLemmas.{ascends_suffix, ascends_prefix}
use Rattle.rn_bag.proofs.CutLemmas.{all_before, none_after}

-- what stands before and after a slot of a chunk
pub values_before_is : (ss : List Slots) (i n : ℕ) (x : Slots) → i < length ss → x ≡ get_or ss i x → values_before ss i n ≡ values_in (take i ss) ++ take n x.values
values_before_is [] i n x within is = absurd (omega arith)
values_before_is (s ∷ ss) zero n x within is = ap (λ (y : Slots). take n y.values) (sym is)
values_before_is (s ∷ ss) (suc i) n x within is =
    ap (λ r. s.values ++ r) (values_before_is ss i n x (omega arith) is) ∙ sym (append_assoc s.values (values_in (take i ss)) (take n x.values))

pub values_after_is : (ss : List Slots) (i n : ℕ) (x : Slots) → i < length ss → x ≡ get_or ss i x → values_after ss i n ≡ drop n x.values ++ values_in (drop (suc i) ss)
values_after_is [] i n x within is = absurd (omega arith)
values_after_is (s ∷ ss) zero n x within is = ap (λ (y : Slots). drop n y.values ++ values_in ss) (sym is)
values_after_is (s ∷ ss) (suc i) n x within is = values_after_is ss i n x (omega arith) is

pub tokens_before_is : (ss : List Slots) (i n : ℕ) (x : Slots) → i < length ss → x ≡ get_or ss i x → tokens_before ss i n ≡ tokens_in (take i ss) ++ there_from (has_bit x.there) 0 (take n x.values)
tokens_before_is [] i n x within is = absurd (omega arith)
tokens_before_is (s ∷ ss) zero n x within is = ap (λ (y : Slots). there_from (has_bit y.there) 0 (take n y.values)) (sym is)
tokens_before_is (s ∷ ss) (suc i) n x within is =
    ap (λ r. tokens_in_chunk s ++ r) (tokens_before_is ss i n x (omega arith) is) ∙ sym (append_assoc (tokens_in_chunk s) (tokens_in (take i ss)) (there_from (has_bit x.there) 0 (take n x.values)))

pub tokens_after_is : (ss : List Slots) (i n : ℕ) (x : Slots) → i < length ss → x ≡ get_or ss i x → tokens_after ss i n ≡ there_from (has_bit x.there) n (drop n x.values) ++ tokens_in (drop (suc i) ss)
tokens_after_is [] i n x within is = absurd (omega arith)
tokens_after_is (s ∷ ss) zero n x within is = ap (λ (y : Slots). there_from (has_bit y.there) n (drop n y.values) ++ tokens_in ss) (sym is)
tokens_after_is (s ∷ ss) (suc i) n x within is = tokens_after_is ss i n x (omega arith) is

-- all chunks are those before one, it, and those after it
pub values_parts : (ss : List Slots) (i : ℕ) (x : Slots) → i < length ss → x ≡ get_or ss i x → values_in ss ≡ values_in (take i ss) ++ (x.values ++ values_in (drop (suc i) ss))
values_parts [] i x within is = absurd (omega arith)
values_parts (s ∷ ss) zero x within is = ap (λ (y : Slots). y.values ++ values_in ss) (sym is)
values_parts (s ∷ ss) (suc i) x within is = ap (λ r. s.values ++ r) (values_parts ss i x (omega arith) is) ∙ sym (append_assoc s.values (values_in (take i ss)) (x.values ++ values_in (drop (suc i) ss)))

pub tokens_parts : (ss : List Slots) (i : ℕ) (x : Slots) → i < length ss → x ≡ get_or ss i x → tokens_in ss ≡ tokens_in (take i ss) ++ (tokens_in_chunk x ++ tokens_in (drop (suc i) ss))
tokens_parts [] i x within is = absurd (omega arith)
tokens_parts (s ∷ ss) zero x within is = ap (λ (y : Slots). tokens_in_chunk y ++ tokens_in ss) (sym is)
tokens_parts (s ∷ ss) (suc i) x within is = ap (λ r. tokens_in_chunk s ++ r) (tokens_parts ss i x (omega arith) is) ∙ sym (append_assoc (tokens_in_chunk s) (tokens_in (take i ss)) (tokens_in_chunk x ++ tokens_in (drop (suc i) ss)))

-- what holds of all values holds of all tokens
pub all_tokens_in : (P : Value → Type 0) (ss : List Slots) → AllByRecursion P (values_in ss) → AllByRecursion P (tokens_in ss)
all_tokens_in P [] all = tt
all_tokens_in P (s ∷ ss) all =
    all_joined P (tokens_in_chunk s) (tokens_in ss) (there_all P (has_bit s.there) 0 s.values (all_prefix P s.values (values_in ss) all)) (all_tokens_in P ss (all_suffix P s.values (values_in ss) all))

pub all_tokens_before : (P : Value → Type 0) (ss : List Slots) (i n : ℕ) → AllByRecursion P (values_before ss i n) → AllByRecursion P (tokens_before ss i n)
all_tokens_before P [] i n all = tt
all_tokens_before P (s ∷ ss) zero n all = there_all P (has_bit s.there) 0 (take n s.values) all
all_tokens_before P (s ∷ ss) (suc i) n all =
    all_joined P (tokens_in_chunk s) (tokens_before ss i n) (there_all P (has_bit s.there) 0 s.values (all_prefix P s.values (values_before ss i n) all)) (all_tokens_before P ss i n (all_suffix P s.values (values_before ss i n) all))

pub all_tokens_after : (P : Value → Type 0) (ss : List Slots) (i n : ℕ) → AllByRecursion P (values_after ss i n) → AllByRecursion P (tokens_after ss i n)
all_tokens_after P [] i n all = tt
all_tokens_after P (s ∷ ss) zero n all =
    all_joined P (there_from (has_bit s.there) n (drop n s.values)) (tokens_in ss) (there_all P (has_bit s.there) n (drop n s.values) (all_prefix P (drop n s.values) (values_in ss) all)) (all_tokens_in P ss (all_suffix P (drop n s.values) (values_in ss) all))
all_tokens_after P (s ∷ ss) (suc i) n all = all_tokens_after P ss i n all

-- the values of a chunk ascend
pub chunk_ascends : (ss : List Slots) (i : ℕ) (x : Slots) → Ascends (values_in ss) → i < length ss → x ≡ get_or ss i x → Ascends x.values
chunk_ascends ss i x up within is =
    ascends_prefix x.values (values_in (drop (suc i) ss)) (ascends_suffix (values_in (take i ss)) (x.values ++ values_in (drop (suc i) ss)) (subst Ascends (values_parts ss i x within is) up))

module _ (cut : Cut) (key : Value) where
  abbrev In : Value → Type 0
  In z = is_before cut key z ≡ true

  abbrev Out : Value → Type 0
  Out z = is_before cut key z ≡ false

  prefix_before : (xs zs ys : List Value) → 0 < length zs → Ascends (xs ++ (zs ++ ys)) → AllBefore cut key zs → AllBefore cut key xs
  prefix_before xs [] ys some up low = absurd (omega arith)
  prefix_before xs (z ∷ zs) ys some up low = all_before cut key xs z (zs ++ ys) up low.0

  -- a step of halving over chunks
  pub chunks_up : (ss : List Slots) (i : ℕ) (x : Slots) → Ascends (values_in ss) → i < length ss → x ≡ get_or ss i x → 0 < length x.values → AllBefore cut key x.values → AllBefore cut key (values_in (take (i + 1) ss))
  chunks_up ss i x up within is some low =
      let more : take (i + 1) ss ≡ take i ss ++ x ∷ [] = take_more ss i x within ∙ ap (λ y. take i ss ++ y ∷ []) (sym is) in
      let parts : values_in (take (i + 1) ss) ≡ values_in (take i ss) ++ (x.values ++ []) = ap values_in more ∙ flat_map-append (λ (s : Slots). s.values) (take i ss) (x ∷ []) in
      let prefix : AllBefore cut key (values_in (take i ss)) = prefix_before (values_in (take i ss)) x.values (values_in (drop (suc i) ss)) some (subst Ascends (values_parts ss i x within is) up) low in
      subst (AllBefore cut key) (sym parts) (all_joined In (values_in (take i ss)) (x.values ++ []) prefix (all_joined In x.values [] low tt))

  -- a slot in ascending slots before which all slots stand before the cut
  pub seek_before : (ss : List Slots) (i n : ℕ) (x : Slots) → i < length ss → x ≡ get_or ss i x → AllBefore cut key (values_in (take i ss)) → AllBefore cut key (take n x.values) → AllBefore cut key (values_before ss i n)
  seek_before ss i n x within is prefix here =
      subst (AllBefore cut key) (sym (values_before_is ss i n x within is)) (all_joined In (values_in (take i ss)) (take n x.values) prefix here)

  none_of_rest : (xs zs : List Value) → Ascends (xs ++ zs) → NoneBefore cut key xs → (length xs ≡ 0 → ⊥) → NoneBefore cut key (xs ++ zs)
  none_of_rest [] zs up none some = absurd (some refl)
  none_of_rest (x ∷ xs) zs up none some = (none.0, none_after cut key x (xs ++ zs) up none.0)

  pub seek_rest : (ss : List Slots) (i n : ℕ) (x : Slots) → Ascends (values_in ss) → i < length ss → x ≡ get_or ss i x → n ≤ length x.values → AllBefore cut key (take n x.values) → NoneBefore cut key (drop n x.values) → (AllBefore cut key x.values → ⊥) → NoneBefore cut key (values_after ss i n)
  seek_rest ss i n x up within is inside prefix here some =
      let whole : AllBefore cut key (take n x.values) → length x.values ≤ n → ⊥ = λ low past. some (subst (AllBefore cut key) (take_all n x.values past) low) in
      let left : length (drop n x.values) ≡ 0 → ⊥ = λ none. whole prefix (omega (arith, length-drop n x.values)) in
      let from : values_in ss ≡ values_in (take i ss) ++ (x.values ++ values_in (drop (suc i) ss)) = values_parts ss i x within is in
      let here_up : Ascends (x.values ++ values_in (drop (suc i) ss)) = ascends_suffix (values_in (take i ss)) (x.values ++ values_in (drop (suc i) ss)) (subst Ascends from up) in
      let parts : x.values ++ values_in (drop (suc i) ss) ≡ take n x.values ++ (drop n x.values ++ values_in (drop (suc i) ss)) = ap (λ r. r ++ values_in (drop (suc i) ss)) (sym (take-append-drop n x.values)) ∙ append_assoc (take n x.values) (drop n x.values) (values_in (drop (suc i) ss)) in
      let rest_up : Ascends (drop n x.values ++ values_in (drop (suc i) ss)) = ascends_suffix (take n x.values) (drop n x.values ++ values_in (drop (suc i) ss)) (subst Ascends parts here_up) in
      subst (NoneBefore cut key) (sym (values_after_is ss i n x within is)) (none_of_rest (drop n x.values) (values_in (drop (suc i) ss)) rest_up here left)

  -- the end of the last chunk
  pub end_before : (ss : List Slots) (i n : ℕ) (x : Slots) → i + 1 ≡ length ss → x ≡ get_or ss i x → n ≡ length x.values → AllBefore cut key (values_in (take (i + 1) ss)) → AllBefore cut key (values_before ss i n)
  end_before ss i n x end is size low =
      let more : take (i + 1) ss ≡ take i ss ++ x ∷ [] = take_more ss i x (omega arith) ∙ ap (λ y. take i ss ++ y ∷ []) (sym is) in
      let parts : values_in (take (i + 1) ss) ≡ values_in (take i ss) ++ (x.values ++ []) = ap values_in more ∙ flat_map-append (λ (s : Slots). s.values) (take i ss) (x ∷ []) in
      let here : x.values ++ [] ≡ take n x.values = append-nil x.values ∙ sym (take_all n x.values (omega arith)) in
      subst (AllBefore cut key) (parts ∙ ap (λ r. values_in (take i ss) ++ r) here ∙ sym (values_before_is ss i n x (omega arith) is)) low

  pub end_rest : (ss : List Slots) (i n : ℕ) (x : Slots) → i + 1 ≡ length ss → x ≡ get_or ss i x → n ≡ length x.values → NoneBefore cut key (values_after ss i n)
  end_rest ss i n x end is size =
      let here : drop n x.values ≡ [] = drop_all n x.values (omega arith) in
      let later : drop (suc i) ss ≡ [] = drop_all (suc i) ss (omega arith) in
      let none : values_after ss i n ≡ [] = values_after_is ss i n x (omega arith) is ∙ ap (λ r. r ++ values_in (drop (suc i) ss)) here ∙ ap values_in later in
      subst (NoneBefore cut key) (sym none) tt

  pub rest_of_chunk : (ss : List Slots) (i n : ℕ) (x : Slots) → i < length ss → x ≡ get_or ss i x → NoneBefore cut key (values_after ss i n) → NoneBefore cut key (drop n x.values)
  rest_of_chunk ss i n x within is high = all_prefix Out (drop n x.values) (values_in (drop (suc i) ss)) (subst (NoneBefore cut key) (values_after_is ss i n x within is) high)

-- the ends of slots
pub tokens_after_past : (ss : List Slots) (i n : ℕ) → length ss ≤ i → tokens_after ss i n ≡ []
tokens_after_past [] i n past = refl
tokens_after_past (s ∷ ss) zero n past = absurd (omega arith)
tokens_after_past (s ∷ ss) (suc i) n past = tokens_after_past ss i n (omega arith)

tokens_after_first : (ss : List Slots) (i : ℕ) → tokens_after ss i 0 ≡ tokens_in (drop i ss)
tokens_after_first [] zero = refl
tokens_after_first [] (suc i) = refl
tokens_after_first (s ∷ ss) zero = refl
tokens_after_first (s ∷ ss) (suc i) = tokens_after_first ss i

tokens_before_first : (ss : List Slots) (i : ℕ) → tokens_before ss i 0 ≡ tokens_in (take i ss)
tokens_before_first [] zero = refl
tokens_before_first [] (suc i) = refl
tokens_before_first (s ∷ ss) zero = refl
tokens_before_first (s ∷ ss) (suc i) = ap (λ r. tokens_in_chunk s ++ r) (tokens_before_first ss i)

-- all tokens are those before a place and those from it on
pub tokens_whole : (ss : List Slots) (i n : ℕ) → tokens_in ss ≡ tokens_before ss i n ++ tokens_after ss i n
tokens_whole [] i n = refl
tokens_whole (s ∷ ss) zero n =
    ap (λ r. r ++ tokens_in ss) (there_parts (has_bit s.there) n s.values) ∙ append_assoc (there_from (has_bit s.there) 0 (take n s.values)) (there_from (has_bit s.there) n (drop n s.values)) (tokens_in ss)
tokens_whole (s ∷ ss) (suc i) n = ap (λ r. tokens_in_chunk s ++ r) (tokens_whole ss i n) ∙ sym (append_assoc (tokens_in_chunk s) (tokens_before ss i n) (tokens_after ss i n))

-- on to the next chunk, where no token is left in this one
pub next_before : (ss : List Slots) (i n : ℕ) (x : Slots) → i < length ss → x ≡ get_or ss i x → there_from (has_bit x.there) n (drop n x.values) ≡ [] → tokens_before ss (i + 1) 0 ≡ tokens_before ss i n
next_before ss i n x within is none =
    let more : take (i + 1) ss ≡ take i ss ++ x ∷ [] = take_more ss i x within ∙ ap (λ y. take i ss ++ y ∷ []) (sym is) in
    let parts : tokens_in (take (i + 1) ss) ≡ tokens_in (take i ss) ++ (tokens_in_chunk x ++ []) = ap tokens_in more ∙ flat_map-append tokens_in_chunk (take i ss) (x ∷ []) in
    let here : tokens_in_chunk x ≡ there_from (has_bit x.there) 0 (take n x.values) = there_parts (has_bit x.there) n x.values ∙ ap (λ r. there_from (has_bit x.there) 0 (take n x.values) ++ r) none ∙ append-nil (there_from (has_bit x.there) 0 (take n x.values)) in
    tokens_before_first ss (i + 1) ∙ parts ∙ ap (λ r. tokens_in (take i ss) ++ r) (append-nil (tokens_in_chunk x) ∙ here) ∙ sym (tokens_before_is ss i n x within is)

pub next_after : (ss : List Slots) (i n : ℕ) (x : Slots) → i < length ss → x ≡ get_or ss i x → there_from (has_bit x.there) n (drop n x.values) ≡ [] → tokens_after ss (i + 1) 0 ≡ tokens_after ss i n
next_after ss i n x within is none =
    let place : i + 1 ≡ suc i = omega arith in
    ap (λ j. tokens_after ss j 0) place ∙ tokens_after_first ss (suc i) ∙ ap (λ r. r ++ tokens_in (drop (suc i) ss)) (sym none) ∙ sym (tokens_after_is ss i n x within is)

-- another slot of the same chunk, with the same tokens before it
pub same_before : (ss : List Slots) (i m n : ℕ) (x : Slots) → i < length ss → x ≡ get_or ss i x → there_from (has_bit x.there) 0 (take m x.values) ≡ there_from (has_bit x.there) 0 (take n x.values) → tokens_before ss i m ≡ tokens_before ss i n
same_before ss i m n x within is same = tokens_before_is ss i m x within is ∙ ap (λ r. tokens_in (take i ss) ++ r) same ∙ sym (tokens_before_is ss i n x within is)
