-- What is taken from a bag and put in it.
use Rattle.std.proofs.Common.{◌≡◌, ℕ, suc, ◌+◌, ◌*◌, ◌<◌, ◌≤◌, Some, slice_get, Bool, true, false, List, [], ◌∷◌, ◌++◌, length, take, drop, get_or, append_assoc, append-nil, length-take, length-drop, length-append, refl, sym, ap, ◌∙◌, subst, arith}
use Rattle.std.proofs.lemmas.Bool.{false≢true, true≢false}
use Rattle.std.proofs.lemmas.List.{take-append-drop, take-take, drop-append-le, append_cancel_left}
use Rattle.std.specs.List.{AllByRecursion}
use Rattle.std.specs.Cmp.{Equal-is}
use Rattle.std.specs.Ordering.{is_lt, is_eq, ordering_reverse}
use Rattle.std.specs.declared.cmp.Ordering.{Ordering}
use Rattle.std.specs.declared.cmp.Ordering.TheVariants.{Less, Equal, Greater}
use Rattle.rn_value.specs.Order.{value_cmp}
use Rattle.rn_value.specs.link.OrderLaws.{value_cmp-total, value_cmp-apart}
use Rattle.rn_value.specs.declared.value.Value.{Value}
use Rattle.rn_model.specs.Lists.{same_value, count_of, with_value, without_one}
use Rattle.rn_model.proofs.ValueLists.{one_if, count_of-cons}
use Rattle.rn_model.proofs.AskedValues.{same_itself}
use Rattle.std.proofs.Math.Seq.{take-append_seam, drop-append_seam}
use Rattle.rn_bag.specs.declared.cut.Cut.{Cut}
use Rattle.rn_bag.specs.declared.cut.Cut.TheVariants.{UpTo}
use Rattle.rn_bag.specs.Cuts.{is_before, AllBefore, NoneBefore, AllBelow, NoneBelow, Ascends}
use Rattle.rn_bag.specs.Slots.{there_from}
use Rattle.rn_bag.specs.link.Chunks.{Slots, AreCounted, tokens_in, values_in}
use Rattle.rn_bag.specs.link.SlotIndices.{tokens_before, tokens_after, values_before, values_after}
use Rattle.rn_bag.specs.Words.{has_bit}
use Rattle.rn_bag.proofs.SlotLemmas.{there_all, there_parts, there_joined, all_joined, all_prefix, all_suffix, all_weaker}
use Rattle.rn_bag.proofs.AscendingLemmas.{below, below_differs, without_at, with_at, with_past, none_below, ascends_suffix}
use Rattle.rn_bag.proofs.SlotIndexLemmas.{tokens_before_is, tokens_after_is, tokens_whole, all_tokens_before, all_tokens_after}
use Rattle.rn_bag.proofs.CountLemmas.{counted_at}
use Rattle.rn_bag.proofs.EditLemmas.{token_here, no_token_here, thin_prefix, at_get}

-- none of these is the value
abbrev pub Absent : Value → List Value → Type 0
Absent v = AllByRecursion (λ w. same_value v w ≡ false)

pub count_absent : (v : Value) (ws : List Value) → Absent v ws → count_of v ws ≡ 0
count_absent v [] out = refl
count_absent v (w ∷ ws) out =
    let none : one_if (same_value v w) ≡ 0 = ap one_if out.0 in
    let more = count_of-cons v w ws in
    omega (arith, none, more, count_absent v ws out.1)

pub count_there : (v : Value) (xs ys : List Value) → 0 < count_of v (xs ++ v ∷ ys)
count_there v [] ys =
    let one : one_if (same_value v v) ≡ 1 = ap one_if (same_itself v) in
    let more = count_of-cons v v ys in
    omega (arith, one, more)
count_there v (x ∷ xs) ys =
    let more = count_of-cons v x (xs ++ v ∷ ys) in
    omega (arith, more, count_there v xs ys)

-- neither is below the other, so they are the same
neither : (r s : Ordering) → r ≡ ordering_reverse s → is_lt r ≡ false → is_lt s ≡ false → is_eq r ≡ true
neither Less s e p q = absurd (false≢true (sym p))
neither Equal s e p q = refl
neither Greater Less e p q = absurd (false≢true (sym q))
neither Greater Equal e p q = absurd (let no : ⊥ = cc in no)
neither Greater Greater e p q = absurd (let no : ⊥ = cc in no)

pub differs_after : (v w y : Value) → same_value v w ≡ false → below w v ≡ false → below y w ≡ false → same_value v y ≡ false
differs_after v w y other high later = elim (same_value v y) as (λ t. same_value v y ≡ t → t ≡ false) [
  | true ↦ λ e. (let same : v ≡ y = value_cmp-apart v y ((Equal-is (value_cmp v y)).0 e) in
      let here : below v w ≡ false = subst (λ z. below z w ≡ false) (sym same) later in
      absurd (true≢false (sym (neither (value_cmp v w) (value_cmp w v) (value_cmp-total.antisymm v w) here high) ∙ other)))
  | false ↦ λ _. refl
] refl

below_absent : (v : Value) (ws : List Value) → AllBelow v ws → Absent v ws
below_absent v ws low = all_weaker (λ w. below w v ≡ true) (λ w. same_value v w ≡ false) ws (λ w h. below_differs v w h) low

-- tokens ascend as their slots do
thin_middle : (t : ℕ → Bool) (n : ℕ) (xs ys zs : List Value) → Ascends (xs ++ (ys ++ zs)) → Ascends (xs ++ (there_from t n ys ++ zs))
thin_middle t n [] ys zs up = thin_prefix t n ys zs up
thin_middle t n (x ∷ xs) ys zs up =
    let P : Value → Type 0 = λ z. below z x ≡ false in
    let rest : AllByRecursion P (ys ++ zs) = all_suffix P xs (ys ++ zs) up.0 in (
      all_joined P xs (there_from t n ys ++ zs) (all_prefix P xs (ys ++ zs) up.0) (all_joined P (there_from t n ys) zs (there_all P t n ys (all_prefix P ys zs rest)) (all_suffix P ys zs rest)),
      thin_middle t n xs ys zs up.1,
    )

tokens_ascend_after : (xs : List Value) (ss : List Slots) → Ascends (xs ++ values_in ss) → Ascends (xs ++ tokens_in ss)
tokens_ascend_after xs [] up = up
tokens_ascend_after xs (s ∷ ss) up =
    let all : Ascends ((xs ++ s.values) ++ tokens_in ss) = tokens_ascend_after (xs ++ s.values) ss (subst Ascends (sym (append_assoc xs s.values (values_in ss))) up) in
    thin_middle (has_bit s.there) 0 xs s.values (tokens_in ss) (subst Ascends (append_assoc xs s.values (tokens_in ss)) all)

pub tokens_ascend : (ss : List Slots) → Ascends (values_in ss) → Ascends (tokens_in ss)
tokens_ascend ss up = tokens_ascend_after [] ss up

-- the tokens round a slot that was sought
pub round_place : (ss : List Slots) (i n : ℕ) (x : Slots) (w : Value) → i < length ss → x ≡ get_or ss i x → n < length x.values → w ≡ get_or x.values n w → has_bit x.there n ≡ true →
    tokens_in ss ≡ tokens_before ss i n ++ w ∷ tokens_after ss i (suc n)
round_place ss i n x w within is inside at there = tokens_whole ss i n ∙ ap (λ r. tokens_before ss i n ++ r) (token_here ss i n x w within is inside at there)

pub sought_below : (v : Value) (ss : List Slots) (i n fi fn : ℕ) → tokens_before ss i n ≡ tokens_before ss fi fn → AllBelow v (values_before ss fi fn) → AllBelow v (tokens_before ss i n)
sought_below v ss i n fi fn same low = subst (AllBelow v) (sym same) (all_tokens_before (λ z. below z v ≡ true) ss fi fn low)

-- no token is left where the value might be
pub none_found : (v : Value) (ss : List Slots) (old : List Value) (i n : ℕ) → tokens_in ss ≡ old → AllBelow v (values_before ss i n) → tokens_after ss i n ≡ [] → count_of v old ≡ 0
none_found v ss old i n view low none =
    let all : tokens_in ss ≡ tokens_before ss i n = tokens_whole ss i n ∙ ap (λ r. tokens_before ss i n ++ r) none ∙ append-nil (tokens_before ss i n) in
    subst (λ r. count_of v r ≡ 0) (sym all ∙ view) (count_absent v (tokens_before ss i n) (below_absent v (tokens_before ss i n) (all_tokens_before (λ z. below z v ≡ true) ss i n low)))

-- the first token that isn't below the value is another
pub other_found : (v w : Value) (ss : List Slots) (old : List Value) (i n fi fn : ℕ) (x : Slots) → tokens_in ss ≡ old → Ascends (values_in ss) → i < length ss → x ≡ get_or ss i x → n < length x.values → w ≡ get_or x.values n w → has_bit x.there n ≡ true →
    tokens_before ss i n ≡ tokens_before ss fi fn → AllBelow v (values_before ss fi fn) → NoneBelow v (values_after ss fi fn) → same_value v w ≡ false → count_of v old ≡ 0
other_found v w ss old i n fi fn x view up within is inside at there same low high other =
    let a : List Value = tokens_before ss i n in
    let b : List Value = tokens_after ss i (suc n) in
    let all : tokens_in ss ≡ a ++ w ∷ b = round_place ss i n x w within is inside at there in
    let cut : a ++ w ∷ b ≡ a ++ tokens_after ss fi fn = sym all ∙ tokens_whole ss fi fn ∙ ap (λ r. r ++ tokens_after ss fi fn) (sym same) in
    let rest : w ∷ b ≡ tokens_after ss fi fn = append_cancel_left a (w ∷ b) (tokens_after ss fi fn) cut in
    let none : NoneBelow v (w ∷ b) = subst (NoneBelow v) (sym rest) (all_tokens_after (λ z. below z v ≡ false) ss fi fn high) in
    let up_here : Ascends (w ∷ b) = ascends_suffix a (w ∷ b) (subst Ascends all (tokens_ascend ss up)) in
    let later : Absent v b = all_weaker (λ z. below z w ≡ false) (λ z. same_value v z ≡ false) b (λ z h. differs_after v w z other none.0 h) up_here.0 in
    let front : Absent v a = below_absent v a (sought_below v ss i n fi fn same low) in
    subst (λ r. count_of v r ≡ 0) (sym all ∙ view) (count_absent v (a ++ w ∷ b) (all_joined (λ z. same_value v z ≡ false) a (w ∷ b) front (other, later)))

-- equal values may stand in any order
equal_shift : (v : Value) (xs ys : List Value) → AllByRecursion (λ w. w ≡ v) xs → v ∷ (xs ++ ys) ≡ xs ++ v ∷ ys
equal_shift v [] ys all = refl
equal_shift v (x ∷ xs) ys all =
    ap (λ z. v ∷ z ∷ (xs ++ ys)) all.0 ∙ ap (λ r. v ∷ r) (equal_shift v xs ys all.1) ∙ ap (λ z. z ∷ (xs ++ v ∷ ys)) (sym all.0)

between_before : (t : ℕ → Bool) (n m : ℕ) (vs : List Value) → n ≤ m → there_from t 0 (take m vs) ≡ there_from t 0 (take n vs) ++ there_from t n (drop n (take m vs))
between_before t n m vs order = there_parts t n (take m vs) ∙ ap (λ r. there_from t 0 r ++ there_from t n (drop n (take m vs))) (take-take n m vs order)

between_after : (t : ℕ → Bool) (n m : ℕ) (vs : List Value) → n ≤ m → m ≤ length vs → there_from t n (drop n vs) ≡ there_from t n (drop n (take m vs)) ++ there_from t m (drop m vs)
between_after t n m vs order within =
    let size : n ≤ length (take m vs) = omega (arith, length-take m vs) in
    let parts : drop n vs ≡ drop n (take m vs) ++ drop m vs = ap (drop n) (sym (take-append-drop m vs)) ∙ drop-append-le n (take m vs) (drop m vs) size in
    let place : n + length (drop n (take m vs)) ≡ m = omega (arith, length-drop n (take m vs), length-take m vs) in
    ap (there_from t n) parts ∙ there_joined t n (drop n (take m vs)) (drop m vs) ∙ ap (λ j. there_from t n (drop n (take m vs)) ++ there_from t j (drop m vs)) place

-- an equal slot without a token gets one
pub put_again : (v : Value) (ss : List Slots) (old : List Value) (i n m : ℕ) (x : Slots) → tokens_in ss ≡ old → i < length ss → x ≡ get_or ss i x → n ≤ m → m < length x.values → slice_get x.values m ≡ Some v → has_bit x.there m ≡ false →
    AllByRecursion (λ w. w ≡ v) (drop n (take m x.values)) → AllBelow v (values_before ss i n) → NoneBelow v (values_after ss i n) →
    tokens_before ss i m ++ v ∷ tokens_after ss i (suc m) ≡ with_value v old
put_again v ss old i n m x view within is order inside at out equal low high =
    let t : ℕ → Bool = has_bit x.there in
    let e : List Value = there_from t n (drop n (take m x.values)) in
    let p : List Value = tokens_before ss i n in
    let q : List Value = tokens_after ss i (suc m) in
    let found = at_get x.values m v at in
    let all_equal : AllByRecursion (λ w. w ≡ v) e = there_all (λ w. w ≡ v) t n (drop n (take m x.values)) equal in
    let before : tokens_before ss i m ≡ p ++ e =
    tokens_before_is ss i m x within is ∙ ap (λ r. tokens_in (take i ss) ++ r) (between_before t n m x.values order)
    ∙ sym (append_assoc (tokens_in (take i ss)) (there_from t 0 (take n x.values)) e) ∙ ap (λ r. r ++ e) (sym (tokens_before_is ss i n x within is)) in
    let after : tokens_after ss i n ≡ e ++ q =
    tokens_after_is ss i n x within is ∙ ap (λ r. r ++ tokens_in (drop (suc i) ss)) (between_after t n m x.values order (omega arith))
    ∙ append_assoc e (there_from t m (drop m x.values)) (tokens_in (drop (suc i) ss)) ∙ ap (λ r. e ++ r) (sym (tokens_after_is ss i m x within is) ∙ no_token_here ss i m x v within is inside found.1 out) in
    let p_low : AllBelow v p = all_tokens_before (λ z. below z v ≡ true) ss i n low in
    let q_high : NoneBelow v (tokens_after ss i n) = all_tokens_after (λ z. below z v ≡ false) ss i n high in
    ap (λ r. r ++ v ∷ q) before ∙ append_assoc p e (v ∷ q) ∙ ap (λ r. p ++ r) (sym (equal_shift v e q all_equal))
    ∙ ap (λ r. p ++ v ∷ r) (sym after) ∙ sym (with_at v p (tokens_after ss i n) p_low q_high) ∙ ap (with_value v) (sym (tokens_whole ss i n) ∙ view)

-- a value that comes anew
pub put_anew : (v : Value) (ss : List Slots) (old : List Value) (i n : ℕ) → Ascends (values_in ss) → tokens_in ss ≡ old → AllBefore UpTo v (values_before ss i n) → NoneBefore UpTo v (values_after ss i n) → tokens_before ss i n ++ v ∷ tokens_after ss i n ≡ with_value v old
put_anew v ss old i n up view low high =
    let whole : tokens_in ss ≡ tokens_before ss i n ++ tokens_after ss i n = tokens_whole ss i n in
    sym (with_past v (tokens_before ss i n) (tokens_after ss i n) (subst Ascends whole (tokens_ascend ss up)) (all_tokens_before (λ z. is_before UpTo v z ≡ true) ss i n low)
    (none_below v (tokens_after ss i n) (all_tokens_after (λ z. is_before UpTo v z ≡ false) ss i n high)))
    ∙ ap (with_value v) (sym whole ∙ view)

-- a token that goes
pub taken_out : (v w : Value) (ss : List Slots) (old : List Value) (i n fi fn : ℕ) (x : Slots) → tokens_in ss ≡ old → i < length ss → x ≡ get_or ss i x → n < length x.values → w ≡ get_or x.values n w → has_bit x.there n ≡ true →
    tokens_before ss i n ≡ tokens_before ss fi fn → AllBelow v (values_before ss fi fn) → w ≡ v → (0 < count_of v old) × (tokens_before ss i n ++ tokens_after ss i (suc n) ≡ without_one old v)
taken_out v w ss old i n fi fn x view within is inside at there same low equal =
    let a : List Value = tokens_before ss i n in
    let b : List Value = tokens_after ss i (suc n) in
    let all : old ≡ a ++ v ∷ b = sym view ∙ round_place ss i n x w within is inside at there ∙ ap (λ z. a ++ z ∷ b) equal in (
      subst (λ r. 0 < count_of v r) (sym all) (count_there v a b),
      sym (without_at v a b (sought_below v ss i n fi fn same low)) ∙ ap (λ r. without_one r v) (sym all),
    )

pub not_same : (v w : Value) → (w ≡ v → ⊥) → same_value v w ≡ false
not_same v w differ = elim (same_value v w) as (λ t. same_value v w ≡ t → t ≡ false) [
  | true ↦ λ e. absurd (differ (sym (value_cmp-apart v w ((Equal-is (value_cmp v w)).0 e))))
  | false ↦ λ _. refl
] refl

pub after_same : (ss : List Slots) (i n fi fn : ℕ) → tokens_before ss i n ≡ tokens_before ss fi fn → tokens_after ss i n ≡ tokens_after ss fi fn
after_same ss i n fi fn same =
    append_cancel_left (tokens_before ss i n) (tokens_after ss i n) (tokens_after ss fi fn) (sym (tokens_whole ss i n) ∙ tokens_whole ss fi fn ∙ ap (λ r. r ++ tokens_after ss fi fn) (sym same))

-- what a cut says of all tokens
pub cut_found : (cut : Cut) (key : Value) (ss : List Slots) (old : List Value) (i n r : ℕ) → tokens_in ss ≡ old → AllBefore cut key (values_before ss i n) → NoneBefore cut key (values_after ss i n) → r ≡ length (tokens_before ss i n) →
    (r ≤ length old) × AllBefore cut key (take r old) × NoneBefore cut key (drop r old)
cut_found cut key ss old i n r view low high is =
    let a : List Value = tokens_before ss i n in
    let b : List Value = tokens_after ss i n in
    let all : old ≡ a ++ b = sym view ∙ tokens_whole ss i n in
    let prefix : take r old ≡ a = ap (λ k. take k old) is ∙ ap (take (length a)) all ∙ take-append_seam a b in
    let suffix : drop r old ≡ b = ap (λ k. drop k old) is ∙ ap (drop (length a)) all ∙ drop-append_seam a b in
    let size : length old ≡ length a + length b = ap length all ∙ length-append a b in (
      omega (arith, size, is),
      subst (AllBefore cut key) (sym prefix) (all_tokens_before (λ z. is_before cut key z ≡ true) ss i n low),
      subst (NoneBefore cut key) (sym suffix) (all_tokens_after (λ z. is_before cut key z ≡ false) ss i n high),
    )

-- how many tokens stand before a slot
pub cut_count : (ss : List Slots) (i n b r : ℕ) (x : Slots) → AreCounted 0 0 ss → i < length ss → x ≡ get_or ss i x → b ≡ x.before → r ≡ length (there_from (has_bit x.there) 0 (take n x.values)) →
    (b + r ≡ length (tokens_before ss i n)) × (b ≤ 64 * i)
cut_count ss i n b r x told within is before rank =
    let at = counted_at 0 0 ss i x told within is in
    let size : length (tokens_before ss i n) ≡ length (tokens_in (take i ss)) + length (there_from (has_bit x.there) 0 (take n x.values)) =
    ap length (tokens_before_is ss i n x within is) ∙ length-append (tokens_in (take i ss)) (there_from (has_bit x.there) 0 (take n x.values)) in
    (omega (arith, size, at.0, before, rank), omega (arith, at.0, at.1, before))

pub bag_ascends : (ss : List Slots) (old : List Value) → tokens_in ss ≡ old → Ascends (values_in ss) → Ascends old
bag_ascends ss old view up = subst Ascends view (tokens_ascend ss up)
