-- New lists in the place of old ones.
use Rattle.std.proofs.Common.{◌≡◌, ◌≢◌, ◌<◌, ◌≤◌, ◌+◌, ℕ, zero, suc, List, [], ◌∷◌, ◌++◌}
use Rattle.std.proofs.Common.{length, get_or, take, refl, sym, ap, ◌∙◌, subst, arith}
use Rattle.std.proofs.Common.{inl, inr, ⊎_elim}
use Rattle.std.specs.Prelude.{◌⊎◌, All, Contains, Result, Ok, Err, OnOk, is_ok, false, true}
use Rattle.std.specs.Prelude.{slice_set}
use Rattle.std.specs.BTreeSet.{BTreeSet, contains, Updates}
use Rattle.std.specs.Ordering.{nat_cmp}
use Rattle.std.proofs.lemmas.List.{map-append, get_or-set_same, get_or-set_other, length-set}
use Rattle.std.proofs.lemmas.List.{set_past, take_more}
use Rattle.std.proofs.lemmas.List.Elements.{All-head, All-tail, All-push}
use Rattle.rn_model.specs.declared.binding.Binding.{Binding}
use Rattle.rn_finder.proofs.Numbers.{less_or_not}
use Rattle.rn_incr.specs.declared.fresh.Fresh.{Fresh}
use Rattle.rn_incr.specs.link.Kept.{some_in, AreBusy, AreNear, AreNoted, ArePut, GrowsBy}
use Rattle.rn_incr.specs.link.Kept.{numbers_of, put_in}
use Rattle.rn_incr.proofs.BusyLemmas.{not_both, now_in, still_in, grows_on, grown_near}
use Rattle.rn_incr.proofs.ListedLemmas.{past_default}
use Rattle.rn_items.proofs.Numbers.{in_or_not}

same_or_not : (i j : ℕ) → (i ≡ j) ⊎ (i ≢ j)
same_or_not zero zero = inl refl
same_or_not zero (suc j) = inr (λ e. let no : ⊥ = omega (arith, e) in no)
same_or_not (suc i) zero = inr (λ e. let no : ⊥ = omega (arith, e) in no)
same_or_not (suc i) (suc j) = ⊎_elim
    (λ (same : i ≡ j). inl (ap suc same))
    (λ (not : i ≢ j). inr (λ e. not (omega (arith, e))))
    (same_or_not i j)

none_in : (n : ℕ) → Contains {X = ℕ} [] n → ⊥
none_in n (i, within, at) = omega (arith, within)

later : (x : ℕ) (xs : List ℕ) (n : ℕ) → Contains xs n → Contains (x ∷ xs) n
later x xs n (i, within, at) = (suc i, omega (arith, within), at)

first_or_later : (x : ℕ) (xs : List ℕ) (n : ℕ) → Contains (x ∷ xs) n → (x ≡ n) ⊎ Contains xs n
first_or_later x xs n (zero, within, at) = inl at
first_or_later x xs n (suc i, within, at) = inr (i, omega (arith, within), at)

-- an empty list at the end changes no list
pub same_longer : (lists : List (List Binding)) (n : ℕ) →
    get_or (lists ++ [] ∷ []) n [] ≡ get_or lists n []
same_longer [] zero = refl
same_longer [] (suc n) = refl
same_longer (xs ∷ lists) zero = refl
same_longer (xs ∷ lists) (suc n) = same_longer lists n

-- the last of some new lists comes first
pub put_last : (fresh : List Fresh) (one : Fresh) (lists : List (List Binding)) →
    put_in (fresh ++ one ∷ []) lists ≡ put_in fresh (slice_set lists one.number one.list)
put_last [] one lists = refl
put_last (f ∷ fresh) one lists =
    ap (λ ls. slice_set ls f.number f.list) (put_last fresh one lists)

length_put : (fresh : List Fresh) (lists : List (List Binding)) →
    length (put_in fresh lists) ≡ length lists
length_put [] lists = refl
length_put (f ∷ fresh) lists =
    length-set (put_in fresh lists) f.number f.list ∙ length_put fresh lists

-- the list of a number after new lists have come: one of these, or that which was there
put_at : (P : ℕ → List Binding → Type 0) (fresh : List Fresh) (lists : List (List Binding)) →
    All (λ f. P f.number f.list) fresh → ((n : ℕ) → length lists ≤ n → P n []) → (n : ℕ) →
    (¬ Contains (numbers_of fresh) n → P n (get_or lists n [])) →
    P n (get_or (put_in fresh lists) n [])
put_at P [] lists fit past n rest = rest (λ has. none_in n has)
put_at P (f ∷ fresh) lists fit past n rest =
    let before = put_in fresh lists in
    ⊎_elim
    (λ (same : n ≡ f.number).
    subst (λ k. P k (get_or (slice_set before f.number f.list) k [])) (sym same)
    (⊎_elim
    (λ (within : f.number < length before).
    subst (P f.number) (sym (get_or-set_same before f.number f.list [] within))
    (All-head (λ (g : Fresh). P g.number g.list) f fresh fit))
    (λ (beyond : length before ≤ f.number).
    subst (P f.number)
    (sym (ap (λ ls. get_or ls f.number []) (set_past before f.number f.list beyond)
    ∙ past_default before f.number beyond))
    (past f.number (subst (λ k. k ≤ f.number) (length_put fresh lists) beyond)))
    (less_or_not f.number (length before))))
    (λ (apart : n ≢ f.number).
    subst (P n) (sym (get_or-set_other before f.number n f.list [] apart))
    (put_at P fresh lists (All-tail (λ (g : Fresh). P g.number g.list) f fresh fit) past n
    (λ not. rest (λ has. ⊎_elim
    (λ (first : f.number ≡ n). apart (sym first))
    (λ (other : Contains (numbers_of fresh) n). not other)
    (first_or_later f.number (numbers_of fresh) n has)))))
    (same_or_not n f.number)

-- what is so of the new lists and of each other old one is so of all
pub all_put : (P : ℕ → List Binding → Type 0) (end : ℕ) (fresh : List Fresh)
    (before after : List (List Binding)) → ArePut end fresh before after →
    All (λ f. P f.number f.list) fresh →
    ((n : ℕ) → ¬ Contains (numbers_of fresh) n → P n (get_or before n [])) →
    ((n : ℕ) → end ≤ n → P n []) → (n : ℕ) → P n (get_or after n [])
all_put P end fresh before after put fit rest past n =
    let long = put.long in
    subst (λ ls. P n (get_or ls n [])) (sym put.put)
    (put_at P fresh put.room fit (λ k h. past k (omega (arith, h, long))) n
    (λ not. subst (P n) (sym (put.same n)) (rest n not)))

-- a list without a new one stays
stays : (fresh : List Fresh) (lists : List (List Binding)) (n : ℕ) →
    ¬ Contains (numbers_of fresh) n → get_or (put_in fresh lists) n [] ≡ get_or lists n []
stays [] lists n not = refl
stays (f ∷ fresh) lists n not =
    get_or-set_other (put_in fresh lists) f.number n f.list []
    (λ same. not (zero, omega arith, sym same))
    ∙ stays fresh lists n (λ has. not (later f.number (numbers_of fresh) n has))

-- after new lists have come whose numbers a set has
put_near : (end : ℕ) (fresh : List Fresh) (before after : List (List Binding))
    (first now : BTreeSet ℕ) → ArePut end fresh before after → AreBusy before first →
    GrowsBy (numbers_of fresh) first now → AreNoted now fresh → AreNear after (numbers_of fresh) now
put_near end fresh before after first now put busy grows noted = record {
  has = all_put (λ n list. some_in list ≡ true → contains nat_cmp now n ≡ true) end fresh before
      after put noted (λ n not some. grows.stay n (busy n ∙ some))
      (λ n past some. absurd (not_both false some refl));
  few = λ n its. ⊎_elim
      (λ (here : Contains (numbers_of fresh) n). inr here)
      (λ (not : ¬ Contains (numbers_of fresh) n). ⊎_elim
      (λ (was : contains nat_cmp first n ≡ true).
      let same : get_or after n [] ≡ get_or before n [] =
      ap (λ ls. get_or ls n []) put.put ∙ stays fresh put.room n not ∙ put.same n in
      inl (ap some_in same ∙ sym (busy n) ∙ was))
      (λ (has : Contains (numbers_of fresh) n). inr has)
      (grows.few n its))
      (in_or_not (numbers_of fresh) n);
}

-- what holds where a call succeeded
pub on_ok : {T E : Type 0} (r : Result T E) (P : Type 0) → is_ok r ≡ true → OnOk r P → P
on_ok (Ok x) P is p = p
on_ok (Err e) P is p = absurd (not_both false is refl)

-- a set with the numbers of the first new lists
module _ (fresh : List Fresh) (i : ℕ) (one : Fresh) (within : i < length fresh)
    (is : one ≡ get_or fresh i one) (first before after : BTreeSet ℕ) where
  taken : take (i + 1) fresh ≡ take i fresh ++ one ∷ []
  taken = take_more fresh i one within ∙ ap (λ f. take i fresh ++ f ∷ []) (sym is)

  is_one : (xs : List Fresh) (k : ℕ) (d : Fresh) → k < length xs → d ≡ get_or xs k d →
      Contains (numbers_of xs) d.number
  is_one [] k d h e = absurd (let no : ⊥ = omega (arith, h) in no)
  is_one (x ∷ xs) zero d h e = (zero, omega arith, sym (ap (λ (f : Fresh). f.number) e))
  is_one (x ∷ xs) (suc k) d h e =
      later x.number (numbers_of xs) d.number (is_one xs k d (omega (arith, h)) e)

  pub noted_one : Updates nat_cmp before after one.number true →
      GrowsBy (numbers_of fresh) first before × AreNoted before (take i fresh) →
      GrowsBy (numbers_of fresh) first after × AreNoted after (take (i + 1) fresh)
  noted_one came was = (
    grows_on before after one.number came (numbers_of fresh) first
        (is_one fresh i one within is) was.0,
    subst (AreNoted after) (sym taken)
        (All-push (λ (f : Fresh). some_in f.list ≡ true → contains nat_cmp after f.number ≡ true)
        (take i fresh) one
        (λ k d h some. still_in before after one.number came (get_or (take i fresh) k d).number
        (was.1 k d h some))
        (λ some. now_in before after one.number came)),
  )

  pub passed_one : some_in one.list ≡ false → after ≡ before →
      GrowsBy (numbers_of fresh) first before × AreNoted before (take i fresh) →
      GrowsBy (numbers_of fresh) first after × AreNoted after (take (i + 1) fresh)
  passed_one none same was =
      subst (λ b. GrowsBy (numbers_of fresh) first b × AreNoted b (take (i + 1) fresh)) (sym same) (
        was.0,
        subst (AreNoted before) (sym taken)
            (All-push
            (λ (f : Fresh). some_in f.list ≡ true → contains nat_cmp before f.number ≡ true)
            (take i fresh) one was.1 (λ some. absurd (not_both (some_in one.list) some none))),
      )

-- A set after new lists have come, or where they haven't.
module _ (fresh xs : List Fresh) (before slice : List (List Binding)) (numbers : List ℕ)
    (first now busy : BTreeSet ℕ) (xs-are : xs ≡ fresh) (busy-is : busy ≡ now)
    (are : numbers_of fresh ≡ numbers) (was : AreBusy before first)
    (grows : GrowsBy (numbers_of xs) first now) where
  of_fresh : GrowsBy (numbers_of fresh) first now
  of_fresh = subst (λ ys. GrowsBy (numbers_of ys) first now) xs-are grows

  pub near_after : (end : ℕ) (after : List (List Binding)) → slice ≡ after →
      ArePut end fresh before after → AreNoted now xs → AreNear slice numbers busy
  near_after end after slice-is put noted =
      subst (λ ls. AreNear ls numbers busy) (sym slice-is)
      (subst (AreNear after numbers) (sym busy-is)
      (subst (λ ns. AreNear after ns now) are
      (put_near end fresh before after first now put was of_fresh
      (subst (AreNoted now) xs-are noted))))

  pub near_before : slice ≡ before → AreNear slice numbers busy
  near_before slice-is =
      subst (λ ls. AreNear ls numbers busy) (sym slice-is)
      (subst (AreNear before numbers) (sym busy-is)
      (subst (λ ns. AreNear before ns now) are
      (grown_near before (numbers_of fresh) first now was of_fresh)))

-- a new list more, the one of the next number
pub one_more : (P : ℕ → List Binding → Type 0) (fresh after : List Fresh) (one : Fresh)
    (numbers : List ℕ) (i : ℕ) → i < length numbers → one.number ≡ get_or numbers i 0 →
    numbers_of fresh ≡ take i numbers → All (λ (f : Fresh). P f.number f.list) fresh →
    P one.number one.list → after ≡ fresh ++ one ∷ [] →
    (numbers_of after ≡ take (i + 1) numbers) × All (λ (f : Fresh). P f.number f.list) after
one_more P fresh after one numbers i within same are fit this is = (
  ap numbers_of is ∙ map-append (λ (f : Fresh). f.number) fresh (one ∷ [])
      ∙ ap (λ xs. xs ++ one.number ∷ []) are ∙ ap (λ n. take i numbers ++ n ∷ []) same
      ∙ sym (take_more numbers i 0 within),
  subst (All (λ (f : Fresh). P f.number f.list)) (sym is)
      (All-push (λ (f : Fresh). P f.number f.list) fresh one fit this),
)
