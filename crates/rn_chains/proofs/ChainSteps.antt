-- Keys that stay chained as one comes behind them or the last goes.
use Rattle.std.proofs.Common.{◌≡◌, ◌≤◌, ◌<◌, ◌+◌, ◌%◌, ℕ, Bool, true, false, ltb, List, []}
use Rattle.std.proofs.Common.{◌∷◌, ◌++◌}
use Rattle.std.proofs.Common.{length, get_or, refl, sym, ap, ◌∙◌, subst, arith, length-append}
use Rattle.std.specs.Prelude.{slice_set, nat_eq}
use Rattle.std.proofs.Math.ListN.{get_or-append}
use Rattle.std.proofs.Math.Nat.{mod-lt}
use Rattle.std.proofs.Math.Seq.{get_or-append_seam}
use Rattle.std.proofs.lemmas.Bool.{eqb-true, eq-eqb, ltb-true, ltb-false}
use Rattle.std.proofs.lemmas.List.{get_or-set_same, get_or-set_other, length-set}
use Rattle.rn_chains.specs.link.Chains.{AreChained, AreLinked, InBucket, IsUpToLast, IsBackTo}

-- it depends on the first n keys alone
pub up_to_same : (IsSo : ℕ → Type 0) (keys others : List ℕ) (n told : ℕ) →
    ((i : ℕ) → i < n → get_or keys i 0 ≡ get_or others i 0) → IsUpToLast IsSo keys n told →
    IsUpToLast IsSo others n told
up_to_same IsSo keys others n told same is = record {
  within = is.within;
  so = λ i last. let h = is.within in
      subst IsSo (same i (omega (arith, last, h))) (is.so i last);
  after = λ i from below so.
      is.after i from below (subst IsSo (sym (same i below)) so);
}

-- what is so may be said in other words
pub up_to_so : (IsSo AreSo : ℕ → Type 0) (keys : List ℕ) (n told : ℕ) →
    ((k : ℕ) → IsSo k → AreSo k) → ((k : ℕ) → AreSo k → IsSo k) → IsUpToLast IsSo keys n told →
    IsUpToLast AreSo keys n told
up_to_so IsSo AreSo keys n told there back is = record {
  within = is.within;
  so = λ i last. there (get_or keys i 0) (is.so i last);
  after = λ i from below so. is.after i from below (back (get_or keys i 0) so);
}

-- one number or another
pub either : {P : Type 0} (i j : ℕ) → (i ≡ j → P) → (¬ (i ≡ j) → P) → P
either {P} i j same apart = by (nat_eq i j) refl
  where
    by : (b : Bool) → nat_eq i j ≡ b → P
    by true e = same (eqb-true i j e)
    by false e = apart (λ (is : i ≡ j). let f = eq-eqb i j is in let no : ⊥ = cc in no)

-- one more key that isn't so
pub up_to_more : (IsSo : ℕ → Type 0) (keys : List ℕ) (n told : ℕ) → IsUpToLast IsSo keys n told →
    ¬ IsSo (get_or keys n 0) → IsUpToLast IsSo keys (n + 1) told
up_to_more IsSo keys n told is none = record {
  within = let h = is.within in omega (arith, h);
  so = is.so;
  after = λ i from below so. either i n
      (λ last. none (subst (λ k. IsSo (get_or keys k 0)) last so))
      (λ apart. is.after i from (omega (arith, below, apart)) so);
}

-- one less key that isn't so
pub up_to_less : (IsSo : ℕ → Type 0) (keys : List ℕ) (n told : ℕ) →
    IsUpToLast IsSo keys (n + 1) told → ¬ IsSo (get_or keys n 0) → IsUpToLast IsSo keys n told
up_to_less IsSo keys n told is none = record {
  within = let h = is.within in either told (n + 1) (λ all. absurd (none (is.so n (sym all))))
      (λ apart. omega (arith, h, apart));
  so = is.so;
  after = λ i from below so. is.after i from (omega (arith, below)) so;
}

-- Going back to a key by those of its bucket.
module _ (m key : ℕ) (keys : List ℕ) (n : ℕ) where
  pub back_first : (at : ℕ) → IsUpToLast (InBucket m key) keys n at → IsBackTo m key keys n at
  back_first at is = record {
    within = is.within;
    so = is.so;
    after = λ i from below same. is.after i from below (ap (λ k. k % m) same);
  }

  pub back_on : (befores : List ℕ) (at i : ℕ) → IsBackTo m key keys n at → i + 1 ≡ at →
      AreLinked m keys befores → n ≤ length keys → ¬ (get_or keys i 0 ≡ key) →
      IsBackTo m key keys n (get_or befores i 0)
  back_on befores at i was one linked few other =
      let h = was.within in
      let it : IsUpToLast (InBucket m (get_or keys i 0)) keys i (get_or befores i 0) =
      linked i (omega (arith, h, one, few)) in
      let told = it.within in record {
        within = omega (arith, h, one, told);
        so = λ j last. it.so j last ∙ was.so i one;
        after = λ j from below same. either j i
            (λ here. other (ap (λ k. get_or keys k 0) (sym here) ∙ same))
            (λ apart. by j from below same apart (ltb j i) refl);
      }
    where
      by : (j : ℕ) → get_or befores i 0 ≤ j → j < n → get_or keys j 0 ≡ key → ¬ (j ≡ i) →
          (b : Bool) → ltb j i ≡ b → ⊥
      by j from below same apart true e =
          (linked i (let h = was.within in omega (arith, h, one, few))).after j from
          (ltb-true j i e)
          (ap (λ k. k % m) same ∙ sym (was.so i one))
      by j from below same apart false e =
          was.after j (let h : i ≤ j = ltb-false j i e in omega (arith, h, apart, one)) below same

  pub back_here : (at i : ℕ) → IsBackTo m key keys n at → i + 1 ≡ at → get_or keys i 0 ≡ key →
      IsUpToLast (λ k. k ≡ key) keys n at
  back_here at i was one same = record {
    within = was.within;
    so = λ j last. let is : j ≡ i = omega (arith, last, one) in
        ap (λ k. get_or keys k 0) is ∙ same;
    after = was.after;
  }

  pub back_none : IsBackTo m key keys n 0 → IsUpToLast (λ k. k ≡ key) keys n 0
  back_none was = record {
    within = was.within;
    so = λ i last. let no : ⊥ = omega (arith, last) in absurd no;
    after = was.after;
  }

-- what is known of a key that was gone back to
abbrev pub GoesBack : List ℕ → List ℕ → ℕ → ℕ → ℕ → Type 0
GoesBack keys befores key from result =
    (buckets n : ℕ) → n ≤ length keys → AreLinked buckets keys befores →
    IsUpToLast (InBucket buckets key) keys n from → IsUpToLast (λ k. k ≡ key) keys n result

pub last_told : (keys befores buckets ks bs us now : List ℕ) (key result : ℕ) → ks ≡ keys →
    bs ≡ befores → us ≡ buckets → keys ≡ now → AreChained keys befores buckets → 0 < length us →
    GoesBack ks bs key (get_or us (key % length us) 0) result →
    IsUpToLast (λ k. k ≡ key) now (length now) result
last_told keys befores buckets ks bs us now key result k b u seen was some back =
    let chained : AreChained ks bs us = subst (λ xs. AreChained xs bs us) (sym k)
    (subst (λ xs. AreChained keys xs us) (sym b) (subst (AreChained keys befores) (sym u) was)) in
    subst (λ xs. IsUpToLast (λ j. j ≡ key) xs (length xs) result) (k ∙ seen)
    (back (length us) (length ks) (omega arith) chained.linked (chained.heads key some))

pub before_told : (keys befores buckets ks bs now : List ℕ) (index result : ℕ) → ks ≡ keys →
    bs ≡ befores → keys ≡ now → AreChained keys befores buckets → index < length now →
    GoesBack ks bs (get_or ks index 0) (get_or bs index 0) result →
    IsUpToLast (λ k. k ≡ get_or now index 0) now index result
before_told keys befores buckets ks bs now index result k b seen was within back =
    let inside : index < length ks = subst (λ xs. index < length xs) (sym (k ∙ seen)) within in
    let linked : AreLinked (length buckets) ks bs =
    subst (λ xs. AreLinked (length buckets) xs bs) (sym k)
    (subst (AreLinked (length buckets) keys) (sym b) was.linked) in
    subst (λ xs. IsUpToLast (λ j. j ≡ get_or xs index 0) xs index result) (k ∙ seen)
    (back (length buckets) index (omega (arith, inside)) linked (linked index inside))

module _ (keys befores buckets : List ℕ) (key : ℕ) where
  abbrev m : ℕ
  m = length buckets

  abbrev n : ℕ
  n = length keys

  abbrev b : ℕ
  b = key % m

  abbrev more : List ℕ
  more = keys ++ key ∷ []

  is_last : get_or more n 0 ≡ key
  is_last = get_or-append_seam keys key [] 0

  is_longer : length more ≡ n + 1
  is_longer = length-append keys (key ∷ [])

  is_before : (i : ℕ) → i < n → get_or keys i 0 ≡ get_or more i 0
  is_before i below = sym (get_or-append keys (key ∷ []) 0 i below)

  -- a key comes behind
  module _ (was : AreChained keys befores buckets) (room : n < m) where
    head_is : (k : ℕ) → IsUpToLast (InBucket m k) more n (get_or buckets (k % m) 0)
    head_is k = up_to_same (InBucket m k) keys more n (get_or buckets (k % m) 0) is_before
        (was.heads k (omega (arith, room)))

    abbrev set_buckets : List ℕ
    set_buckets = slice_set buckets b (n + 1)

    new_head : (k : ℕ) → IsUpToLast (InBucket m k) more (n + 1) (get_or set_buckets (k % m) 0)
    new_head k = either (k % m) b
        (λ same. subst (IsUpToLast (InBucket m k) more (n + 1))
        (sym (ap (λ i. get_or set_buckets i 0) same
        ∙ get_or-set_same buckets b (n + 1) 0 (mod-lt key (omega (arith, room)))))
        (record {
          within = omega arith;
          so = λ i last. let at : i ≡ n = omega (arith, last) in
              ap (λ j. get_or more j 0 % m) at ∙ ap (λ j. j % m) is_last ∙ sym same;
          after = λ i from below so. let no : ⊥ = omega (arith, from, below) in no;
        }))
        (λ apart. subst (IsUpToLast (InBucket m k) more (n + 1))
        (sym (get_or-set_other buckets b (k % m) (n + 1) 0 apart))
        (up_to_more (InBucket m k) more n (get_or buckets (k % m) 0) (head_is k)
        (λ so. apart (sym so ∙ ap (λ j. j % m) is_last))))

    abbrev others : List ℕ
    others = befores ++ get_or buckets b 0 ∷ []

    new_link : AreLinked m more others
    new_link i below = either i n
        (λ last.
        let key_at : get_or more i 0 ≡ key = ap (λ j. get_or more j 0) last ∙ is_last in
        let told : get_or others i 0 ≡ get_or buckets b 0 =
        ap (λ j. get_or others j 0) (last ∙ sym was.each)
        ∙ get_or-append_seam befores (get_or buckets b 0) [] 0 in
        subst (λ k. IsUpToLast (InBucket m k) more i (get_or others i 0)) (sym key_at)
        (subst (IsUpToLast (InBucket m key) more i) (sym told)
        (subst (λ j. IsUpToLast (InBucket m key) more j (get_or buckets b 0)) (sym last)
        (head_is key))))
        (λ apart.
        let inside : i < n = omega (arith, below, apart, is_longer) in
        let told : get_or befores i 0 ≡ get_or others i 0 =
        sym (get_or-append befores (get_or buckets b 0 ∷ []) 0 i (rw was.each inside)) in
        subst (λ k. IsUpToLast (InBucket m k) more i (get_or others i 0)) (is_before i inside)
        (subst (IsUpToLast (InBucket m (get_or keys i 0)) more i) told
        (up_to_same (InBucket m (get_or keys i 0)) keys more i (get_or befores i 0)
        (λ j h. is_before j (omega (arith, h, inside))) (was.linked i inside))))

    pub pushed : AreChained more others set_buckets
    pushed =
        let wide : length set_buckets ≡ m = length-set buckets b (n + 1) in record {
          each = length-append befores (get_or buckets b 0 ∷ []) ∙ ap (λ j. j + 1) was.each
              ∙ sym is_longer;
          room = omega (arith, wide, room, is_longer);
          linked = subst (λ j. AreLinked j more others) (sym wide) new_link;
          heads = λ k some. subst (λ j. IsUpToLast (InBucket j k) more (length more)
              (get_or set_buckets (k % j) 0)) (sym wide)
              (subst (λ j. IsUpToLast (InBucket m k) more j (get_or set_buckets (k % m) 0))
              (sym is_longer) (new_head k));
        }

  -- the last goes
  module _ (before : ℕ) (was : AreChained more (befores ++ before ∷ []) buckets) where
    abbrev links : List ℕ
    links = befores ++ before ∷ []

    as_long : length befores ≡ n
    as_long = let h = was.each in
        omega (arith, h, is_longer, length-append befores (before ∷ []))

    some : 0 < m
    some = let h = was.room in omega (arith, h, is_longer)

    old_link : AreLinked m keys befores
    old_link i below =
        let it : IsUpToLast (InBucket m (get_or more i 0)) more i (get_or links i 0) =
        was.linked i (omega (arith, below, is_longer)) in
        let told : get_or links i 0 ≡ get_or befores i 0 =
        get_or-append befores (before ∷ []) 0 i (rw as_long below) in
        subst (λ k. IsUpToLast (InBucket m k) keys i (get_or befores i 0))
        (sym (is_before i below))
        (subst (IsUpToLast (InBucket m (get_or more i 0)) keys i) told
        (up_to_same (InBucket m (get_or more i 0)) more keys i (get_or links i 0)
        (λ j h. sym (is_before j (omega (arith, h, below)))) it))

    last_link : IsUpToLast (InBucket m key) keys n before
    last_link =
        let it : IsUpToLast (InBucket m (get_or more n 0)) more n (get_or links n 0) =
        was.linked n (omega (arith, is_longer)) in
        let told : get_or links n 0 ≡ before =
        ap (λ j. get_or links j 0) (sym as_long) ∙ get_or-append_seam befores before [] 0 in
        up_to_same (InBucket m key) more keys n before (λ j h. sym (is_before j h))
        (subst (λ k. IsUpToLast (InBucket m k) more n before) is_last
        (subst (IsUpToLast (InBucket m (get_or more n 0)) more n) told it))

    abbrev less_buckets : List ℕ
    less_buckets = slice_set buckets b before

    old_head : (k : ℕ) → IsUpToLast (InBucket m k) keys n (get_or less_buckets (k % m) 0)
    old_head k = either (k % m) b
        (λ same. subst (IsUpToLast (InBucket m k) keys n)
        (sym (ap (λ i. get_or less_buckets i 0) same
        ∙ get_or-set_same buckets b before 0 (mod-lt key some)))
        (up_to_so (InBucket m key) (InBucket m k) keys n before
        (λ j so. so ∙ sym same) (λ j so. so ∙ same) last_link))
        (λ apart. subst (IsUpToLast (InBucket m k) keys n)
        (sym (get_or-set_other buckets b (k % m) before 0 apart))
        (up_to_same (InBucket m k) more keys n (get_or buckets (k % m) 0)
        (λ j h. sym (is_before j h))
        (up_to_less (InBucket m k) more n (get_or buckets (k % m) 0)
        (subst (λ j. IsUpToLast (InBucket m k) more j (get_or buckets (k % m) 0)) is_longer
        (was.heads k some))
        (λ so. apart (sym so ∙ ap (λ j. j % m) is_last)))))

    pub popped : AreChained keys befores less_buckets
    popped =
        let wide : length less_buckets ≡ m = length-set buckets b before in record {
          each = as_long;
          room = let h = was.room in omega (arith, wide, h, is_longer);
          linked = subst (λ j. AreLinked j keys befores) (sym wide) old_link;
          heads = λ k some. subst (λ j. IsUpToLast (InBucket j k) keys n
              (get_or less_buckets (k % j) 0)) (sym wide) (old_head k);
        }
