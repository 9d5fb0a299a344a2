-- Going from some instances backwards to those that reach them.
use Rattle.std.proofs.Common.{◌≡◌, ℕ, zero, suc, ◌<◌, ◌≤◌, ◌+◌, Bool, true, false, List, [], ◌∷◌}
use Rattle.std.proofs.Common.{◌++◌, length, get_or, refl, sym, ap, ◌∙◌, subst, inl, inr, arith}
use Rattle.std.proofs.Common.{append_assoc, length-append, take}
use Rattle.std.proofs.lemmas.List.{append-nil, get_or_append_left, take_more}
use Rattle.std.proofs.lemmas.List.Elements.{Contains-push, Contains-append_left}
use Rattle.std.proofs.lemmas.List.Elements.{Contains-push_cases}
use Rattle.std.proofs.lemmas.Bool.{eqb-true}
use Rattle.std.specs.Prelude.{◌⊎◌, ◌↔◌, Some, nat_eq, slice_get, Contains, if◌then◌else◌}
use Rattle.std.specs.List.{list_any}
use Rattle.indexmap.specs.IndexSet.{insert_key}
use Rattle.rn_model.specs.Markings.{Marking}
use Rattle.rn_model.proofs.EnablingLemmas.{not_in_nil}
use Rattle.rn_model.proofs.LiveByRounds.{any_contained}
use Rattle.rn_live.proofs.TokenLemmas.{got}
use Rattle.rn_reach.specs.Reach.{RefersTo, Reach, itself, further, ReachesOne}
use Rattle.rn_holders.specs.link.Puts.{Joins, IsFound, first, back, AreFound}

-- one that refers to another reaches all that this one reaches
pub reach_before : (m : Marking) (holder n k : ℕ) → RefersTo m holder n → Reach m n k →
    Reach m holder k
reach_before m holder n k refers itself = further itself refers
reach_before m holder n k refers (further {holder = h} reach last) =
    further (reach_before m holder n h refers reach) last

pub contained : (xs : List ℕ) (n : ℕ) → list_any (nat_eq n) xs ≡ true → Contains xs n
contained xs n e = let same = any_contained (nat_eq n) xs e in
    subst (Contains xs) (sym (eqb-true n same.0 same.2)) same.1

-- one number more
pub join_one : (number : ℕ) (before : List ℕ) →
    Joins (λ n. n ≡ number) before (insert_key nat_eq before number)
join_one number before = by_there (list_any (nat_eq number) before) refl
  where
    by_there : (is : Bool) → list_any (nat_eq number) before ≡ is →
        Joins (λ n. n ≡ number) before (if is then before else before ++ number ∷ [])
    by_there true e = record {
      more = ([], sym (append-nil before));
      came = λ n has. inl has;
      all = λ n same. subst (Contains before) (sym same) (contained before number e);
    }
    by_there false e = record {
      more = (number ∷ [], refl);
      came = λ n has. elim (Contains-push_cases before number n has) as (λ _.
          Contains before n ⊎ (n ≡ number)) [
            | inl earlier ↦ inl earlier
            | inr same ↦ inr (sym same)
          ];
      all = λ n same. subst (Contains (before ++ number ∷ [])) (sym same)
          (Contains-push before number);
    }

-- none
pub joins_nothing : (Has : ℕ → Type 0) (xs : List ℕ) → ((n : ℕ) → Has n → Contains xs n) →
    Joins Has xs xs
joins_nothing Has xs there = record {
  more = ([], sym (append-nil xs));
  came = λ n has. inl has;
  all = there;
}

-- one after another
pub joins_then : (First Then Both : ℕ → Type 0) {a b c : List ℕ} →
    ((n : ℕ) → Both n → First n ⊎ Then n) → ((n : ℕ) → First n → Both n) →
    ((n : ℕ) → Then n → Both n) → Joins First a b → Joins Then b c → Joins Both a c
joins_then First Then Both {a = a} {b = b} {c = c} cases one other before after = record {
  more = (
    before.more.0 ++ after.more.0,
    after.more.1 ∙ ap (λ xs. xs ++ after.more.0) before.more.1 ∙
        append_assoc a before.more.0 after.more.0,
  );
  came = λ n has. elim (after.came n has) as (λ _. Contains a n ⊎ Both n) [
    | inl there ↦ elim (before.came n there) as (λ _. Contains a n ⊎ Both n) [
      | inl early ↦ inl early
      | inr is ↦ inr (one n is)
    ]
    | inr is ↦ inr (other n is)
  ];
  all = λ n both. elim (cases n both) as (λ _. Contains c n) [
    | inl is ↦ subst (λ xs. Contains xs n) (sym after.more.1)
        (Contains-append_left b after.more.0 n (before.all n is))
    | inr is ↦ after.all n is
  ];
}

-- the same by another name
pub joins_as : (Has Is : ℕ → Type 0) {a b : List ℕ} → ((n : ℕ) → Has n → Is n) →
    ((n : ℕ) → Is n → Has n) → Joins Has a b → Joins Is a b
joins_as Has Is {a = a} to from joins = record {
  more = joins.more;
  came = λ n has. elim (joins.came n has) as (λ _. Contains a n ⊎ Is n) [
    | inl early ↦ inl early
    | inr is ↦ inr (to n is)
  ];
  all = λ n is. joins.all n (from n is);
}

-- one more of a list
module _ (xs : List ℕ) (i : ℕ) (within : i < length xs) where
  -- what is among the first with one more is among these or is that one
  pub taken_more : (n : ℕ) → Contains (take (i + 1) xs) n →
      Contains (take i xs) n ⊎ (n ≡ get_or xs i 0)
  taken_more n has = elim (Contains-push_cases (take i xs) (get_or xs i 0) n
      (subst (λ ys. Contains ys n) (take_more xs i 0 within) has)) as (λ _.
      Contains (take i xs) n ⊎ (n ≡ get_or xs i 0)) [
        | inl earlier ↦ inl earlier
        | inr same ↦ inr (sym same)
      ]

  pub still_taken : (n : ℕ) → Contains (take i xs) n → Contains (take (i + 1) xs) n
  still_taken n has = subst (λ ys. Contains ys n) (sym (take_more xs i 0 within))
      (Contains-append_left (take i xs) (get_or xs i 0 ∷ []) n has)

  pub now_taken : Contains (take (i + 1) xs) (get_or xs i 0)
  now_taken = subst (λ ys. Contains ys (get_or xs i 0)) (sym (take_more xs i 0 within))
      (Contains-push (take i xs) (get_or xs i 0))

  pub joins_taken : (R : ℕ → Type 0) {a b c : List ℕ} →
      Joins (λ n. Contains (take i xs) n × R n) a b →
      Joins (λ n. (n ≡ get_or xs i 0) × R n) b c →
      Joins (λ n. Contains (take (i + 1) xs) n × R n) a c
  joins_taken R = joins_then (λ n. Contains (take i xs) n × R n)
      (λ n. (n ≡ get_or xs i 0) × R n) (λ n. Contains (take (i + 1) xs) n × R n)
      (λ n has. elim (taken_more n has.0) as (λ _. (Contains (take i xs) n × R n)
      ⊎ ((n ≡ get_or xs i 0) × R n)) [
        | inl early ↦ inl (early, has.1)
        | inr same ↦ inr (same, has.1)
      ])
      (λ n has. (still_taken n has.0, has.1))
      (λ n is. (subst (Contains (take (i + 1) xs)) (sym is.0) now_taken, is.1))

  pub all_taken : {a b c : List ℕ} → Joins (Contains (take i xs)) a b →
      Joins (λ n. n ≡ get_or xs i 0) b c → Joins (Contains (take (i + 1) xs)) a c
  all_taken = joins_then (Contains (take i xs)) (λ n. n ≡ get_or xs i 0)
      (Contains (take (i + 1) xs)) taken_more still_taken
      (λ n is. subst (Contains (take (i + 1) xs)) (sym is) now_taken)

pub get_or_is : (xs : List ℕ) (i x d : ℕ) → slice_get xs i ≡ Some x → get_or xs i d ≡ x
get_or_is [] i x d e = absurd (let no : ⊥ = cc in no)
get_or_is (y ∷ ys) zero x d e = let same : y ≡ x = cc in same
get_or_is (y ∷ ys) (suc i) x d e = get_or_is ys i x d e

pub less_or_same : (i j : ℕ) → i < j + 1 → (i < j) ⊎ (i ≡ j)
less_or_same zero zero h = inr refl
less_or_same zero (suc j) h = inl (omega arith)
less_or_same (suc i) zero h = absurd (let no : ⊥ = omega (arith, h) in no)
less_or_same (suc i) (suc j) h = elim (less_or_same i j (omega (arith, h))) as (λ _.
    (suc i < suc j) ⊎ (suc i ≡ suc j)) [
      | inl less ↦ inl (omega (arith, less))
      | inr same ↦
          inr (ap suc same)
    ]

-- A list that has been gone through as far as an index: those that refer to one before it are there.
pub record IsGone (m : Marking) (those found : List ℕ) (at : ℕ) : Type 0 where
  pub within : at ≤ length found
  pub stay : (n : ℕ) → Contains those n → Contains found n
  pub came : (n : ℕ) → Contains found n → IsFound m those n
  pub closed : (i n holder : ℕ) → i < at → get_or found i n ≡ n → RefersTo m holder n →
      Contains found holder

pub gone_nowhere : (m : Marking) (those : List ℕ) → IsGone m those those 0
gone_nowhere m those = record {
  within = omega arith;
  stay = λ n has. has;
  came = λ n has. first has;
  closed = λ i n holder low at has. absurd (let no : ⊥ = omega (arith, low) in no);
}

pub gone_one : (m : Marking) (those found new : List ℕ) (at number : ℕ) →
    IsGone m those found at → slice_get found at ≡ Some number →
    Joins (λ n. RefersTo m n number) found new → IsGone m those new (at + 1)
gone_one m those found new at number gone is joined =
    let here = got found at number is in
    let grown : (n : ℕ) → Contains found n → Contains new n =
    λ n has. subst (λ xs. Contains xs n) (sym joined.more.1)
    (Contains-append_left found joined.more.0 n has) in
    let longer : length new ≡ length found + length joined.more.0 = ap length joined.more.1 ∙
    length-append found joined.more.0 in
    let earlier : (i n : ℕ) → i < length found → get_or new i n ≡ get_or found i n =
    λ i n low. ap (λ xs. get_or xs i n) joined.more.1 ∙
    get_or_append_left found joined.more.0 n i low in
    record {
      within = omega (arith, here.0, longer);
      stay = λ n has. grown n (gone.stay n has);
      came = λ n has. elim (joined.came n has) as (λ _. IsFound m those n) [
        | inl before ↦ gone.came n before
        | inr refers ↦ back (gone.came number (at, here.0, here.1)) refers
      ];
      closed = λ i n holder low stands has. elim
          (less_or_same i at low) as (λ _. Contains new holder) [
            | inl less ↦ grown holder (gone.closed i n holder less
                (sym (earlier i n (omega (arith, less, here.0))) ∙ stands) has)
            | inr same ↦
                let number_is : number ≡ n = sym (get_or_is found at number n is) ∙
                sym (earlier at n here.0) ∙ subst (λ j. get_or new j n ≡ n) same stands in
                joined.all holder (subst (λ k. RefersTo m holder k) (sym number_is) has)
          ];
    }

pub gone_all : (m : Marking) (those found : List ℕ) (at : ℕ) →
    IsGone m those found at → length found ≤ at → AreFound m those found
gone_all m those found at gone past n = (gone.came n, whole n)
  where
    whole : (n : ℕ) → IsFound m those n → Contains found n
    whole n (first has) = gone.stay n has
    whole n (back {n = k} is has) = let there = whole k is in
        gone.closed there.0 k n (omega (arith, there.1, past)) there.2 has

-- those that are found are those that reach one
pub found_reach : (m : Marking) (those : List ℕ) (n : ℕ) → IsFound m those n → ReachesOne m those n
found_reach m those n (first has) = (n, has, itself)
found_reach m those n (back {n = k} is refers) =
    let reaches = found_reach m those k is in
    (reaches.0, reaches.1, reach_before m n k reaches.0 refers reaches.2)

pub reach_found : (m : Marking) (those : List ℕ) (n k : ℕ) → Reach m n k → IsFound m those k →
    IsFound m those n
reach_found m those n k itself is = is
reach_found m those n k (further {holder = h} reach refers) is =
    reach_found m those n h reach (back is refers)

pub just_reaching : (m : Marking) (those joined found : List ℕ) → Joins (Contains those) [] joined →
    AreFound m joined found → (n : ℕ) → Contains found n ↔ ReachesOne m those n
just_reaching m those joined found joins are_found n = (
  λ has.
      let reaches = found_reach m joined n ((are_found n).0 has) in
      elim (joins.came reaches.0 reaches.1) as (λ _. ReachesOne m those n) [
        | inl none ↦ absurd (not_in_nil reaches.0 none)
        | inr there ↦ (reaches.0, there, reaches.2)
      ],
  λ reaches. (are_found n).1 (reach_found m joined n reaches.0 reaches.2
      (first (joins.all reaches.0 reaches.1))),
)
