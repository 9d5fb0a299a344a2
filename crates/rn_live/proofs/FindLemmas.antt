-- Finding nothing, finding one number, and finding one thing after another.
use Rattle.std.proofs.Common.{◌≡◌, ℕ, zero, suc, ◌+◌, ◌<◌, ◌≤◌, Bool, true, false, ◌||◌, List, [], ◌∷◌, ◌++◌, length, take, get_or, refl, sym, ap, ◌∙◌, subst, inl, inr, arith, length-append, eq-eqb}
use Rattle.std.proofs.Math.ListN.{set}
use Rattle.std.proofs.lemmas.List.{get_or-set_same}
use Rattle.std.proofs.lemmas.List.Elements.{Contains-push, Contains-append_left, Contains-push_cases}
use Rattle.std.proofs.lemmas.List.Sums.{sum_by-set}
use Rattle.std.proofs.lemmas.Bool.{eqb-true}
use Rattle.std.specs.Prelude.{◌⊎◌, cond, not, nat_eq, count_by, Contains}
use Rattle.std.proofs.Math.ListN.{length-set}
use Rattle.rn_items.proofs.Bools.{or_true, or_left, or_right}
use Rattle.rn_model.specs.Markings.{Marking, IsThere}
use Rattle.std.specs.Prelude.{Option, Some, None, is_none, option_map}
use Rattle.std.proofs.lemmas.List.{take_all}
use Rattle.rn_model.specs.Markings.{Instance, instance_at, net_of}
use Rattle.rn_live.specs.Rooms.{is_marked}
use Rattle.rn_live.specs.link.Marks.{Marked, Finds}

net_there : (o : Option Instance) → is_none (option_map (λ i. i.net) o) ≡ false → (i : Instance) × (o ≡ Some i)
net_there None e = absurd (let no : ⊥ = cc in no)
net_there (Some i) e = (i, refl)

-- what has a net is there
pub is_kept : (m : Marking) (n : ℕ) → is_none (net_of m n) ≡ false → IsThere m n
is_kept m n = net_there (instance_at m n)

set_came : (marks : List Bool) (k n : ℕ) → Marked (set marks k true) n → Marked marks n ⊎ (k ≡ n)
set_came [] k n e = inl e
set_came (b ∷ ms) zero zero e = inr refl
set_came (b ∷ ms) zero (suc n) e = inl e
set_came (b ∷ ms) (suc k) zero e = inl e
set_came (b ∷ ms) (suc k) (suc n) e = elim (set_came ms k n e) [ inl before ↦ inl before | inr same ↦ inr (ap suc same) ]

set_stay : (marks : List Bool) (k n : ℕ) → Marked marks n → Marked (set marks k true) n
set_stay [] k n e = e
set_stay (b ∷ ms) zero zero e = refl
set_stay (b ∷ ms) zero (suc n) e = e
set_stay (b ∷ ms) (suc k) zero e = e
set_stay (b ∷ ms) (suc k) (suc n) e = set_stay ms k n e

abbrev weight : Bool → ℕ
weight b = cond (not b) 1 0

one_less : (marks : List Bool) (k : ℕ) → k < length marks → get_or marks k false ≡ false → count_by not (set marks k true) + 1 ≡ count_by not marks
one_less marks k h e =
    let moved = sum_by-set weight marks k true false h in
    let old : weight (get_or marks k false) ≡ 1 = ap weight e in
    omega (arith, moved, old)

module _ (m : Marking) where
  pub nothing : (test : ℕ → Bool) (marks : List Bool) (waiting : List ℕ) (room : ℕ) → ((n : ℕ) → test n ≡ true → IsThere m n → n < length marks → Marked marks n) → Finds m test marks marks waiting waiting room room
  nothing test marks waiting room all = record {
    size = refl;
    work = refl;
    room_stays = refl;
    stay = λ n h. h;
    wait = λ n h. h;
    came = λ n h. inl h;
    due = λ n h. inl h;
    all = all;
  }

  pub one : (k : ℕ) (marks : List Bool) (waiting : List ℕ) (room left : ℕ) → k < length marks → get_or marks k false ≡ false → IsThere m k → left ≡ room → Finds m (nat_eq k) marks (set marks k true) waiting (waiting ++ k ∷ []) room left
  one k marks waiting room left h e there same_room = record {
    size = length-set marks k true;
    room_stays = same_room;
    work = let less = one_less marks k h e in let more = length-append waiting (k ∷ []) in omega (arith, less, more);
    stay = λ n. set_stay marks k n;
    wait = λ n. Contains-append_left waiting (k ∷ []) n;
    came = λ n new. elim (set_came marks k n new) as (λ _. Marked marks n ⊎ (Contains (waiting ++ k ∷ []) n × ((nat_eq k n ≡ true) × IsThere m n))) [
      | inl before ↦ inl before
      | inr same ↦ inr (subst (Contains (waiting ++ k ∷ [])) same (Contains-push waiting k), (eq-eqb k n same, subst (IsThere m) same there))
    ];
    due = λ n waits. elim (Contains-push_cases waiting k n waits) as (λ _. Contains waiting n ⊎ ((nat_eq k n ≡ true) × IsThere m n)) [
      | inl before ↦ inl before
      | inr same ↦ inr (eq-eqb k n same, subst (IsThere m) same there)
    ];
    all = λ n same is_there within. subst (Marked (set marks k true)) (eqb-true k n same) (get_or-set_same marks k true false h);
  }

  -- what the first finds and then what the second finds
  pub then : (p q r : ℕ → Bool) {a b c : List Bool} {s t u : List ℕ} {x y z : ℕ} → ((n : ℕ) → r n ≡ (p n || q n)) → Finds m p a b s t x y → Finds m q b c t u y z → Finds m r a c s u x z
  then p q r {a = a} {c = c} {s = s} {u = u} either first second = record {
    size = second.size ∙ first.size;
    work = second.work ∙ first.work;
    room_stays = second.room_stays ∙ first.room_stays;
    stay = λ n h. second.stay n (first.stay n h);
    wait = λ n h. second.wait n (first.wait n h);
    came = λ n new. elim (second.came n new) as (λ _. Marked a n ⊎ (Contains u n × ((r n ≡ true) × IsThere m n))) [
      | inr late ↦ inr (late.0, (either n ∙ or_right (p n) (q n) late.1.0, late.1.1))
      | inl soon ↦ elim (first.came n soon) as (λ _. Marked a n ⊎ (Contains u n × ((r n ≡ true) × IsThere m n))) [
        | inl before ↦ inl before
        | inr now ↦ inr (second.wait n now.0, (either n ∙ or_left (p n) (q n) now.1.0, now.1.1))
      ]
    ];
    due = λ n waits. elim (second.due n waits) as (λ _. Contains s n ⊎ ((r n ≡ true) × IsThere m n)) [
      | inr late ↦ inr (either n ∙ or_right (p n) (q n) late.0, late.1)
      | inl soon ↦ elim (first.due n soon) as (λ _. Contains s n ⊎ ((r n ≡ true) × IsThere m n)) [
        | inl before ↦ inl before
        | inr now ↦ inr (either n ∙ or_left (p n) (q n) now.0, now.1)
      ]
    ];
    all = λ n passes there within. elim (or_true (p n) (q n) (sym (either n) ∙ passes)) as (λ _. Marked c n) [
      | inl early ↦ second.stay n (first.all n early there within)
      | inr late ↦ second.all n late there (subst (λ k. n < k) (sym first.size) within)
    ];
  }

  -- a list that one has come through
  pub through : {X : Type 0} (g : List X → ℕ → Bool) (xs : List X) (i : ℕ) {a b : List Bool} {s t : List ℕ} {x y : ℕ} → length xs ≤ i → Finds m (g (take i xs)) a b s t x y → Finds m (g xs) a b s t x y
  through g xs i {a = a} {b = b} {s = s} {t = t} {x = x} {y = y} h found = subst (λ ys. Finds m (g ys) a b s t x y) (take_all i xs h) found

  -- after something was found there is room to wait as there was before
  pub still_room : (test : ℕ → Bool) {a b : List Bool} {s t : List ℕ} {x y : ℕ} → Finds m test a b s t x y → length s + count_by not a ≤ x → length t + count_by not b ≤ y
  still_room test found room = let work = found.work in let same = found.room_stays in omega (arith, work, same, room)

-- where a number isn't marked, there is room for it to wait
pub one_fits : (marks : List Bool) (k waiting room : ℕ) → k < length marks → get_or marks k false ≡ false → waiting + count_by not marks ≤ room → waiting < room
one_fits marks k waiting room h e fits = let less = one_less marks k h e in omega (arith, less, fits)

-- where one that waits goes, the others have room
pub rest_fits : (rest : List ℕ) (k : ℕ) (old : List ℕ) (unmarked room left : ℕ) → old ≡ rest ++ k ∷ [] → length old + unmarked ≤ room → left ≡ room → length rest + unmarked ≤ left
rest_fits rest k old unmarked room left is fits same =
    let longer = length-append rest (k ∷ []) in let all : length old ≡ length (rest ++ k ∷ []) = ap length is in omega (arith, longer, all, fits, same)

-- one mark is taken back, where those before it were
pub one_unmarked : (marks : List Bool) (k : ℕ) → ((j : ℕ) → j < k → is_marked marks j ≡ false) → (n : ℕ) → n < k + 1 → is_marked (set marks k false) n ≡ false
one_unmarked [] k before n h = refl
one_unmarked (b ∷ ms) zero before zero h = refl
one_unmarked (b ∷ ms) zero before (suc n) h = absurd (let no : ⊥ = omega (arith, h) in no)
one_unmarked (b ∷ ms) (suc k) before zero h = before 0 (omega arith)
one_unmarked (b ∷ ms) (suc k) before (suc n) h = one_unmarked ms k (λ j less. before (suc j) (omega (arith, less))) n (omega (arith, h))

-- no mark is left, where all were taken back
pub all_unmarked : (marks : List Bool) (k : ℕ) → length marks ≤ k → ((j : ℕ) → j < k → is_marked marks j ≡ false) → (n : ℕ) → is_marked marks n ≡ false
all_unmarked [] k h before n = refl
all_unmarked (b ∷ ms) zero h before n = absurd (let no : ⊥ = omega (arith, h) in no)
all_unmarked (b ∷ ms) (suc k) h before zero = before 0 (omega arith)
all_unmarked (b ∷ ms) (suc k) h before (suc n) = all_unmarked ms k (omega (arith, h)) (λ j less. before (suc j) (omega (arith, less))) n
