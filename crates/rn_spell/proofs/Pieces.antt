-- Elements that are written into a window one after another.
use Rattle.std.proofs.Common.{◌≡◌, ℕ, suc, ◌+◌, ◌-◌, ◌<◌, ◌≤◌, List, [], ◌∷◌, ◌++◌, length, map, take, drop, get_or, refl, sym, ap, ◌∙◌, arith}
use Rattle.std.proofs.Math.Seq.{drop-cons, take-length}
use Rattle.std.proofs.Math.ListN.{drop_of_length-le}
use Rattle.std.specs.List.{flat_map}
use Rattle.rn_value.specs.declared.value.InstRef.{InstRef}
use Rattle.rn_value.specs.declared.value.Value.{Value}
use Rattle.rn_window.specs.Windows.{Sight, after}
use Rattle.rn_window.proofs.Windows.{chained, nothing}
use Rattle.rn_spell.specs.Spelling.{spelled, spelled_row}

-- one element more
pub one_more_at : {X : Type 0} (f : X → List ℕ) (xs : List X) (i : ℕ) (d : X) (w v s : Sight) → i < length xs → after w (flat_map f (drop i xs)) ≡ s → v ≡ after w (f (get_or xs i d)) → after v (flat_map f (drop (i + 1) xs)) ≡ s
one_more_at f xs i d w v s low before writes =
    let next : i + 1 ≡ suc i = omega arith in
    ap (λ n. after v (flat_map f (drop n xs))) next
    ∙ ap (λ u. after u (flat_map f (drop (suc i) xs))) writes
    ∙ chained w (f (get_or xs i d)) (flat_map f (drop (suc i) xs))
    ∙ ap (λ l. after w (flat_map f l)) (sym (drop-cons xs i d low))
    ∙ before

pub one_more : {X : Type 0} (f : X → List ℕ) (xs : List X) (i : ℕ) (x : X) (w v s : Sight) → i < length xs → x ≡ get_or xs i x → after w (flat_map f (drop i xs)) ≡ s → v ≡ after w (f x) → after v (flat_map f (drop (i + 1) xs)) ≡ s
one_more f xs i x w v s low is before writes =
    one_more_at f xs i x w v s low before (writes ∙ ap (λ y. after w (f y)) is)

-- and all of them
pub all_written : {X : Type 0} (f : X → List ℕ) (xs : List X) (i : ℕ) (w s : Sight) → length xs ≤ i → after w (flat_map f (drop i xs)) ≡ s → w ≡ s
all_written f xs i w s high before =
    sym (nothing w) ∙ ap (λ l. after w (flat_map f l)) (sym (drop_of_length-le xs high)) ∙ before

-- a value after a comma
abbrev pub comma_and : (InstRef → List ℕ) → Value → List ℕ
comma_and inst v = 44 ∷ spelled v inst

abbrev tail_text : (InstRef → List ℕ) → List Value → List ℕ
tail_text inst vs = flat_map (λ text. (44 ∷ []) ++ text inst) (map spelled vs)

tail_is : (inst : InstRef → List ℕ) (vs : List Value) → flat_map (comma_and inst) vs ≡ tail_text inst vs
tail_is inst [] = refl
tail_is inst (v ∷ vs) = ap (λ rest. (44 ∷ spelled v inst) ++ rest) (tail_is inst vs)

-- a row is its first value, and then each other one after a comma
pub row_written : (inst : InstRef → List ℕ) (vs : List Value) (first : Value) (w u v : Sight) → 1 ≤ length vs → first ≡ get_or vs 0 first → u ≡ after w (spelled first inst) →
    v ≡ after u (flat_map (comma_and inst) (take (length vs - 1) (drop 1 vs))) → v ≡ after w (spelled_row (map spelled vs) inst)
row_written inst [] first w u v some is begun ended = absurd (omega (arith, some))
row_written inst (x ∷ xs) first w u v some is begun ended =
    let count : length (x ∷ xs) - 1 ≡ length xs = omega arith in
    let others : take (length (x ∷ xs) - 1) (drop 1 (x ∷ xs)) ≡ xs = ap (λ n. take n xs) count ∙ take-length xs in
    let same : first ≡ x = is in
    ended ∙ ap (λ l. after u (flat_map (comma_and inst) l)) others
    ∙ ap (λ t. after u t) (tail_is inst xs)
    ∙ ap (λ z. after z (tail_text inst xs)) begun
    ∙ chained w (spelled first inst) (tail_text inst xs)
    ∙ ap (λ y. after w (spelled y inst ++ tail_text inst xs)) same

-- and no text where there is no value
pub no_row : (inst : InstRef → List ℕ) (vs : List Value) (w : Sight) → length vs < 1 → w ≡ after w (spelled_row (map spelled vs) inst)
no_row inst [] w none = sym (nothing w)
no_row inst (x ∷ xs) w none = absurd (omega (arith, none))
