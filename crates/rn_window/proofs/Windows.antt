-- A window once one text came after another.
--
-- A function that writes a text by several calls names the rules in its attribute, and then its goals
-- mostly close without an answer: `#[tactic(auto, using(rn_window::proofs::Windows::written))]`.
use Rattle.std.proofs.Common.{◌≡◌, ℕ, zero, suc, ◌+◌, ◌-◌, ◌<◌, ◌≤◌, List, [], ◌∷◌, ◌++◌, length, take, drop, refl, sym, ap, ◌∙◌, append_assoc, append-nil, length-append, arith}
use Rattle.std.specs.Prelude.{min}
use Rattle.std.proofs.Math.Seq.{take-append_seam}
use Rattle.std.proofs.lemmas.List.{length-take, take_all}
use Rattle.rn_window.specs.Windows.{Sight, top, after}

drop-append : (n : ℕ) (x y : List ℕ) → drop n (x ++ y) ≡ drop n x ++ drop (n - length x) y
drop-append zero [] y = refl
drop-append (suc n) [] y =
    let same : suc n ≡ suc n - 0 = omega arith in
    ap (λ k. drop k y) same
drop-append zero (b ∷ x) y =
    let none : 0 ≡ 0 - length (b ∷ x) = omega arith in
    ap (λ k. (b ∷ x) ++ drop k y) none
drop-append (suc n) (b ∷ x) y =
    let same : n - length x ≡ suc n - length (b ∷ x) = omega arith in
    drop-append n x y ∙ ap (λ k. drop n x ++ drop k y) same

take-append : (n : ℕ) (x y : List ℕ) → take n (x ++ y) ≡ take n x ++ take (n - length x) y
take-append zero [] y = refl
take-append (suc n) [] y =
    let same : suc n ≡ suc n - 0 = omega arith in
    ap (λ k. take k y) same
take-append zero (b ∷ x) y =
    let none : 0 ≡ 0 - length (b ∷ x) = omega arith in
    ap (λ k. take k y) none
take-append (suc n) (b ∷ x) y =
    let same : n - length x ≡ suc n - length (b ∷ x) = omega arith in
    ap (λ z. b ∷ z) (take-append n x y ∙ ap (λ k. take n x ++ take k y) same)

take-none : (n : ℕ) → take {A = ℕ} n [] ≡ []
take-none zero = refl
take-none (suc n) = refl

drop-none : (n : ℕ) → drop {A = ℕ} n [] ≡ []
drop-none zero = refl
drop-none (suc n) = refl

room-left : (room : ℕ) (kept seen : List ℕ) →
    room - length (kept ++ take (room - length kept) seen) ≡ (room - length kept) - length seen
room-left room kept seen =
    omega (arith, length-append kept (take (room - length kept) seen), length-take (room - length kept) seen)

-- one text after another
pub chained : (w : Sight) (x y : List ℕ) → after (after w x) y ≡ after w (x ++ y)
unfolding after
chained w x y =
    let count = length-append x y in
    let skip : (w.skip - length x) - length y ≡ w.skip - length (x ++ y) = omega (arith, count) in
    let came : (w.came + min (top - w.came) (length x))
    + min (top - (w.came + min (top - w.came) (length x))) (length y)
    ≡ w.came + min (top - w.came) (length (x ++ y)) = omega (arith, count) in
    let kept : (w.kept ++ take (w.room - length w.kept) (drop w.skip x))
    ++ take (w.room - length (w.kept ++ take (w.room - length w.kept) (drop w.skip x)))
    (drop (w.skip - length x) y)
    ≡ w.kept ++ take (w.room - length w.kept) (drop w.skip (x ++ y)) =
    append_assoc w.kept (take (w.room - length w.kept) (drop w.skip x))
    (take (w.room - length (w.kept ++ take (w.room - length w.kept) (drop w.skip x)))
    (drop (w.skip - length x) y))
    ∙ ap (λ n. w.kept ++ (take (w.room - length w.kept) (drop w.skip x)
    ++ take n (drop (w.skip - length x) y))) (room-left w.room w.kept (drop w.skip x))
    ∙ ap (λ z. w.kept ++ z)
    (sym (take-append (w.room - length w.kept) (drop w.skip x) (drop (w.skip - length x) y))
    ∙ ap (take (w.room - length w.kept)) (sym (drop-append w.skip x y))) in
    λ i. record { room = w.room; skip = skip i; kept = kept i; came = came i }

-- a byte, and then a text
pub byte_then : (w : Sight) (b : ℕ) (y : List ℕ) → after (after w (b ∷ [])) y ≡ after w (b ∷ y)
byte_then w b y = chained w (b ∷ []) y

-- no text
pub nothing : (w : Sight) → after w [] ≡ w
unfolding after
nothing w =
    let came : w.came + min (top - w.came) 0 ≡ w.came = omega arith in
    let kept : w.kept ++ take (w.room - length w.kept) (drop w.skip []) ≡ w.kept =
    ap (λ z. w.kept ++ take (w.room - length w.kept) z) (drop-none w.skip)
    ∙ ap (λ z. w.kept ++ z) (take-none (w.room - length w.kept)) ∙ append-nil w.kept in
    let skip : w.skip - 0 ≡ w.skip = omega arith in
    λ i. record { room = w.room; skip = skip i; kept = kept i; came = came i }

-- for functions that write a text by several calls
pub ruleset written = (chained, byte_then, nothing, append_assoc)

-- the room stays
pub room_stays : (w : Sight) (x : List ℕ) → (after w x).room ≡ w.room
unfolding after
room_stays w x = refl

-- what a window counted since its text began, of a text that came whole
pub came_of : (w : Sight) (x : List ℕ) → w.came ≡ 0 → (after w x).came ≡ min top (length x)
unfolding after
came_of w x none = omega (arith, none)

-- what is kept of a text, where so many of its bytes are passed over
pub kept_of : (w : Sight) (x : List ℕ) →
    (after w x).kept ≡ w.kept ++ take (w.room - length w.kept) (drop w.skip x)
unfolding after
kept_of w x = refl

-- what was kept before stays in front
pub kept_first : (w : Sight) (x : List ℕ) → take (length w.kept) (after w x).kept ≡ w.kept
unfolding after
kept_first w x = take-append_seam w.kept (take (w.room - length w.kept) (drop w.skip x))

-- A window that passes over nothing, once a text came.
module _ (w s : Sight) (room : ℕ) (kept x : List ℕ)
    (is : w ≡ record { room = room; skip = 0; kept = kept; came = 0 }) (then : s ≡ after w x) where
  last : s ≡ after (record { room = room; skip = 0; kept = kept; came = 0 }) x
  last = then ∙ ap (λ v. after v x) is

  -- its room stays
  pub room_of : s.room ≡ room
  room_of = ap (λ v. v.room) last ∙ room_stays _ x

  -- it counts the bytes of the text
  pub counted : s.came ≡ min top (length x)
  counted = ap (λ v. v.came) last ∙ came_of _ x refl

  -- where the text fits, it is kept
  pub filled : room < top → s.came ≤ room - length kept → s.kept ≡ kept ++ x
  filled small fits =
      let whole : length x ≤ room - length kept = omega (arith, small, fits, counted) in
      ap (λ v. v.kept) last ∙ kept_of _ x ∙ ap (λ z. kept ++ z) (take_all _ x whole)

  -- what was kept before stays in front
  pub kept_before : take (length kept) s.kept ≡ kept
  kept_before = ap (λ v. take (length kept) v.kept) last ∙ kept_first _ x
