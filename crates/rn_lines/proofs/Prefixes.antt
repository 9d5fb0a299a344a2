-- The longest prefix of bytes that pass a test.
use Rattle.std.proofs.Common.{◌≡◌, ℕ, suc, List, [], ◌∷◌, ◌++◌, take, drop, Bool, true, false, refl, ap, arith}
use Rattle.std.specs.List.{list_all, prefix_len}
use Rattle.rn_value.proofs.Spans.{Stops}
use Rattle.rn_items.proofs.Bools.{and_left, and_right}

-- its bytes pass, and the byte after it doesn't
pub longest_prefix : (test : ℕ → Bool) (text : List ℕ) → (list_all test (take (prefix_len test text) text) ≡ true) × Stops test (drop (prefix_len test text) text)
longest_prefix test [] = (refl, tt)
longest_prefix test (x ∷ xs) = by (test x) refl (longest_prefix test xs)
  where
    by : (b : Bool) → test x ≡ b → (list_all test (take (prefix_len test xs) xs) ≡ true) × Stops test (drop (prefix_len test xs) xs) →
        (list_all test (take (prefix_len test (x ∷ xs)) (x ∷ xs)) ≡ true) × Stops test (drop (prefix_len test (x ∷ xs)) (x ∷ xs))
    by true e h = let long : prefix_len test (x ∷ xs) ≡ suc (prefix_len test xs) = rw e (omega arith) in rw long (rw (e, h.0), h.1)
    by false e h = let none : prefix_len test (x ∷ xs) ≡ 0 = rw e in rw none (refl, e)

-- it is all of the bytes that pass, where none passes after them
pub prefix_is : (test : ℕ → Bool) (a rest : List ℕ) → list_all test a ≡ true → Stops test rest →
    (take (prefix_len test (a ++ rest)) (a ++ rest) ≡ a) × (drop (prefix_len test (a ++ rest)) (a ++ rest) ≡ rest)
prefix_is test [] [] all stops = (refl, refl)
prefix_is test [] (c ∷ rest) all stops = let none : prefix_len test (c ∷ rest) ≡ 0 = rw stops in rw none (refl, refl)
prefix_is test (x ∷ xs) rest all stops =
    let here : test x ≡ true = and_left (test x) (list_all test xs) all in
    let others = prefix_is test xs rest (and_right (test x) (list_all test xs) all) stops in
    let long : prefix_len test (x ∷ (xs ++ rest)) ≡ suc (prefix_len test (xs ++ rest)) = rw here (omega arith) in
    rw long (ap (λ a. x ∷ a) others.0, others.1)
