-- Bytes of a text that stand for themselves.
use Rattle.std.proofs.Common.{◌≡◌, ◌<◌, ◌+◌, ℕ, suc, List, [], ◌∷◌, ◌++◌, length, take, drop, get_or, refl, sym, ap, ◌∙◌, subst, arith, append-nil}
use Rattle.std.specs.Prelude.{flat_map}
use Rattle.std.proofs.Math.Seq.{take-suc}
use Rattle.std.proofs.lemmas.List.{take-append-drop}
use Rattle.std.proofs.lemmas.List.Concat.{flat_map-append}
use Rattle.rn_value.specs.Text.{escaped}
use Rattle.rn_window.specs.Windows.{Sight, after}
use Rattle.rn_window.proofs.Windows.{chained}
use Rattle.rn_spell.proofs.Slices.{drop_item}

-- one byte more
pub plain_more : (xs : List ℕ) (i d : ℕ) → i < length xs → escaped (get_or xs i d) ≡ get_or xs i d ∷ [] →
    flat_map escaped (take i xs) ≡ take i xs → flat_map escaped (take (i + 1) xs) ≡ take (i + 1) xs
plain_more xs i d within own plain =
    let b = get_or xs i d in
    let next : i + 1 ≡ suc i = omega arith in
    let more : take (i + 1) xs ≡ take i xs ++ b ∷ [] = ap (λ n. take n xs) next ∙ take-suc xs i d within in
    ap (flat_map escaped) more ∙ flat_map-append escaped (take i xs) (b ∷ [])
    ∙ ap (λ l. l ++ (escaped b ++ [])) plain ∙ ap (λ l. take i xs ++ l) (append-nil (escaped b) ∙ own) ∙ sym more

-- the first bytes stand for themselves, and then come the others
cut : (xs : List ℕ) (n : ℕ) → flat_map escaped (take n xs) ≡ take n xs →
    flat_map escaped xs ≡ take n xs ++ flat_map escaped (drop n xs)
cut xs n plain =
    ap (flat_map escaped) (sym (take-append-drop n xs)) ∙ flat_map-append escaped (take n xs) (drop n xs)
    ∙ ap (λ l. l ++ flat_map escaped (drop n xs)) plain

-- a run was put
pub run_put : (xs : List ℕ) (n : ℕ) (w v : Sight) → flat_map escaped (take n xs) ≡ take n xs →
    v ≡ after w (take n xs) → after v (flat_map escaped (drop n xs)) ≡ after w (flat_map escaped xs)
run_put xs n w v plain put =
    ap (λ u. after u (flat_map escaped (drop n xs))) put
    ∙ chained w (take n xs) (flat_map escaped (drop n xs)) ∙ ap (after w) (sym (cut xs n plain))

-- and the byte behind it
pub byte_put : (xs : List ℕ) (n d : ℕ) (w v u : Sight) → n < length xs → flat_map escaped (take n xs) ≡ take n xs →
    v ≡ after w (take n xs) → u ≡ after v (escaped (get_or xs n d)) →
    after u (flat_map escaped (drop (n + 1) xs)) ≡ after w (flat_map escaped xs)
byte_put xs n d w v u within plain put then =
    ap (λ s. after s (flat_map escaped (drop (n + 1) xs))) then
    ∙ chained v (escaped (get_or xs n d)) (flat_map escaped (drop (n + 1) xs))
    ∙ ap (λ l. after v (flat_map escaped l)) (sym (drop_item xs n (get_or xs n d) d within refl))
    ∙ run_put xs n w v plain put
