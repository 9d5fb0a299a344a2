-- Two lists that begin with a run of bytes that pass a test, and go on with one that fails it.
use Rattle.std.proofs.Common.{◌≡◌, ℕ, Bool, true, false, List, [], ◌∷◌, ◌++◌, refl, sym, ap, ◌∙◌}
use Rattle.std.specs.List.{list_all}
use Rattle.std.proofs.lemmas.Bool.{false≢true}
use Rattle.rn_items.proofs.Bools.{and_left, and_right}

module _ (test : ℕ → Bool) where
  -- the first byte, if there is one, fails the test
  abbrev pub Stops : List ℕ → Type 0
  Stops [] = Unit {0}
  Stops (c ∷ rest) = test c ≡ false

  goes_on : (c : ℕ) (rest x : List ℕ) → Stops x → test c ≡ true → x ≡ c ∷ rest → ⊥
  goes_on c rest [] stops passes e = cc
  goes_on c rest (d ∷ x) stops passes e =
      let same : d ≡ c = cc in
      false≢true (sym stops ∙ ap test same ∙ passes)

  pub same_runs : (a b x y : List ℕ) → list_all test a ≡ true → list_all test b ≡ true → Stops x → Stops y → a ++ x ≡ b ++ y → (a ≡ b) × (x ≡ y)
  same_runs [] [] x y p q stops ends e = (refl, e)
  same_runs [] (c ∷ b) x y p q stops ends e = absurd (goes_on c (b ++ y) x stops (and_left (test c) (list_all test b) q) e)
  same_runs (c ∷ a) [] x y p q stops ends e = absurd (goes_on c (a ++ x) y ends (and_left (test c) (list_all test a) p) (sym e))
  same_runs (c ∷ a) (d ∷ b) x y p q stops ends e =
      let first : c ≡ d = cc in
      let tails : a ++ x ≡ b ++ y = cc in
      let rest = same_runs a b x y (and_right (test c) (list_all test a) p) (and_right (test d) (list_all test b) q) stops ends tails in
      let prefixes : a ≡ b = rest.0 in
      (cc, rest.1)
