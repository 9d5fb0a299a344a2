-- A history that grows by one entry, and what its authors have of it.
use Rattle.std.proofs.Common.{◌≡◌, ◌≢◌, ◌⊎◌, ⊎_elim, ℕ, ◌<◌, ◌≤◌, cond, List, [], ◌∷◌, ◌++◌, length, sym, ap, ◌∙◌, arith, eq-eqb, ne_eqb, append_assoc, append-nil, length-append}
use Rattle.std.proofs.lemmas.List.Elements.{filter-append}
use Rattle.rn_desk.specs.declared.view.Part.{Part}
use Rattle.rn_desk.specs.Entries.{StartsWith, authored, AddsAtMostOne}
use Rattle.rn_desk.specs.Turns.{total, Every, is_number, PartFits}

module _ {A : Type 0} where
  pub append_none : (xs ys zs : List A) → xs ≡ ys → zs ≡ [] → xs ++ zs ≡ ys
  append_none xs ys zs e e' = ap (λ l. xs ++ l) e' ∙ (append-nil xs ∙ e)

  pub StartsWith-append : (xs ys zs : List A) → StartsWith xs ys → StartsWith (xs ++ zs) ys
  StartsWith-append xs ys zs s = (s.0 ++ zs, ap (λ l. l ++ zs) s.1 ∙ append_assoc ys s.0 zs)

module _ {I : Type 0} (author : I → ℕ) (n : ℕ) where
  -- what one authored of two joined lists is what one did of each, joined
  pub authored-append : (xs ys : List I) → authored author n (xs ++ ys) ≡ authored author n xs ++ authored author n ys
  authored-append xs ys = filter-append _ xs ys

  -- one authored nothing of an entry by another
  pub authored_by_other : (e : I) → author e ≢ n → authored author n (e ∷ []) ≡ []
  authored_by_other e other = ap (λ b. cond b (e ∷ []) []) (ne_eqb (author e) n other)

  pub adds_one : (before after : List I) → AddsAtMostOne author n before after → length before < length after → (e : I) × (after ≡ before ++ e ∷ []) × ((author e ≡ n) ⊎ (author e ≡ 0))
  adds_one before after a longer = ⊎_elim (λ same. let l : length after ≡ length before = ap length same in absurd (omega arith)) (λ one. one) a

  pub adds_none : (before after : List I) → AddsAtMostOne author n before after → length after ≤ length before → after ≡ before
  adds_none before after a not_longer = ⊎_elim (λ same. same) (λ one. let l = ap length one.1 in let m = length-append before (one.0 ∷ []) in absurd (omega arith)) a

module _ {I : Type 0} where
  pub is_number_here : (n : ℕ) (p : Part I) → p.number ≡ n → is_number n p ≡ 1
  is_number_here n p e = ap (λ b. cond b 1 0) (eq-eqb p.number n e)

  pub is_number_other : (n : ℕ) (p : Part I) → p.number ≢ n → is_number n p ≡ 0
  is_number_other n p e = ap (λ b. cond b 1 0) (ne_eqb p.number n e)

  -- a part fits the history that is one entry longer, where another number authored it
  pub PartFits_longer : (author : I → ℕ) (log : List I) (e : I) (p : Part I) → author e ≢ p.number → PartFits author log p → PartFits author (log ++ e ∷ []) p
  PartFits_longer author log e p other f = (StartsWith-append log p.seen (e ∷ []) f.0, authored-append author p.number log (e ∷ []) ∙ append_none _ _ _ f.1 (authored_by_other author p.number e other))

  pub all_fit_longer : (author : I → ℕ) (log : List I) (e : I) (ps : List (Part I)) → total (is_number (author e)) ps ≡ 0 → Every (PartFits author log) ps → Every (PartFits author (log ++ e ∷ [])) ps
  all_fit_longer author log e [] none_there f = tt
  all_fit_longer author log e (p ∷ ps) none_there f = (
    PartFits_longer author log e p (λ is. let h = is_number_here (author e) p (sym is) in omega arith) f.0,
    all_fit_longer author log e ps (omega arith) f.1,
  )

  pub Every-append : (P : Part I → Type 0) (xs ys : List (Part I)) → Every P xs → Every P ys → Every P (xs ++ ys)
  Every-append P [] ys f g = g
  Every-append P (x ∷ xs) ys f g = (f.0, Every-append P xs ys f.1 g)
