-- The longest prefix is one, and the token after it decides.
use Rattle.rn_inscript.proofs.Names.{◌≡◌, ◌<◌, List, [], ◌∷◌, ◌++◌, length, refl, sym, ◌∙◌, ap, subst, append_assoc, arith, length-append, Token, Wholes, IsPrefix, IsLongest}
use Rattle.rn_inscript.proofs.ReadingFacts.{longer}

-- the next token can't follow, whatever comes after it
pub next_decides : {A : Type 0} (Whole : Wholes A) (taken left others : List Token) (t : Token) → IsLongest Whole (taken ++ t ∷ left) taken → IsLongest Whole (taken ++ t ∷ others) taken
next_decides Whole taken left others t l = record {
  left = t ∷ others;
  parts = refl;
  prefix = l.prefix;
  longest = λ us rest e p. let shorter = grown us rest e p in omega (arith, shorter);
}
  where
    grown : (us rest : List Token) → taken ++ t ∷ others ≡ us ++ rest → IsPrefix Whole us → length taken < length us → ⊥
    grown us rest e p lt =
        let r = longer taken (t ∷ others) us rest e lt in
        let first : r.0 ≡ t = let g = r.3 in cc in
        let parts : us ≡ (taken ++ t ∷ []) ++ r.1 = r.2 ∙ ap (λ u. taken ++ u ∷ r.1) first ∙ sym (append_assoc taken (t ∷ []) r.1) in
        let shorter : IsPrefix Whole (taken ++ t ∷ []) = (r.1 ++ p.0, p.1, subst (λ vs. Whole vs p.1) (ap (λ vs. vs ++ p.0) parts ∙ append_assoc (taken ++ t ∷ []) r.1 p.0) p.2) in
        let most = l.longest (taken ++ t ∷ []) left (sym (append_assoc taken (t ∷ []) left)) shorter in
        omega (arith, most, length-append taken (t ∷ []))
