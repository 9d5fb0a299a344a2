-- The downlinks of a transition, one inscription after another.
use Rattle.std.proofs.Common.{◌≡◌, ℕ, ◌+◌, ◌<◌, suc, List, [], ◌∷◌, ◌++◌, length, drop, get_or, refl, sym, ap, ◌∙◌}
use Rattle.std.proofs.Common.{add-one, drop-cons}
use Rattle.std.specs.Prelude.{flat_map}
use Rattle.std.proofs.lemmas.List.{append_assoc}
use Rattle.rn_inscript.specs.declared.exprs.PExpr.{PExpr}
use Rattle.rn_inscript.specs.declared.inscriptions.PName.{PName}
use Rattle.rn_inscript.specs.declared.inscriptions.PInscribed.{PInscribed}
use Rattle.rn_inscript.specs.declared.inscriptions.PInscribed.TheVariants as I
use Rattle.rn_numbered.specs.Numbered.{Numbers, downlink_of}

-- what one more inscription gives
pub given_more : {A B : Type 0} (f : A → List B) (xs : List A) (i : ℕ) (x : A) (made now all : List B) →
    i < length xs → x ≡ get_or xs i x → made ++ flat_map f (drop i xs) ≡ all → now ≡ made ++ f x →
    now ++ flat_map f (drop (i + 1) xs) ≡ all
given_more f xs i x made now all h is before put =
    let rest : drop i xs ≡ x ∷ drop (i + 1) xs =
    drop-cons xs i x h ∙ ap (λ y. y ∷ drop (suc i) xs) (sym is) ∙ ap (λ n. x ∷ drop n xs) (sym (add-one i)) in
    ap (λ ys. ys ++ flat_map f (drop (i + 1) xs)) put
    ∙ append_assoc made (f x) (flat_map f (drop (i + 1) xs))
    ∙ ap (λ ys. made ++ flat_map f ys) (sym rest)
    ∙ before

pub no_downlink : (to : Numbers) (form : PInscribed) →
    ((target : PExpr) (channel : PName) (args : List PExpr) → form ≡ I.Downlink target channel args → ⊥) →
    downlink_of to form ≡ []
no_downlink to (I.Downlink target channel args) other = absurd (other target channel args refl)
no_downlink to (I.Set var value) other = refl
no_downlink to (I.Arc kind place e) other = refl
no_downlink to (I.Guard cond) other = refl
no_downlink to (I.Print e) other = refl
no_downlink to (I.Uplink channel args) other = refl
no_downlink to (I.New var net) other = refl
no_downlink to (I.Equality a b) other = refl
