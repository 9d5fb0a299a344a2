-- Unknowns and paths that are the same.
use Rattle.std.proofs.Common.{◌≡◌, true, refl, ap, ◌∙◌}
use Rattle.std.specs.Prelude.{nat_eq}
use Rattle.std.specs.Cmp.Lexicographic.{pointwise}
use Rattle.std.proofs.lemmas.Bool.{eqb-true, eq-eqb}
use Rattle.rn_model.specs.Derivation as D
use Rattle.rn_growing.specs.declared.decision.Site.{Site}
use Rattle.rn_growing.specs.declared.decision.Site.TheVariants.{Left, Right, UplinkArg, Target}
use Rattle.rn_growing.specs.declared.decision.Site.TheVariants.{DownlinkArg, Inscription}
use Rattle.rn_growing.specs.declared.slot.Unknown.{Unknown}
use Rattle.rn_growing.specs.declared.slot.Unknown.TheVariants.{Var, Hole}
use Rattle.rn_growing.specs.Decisions.{site_of}
use Rattle.rn_growing.specs.link.Layouts.{same_site, same_unknown}
use Rattle.rn_items.proofs.Numbers.{same_numbers, numbers_themselves}
use Rattle.rn_items.proofs.Bools.{both_true}

-- a site is the same as itself
pub site_itself : (s : Site) → same_site s s ≡ true
site_itself (Left k) = eq-eqb k k refl
site_itself (Right k) = eq-eqb k k refl
site_itself (UplinkArg k) = eq-eqb k k refl
site_itself (Target k) = eq-eqb k k refl
site_itself (DownlinkArg i k) = rw (eq-eqb i i refl, eq-eqb k k refl) refl
site_itself (Inscription k) = eq-eqb k k refl

-- sites that the test takes as the same are equal
pub site_is : (s t : Site) → same_site s t ≡ true → s ≡ t
site_is (Left k) (Left j) e = ap Left (eqb-true k j e)
site_is (Right k) (Right j) e = ap Right (eqb-true k j e)
site_is (UplinkArg k) (UplinkArg j) e = ap UplinkArg (eqb-true k j e)
site_is (Target k) (Target j) e = ap Target (eqb-true k j e)
site_is (DownlinkArg i k) (DownlinkArg h j) e =
    let both = both_true (nat_eq i h) (nat_eq k j) e in
    ap (λ n. DownlinkArg n k) (eqb-true i h both.0) ∙ ap (DownlinkArg h) (eqb-true k j both.1)
site_is (Inscription k) (Inscription j) e = ap Inscription (eqb-true k j e)
site_is _ _ e = absurd (let no : ⊥ = cc in no)

pub unknown_itself : (u : Unknown) → same_unknown u u ≡ true
unknown_itself (Var x) = eq-eqb x x refl
unknown_itself (Hole site way) = rw (site_itself site, numbers_themselves way) refl

pub unknown_is : (u v : Unknown) → same_unknown u v ≡ true → u ≡ v
unknown_is (Var x) (Var y) e = ap Var (eqb-true x y e)
unknown_is (Hole site way) (Hole other along) e =
    let both = both_true (same_site site other) (pointwise nat_eq way along) e in
    ap (λ s. Hole s way) (site_is site other both.0) ∙ ap (Hole other) (same_numbers way along both.1)
unknown_is _ _ e = absurd (let no : ⊥ = cc in no)

-- a site in the words of code
abbrev pub as_site : D.Site → Site
as_site (D.left k) = Left k
as_site (D.right k) = Right k
as_site (D.uplink_arg k) = UplinkArg k
as_site (D.target i) = Target i
as_site (D.downlink_arg i k) = DownlinkArg i k
as_site (D.arc k) = Inscription k

-- a site in the words of code, and back, is itself
pub as_site-is : (s : D.Site) → site_of (as_site s) ≡ s
as_site-is (D.left k) = refl
as_site-is (D.right k) = refl
as_site-is (D.uplink_arg k) = refl
as_site-is (D.target i) = refl
as_site-is (D.downlink_arg i k) = refl
as_site-is (D.arc k) = refl

-- and so is a site of code in the words of definitions, and back
pub site_of-is : (s : Site) → as_site (site_of s) ≡ s
site_of-is (Left k) = refl
site_of-is (Right k) = refl
site_of-is (UplinkArg k) = refl
site_of-is (Target k) = refl
site_of-is (DownlinkArg i k) = refl
site_of-is (Inscription k) = refl
