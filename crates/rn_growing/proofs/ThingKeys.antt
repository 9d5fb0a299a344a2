-- Decisions on one thing have one key.
use Rattle.std.proofs.Common.{◌≡◌, ℕ, ◌&&◌, true, List, [], ◌∷◌, ◌++◌, map, take, ap, sym, ◌∙◌}
use Rattle.std.specs.Prelude.{nat_eq}
use Rattle.std.specs.Cmp.Lexicographic.{pointwise}
use Rattle.std.proofs.lemmas.Bool.{eqb-true}
use Rattle.std.proofs.lemmas.List.{map-append, take-map}
use Rattle.rn_growing.specs.declared.decision.Decision.{Decision}
use Rattle.rn_growing.specs.declared.decision.Decision.TheVariants.{Entered, Found, Computed}
use Rattle.rn_growing.specs.declared.thing.Thing.{Thing}
use Rattle.rn_growing.specs.declared.thing.Thing.TheVariants as T
use Rattle.rn_growing.specs.link.Layouts.{same_site}
use Rattle.rn_growing.specs.link.Keys.{stirred, path_key, hole_key}
use Rattle.rn_growing.specs.Decided.{is_on}
use Rattle.rn_growing.specs.link.DecisionKeys.{decision_key, thing_key}
use Rattle.rn_growing.proofs.ChildPaths.{key_of_more}
use Rattle.rn_growing.proofs.SameUnknowns.{site_is}
use Rattle.rn_items.proofs.Numbers.{same_numbers}
use Rattle.rn_items.proofs.Bools.{both_true}

pub thing_alike : (thing : Thing) (d : Decision) → is_on thing d ≡ true →
    decision_key d ≡ thing_key thing
thing_alike (T.Entry path) (Entered head caller) e =
    ap (λ p. stirred (path_key p) 8) (same_numbers head.path path.now e)
thing_alike (T.Called path i) (Entered head caller) e =
    ap (λ p. stirred (path_key p) 8) (same_numbers head.path (path.now ++ i ∷ []) e)
    ∙ ap (λ key. stirred key 8) (key_of_more path.now i)
thing_alike (T.Found path k) (Found head j v) e =
    let both = both_true (pointwise nat_eq head.path path.now) (nat_eq j k) e in
    ap (λ p. stirred (stirred (path_key p) 9) j) (same_numbers head.path path.now both.0)
    ∙ ap (λ n. stirred (stirred (path_key path.now) 9) n) (eqb-true j k both.1)
thing_alike (T.Computed path site way) (Computed head at along v) e =
    let both = both_true (pointwise nat_eq head.path path.now)
    (same_site at site && pointwise nat_eq along way.now) e in
    let rest = both_true (same_site at site) (pointwise nat_eq along way.now) both.1 in
    ap (λ p. hole_key p at along) (same_numbers head.path path.now both.0)
    ∙ ap (λ s. hole_key path.now s along) (site_is at site rest.0)
    ∙ ap (hole_key path.now site) (same_numbers along way.now rest.1)
thing_alike (T.Entry path) _ e = absurd (let no : ⊥ = cc in no)
thing_alike (T.Called path i) _ e = absurd (let no : ⊥ = cc in no)
thing_alike (T.Found path k) _ e = absurd (let no : ⊥ = cc in no)
thing_alike (T.Computed path site way) _ e = absurd (let no : ⊥ = cc in no)

-- the keys after one more decision, and of the first of them
pub keys_pushed : (ds more : List Decision) (keys new : List ℕ) (d : Decision) →
    keys ≡ map decision_key ds → new ≡ keys ++ decision_key d ∷ [] → more ≡ ds ++ d ∷ [] →
    new ≡ map decision_key more
keys_pushed ds more keys new d keyed pushed is =
    pushed ∙ ap (λ ks. ks ++ decision_key d ∷ []) keyed
    ∙ sym (ap (map decision_key) is ∙ map-append decision_key ds (d ∷ []))

pub keys_taken : (n : ℕ) (ds first : List Decision) (keys new : List ℕ) →
    keys ≡ map decision_key ds → new ≡ take n keys → first ≡ take n ds →
    new ≡ map decision_key first
keys_taken n ds first keys new keyed taken is =
    taken ∙ ap (take n) keyed ∙ take-map decision_key n ds ∙ sym (ap (map decision_key) is)
