-- What is noted of the elements of a list, one after another.
use Rattle.std.proofs.Common.{◌≡◌, ℕ, ◌+◌, ◌<◌, List, [], ◌∷◌, ◌++◌, length, map, take, get_or, sym, ap, ◌∙◌, Option, None}
use Rattle.std.proofs.Common.{append-nil, refl}
use Rattle.std.proofs.lemmas.List.{take_more}
use Rattle.std.proofs.lemmas.Grind.{flat_map-append}
use Rattle.std.specs.Prelude.{flat_map}
use Rattle.rn_pt.specs.declared.fault.Broken.{Broken}
use Rattle.rn_model.specs.Limits.{most_places, most_transitions}
use Rattle.rn_pt.specs.declared.plain.PtPlace.{PtPlace}
use Rattle.rn_pt.specs.declared.plain.PtTransition.{PtTransition}
use Rattle.rn_pt.specs.declared.plain.PtNet.{PtNet}
use Rattle.rn_pt.specs.Rules.{place_broken, transition_broken, declared_broken, net_broken, place_names}
use Rattle.rn_pt.specs.Faults.{first_from, first_with}

pub first_from-append : (xs ys : List Broken) (known : Option Broken) →
    first_from known (xs ++ ys) ≡ first_from (first_from known xs) ys
first_from-append [] ys known = refl
first_from-append (x ∷ xs) ys known = first_from-append xs ys (first_with known x)

-- what is noted of one more
pub noted_more : {X : Type 0} (faults : X → List Broken) (xs : List X) (i : ℕ) (x : X)
    (known : Option Broken) → i < length xs → x ≡ get_or xs i x →
    first_from (first_from known (flat_map faults (take i xs))) (faults x)
    ≡ first_from known (flat_map faults (take (i + 1) xs))
noted_more faults xs i x known h is =
    sym
    (ap (λ ys. first_from known (flat_map faults ys))
    (take_more xs i x h ∙ ap (λ y. take i xs ++ y ∷ []) (sym is))
    ∙ ap (first_from known) (flat_map-append faults (take i xs) (x ∷ []))
    ∙ ap (λ more. first_from known (flat_map faults (take i xs) ++ more)) (append-nil (faults x))
    ∙ first_from-append (flat_map faults (take i xs)) (faults x) known)

-- the texts of the names of places
pub texts_of : (places : List PtPlace) → map (λ n. n.text) (map (λ (p : PtPlace). p.name) places) ≡ map (λ (p : PtPlace). p.name.text) places
texts_of [] = refl
texts_of (p ∷ places) = ap (λ ts. p.name.text ∷ ts) (texts_of places)

-- what is noted of all parts of a net, one after another
pub all_noted : (net : PtNet) (places : List PtPlace) (transitions : List PtTransition) (a b d e : Option Broken) → places ≡ net.places → transitions ≡ net.transitions →
    a ≡ first_from None (declared_broken most_places (map (λ (p : PtPlace). p.name) places)) → b ≡ first_from a (flat_map place_broken places) →
    d ≡ first_from b (declared_broken most_transitions (map (λ (t : PtTransition). t.name) transitions)) →
    e ≡ first_from d (flat_map (transition_broken (place_names net)) transitions) → e ≡ first_from None (net_broken net)
all_noted net places transitions a b d e ps ts is_a is_b is_d is_e =
    let x = declared_broken most_places (map (λ (p : PtPlace). p.name) net.places) in
    let y = flat_map place_broken net.places in
    let z = declared_broken most_transitions (map (λ (t : PtTransition). t.name) net.transitions) in
    let w = flat_map (transition_broken (place_names net)) net.transitions in
    is_e
    ∙ ap (λ us. first_from d (flat_map (transition_broken (place_names net)) us)) ts
    ∙ ap (λ k. first_from k w)
    (is_d
    ∙ ap (λ us. first_from b (declared_broken most_transitions (map (λ (t : PtTransition). t.name) us))) ts
    ∙ ap (λ k. first_from k z)
    (is_b
    ∙ ap (λ us. first_from a (flat_map place_broken us)) ps
    ∙ ap (λ k. first_from k y)
    (is_a ∙ ap (λ us. first_from None (declared_broken most_places (map (λ (p : PtPlace). p.name) us))) ps)))
    ∙ sym
    (first_from-append (x ++ y ++ z) w None
    ∙ ap (λ k. first_from k w) (first_from-append (x ++ y) z None ∙ ap (λ k. first_from k z) (first_from-append x y None)))
