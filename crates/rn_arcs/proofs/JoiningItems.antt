-- Joining one more item: the last group or a new one after it, and what groups give together.
use Rattle.std.proofs.Common.{◌≡◌, ℕ, zero, suc, ◌+◌, ◌<◌, Bool, true, false, cond, List, [], ◌∷◌}
use Rattle.std.proofs.Common.{◌++◌, length, get_or, refl, sym, ap, ◌∙◌, subst, arith}
use Rattle.std.proofs.Common.{append_assoc}
use Rattle.std.specs.Prelude.{fold}
use Rattle.std.proofs.lemmas.List.{append-nil}
use Rattle.std.proofs.Math.ListN.{set}
use Rattle.rn_arcs.specs.link.Joining.{with_item}
use Rattle.rn_arcs.specs.Places.{InstPlace, is_at}
use Rattle.rn_arcs.proofs.Gathering.{at_place, at_place-append, at_place-one}
use Rattle.rn_arcs.proofs.PlaceOrder.{same_place}

module _ {G X : Type 0} (place : G → InstPlace) (item_place : X → InstPlace) (first : X → G)
    (join : X → G → G) where
  abbrev with_one : List G → X → List G
  with_one = with_item place item_place first join

  -- an item of the last place
  with_one-last : (gs : List G) (x : X) (n : ℕ) (d : G) → length gs ≡ n + 1 →
      is_at (place (get_or gs n d)) (item_place x) ≡ true →
      with_one gs x ≡ set gs n (join x (get_or gs n d))
  with_one-last [] x n d count e = absurd (let no : ⊥ = omega (arith, count) in no)
  with_one-last (g ∷ []) x zero d count e =
      ap (λ t. cond t (join x g ∷ []) (g ∷ first x ∷ [])) e
  with_one-last (g ∷ []) x (suc n) d count e =
      absurd (let no : ⊥ = omega (arith, count) in no)
  with_one-last (g ∷ h ∷ gs) x zero d count e =
      absurd (let no : ⊥ = omega (arith, count) in no)
  with_one-last (g ∷ h ∷ gs) x (suc n) d count e =
      ap (λ rest. g ∷ rest) (with_one-last (h ∷ gs) x n d (omega (arith, count)) e)

  -- an item of another place than the last
  with_one-new : (gs : List G) (x : X) (n : ℕ) (d : G) → length gs ≡ n + 1 →
      is_at (place (get_or gs n d)) (item_place x) ≡ false →
      with_one gs x ≡ gs ++ first x ∷ []
  with_one-new [] x n d count e = refl
  with_one-new (g ∷ []) x zero d count e =
      ap (λ t. cond t (join x g ∷ []) (g ∷ first x ∷ [])) e
  with_one-new (g ∷ []) x (suc n) d count e =
      absurd (let no : ⊥ = omega (arith, count) in no)
  with_one-new (g ∷ h ∷ gs) x zero d count e =
      absurd (let no : ⊥ = omega (arith, count) in no)
  with_one-new (g ∷ h ∷ gs) x (suc n) d count e =
      ap (λ rest. g ∷ rest) (with_one-new (h ∷ gs) x n d (omega (arith, count)) e)

  -- What is given for a place in one way, where one more item adds what it gives in that way.
  module _ {A : Type 0} (select : G → List A) (pick : X → List A)
      (first_stays : (x : X) → place (first x) ≡ item_place x)
      (join_stays : (x : X) (g : G) → place (join x g) ≡ place g)
      (first_gives : (x : X) → select (first x) ≡ pick x)
      (more : (x : X) (g : G) → select (join x g) ≡ select g ++ pick x) (k : InstPlace) where
    abbrev of_groups : List G → List A
    of_groups = at_place place select k

    abbrev of_items : List X → List A
    of_items = at_place item_place pick k

    new_place : (x : X) → of_groups (first x ∷ []) ≡ of_items (x ∷ [])
    new_place x =
        at_place-one place select k (first x)
        ∙ ap (λ l. cond (is_at k l) (select (first x)) []) (first_stays x)
        ∙ ap (λ vs. cond (is_at k (item_place x)) vs []) (first_gives x)
        ∙ sym (at_place-one item_place pick k x)

    by_tests : (here : Bool) (vs ws : List A) →
        cond here (vs ++ ws) [] ≡ cond here vs [] ++ cond here ws []
    by_tests true vs ws = refl
    by_tests false vs ws = refl

    same_place_more : (g : G) (x : X) → place g ≡ item_place x →
        of_groups (join x g ∷ []) ≡ of_groups (g ∷ []) ++ of_items (x ∷ [])
    same_place_more g x e =
        let here = is_at k (place g) in
        at_place-one place select k (join x g)
        ∙ ap (λ l. cond (is_at k l) (select (join x g)) []) (join_stays x g)
        ∙ ap (λ vs. cond here vs []) (more x g)
        ∙ by_tests here (select g) (pick x)
        ∙ ap (λ vs. vs ++ cond here (pick x) []) (sym (at_place-one place select k g))
        ∙ ap (λ l. of_groups (g ∷ []) ++ cond (is_at k l) (pick x) []) e
        ∙ ap (λ vs. of_groups (g ∷ []) ++ vs) (sym (at_place-one item_place pick k x))

    other_place_more : (g : G) (x : X) →
        of_groups (g ∷ first x ∷ []) ≡ of_groups (g ∷ []) ++ of_items (x ∷ [])
    other_place_more g x =
        at_place-append place select k (g ∷ []) (first x ∷ [])
        ∙ ap (λ vs. of_groups (g ∷ []) ++ vs) (new_place x)

    one_more : (g : G) (x : X) (here : Bool) → is_at (place g) (item_place x) ≡ here →
        of_groups (cond here (join x g ∷ []) (g ∷ first x ∷ []))
        ≡ of_groups (g ∷ []) ++ of_items (x ∷ [])
    one_more g x true e = same_place_more g x (sym (same_place (place g) (item_place x) e))
    one_more g x false e = other_place_more g x

    with_one-gives : (gs : List G) (x : X) →
        of_groups (with_one gs x) ≡ of_groups gs ++ of_items (x ∷ [])
    with_one-gives [] x = new_place x
    with_one-gives (g ∷ []) x = one_more g x (is_at (place g) (item_place x)) refl
    with_one-gives (g ∷ h ∷ gs) x =
        at_place-append place select k (g ∷ []) (with_one (h ∷ gs) x)
        ∙ ap (λ vs. of_groups (g ∷ []) ++ vs) (with_one-gives (h ∷ gs) x)
        ∙ sym (append_assoc (of_groups (g ∷ [])) (of_groups (h ∷ gs)) (of_items (x ∷ [])))
        ∙ ap (λ vs. vs ++ of_items (x ∷ []))
        (sym (at_place-append place select k (g ∷ []) (h ∷ gs)))

    pub joined_give : (gs : List G) (xs : List X) →
        of_groups (fold with_one gs xs) ≡ of_groups gs ++ of_items xs
    joined_give gs [] = sym (append-nil (of_groups gs))
    joined_give gs (x ∷ xs) =
        joined_give (with_one gs x) xs
        ∙ ap (λ vs. vs ++ of_items xs) (with_one-gives gs x)
        ∙ append_assoc (of_groups gs) (of_items (x ∷ [])) (of_items xs)
        ∙ ap (λ vs. of_groups gs ++ vs)
        (sym (at_place-append item_place pick k (x ∷ []) xs))

  -- within a list it doesn't matter what stands past its end
  any_default : (gs : List G) (n : ℕ) (d e : G) → n < length gs →
      get_or gs n d ≡ get_or gs n e
  any_default [] n d e low = absurd (let no : ⊥ = omega (arith, low) in no)
  any_default (g ∷ gs) zero d e low = refl
  any_default (g ∷ gs) (suc n) d e low = any_default gs n d e (omega (arith, low))

  -- the last group after what was added to it
  pub joins : (gs : List G) (x : X) (n : ℕ) (last again now : G) →
      length gs ≡ n + 1 → last ≡ get_or gs n last → again ≡ get_or gs n again →
      is_at (place last) (item_place x) ≡ true → now ≡ join x again →
      set gs n now ≡ with_one gs x
  joins gs x n last again now count is same here added =
      let there : is_at (place (get_or gs n last)) (item_place x) ≡ true =
      subst (λ g. is_at (place g) (item_place x) ≡ true) is here in
      let one : again ≡ get_or gs n last =
      same ∙ any_default gs n again last (omega (arith, count)) in
      ap (set gs n) (added ∙ ap (join x) one) ∙ sym (with_one-last gs x n last count there)

  -- a new group after the last
  pub comes_after : (gs : List G) (x : X) (n : ℕ) (last now : G) → length gs ≡ n + 1 →
      last ≡ get_or gs n last → is_at (place last) (item_place x) ≡ false →
      now ≡ first x → gs ++ now ∷ [] ≡ with_one gs x
  comes_after gs x n last now count is here added =
      let there : is_at (place (get_or gs n last)) (item_place x) ≡ false =
      subst (λ g. is_at (place g) (item_place x) ≡ false) is here in
      ap (λ g. gs ++ g ∷ []) added ∙ sym (with_one-new gs x n last count there)

  -- the first group
  pub comes_first : (gs : List G) (x : X) (now : G) → length gs ≡ 0 →
      now ≡ first x → gs ++ now ∷ [] ≡ with_one gs x
  comes_first [] x now count added = ap (λ g. g ∷ []) added
  comes_first (g ∷ gs) x now count added = absurd (let no : ⊥ = omega (arith, count) in no)
