-- The places of sorted items rise once those of one place are joined, and so each place comes once.
use Rattle.std.proofs.Common.{◌≡◌, zero, suc, ◌+◌, Bool, true, false, cond, List, [], ◌∷◌}
use Rattle.std.proofs.Common.{get_or, refl, sym, ap, ◌∙◌, subst, arith, inl, inr}
use Rattle.std.specs.Prelude.{⊤, ◌⊎◌, fold, filter, Contains}
use Rattle.std.specs.List.{AllByRecursion}
use Rattle.std.specs.List.Sorted.{IsSortedByKey}
use Rattle.std.specs.Ordering.{is_eq, is_lt, ordering_reverse}
use Rattle.std.specs.declared.cmp.Ordering.TheVariants.{Less}
use Rattle.std.proofs.lemmas.List.Elements.{recursion_from_All}
use Rattle.std.proofs.lemmas.List.Sorted.{ranks_by, sorted_far}
use Rattle.rn_arcs.specs.link.Joining.{Rising, with_item}
use Rattle.rn_arcs.specs.Places.{InstPlace, place_cmp, is_at}
use Rattle.rn_arcs.proofs.PlaceOrder.{place_total, is_above, stays_below, same_place}
use Rattle.rn_arcs.proofs.PlaceOrder.{not_at_above, at_itself}

pub all_map : {X : Type 0} (P Q : X → Type 0) (xs : List X) → ((x : X) → P x → Q x) →
    AllByRecursion P xs → AllByRecursion Q xs
all_map P Q [] f all = tt
all_map P Q (x ∷ xs) f all = (f x all.0, all_map P Q xs f all.1)

all_both : {X : Type 0} (P Q R : X → Type 0) (xs : List X) → ((x : X) → P x → Q x → R x) →
    AllByRecursion P xs → AllByRecursion Q xs → AllByRecursion R xs
all_both P Q R [] f all also = tt
all_both P Q R (x ∷ xs) f all also =
    (f x all.0 also.0, all_both P Q R xs f all.1 also.1)

all_of : {X : Type 0} (P : X → Type 0) (xs : List X) → ((x : X) → P x) → AllByRecursion P xs
all_of P [] f = tt
all_of P (x ∷ xs) f = (f x, all_of P xs f)

module _ {X : Type 0} (item_place : X → InstPlace) where
  -- no later item is of a place below
  abbrev pub Ups : List X → Type 0
  Ups [] = ⊤
  Ups (a ∷ bs) =
      AllByRecursion (λ b. is_lt (place_cmp (item_place b) (item_place a)) ≡ false) bs × Ups bs

  abbrev below : X → X → Bool
  below a b = is_lt (place_cmp (item_place a) (item_place b))

  pub sorted_of : (xs : List X) → Ups xs → IsSortedByKey item_place place_cmp xs
  sorted_of [] up k d low high = absurd (let no : ⊥ = omega (arith, high) in no)
  sorted_of (x ∷ []) up k d low high = absurd (let no : ⊥ = omega (arith, high) in no)
  sorted_of (x ∷ y ∷ xs) up zero d low high = up.0.0
  sorted_of (x ∷ y ∷ xs) up (suc k) d low high =
      let e : suc k + 1 ≡ suc (k + 1) = omega arith in
      subst (λ j. is_lt (place_cmp (item_place (get_or (x ∷ y ∷ xs) j d))
      (item_place (get_or (y ∷ xs) k d))) ≡ false) (sym e)
      (sorted_of (y ∷ xs) up.1 k d (omega arith) (omega (arith, high)))

  rest_sorted : (a : X) (bs : List X) → IsSortedByKey item_place place_cmp (a ∷ bs) →
      IsSortedByKey item_place place_cmp bs
  rest_sorted a bs up = λ k d low high.
      let e : suc k + 1 ≡ suc (k + 1) = omega arith in
      let here = up (suc k) d (omega arith) (omega (arith, high)) in
      subst (λ j. below (get_or (a ∷ bs) j d) (get_or bs k d) ≡ false) e here

  ups_of : (bs : List X) → IsSortedByKey item_place place_cmp bs → Ups bs
  ups_of [] up = tt
  ups_of (a ∷ bs) up = (
    recursion_from_All (λ b. below b a ≡ false) bs
        (λ k d low. sorted_far below (ranks_by place_total item_place) (a ∷ bs) up 0 (suc k) d
        (omega arith) (omega (arith, low))),
    ups_of bs (rest_sorted a bs up),
  )

-- what is above isn't below
pub not_below : (k l : InstPlace) → place_cmp k l ≡ Less → is_lt (place_cmp l k) ≡ false
not_below k l low = ap is_lt (place_total.antisymm l k ∙ ap ordering_reverse low)

pub rising_is_sorted : {G : Type 0} (place : G → InstPlace) (gs : List G) → Rising place gs →
    IsSortedByKey place place_cmp gs
rising_is_sorted place gs r = sorted_of place gs (ups place gs r)
  where
    ups : {G : Type 0} (place : G → InstPlace) (gs : List G) → Rising place gs → Ups place gs
    ups place [] r = tt
    ups place (g ∷ gs) r = (
      all_map (λ h. place_cmp (place g) (place h) ≡ Less)
          (λ h. is_lt (place_cmp (place h) (place g)) ≡ false) gs
          (λ h low. not_below (place g) (place h) low) r.0,
      ups place gs r.1,
    )

module _ {G X : Type 0} (place : G → InstPlace) (item_place : X → InstPlace) (first : X → G)
    (join : X → G → G) (first_stays : (x : X) → place (first x) ≡ item_place x)
    (join_stays : (x : X) (g : G) → place (join x g) ≡ place g) where
  abbrev with_one : List G → X → List G
  with_one = with_item place item_place first join

  -- what holds of all places, and of the new one
  by_test : (P : InstPlace → Type 0) (g : G) (x : X) (here : Bool) → P (place g) →
      P (item_place x) →
      AllByRecursion (λ h. P (place h)) (cond here (join x g ∷ []) (g ∷ first x ∷ []))
  by_test P g x true p q = (subst P (sym (join_stays x g)) p, tt)
  by_test P g x false p q = (p, (subst P (sym (first_stays x)) q, tt))

  all_with : (P : InstPlace → Type 0) (gs : List G) (x : X) →
      AllByRecursion (λ g. P (place g)) gs → P (item_place x) →
      AllByRecursion (λ g. P (place g)) (with_one gs x)
  all_with P [] x all p = (subst P (sym (first_stays x)) p, tt)
  all_with P (g ∷ []) x all p = by_test P g x (is_at (place g) (item_place x)) all.0 p
  all_with P (g ∷ h ∷ gs) x all p = (all.0, all_with P (h ∷ gs) x all.1 p)

  -- the item isn't of a place below
  abbrev NotBelow : X → G → Type 0
  NotBelow x g = is_lt (place_cmp (item_place x) (place g)) ≡ false

  last_rises : (g : G) (x : X) (here : Bool) → is_at (place g) (item_place x) ≡ here →
      NotBelow x g → Rising place (cond here (join x g ∷ []) (g ∷ first x ∷ []))
  last_rises g x true e low = (tt, tt)
  last_rises g x false e low =
      let up : place_cmp (place g) (place (first x)) ≡ Less =
      subst (λ l. place_cmp (place g) l ≡ Less) (sym (first_stays x))
      (is_above (place g) (item_place x) low e) in
      ((up, tt), (tt, tt))

  rises_with : (gs : List G) (x : X) → Rising place gs → AllByRecursion (NotBelow x) gs →
      Rising place (with_one gs x)
  rises_with [] x r low = (tt, tt)
  rises_with (g ∷ []) x r low = last_rises g x (is_at (place g) (item_place x)) refl low.0
  rises_with (g ∷ h ∷ gs) x r low = (
    all_with (λ m. place_cmp (place g) m ≡ Less) (h ∷ gs) x r.0
        (stays_below (place g) (place h) (item_place x) r.0.0 low.1.0),
    rises_with (h ∷ gs) x r.1 low.1,
  )

  rises_fold : (gs : List G) (xs : List X) → Rising place gs →
      AllByRecursion (λ x. AllByRecursion (NotBelow x) gs) xs → Ups item_place xs →
      Rising place (fold with_one gs xs)
  rises_fold gs [] r low up = r
  rises_fold gs (x ∷ xs) r low up =
      rises_fold (with_one gs x) xs (rises_with gs x r low.0)
      (all_both (λ y. AllByRecursion (NotBelow y) gs) (λ y. below item_place y x ≡ false)
      (λ y. AllByRecursion (NotBelow y) (with_one gs x)) xs
      (λ y all new. all_with (λ m. is_lt (place_cmp (item_place y) m) ≡ false) gs x all new)
      low.1 up.0)
      up.1

  pub joined_rise : (xs : List X) → IsSortedByKey item_place place_cmp xs →
      Rising place (fold with_one [] xs)
  joined_rise xs up =
      rises_fold [] xs tt (all_of (λ x. ⊤) xs (λ x. tt)) (ups_of item_place xs up)

module _ {G : Type 0} (place : G → InstPlace) where
  -- those of a place
  abbrev pub those_at : InstPlace → List G → List G
  those_at k gs = filter (λ g. is_at k (place g)) gs

  pub none_at : (k : InstPlace) (gs : List G) → AllByRecursion (λ g. is_at k (place g) ≡ false) gs →
      those_at k gs ≡ []
  none_at k [] all = refl
  none_at k (g ∷ gs) all =
      ap (λ t. cond t (g ∷ those_at k gs) (those_at k gs)) all.0 ∙ none_at k gs all.1

  -- it is the only one of that place
  abbrev pub OneAt : InstPlace → List G → Type 0
  OneAt k gs = (g : G) × Contains gs g × (place g ≡ k) × (those_at k gs ≡ g ∷ [])

  first_only : (k : InstPlace) (g : G) (gs : List G) → Rising place (g ∷ gs) →
      is_at k (place g) ≡ true → those_at k (g ∷ gs) ≡ g ∷ []
  first_only k g gs r e =
      let same : place g ≡ k = same_place k (place g) e in
      let others = all_map (λ h. place_cmp (place g) (place h) ≡ Less)
      (λ h. is_at k (place h) ≡ false) gs
      (λ h low. not_at_above k (place h)
      (subst (λ m. place_cmp m (place h) ≡ Less) same low)) r.0 in
      ap (λ t. cond t (g ∷ those_at k gs) (those_at k gs)) e
      ∙ ap (λ hs. g ∷ hs) (none_at k gs others)

  later_there : (g : G) (gs : List G) (h : G) → Contains gs h → Contains (g ∷ gs) h
  later_there g gs h (n, low, e) = (suc n, omega (arith, low), e)

  by_here : (k : InstPlace) (g : G) (gs : List G) (here : Bool) → is_at k (place g) ≡ here →
      Rising place (g ∷ gs) → (those_at k gs ≡ []) ⊎ OneAt k gs →
      (those_at k (g ∷ gs) ≡ []) ⊎ OneAt k (g ∷ gs)
  by_here k g gs true e r rest =
      inr (g, (0, omega arith, refl), same_place k (place g) e, first_only k g gs r e)
  by_here k g gs false e r (inl none) =
      inl (ap (λ t. cond t (g ∷ those_at k gs) (those_at k gs)) e ∙ none)
  by_here k g gs false e r (inr (h, there, is, only)) =
      inr (
        h,
        later_there g gs h there,
        is,
        ap (λ t. cond t (g ∷ those_at k gs) (those_at k gs)) e ∙ only,
      )

  pub one_at : (k : InstPlace) (gs : List G) → Rising place gs →
      (those_at k gs ≡ []) ⊎ OneAt k gs
  one_at k [] r = inl refl
  one_at k (g ∷ gs) r = by_here k g gs (is_at k (place g)) refl r (one_at k gs r.1)

  -- each is the only one of its place
  below_others : (h g : G) (gs : List G) → place_cmp (place g) (place h) ≡ Less →
      those_at (place h) gs ≡ h ∷ [] → those_at (place h) (g ∷ gs) ≡ h ∷ []
  below_others h g gs low only =
      let hs = those_at (place h) gs in
      ap (λ r. cond (is_eq r) (g ∷ hs) hs) low ∙ only

  pub each_one : (gs : List G) → Rising place gs →
      AllByRecursion (λ g. those_at (place g) gs ≡ g ∷ []) gs
  each_one [] r = tt
  each_one (g ∷ gs) r = (
    first_only (place g) g gs r (at_itself (place g)),
    all_both (λ h. place_cmp (place g) (place h) ≡ Less)
        (λ h. those_at (place h) gs ≡ h ∷ []) (λ h. those_at (place h) (g ∷ gs) ≡ h ∷ [])
        gs (λ h low only. below_others h g gs low only) r.0 (each_one gs r.1),
  )
