-- Where a place parts the bindings that start in an instance, such a binding is enabled exactly
-- where it is with no token in that place or with one of its tokens alone.
use Rattle.std.proofs.Common.{◌≡◌, ℕ, ◌+◌, ◌-◌, ◌≤◌, ◌⊎◌, Bool, true, false, List, []}
use Rattle.std.proofs.Common.{◌∷◌, length, refl, sym, ap, ◌∙◌, subst, inl, inr, arith}
use Rattle.std.specs.Prelude.{◌↔◌, Option, Some, None, All, Contains, IsTrue, flat_map}
use Rattle.std.specs.Prelude.{is_none, nat_eq}
use Rattle.std.specs.List.{list_all}
use Rattle.std.proofs.lemmas.Bool.{eqb-true}
use Rattle.std.proofs.lemmas.List.Elements.{All-contains, All-from_recursion, recursion_from_All}
use Rattle.std.proofs.lemmas.List.Elements.{All-contains_itself}
use Rattle.std.proofs.lemmas.Option.{same_Some}
use Rattle.rn_items.proofs.Bools.{both_true}
use Rattle.rn_value.specs.declared.value.InstRef.{InstRef}
use Rattle.rn_value.specs.declared.value.InstRef.TheVariants.{Old, New}
use Rattle.rn_value.specs.declared.value.Value.{Value}
use Rattle.rn_model.specs.declared.system.System.{System}
use Rattle.rn_model.specs.declared.binding.Node.{Node}
use Rattle.rn_model.specs.declared.binding.Binding.{Binding}
use Rattle.rn_model.specs.Lists.{IsWithin, same_value, count_of, without_each}
use Rattle.rn_model.specs.Systems.{net_at, capacity}
use Rattle.rn_model.specs.Demands.{taken_at, tested_at, cleared_at, rest_at, filled_at}
use Rattle.rn_model.specs.Markings.{Marking, net_of, tokens, tokens_at}
use Rattle.rn_model.specs.Enabling.{Enabled, Fits, PlaceFits, HasRoom}
use Rattle.rn_model.proofs.EachElement.{each_weaker}
use Rattle.rn_model.proofs.EnablingLemmas.{idle, not_in_nil, the_one}
use Rattle.rn_model.proofs.ValueLists.{one_if, count_of-cons, same_is}
use Rattle.rn_model.proofs.AskedValues.{counted, is_counted, from_rest}
use Rattle.rn_reach.specs.Reach.{StartsIn}
use Rattle.rn_table.specs.Alone.{alone}
use Rattle.rn_parted.specs.Parting.{askers_at, ask_at_most_one, parts}
use Rattle.rn_parted.specs.Laws.{BindingsAreParted}
use Rattle.rn_parted.proofs.AloneLemmas.{same_elsewhere, same_net, same_places, own_tokens}
use Rattle.rn_parted.proofs.AloneLemmas.{no_tokens, held_by, other_number}
use Rattle.rn_parted.proofs.Demanded.{Asks, AsksFor, asks_one_at_most}

-- a token that is there is enough where it alone is asked for
one_within : (v : Value) (ts : List Value) → Contains ts v → IsWithin (v ∷ []) ts
one_within v ts has w = by (same_value w v) refl
  where
    by : (same : Bool) → same_value w v ≡ same → count_of w (v ∷ []) ≤ count_of w ts
    by true e =
        let is : w ≡ v = same_is w v e in
        let some = is_counted w ts (subst (Contains ts) (sym is) has) in
        let one : one_if (same_value w v) ≡ 1 = ap one_if e in
        let whole : count_of w (v ∷ []) ≡ one_if (same_value w v) + 0 = count_of-cons w v [] in
        omega (arith, some, one, whole)
    by false e =
        let none : one_if (same_value w v) ≡ 0 = ap one_if e in
        let whole : count_of w (v ∷ []) ≡ one_if (same_value w v) + 0 = count_of-cons w v [] in
        omega (arith, none, whole)

-- and it is there where it is enough
within_one : (v : Value) (ts : List Value) → IsWithin (v ∷ []) ts → Contains ts v
within_one v ts enough =
    let within : count_of v (v ∷ []) ≤ count_of v ts = enough v in
    let some = is_counted v (v ∷ []) (0, omega arith, refl) in
    counted v ts (omega (arith, within, some))

module _ (system : System) (b : Binding) (n place : ℕ) (m : Marking) where
  abbrev here : List Value
  here = tokens_at m n place

  abbrev FitsHere : Type 0
  FitsHere = PlaceFits system m b (Old n) place

  fits_with_none : Asks system b n place [] [] → FitsHere
  fits_with_none asks =
      idle system m b (Old n) place asks.taken asks.tested asks.inhibited asks.cleared

  -- where the token that is asked for is there, the place fits
  fits_with : (v : Value) → Contains here v → AsksFor system b n place v → FitsHere
  fits_with v has (inl asks) = record {
    enough = subst (λ vs. IsWithin vs here) (sym asks.taken) (one_within v here has);
    left = λ w tested. absurd (not_in_nil w (subst (λ vs. Contains vs w) asks.tested tested));
    absent = λ w there. absurd (not_in_nil w (subst (λ vs. Contains vs w) asks.inhibited there));
    whole = inl asks.cleared;
  }
  fits_with v has (inr asks) = record {
    enough = subst (λ vs. IsWithin vs here) (sym asks.taken) (λ w. omega arith);
    left = λ w tested.
        let is : v ≡ w = the_one v w (subst (λ vs. Contains vs w) asks.tested tested) in
        let rest : rest_at system b (Old n) place here ≡ here =
        ap (λ vs. without_each (without_each here vs)
        (flat_map (λ vs. vs) (cleared_at system b (Old n) place))) asks.taken
        ∙ ap (λ cs. without_each here (flat_map (λ vs. vs) cs)) asks.cleared in
        subst (λ vs. Contains vs w) (sym rest) (subst (Contains here) is has);
    absent = λ w there. absurd (not_in_nil w (subst (λ vs. Contains vs w) asks.inhibited there));
    whole = inl asks.cleared;
  }

  -- and where the place fits, it is there
  needed : (v : Value) → FitsHere → AsksFor system b n place v → Contains here v
  needed v fits (inl asks) =
      within_one v here (subst (λ vs. IsWithin vs here) asks.taken fits.enough)
  needed v fits (inr asks) =
      let tested : Contains (tested_at system b (Old n) place) v =
      subst (λ vs. Contains vs v) (sym asks.tested) (0, omega arith, refl) in
      let rest : Contains (rest_at system b (Old n) place here) v = fits.left v tested in
      from_rest v here (taken_at system b (Old n) place)
      (from_rest v (without_each here (taken_at system b (Old n) place))
      (flat_map (λ vs. vs) (cleared_at system b (Old n) place)) rest)

-- what holds of each that these contain holds of all of them
all_from : {X : Type 0} (P : X → Type 0) (xs : List X) → ((x : X) → Contains xs x → P x) → All P xs
all_from P xs each =
    All-from_recursion P xs
    (each_weaker (Contains xs) P each xs
    (recursion_from_All (Contains xs) xs (All-contains_itself xs)))

-- the tokens after the firing, by those before it
abbrev HoldsAfter : System → Binding → ℕ → ℕ → ℕ → List Value → Type 0
HoldsAfter system b n place most vs =
    (length vs - (length (taken_at system b (Old n) place)
    + length (flat_map (λ vs. vs) (cleared_at system b (Old n) place))))
    + filled_at system b (Old n) place ≤ most

with_same : (system : System) (m other : Marking) (b : Binding) (inst : InstRef) (place : ℕ) →
    tokens m inst place ≡ tokens other inst place → PlaceFits system m b inst place →
    PlaceFits system other b inst place
with_same system m other b inst place same f = record {
  enough = subst (IsWithin (taken_at system b inst place)) same f.enough;
  left = λ v h. subst (λ vs. Contains (rest_at system b inst place vs) v) same (f.left v h);
  absent = λ v h there. f.absent v h (subst (λ vs. Contains vs v) (sym same) there);
  whole = subst
      (λ vs. (cleared_at system b inst place ≡ [])
      ⊎ ((cleared_at system b inst place ≡ vs ∷ []) × (taken_at system b inst place ≡ []))) same
      f.whole;
}

-- Two markings that differ at most in the tokens of one place of an instance.
record DifferThere (n place : ℕ) (m other : Marking) : Type 0 where
  nets : (k : ℕ) → net_of other k ≡ net_of m k
  elsewhere : (k q : ℕ) → ((k ≡ n) → (q ≡ place) → ⊥) →
      tokens_at other k q ≡ tokens_at m k q

-- whether these are the place of the instance
at_or_not : (n place k q : ℕ) → ((k ≡ n) × (q ≡ place)) ⊎ ((k ≡ n) → (q ≡ place) → ⊥)
at_or_not n place k q = by (nat_eq k n) (nat_eq q place) refl refl
  where
    by : (same also : Bool) → nat_eq k n ≡ same → nat_eq q place ≡ also →
        ((k ≡ n) × (q ≡ place)) ⊎ ((k ≡ n) → (q ≡ place) → ⊥)
    by true true e f = inl (eqb-true k n e, eqb-true q place f)
    by true false e f = inr (λ first second. other_number q place f second)
    by false also e f = inr (λ first second. other_number k n e first)

module _ (system : System) (b : Binding) (n net place : ℕ) (m other : Marking)
    (differ : DifferThere n place m other) (fits : Fits system m b)
    (there : net_of m n ≡ Some net) (free : capacity system net place ≡ None)
    (here : PlaceFits system other b (Old n) place) where
  old_fits : (k q : ℕ) → ((k ≡ n) × (q ≡ place)) ⊎ ((k ≡ n) → (q ≡ place) → ⊥) →
      PlaceFits system other b (Old k) q
  old_fits k q (inl (is, at)) =
      subst (λ x. PlaceFits system other b (Old x) q) (sym is)
      (subst (λ p. PlaceFits system other b (Old n) p) (sym at) here)
  old_fits k q (inr not_there) =
      with_same system m other b (Old k) q (sym (differ.elsewhere k q not_there))
      (fits.places (Old k) q)

  all_fit : (inst : InstRef) (q : ℕ) → PlaceFits system other b inst q
  all_fit (Old k) q = old_fits k q (at_or_not n place k q)
  all_fit (New path j) q =
      with_same system m other b (New path j) q refl (fits.places (New path j) q)

  still_there : (node : Node) → Contains b.nodes node → (k : ℕ) → node.inst ≡ Old k →
      net_of other k ≡ Some node.net
  still_there node contained k is =
      differ.nets k
      ∙ All-contains (λ node. (k : ℕ) → node.inst ≡ Old k → net_of m k ≡ Some node.net) b.nodes node
      fits.there contained k is

  room_by : (node : Node) → Contains b.nodes node → (k q most : ℕ) → node.inst ≡ Old k →
      capacity system node.net q ≡ Some most →
      ((k ≡ n) × (q ≡ place)) ⊎ ((k ≡ n) → (q ≡ place) → ⊥) →
      HoldsAfter system b k q most (tokens_at other k q)
  room_by node contained k q most is has (inl (same, at)) =
      let own : Some node.net ≡ Some net =
      sym (still_there node contained k is) ∙ differ.nets k ∙ ap (net_of m) same ∙ there in
      let capacity_here : capacity system net place ≡ Some most =
      subst (λ x. capacity system x place ≡ Some most) (same_Some node.net net own)
      (subst (λ p. capacity system node.net p ≡ Some most) at has) in
      absurd (let no : ⊥ = cc in no)
  room_by node contained k q most is has (inr not_there) =
      subst (HoldsAfter system b k q most) (sym (differ.elsewhere k q not_there))
      (All-contains (HasRoom system m b) b.nodes node fits.room contained k q most is has)

  still_fits : Fits system other b
  still_fits = record {
    there = all_from (λ node. (k : ℕ) → node.inst ≡ Old k → net_of other k ≡ Some node.net) b.nodes
        still_there;
    places = all_fit;
    room = all_from (HasRoom system other b) b.nodes
        (λ node contained k q most is has.
        room_by node contained k q most is has (at_or_not n place k q));
    made = fits.made;
  }

module _ (system : System) (m : Marking) (b : Binding) (depth n net place : ℕ)
    (there : net_of m n ≡ Some net) (parted : IsTrue (parts system net place))
    (start : StartsIn b n) where
  free_by : (o : Option ℕ) → is_none o ≡ true → o ≡ None
  free_by None e = refl
  free_by (Some most) e = absurd (let no : ⊥ = cc in no)

  free : capacity system net place ≡ None
  free = free_by (capacity system net place)
      (both_true (is_none (capacity system net place))
      (list_all (λ t. ask_at_most_one t (askers_at t place)) (net_at system net).transitions)
      parted).0

  alone_differs : (vs : List Value) → DifferThere n place m (alone n place vs m)
  alone_differs vs = record {
    nets = same_net n place vs m;
    elsewhere = λ k q not_there. elsewhere_by vs k q (nat_eq k n) not_there refl;
  }
    where
      elsewhere_by : (vs : List Value) (k q : ℕ) (same : Bool) →
          ((k ≡ n) → (q ≡ place) → ⊥) → nat_eq k n ≡ same →
          tokens_at (alone n place vs m) k q ≡ tokens_at m k q
      elsewhere_by vs k q true not_there e =
          same_places n place vs m k q (not_there (eqb-true k n e))
      elsewhere_by vs k q false not_there e =
          ap (λ o. held_by o q) (same_elsewhere n place vs m k (other_number k n e))

  back : (vs : List Value) → DifferThere n place (alone n place vs m) m
  back vs = record {
    nets = λ k. sym ((alone_differs vs).nets k);
    elsewhere = λ k q not_there. sym ((alone_differs vs).elsewhere k q not_there);
  }

  abbrev With : List Value → Type 0
  With vs = Enabled system (alone n place vs m) b depth

  abbrev Parted : Type 0
  Parted = With [] ⊎ ((v : Value) × Contains (tokens_at m n place) v × With (v ∷ []))

  module _ (at : Marking) (same : net_of at n ≡ Some net) (e : Enabled system at b depth) where
    own_net : (node : Node) → Contains b.nodes node → node.inst ≡ Old n → node.net ≡ net
    own_net node contained is =
        same_Some node.net net
        (sym (All-contains (λ node. (k : ℕ) → node.inst ≡ Old k → net_of at k ≡ Some node.net)
        b.nodes node e.fits.there contained n is) ∙ same)

    asked_for : Asks system b n place [] [] ⊎ ((v : Value) × AsksFor system b n place v)
    asked_for = asks_one_at_most system b depth n net place e.shape own_net parted start

    moved : (other : Marking) → DifferThere n place at other →
        PlaceFits system other b (Old n) place → Enabled system other b depth
    moved other differ here = record {
      shape = e.shape;
      agrees = e.agrees;
      derived = e.derived;
      fits = still_fits system b n net place at other differ e.fits same free here;
    }

  alone_there : (vs : List Value) → net_of (alone n place vs m) n ≡ Some net
  alone_there vs = same_net n place vs m n ∙ there

  parted_by : Enabled system m b depth →
      Asks system b n place [] [] ⊎ ((v : Value) × AsksFor system b n place v) → Parted
  parted_by e (inl asks) =
      inl (moved m there e (alone n place [] m) (alone_differs [])
      (fits_with_none system b n place (alone n place [] m) asks))
  parted_by e (inr (v, asks)) =
      let has = needed system b n place m v (e.fits.places (Old n) place) asks in
      let alone_has : Contains (tokens_at (alone n place (v ∷ []) m) n place) v =
      subst (λ vs. Contains vs v) (sym (own_tokens n place (v ∷ []) m v has))
      (0, omega arith, refl) in
      inr (
        v,
        has,
        moved m there e (alone n place (v ∷ []) m) (alone_differs (v ∷ []))
            (fits_with system b n place (alone n place (v ∷ []) m) v alone_has asks),
      )

  from_none : With [] →
      Asks system b n place [] [] ⊎ ((v : Value) × AsksFor system b n place v) →
      Enabled system m b depth
  from_none e (inl asks) =
      moved (alone n place [] m) (alone_there []) e m (back [])
      (fits_with_none system b n place m asks)
  from_none e (inr (v, asks)) =
      let has = needed system b n place (alone n place [] m) v (e.fits.places (Old n) place) asks in
      absurd (not_in_nil v (subst (λ vs. Contains vs v) (no_tokens n place m) has))

  from_one : (v : Value) → Contains (tokens_at m n place) v → With (v ∷ []) →
      Asks system b n place [] [] ⊎ ((w : Value) × AsksFor system b n place w) →
      Enabled system m b depth
  from_one v there_too e (inl asks) =
      moved (alone n place (v ∷ []) m) (alone_there (v ∷ [])) e m (back (v ∷ []))
      (fits_with_none system b n place m asks)
  from_one v there_too e (inr (w, asks)) =
      let has =
      needed system b n place (alone n place (v ∷ []) m) w (e.fits.places (Old n) place) asks in
      let is : v ≡ w =
      the_one v w
      (subst (λ vs. Contains vs w) (own_tokens n place (v ∷ []) m v there_too) has) in
      moved (alone n place (v ∷ []) m) (alone_there (v ∷ [])) e m (back (v ∷ []))
      (fits_with system b n place m w (subst (Contains (tokens_at m n place)) is there_too) asks)

  from_parted : Parted → Enabled system m b depth
  from_parted (inl e) =
      from_none e (asked_for (alone n place [] m) (alone_there []) e)
  from_parted (inr (v, has, e)) =
      from_one v has e (asked_for (alone n place (v ∷ []) m) (alone_there (v ∷ [])) e)

  parted_as : Enabled system m b depth ↔ Parted
  parted_as = (λ e. parted_by e (asked_for m there e), from_parted)

pub bindings_are_parted : BindingsAreParted
bindings_are_parted system m b depth n net place there parted start =
    parted_as system m b depth n net place there parted start
