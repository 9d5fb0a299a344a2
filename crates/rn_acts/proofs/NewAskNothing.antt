-- New instances are asked for nothing: their places are empty before the firing.
use Rattle.std.proofs.Common.{◌≡◌, ℕ, List, [], ◌∷◌, map, refl, sym, ap, ◌∙◌, subst}
use Rattle.std.proofs.Common.{inl, inr, arith}
use Rattle.std.specs.Prelude.{Option, Some, None, Contains, option_map, unwrap_or, flat_map}
use Rattle.rn_value.proofs.Variants.{same_old}
use Rattle.rn_value.specs.declared.value.InstRef.{InstRef}
use Rattle.rn_value.specs.declared.value.InstRef.TheVariants.{Old, New}
use Rattle.rn_value.specs.declared.value.Value.{Value}
use Rattle.rn_value.specs.declared.value.Value.TheVariants as Value
use Rattle.rn_model.specs.declared.system.System.{System}
use Rattle.rn_model.specs.declared.system.ArcKind.{ArcKind}
use Rattle.rn_model.specs.declared.system.ArcKind.TheVariants.{Input, Output, Test, Reserve}
use Rattle.rn_model.specs.declared.system.ArcKind.TheVariants.{FlexInput, FlexOutput, Inhibit}
use Rattle.rn_model.specs.declared.system.ArcKind.TheVariants.{Clear}
use Rattle.rn_model.specs.declared.binding.Node.{Node}
use Rattle.rn_model.specs.declared.binding.Binding.{Binding}
use Rattle.rn_model.specs.Lists.{count_of}
use Rattle.rn_model.specs.Demands.{readings, elements, takes, clears, asked_at, taken_at, cleared_at}
use Rattle.rn_model.specs.Evaluation.{list_of}
use Rattle.rn_model.specs.Markings.{Marking, IsThere, net_of, tokens}
use Rattle.rn_model.specs.Enabling.{Fits, PlaceFits}
use Rattle.rn_model.specs.Firing.{creations_of, named, numbered_inst, renamed_value}
use Rattle.rn_model.proofs.AskedValues.{from_ordered, in_ordered, is_counted, flat_source}
use Rattle.rn_model.proofs.DeadInstances.{there_of_net}
use Rattle.rn_model.proofs.EnablingLemmas.{not_in_nil, the_one}
use Rattle.rn_model.proofs.ReplacedValues.{replaced, IsPlain, list_of-replaced, renamed_is_replaced}
use Rattle.std.proofs.lemmas.List.Elements.{All-contains}
use Rattle.rn_acts.proofs.AskedFrom.{asked_before}

module _ (name : InstRef → InstRef) where
  abbrev put : InstRef → Value
  put i = Value.Inst (name i)

  plain : IsPlain put
  plain = record {
    ints = λ i. rw (Value.outs-Inst (name i));
    lists = λ i. rw (Value.outs-Inst (name i));
  }

  mapped : (o : Option (List Value)) →
      unwrap_or (option_map (map (replaced put)) o) [] ≡ map (replaced put) (unwrap_or o [])
  mapped None = refl
  mapped (Some vs) = refl

  elements_renamed : (v : Value) →
      elements (renamed_value v name) ≡ map (replaced put) (elements v)
  elements_renamed v =
      ap elements (renamed_is_replaced name v)
      ∙ ap (λ o. unwrap_or o []) (list_of-replaced put plain v) ∙ mapped (list_of v)

  one_renamed : (v : Value) → renamed_value v name ∷ [] ≡ map (replaced put) (v ∷ [])
  one_renamed v = ap (λ w. w ∷ []) (renamed_is_replaced name v)

  takes_renamed : (kind : ArcKind) (v : Value) →
      takes kind (renamed_value v name) ≡ map (replaced put) (takes kind v)
  takes_renamed Input v = one_renamed v
  takes_renamed Reserve v = one_renamed v
  takes_renamed FlexInput v = elements_renamed v
  takes_renamed Output v = refl
  takes_renamed Test v = refl
  takes_renamed FlexOutput v = refl
  takes_renamed Inhibit v = refl
  takes_renamed Clear v = refl

  clears_renamed : (kind : ArcKind) (v : Value) →
      clears kind (renamed_value v name) ≡ map (map (replaced put)) (clears kind v)
  clears_renamed Clear v = ap (λ vs. vs ∷ []) (elements_renamed v)
  clears_renamed Input v = refl
  clears_renamed Reserve v = refl
  clears_renamed FlexInput v = refl
  clears_renamed Output v = refl
  clears_renamed Test v = refl
  clears_renamed FlexOutput v = refl
  clears_renamed Inhibit v = refl

-- what has no element is empty
pub empty_of_none : {X : Type 0} (xs : List X) → ((x : X) → ¬ Contains xs x) → xs ≡ []
empty_of_none [] none = refl
empty_of_none (x ∷ xs) none = absurd (none x (0, omega arith, refl))

module _ (system : System) (m : Marking) (b : Binding) (next n place : ℕ) (fits : Fits system m b)
    (apart : ¬ IsThere m n) where
  abbrev name : InstRef → InstRef
  name = numbered_inst (creations_of system b) next

  abbrev nb : Binding
  nb = named system b next

  -- a node that stands on it under numbers stands on a new instance
  on_new : (node : Node) (i : InstRef) → Contains b.nodes node → node.inst ≡ i →
      name i ≡ Old n → (path : List ℕ) × (j : ℕ) × (node.inst ≡ New path j)
  on_new node (Old k) there is e =
      let number : k ≡ n = same_old k n e in
      let net = All-contains (λ node. (n : ℕ) → node.inst ≡ Old n → net_of m n ≡ Some node.net) b.nodes node fits.there there n (is ∙ ap (λ k. Old k) number) in
      let found = there_of_net m n node.net net in
      absurd (apart (found.0, found.1))
  on_new node (New path j) there is e = (path, j, is)

  empty_fits : (node : Node) → Contains b.nodes node → name node.inst ≡ Old n →
      (inst : InstRef) × (node.inst ≡ inst) × (tokens m inst place ≡ [])
  empty_fits node there e =
      let new = on_new node node.inst there refl e in
      (New new.0 new.1, new.2, refl)

  -- nothing is taken from a place of an instance that isn't there
  pub nothing_taken : taken_at system nb (Old n) place ≡ []
  nothing_taken = empty_of_none (taken_at system nb (Old n) place) (λ v has.
      let asked = from_ordered v (asked_at takes system (readings system nb) (Old n) place) has in
      let before = asked_before system b next takes (replaced (put name)) (takes_renamed name) n place v asked in
      let new = empty_fits before.node before.there before.stands in
      let fit : PlaceFits system m b before.node.inst place = fits.places before.node.inst place in
      let some = is_counted before.asked (taken_at system b before.node.inst place) (in_ordered before.asked (asked_at takes system (readings system b) before.node.inst place) before.at) in
      let enough = fit.enough before.asked in
      let none : count_of before.asked (tokens m before.node.inst place) ≡ 0 = ap (λ i. count_of before.asked (tokens m i place)) new.1 ∙ ap (count_of before.asked) new.2 in
      omega (arith, some, enough, none))

  -- and nothing is cleared there
  pub nothing_cleared : flat_map (λ vs. vs) (cleared_at system nb (Old n) place) ≡ []
  nothing_cleared = empty_of_none (flat_map (λ vs. vs) (cleared_at system nb (Old n) place)) (λ v has.
      let list = flat_source (λ vs. vs) (cleared_at system nb (Old n) place) v has in
      let before = asked_before system b next clears (map (replaced (put name))) (clears_renamed name) n place list.0 list.1 in
      let new = empty_fits before.node before.there before.stands in
      let fit : PlaceFits system m b before.node.inst place = fits.places before.node.inst place in
      let held : tokens m before.node.inst place ≡ [] = ap (λ i. tokens m i place) new.1 ∙ new.2 in
      let empty : before.asked ≡ [] = (elim fit.whole as (λ _. before.asked ≡ []) [
        | inl none ↦ absurd (not_in_nil before.asked (subst (λ xs. Contains xs before.asked) none before.at))
        | inr one ↦ sym (the_one (tokens m before.node.inst place) before.asked (subst (λ xs. Contains xs before.asked) one.0 before.at)) ∙ held
      ]) in
      not_in_nil v (subst (λ xs. Contains xs v) (sym before.is ∙ ap (map (replaced (put name))) empty) list.2))
