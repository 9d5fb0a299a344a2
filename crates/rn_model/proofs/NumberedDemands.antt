-- What a binding asks of instances that are there, once its new instances have their numbers.
use Rattle.std.proofs.Common.{◌≡◌, ℕ, ◌+◌, ◌-◌, ◌<◌, ◌≤◌, Bool, true, false, List, [], ◌∷◌}
use Rattle.std.proofs.Common.{◌++◌, map, refl, sym, ap, ◌∙◌, inl, inr, arith}
use Rattle.std.specs.Prelude.{Option, Some, None, Contains, option_map, unwrap_or, flat_map, nat_eq}
use Rattle.std.specs.Prelude.{zip, position, if◌then◌else◌, ◌&&◌}
use Rattle.std.specs.List.{AllByRecursion}
use Rattle.std.specs.Ordering.{is_eq}
use Rattle.std.specs.Option.{option_map_or}
use Rattle.std.specs.Cmp.{Equal-is}
use Rattle.std.specs.Cmp.Lexicographic.{pointwise}
use Rattle.std.proofs.lemmas.List.{map-append, append-nil}
use Rattle.rn_value.specs.Order.{inst_cmp}
use Rattle.rn_value.specs.declared.value.InstRef.{InstRef}
use Rattle.rn_value.specs.declared.value.InstRef.TheVariants.{Old, New}
use Rattle.rn_value.specs.declared.value.Value.{Value}
use Rattle.rn_value.specs.declared.value.Value.TheVariants as Value
use Rattle.rn_model.specs.declared.system.System.{System}
use Rattle.rn_model.specs.declared.system.ArcKind.{ArcKind}
use Rattle.rn_model.specs.declared.system.ArcKind.TheVariants.{Input, Output, Test, Reserve}
use Rattle.rn_model.specs.declared.system.ArcKind.TheVariants.{FlexInput, FlexOutput, Inhibit}
use Rattle.rn_model.specs.declared.system.ArcKind.TheVariants.{Clear}
use Rattle.rn_model.specs.declared.system.NetArc.{NetArc}
use Rattle.rn_model.specs.declared.binding.Node.{Node}
use Rattle.rn_model.specs.declared.binding.Binding.{Binding}
use Rattle.rn_model.specs.Lists.{count_of, ordered_values}
use Rattle.rn_model.specs.Systems.{transition_of}
use Rattle.rn_model.specs.Evaluation.{worth, list_of}
use Rattle.rn_model.specs.Bindings.{env_of}
use Rattle.rn_model.specs.Demands.{Reading, readings, elements, takes, clears, asked_by_arc}
use Rattle.rn_model.specs.Demands.{asked_by_node, asked_at, taken_at, cleared_at}
use Rattle.rn_model.specs.Markings.{Marking, IsMarking, IsThere, tokens_at}
use Rattle.rn_model.specs.SoundTokens.{HasSoundTokens, holds_new}
use Rattle.rn_model.specs.Enabling.{Enabled, PlaceFits}
use Rattle.rn_model.specs.Firing.{Made, renamed_node, renamed_value, numbered_inst, named}
use Rattle.rn_model.specs.Firing.{creations_of}
use Rattle.rn_model.specs.FiringLaws.{NumberingKeepsDemands, FiringsMoveTokens, put_by}
use Rattle.rn_value.specs.link.OrderLaws.{insts_apart}
use Rattle.rn_model.proofs.AskedValues.{counted, is_counted, in_ordered}
use Rattle.rn_model.proofs.CountsAfterFiring.{old_tokens_after_firing}
use Rattle.rn_model.proofs.DeadInstances.{below_next, there_of_net}
use Rattle.rn_model.proofs.ReplacedReadings.{IsReplaced, worth-replaced}
use Rattle.rn_model.proofs.ReplacedValues.{replaced, IsPlain, list_of-replaced}
use Rattle.rn_model.proofs.ReplacedValues.{renamed_is_replaced}
use Rattle.rn_model.proofs.StillValues.{replaced_is_still}
use Rattle.rn_model.proofs.ReadConditions.{each_in}

module _ (made : List Made) (next : ℕ) where
  -- an instance under the numbers of the new ones
  abbrev name : InstRef → InstRef
  name = numbered_inst made next

  abbrev put : InstRef → Value
  put i = Value.Inst (name i)

  abbrev rep : Value → Value
  rep = replaced put

  plain : IsPlain put
  plain = record {
    ints = λ i. rw (Value.outs-Inst (name i));
    lists = λ i. rw (Value.outs-Inst (name i));
  }

  -- a value that holds no new instance stays as it is
  old_is_still : (v : Value) → holds_new v ≡ false → rep v ≡ v
  old_is_still = replaced_is_still name (λ n. refl)

  -- what a node is read under, once it is renamed
  pairs_named : (xs : List ℕ) (vs : List Value) →
      zip xs (map (λ v. renamed_value v name) vs) ≡ map (λ p. (p.0, rep p.1)) (zip xs vs)
  pairs_named [] vs = refl
  pairs_named (x ∷ xs) [] = refl
  pairs_named (x ∷ xs) (v ∷ vs) =
      let pair : Value → ℕ × Value = λ w. (x, w) in
      ap (λ w. pair w ∷ zip xs (map (λ v. renamed_value v name) vs)) (renamed_is_replaced name v)
      ∙ ap (λ ps. pair (rep v) ∷ ps) (pairs_named xs vs)

  env_named : (system : System) (node : Node) →
      IsReplaced put plain (env_of system node) (env_of system (renamed_node name node))
  env_named system node = record {
    this = refl;
    step = refl;
    pairs = pairs_named (transition_of system node).vars node.values;
  }

  module _ (n : ℕ) (low : n < next) where
    not_number : (k : ℕ) (same : Bool) → is_eq (inst_cmp (Old (next + k)) (Old n)) ≡ same →
        same ≡ false
    not_number k false e = refl
    not_number k true e =
        let is : Old (next + k) ≡ Old n =
        insts_apart (Old (next + k)) (Old n)
        ((Equal-is (inst_cmp (Old (next + k)) (Old n))).0 e) in
        let number : next + k ≡ n = cc in
        absurd (let no : ⊥ = omega (arith, number, low) in no)

    by_position : (path : List ℕ) (j : ℕ) (o : Option ℕ) →
        is_eq (inst_cmp (option_map_or (λ k. Old (next + k)) o (New path j)) (Old n)) ≡ false
    by_position path j None = refl
    by_position path j (Some k) = not_number k (is_eq (inst_cmp (Old (next + k)) (Old n))) refl

    -- a node stands on the instance exactly where it does once it is renamed
    stands : (i : InstRef) → is_eq (inst_cmp (name i) (Old n)) ≡ is_eq (inst_cmp i (Old n))
    stands (Old k) = refl
    stands (New path j) =
        by_position path j
        (position (λ m. pointwise nat_eq m.path path && nat_eq m.index j) made)

    module _ {A : Type 0} (pick : ArcKind → Value → List A) (new : A → A)
        (commutes : (kind : ArcKind) (v : Value) → pick kind (rep v) ≡ map new (pick kind v))
        (system : System) (place : ℕ) where
      picked : (kind : ArcKind) (o : Option Value) →
          option_map_or (pick kind) (option_map rep o) [] ≡ map new (option_map_or (pick kind) o [])
      picked kind None = refl
      picked kind (Some v) = commutes kind v

      if_here : (here : Bool) (kind : ArcKind) (o : Option Value) →
          (if here then option_map_or (pick kind) (option_map rep o) [] else [])
          ≡ map new (if here then option_map_or (pick kind) o [] else [])
      if_here true kind o = picked kind o
      if_here false kind o = refl

      arc_named : (node : Node) (arc : NetArc) →
          asked_by_arc pick (env_of system (renamed_node name node)) place arc
          ≡ map new (asked_by_arc pick (env_of system node) place arc)
      arc_named node arc =
          let here = nat_eq arc.place place in
          ap (λ o. if here then option_map_or (pick arc.kind) o [] else [])
          (worth-replaced put plain arc.inscription (env_of system node)
          (env_of system (renamed_node name node)) (env_named system node))
          ∙ if_here here arc.kind (worth arc.inscription (env_of system node))

      arcs_named : (node : Node) (arcs : List NetArc) →
          flat_map (asked_by_arc pick (env_of system (renamed_node name node)) place) arcs
          ≡ map new (flat_map (asked_by_arc pick (env_of system node) place) arcs)
      arcs_named node [] = refl
      arcs_named node (arc ∷ arcs) =
          let asked = asked_by_arc pick (env_of system node) place in
          let renamed = asked_by_arc pick (env_of system (renamed_node name node)) place in
          ap (λ xs. xs ++ flat_map renamed arcs) (arc_named node arc)
          ∙ ap (λ xs. map new (asked arc) ++ xs) (arcs_named node arcs)
          ∙ sym (map-append new (asked arc) (flat_map asked arcs))

      abbrev reading : Node → Reading
      reading node = record { node = node; env = env_of system node }

      abbrev asked_by : Node → List A
      asked_by node = asked_by_node pick system (Old n) place (reading node)

      if_stands : (here : Bool) (xs : List A) →
          (if here then map new xs else []) ≡ map new (if here then xs else [])
      if_stands true xs = refl
      if_stands false xs = refl

      node_named : (node : Node) → asked_by (renamed_node name node) ≡ map new (asked_by node)
      node_named node =
          let arcs = (transition_of system node).arcs in
          let renamed =
          flat_map (asked_by_arc pick (env_of system (renamed_node name node)) place) arcs in
          ap (λ here. if here then renamed else []) (stands node.inst)
          ∙ ap (λ xs. if is_eq (inst_cmp node.inst (Old n)) then xs else []) (arcs_named node arcs)
          ∙ if_stands (is_eq (inst_cmp node.inst (Old n)))
          (flat_map (asked_by_arc pick (env_of system node) place) arcs)

      nodes_named : (nodes : List Node) →
          flat_map (asked_by_node pick system (Old n) place)
          (map reading (map (renamed_node name) nodes))
          ≡ map new (flat_map (asked_by_node pick system (Old n) place) (map reading nodes))
      nodes_named [] = refl
      nodes_named (node ∷ nodes) =
          let asked = asked_by_node pick system (Old n) place in
          let later = flat_map asked (map reading (map (renamed_node name) nodes)) in
          ap (λ xs. xs ++ later) (node_named node)
          ∙ ap (λ xs. map new (asked_by node) ++ xs) (nodes_named nodes)
          ∙ sym (map-append new (asked_by node) (flat_map asked (map reading nodes)))

  elements_named : (v : Value) → elements (rep v) ≡ map rep (elements v)
  elements_named v =
      ap (λ o. unwrap_or o []) (list_of-replaced put plain v) ∙ mapped (list_of v)
    where
      mapped : (o : Option (List Value)) →
          unwrap_or (option_map (map rep) o) [] ≡ map rep (unwrap_or o [])
      mapped None = refl
      mapped (Some vs) = refl

  takes_named : (kind : ArcKind) (v : Value) → takes kind (rep v) ≡ map rep (takes kind v)
  takes_named Input v = refl
  takes_named Reserve v = refl
  takes_named FlexInput v = elements_named v
  takes_named Output v = refl
  takes_named Test v = refl
  takes_named FlexOutput v = refl
  takes_named Inhibit v = refl
  takes_named Clear v = refl

  clears_named : (kind : ArcKind) (v : Value) →
      clears kind (rep v) ≡ map (map rep) (clears kind v)
  clears_named Clear v = ap (λ vs. vs ∷ []) (elements_named v)
  clears_named Input v = refl
  clears_named Reserve v = refl
  clears_named FlexInput v = refl
  clears_named Output v = refl
  clears_named Test v = refl
  clears_named FlexOutput v = refl
  clears_named Inhibit v = refl

  all_still : (vs : List Value) → ((v : Value) → Contains vs v → holds_new v ≡ false) →
      map rep vs ≡ vs
  all_still vs old = kept vs (each_in (λ v. rep v ≡ v) vs (λ v there. old_is_still v (old v there)))
    where
      kept : (vs : List Value) → AllByRecursion (λ v. rep v ≡ v) vs →
          map rep vs ≡ vs
      kept [] all = refl
      kept (v ∷ vs) all =
          ap (λ w. w ∷ map rep vs) all.0 ∙ ap (λ ws. v ∷ ws) (kept vs all.1)

module _ (system : System) (m : Marking) (b : Binding) (depth n place : ℕ)
    (is : IsMarking system m) (sound : HasSoundTokens system m) (enabled : Enabled system m b depth)
    (there : IsThere m n) where
  abbrev made : List Made
  made = creations_of system b

  low : n < m.next
  low = below_next system m n is there

  fits : PlaceFits system m b (Old n) place
  fits = enabled.fits.places (Old n) place

  token_old : (v : Value) → Contains (tokens_at m n place) v → holds_new v ≡ false
  token_old v has =
      (sound n there.0.net place v (ap (option_map (λ i. i.net)) there.1) has).old

  abbrev taken : List Value
  taken = asked_at takes system (readings system b) (Old n) place

  taken_old : (v : Value) → Contains taken v → holds_new v ≡ false
  taken_old v has =
      let some = is_counted v (taken_at system b (Old n) place) (in_ordered v taken has) in
      let enough = fits.enough v in
      token_old v (counted v (tokens_at m n place) (omega (arith, some, enough)))

  pub takes_stay :
      taken_at system (named system b m.next) (Old n) place ≡ taken_at system b (Old n) place
  takes_stay = ap ordered_values
      (nodes_named made m.next n low takes (rep made m.next) (takes_named made m.next) system place
      b.nodes
      ∙ all_still made m.next taken taken_old)

  pub clears_stay :
      cleared_at system (named system b m.next) (Old n) place ≡ cleared_at system b (Old n) place
  clears_stay =
      let cleared = cleared_at system b (Old n) place in
      let new = map (rep made m.next) in
      nodes_named made m.next n low clears new (clears_named made m.next) system place b.nodes
      ∙ (elim fits.whole as (λ _. map new cleared ≡ cleared) [
        | inl none ↦ ap (map new) none ∙ sym none
        | inr one ↦
            ap (map new) one.0
            ∙ ap (λ vs. vs ∷ []) (all_still made m.next (tokens_at m n place) token_old)
            ∙ sym one.0
      ])

-- with its new instances numbered, a binding takes and clears the same of those that are there
pub numbering_keeps_demands : NumberingKeepsDemands
numbering_keeps_demands system m b depth n place is sound enabled there = (
  takes_stay system m b depth n place is sound enabled there,
  clears_stay system m b depth n place is sound enabled there,
)

-- what is taken and cleared, and what remains
balanced : (before after taken cleared put : ℕ) → after ≡ ((before - taken) - cleared) + put →
    taken ≤ before → cleared ≤ before - taken → after + taken + cleared ≡ before + put
balanced before after taken cleared put e t c = omega (arith, e, t, c)

-- what a place holds after and what left it is what it held before and what is put there
pub firings_move_tokens : FiringsMoveTokens
firings_move_tokens system m b depth step f acts is sound enabled fires are n net place v has
    within =
    let found = there_of_net m n net has in
    let there : IsThere m n = (found.0, found.1) in
    let taken = takes_stay system m b depth n place is sound enabled there in
    let cleared = clears_stay system m b depth n place is sound enabled there in
    let count = old_tokens_after_firing system m b step f acts is fires are n net place v has within
    in
    let fits : PlaceFits system m b (Old n) place = enabled.fits.places (Old n) place in
    let held = tokens_at m n place in
    let flat = λ (vss : List (List Value)). count_of v (flat_map (λ vs. vs) vss) in
    let counted_so = count
    ∙ ap (λ vs. ((count_of v held - count_of v vs)
    - flat (cleared_at system (named system b m.next) (Old n) place))
    + count_of v (put_by system acts n place)) taken
    ∙ ap (λ vss. ((count_of v held - count_of v (taken_at system b (Old n) place)) - flat vss)
    + count_of v (put_by system acts n place)) cleared in
    balanced (count_of v held) (count_of v (tokens_at f.marking n place))
    (count_of v (taken_at system b (Old n) place)) (flat (cleared_at system b (Old n) place))
    (count_of v (put_by system acts n place)) counted_so (fits.enough v)
    (elim fits.whole as (λ _. flat (cleared_at system b (Old n) place)
    ≤ count_of v held - count_of v (taken_at system b (Old n) place)) [
      | inl none ↦
          let no_more : flat (cleared_at system b (Old n) place) ≡ 0 = ap flat none in
          omega (arith, no_more)
      | inr one ↦
          let all : flat (cleared_at system b (Old n) place) ≡ count_of v held =
          ap flat one.0 ∙ ap (count_of v) (append-nil held) in
          let nothing : count_of v (taken_at system b (Old n) place) ≡ 0 =
          ap (count_of v) one.1 in
          omega (arith, all, nothing)
    ])
