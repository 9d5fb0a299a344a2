-- A marking meets the binding of one node exactly where the weighted net's transition is enabled.
use Rattle.std.proofs.Common.{◌≡◌, ℕ, zero, suc, ◌<◌, inl, Bool, true, false, cond, List, [], ◌∷◌, map, length, refl, sym, ap, ◌∙◌, subst, arith, append-nil}
use Rattle.std.specs.Prelude.{Some, option_and_then, ◌≢◌, All, Contains, slice_get, slice_index, nat_eq, sum_by, flat_map}
use Rattle.std.specs.Cmp.{Equal-is}
use Rattle.std.specs.Ordering.{is_eq, nat_cmp}
use Rattle.std.proofs.lemmas.Bool.{eqb-true, eq-eqb}
use Rattle.std.proofs.lemmas.Map.Lookups.{exact_unsigned}
use Rattle.std.proofs.lemmas.List.Elements.{All-nil, All-cons, All-head, All-tail, All-weaker, All-contains_itself}
use Rattle.std.proofs.lemmas.List.Sums.{sum_by-cons}
use Rattle.rn_value.proofs.Variants.{same_old}
use Rattle.rn_value.specs.Order.{inst_cmp}
use Rattle.rn_value.specs.declared.value.InstRef.{InstRef}
use Rattle.rn_value.specs.declared.value.InstRef.TheVariants.{Old, New}
use Rattle.rn_value.specs.declared.value.Value.{Value}
use Rattle.rn_model.specs.declared.system.ArcKind.{ArcKind}
use Rattle.rn_model.specs.declared.system.ArcKind.TheVariants.{Inhibit}
use Rattle.rn_model.specs.declared.binding.Node.{Node}
use Rattle.rn_model.specs.Lists.{IsWithin, ordered_values}
use Rattle.rn_model.specs.Systems.{transition_of}
use Rattle.rn_model.specs.Evaluation.{Env}
use Rattle.rn_model.specs.Bindings.{env_of}
use Rattle.rn_model.specs.Demands.{takes, tests, inhibits, clears, asked_by_arc, asked_at, taken_at, tested_at, inhibited_at, cleared_at}
use Rattle.rn_model.specs.Markings.{tokens, net_of}
use Rattle.rn_model.specs.Enabling.{PlaceFits, HasRoom, MadeHasRoom, Fits, Enabled}
use Rattle.rn_model.proofs.EnablingLemmas.{not_in_nil, idle}
use Rattle.rn_weighted.specs.declared.weighted.Weighted.{Weighted}
use Rattle.rn_weighted.specs.declared.weighted.WPlace.{WPlace}
use Rattle.rn_weighted.specs.declared.weighted.WTransition.{WTransition}
use Rattle.rn_weighted.specs.declared.weighted.WArc.{WArc}
use Rattle.rn_weighted.specs.Weighted.{IsWArc}
use Rattle.rn_translated.specs.WeightedRuns.{total, taken, WEnabled}
use Rattle.rn_translated.specs.TranslatedSystem.{black, blacks, net_arc, net_place, occurrence, marking_of}
use Rattle.rn_translated.proofs.BlackTokens.{ordered_blacks, fewer_within, within_fewer, black_there, held}
use Rattle.rn_translated.proofs.ArcDemands.{inhibited, takes_blacks, inhibits_blacks, tests_none, clears_none, arcs_ask, arcs_ask_none}
use Rattle.rn_translated.proofs.OneOccurrence.{sys, node, transition_is, none_made, shape, agrees, derived}

-- no place has a capacity
never_full : (ps : List WPlace) (place most : ℕ) →
    option_and_then (λ p. p.max) (slice_get (map net_place ps) place) ≡ Some most → ⊥
never_full [] place most has = let no : ⊥ = cc in no
never_full (p ∷ ps) zero most has = let no : ⊥ = cc in no
never_full (p ∷ ps) (suc place) most has = never_full ps place most has

-- the weights of inhibitor arcs at a place
abbrev weight_at : ℕ → WArc → ℕ
weight_at place a = cond (nat_eq a.place place) (inhibited a.kind a.weight) 0

no_weight : (kind : ArcKind) (weight : ℕ) → kind ≢ Inhibit → inhibited kind weight ≡ 0
no_weight Inhibit weight differs = absurd (differs refl)
no_weight _ weight differs = refl

-- where no inhibited place has a token, a place with one has no inhibitor arc
module _ (m : List ℕ) (place : ℕ) (some : 0 < slice_index m place) where
  unless_empty : (a : WArc) → (a.kind ≡ Inhibit → slice_index m a.place ≡ 0) → (same : Bool) →
      nat_eq a.place place ≡ same → cond same (inhibited a.kind a.weight) 0 ≡ 0
  unless_empty a absent false e = refl
  unless_empty a absent true e =
      no_weight a.kind a.weight (λ inhibit.
      let none = absent inhibit in
      let here = ap (slice_index m) (eqb-true a.place place e) in
      let never : ⊥ = omega (arith, none, here, some) in
      never)

  none_inhibits : (arcs : List WArc) →
      All (λ a. a.kind ≡ Inhibit → slice_index m a.place ≡ 0) arcs →
      sum_by (λ a. weight_at place a) arcs ≡ 0
  none_inhibits [] absent = refl
  none_inhibits (a ∷ arcs) absent =
      let P = λ (a : WArc). a.kind ≡ Inhibit → slice_index m a.place ≡ 0 in
      let here = unless_empty a (All-head P a arcs absent) (nat_eq a.place place) refl in
      let rest = none_inhibits arcs (All-tail P a arcs absent) in
      let both = sum_by-cons (λ a. weight_at place a) a arcs in
      omega (arith, here, rest, both)

-- an inhibitor arc has its weight at its place
weight_there : (a : WArc) (places : ℕ) → IsWArc places a → a.kind ≡ Inhibit →
    0 < weight_at a.place a
weight_there a places is inhibit =
    let here : nat_eq a.place a.place ≡ true = eq-eqb a.place a.place refl in
    let weight : weight_at a.place a ≡ inhibited a.kind a.weight =
    ap (λ same. cond same (inhibited a.kind a.weight) 0) here in
    let its : inhibited a.kind a.weight ≡ a.weight = ap (λ kind. inhibited kind a.weight) inhibit in
    omega (arith, weight, its, is.some)

some_inhibits : (arcs : List WArc) (places : ℕ) (a : WArc) → All (IsWArc places) arcs →
    Contains arcs a → a.kind ≡ Inhibit → 0 < sum_by (λ x. weight_at a.place x) arcs
some_inhibits [] places a are there inhibit = absurd (not_in_nil a there)
some_inhibits (x ∷ arcs) places a are (zero, h, e) inhibit =
    let is : IsWArc places a = subst (IsWArc places) e (All-head (IsWArc places) x arcs are) in
    let here = weight_there a places is inhibit in
    let same : weight_at a.place x ≡ weight_at a.place a = ap (weight_at a.place) e in
    let both = sum_by-cons (λ x. weight_at a.place x) x arcs in
    omega (arith, here, same, both)
some_inhibits (x ∷ arcs) places a are (suc k, h, e) inhibit =
    let rest = some_inhibits arcs places a (All-tail (IsWArc places) x arcs are)
    (k, omega (arith, h), e) inhibit in
    let both = sum_by-cons (λ x. weight_at a.place x) x arcs in
    omega (arith, rest, both)

-- not both are there
not_both : (i n : ℕ) (v : Value) → (0 < n → i ≡ 0) → Contains (blacks i) v →
    Contains (blacks n) v → ⊥
not_both zero n v none first second = not_in_nil v first
not_both (suc i) zero v none first second = not_in_nil v second
not_both (suc i) (suc n) v none first second =
    let is = none (omega arith) in
    let never : ⊥ = omega (arith, is) in
    never

module _ (net : Weighted) (t : ℕ) (wt : WTransition) (is : slice_get net.transitions t ≡ Some wt)
    (arcs : All (IsWArc (length net.places)) wt.arcs) where
  abbrev the_node : Node
  the_node = node net t wt is arcs

  abbrev places : ℕ
  places = length net.places

  abbrev env : Env
  env = env_of (sys net t wt is arcs) the_node

  pub asked_here : {A : Type 0} (pick : ArcKind → Value → List A) (env : Env) (place : ℕ) →
      asked_at pick (sys net t wt is arcs) (record { node = the_node; env = env } ∷ []) (Old 1) place
      ≡ flat_map (asked_by_arc pick env place) (map net_arc wt.arcs)
  asked_here pick env place =
      append-nil
      (flat_map (asked_by_arc pick env place) (transition_of (sys net t wt is arcs) the_node).arcs)
      ∙ ap (λ tr. flat_map (asked_by_arc pick env place) tr.arcs) (transition_is net t wt is arcs)

  module _ (place : ℕ) where
    pub taken_is : taken_at (sys net t wt is arcs) (occurrence t) (Old 1) place
        ≡ blacks (total taken wt place)
    taken_is =
        ap ordered_values
        (asked_here takes env place ∙ arcs_ask takes taken takes_blacks env place places wt.arcs arcs)
        ∙ ordered_blacks (total taken wt place)

    inhibited_is : inhibited_at (sys net t wt is arcs) (occurrence t) (Old 1) place
        ≡ blacks (total inhibited wt place)
    inhibited_is =
        ap ordered_values
        (asked_here inhibits env place
        ∙ arcs_ask inhibits inhibited inhibits_blacks env place places wt.arcs arcs)
        ∙ ordered_blacks (total inhibited wt place)

    tested_is : tested_at (sys net t wt is arcs) (occurrence t) (Old 1) place ≡ []
    tested_is =
        ap ordered_values
        (asked_here tests env place ∙ arcs_ask_none tests tests_none env place places wt.arcs arcs)

    pub cleared_is : cleared_at (sys net t wt is arcs) (occurrence t) (Old 1) place ≡ []
    cleared_is =
        asked_here clears env place ∙ arcs_ask_none clears clears_none env place places wt.arcs arcs

  module _ (m : List ℕ) where
    place_fits : WEnabled wt m → (place : ℕ) →
        PlaceFits (sys net t wt is arcs) (marking_of m) (occurrence t) (Old 1) place
    place_fits enabled place =
        let k = total taken wt place in
        let i = total inhibited wt place in
        let n = slice_index m place in
        record {
          enough = subst (λ vs. IsWithin vs (tokens (marking_of m) (Old 1) place))
              (sym (taken_is place))
              (subst (λ ws. IsWithin (blacks k) ws) (sym (held m place))
              (fewer_within k n (enabled.enough place)));
          left = λ v asked.
              absurd (not_in_nil v (subst (λ vs. Contains vs v) (tested_is place) asked));
          absent = λ v asked there.
              not_both i n v (λ some. none_inhibits m place some wt.arcs enabled.absent)
              (subst (λ vs. Contains vs v) (inhibited_is place) asked)
              (subst (λ vs. Contains vs v) (held m place) there);
          whole = inl (cleared_is place);
        }

    elsewhere : (inst : InstRef) (place : ℕ) → is_eq (inst_cmp (Old 1) inst) ≡ false →
        PlaceFits (sys net t wt is arcs) (marking_of m) (occurrence t) inst place
    elsewhere inst place e =
        idle (sys net t wt is arcs) (marking_of m) (occurrence t) inst place (rw e) (rw e) (rw e)
        (rw e)

    at_inst : WEnabled wt m → (inst : InstRef) (place : ℕ) (same : Bool) →
        is_eq (inst_cmp (Old 1) inst) ≡ same →
        PlaceFits (sys net t wt is arcs) (marking_of m) (occurrence t) inst place
    at_inst enabled inst place false e = elsewhere inst place e
    at_inst enabled (Old k) place true e =
        let same : 1 ≡ k = exact_unsigned 1 k ((Equal-is (nat_cmp 1 k)).0 e) in
        subst (λ i. PlaceFits (sys net t wt is arcs) (marking_of m) (occurrence t) (Old i) place)
        same (place_fits enabled place)
    at_inst enabled (New path j) place true e =
        let never : ⊥ = cc in
        absurd never

    fits : WEnabled wt m → Fits (sys net t wt is arcs) (marking_of m) (occurrence t)
    fits enabled = record {
      there = All-cons
          (λ n. (k : ℕ) → n.inst ≡ Old k → net_of (marking_of m) k ≡ Some n.net) the_node []
          (λ k e. subst (λ i. net_of (marking_of m) i ≡ Some 0) (same_old 1 k e) refl)
          (All-nil (λ n. (k : ℕ) → n.inst ≡ Old k → net_of (marking_of m) k ≡ Some n.net));
      places = λ inst place. at_inst enabled inst place (is_eq (inst_cmp (Old 1) inst)) refl;
      room = All-cons (HasRoom (sys net t wt is arcs) (marking_of m) (occurrence t)) the_node []
          (λ n place most inst has. absurd (never_full net.places place most has))
          (All-nil (HasRoom (sys net t wt is arcs) (marking_of m) (occurrence t)));
      made = subst (All (MadeHasRoom (sys net t wt is arcs) (occurrence t)))
          (sym (none_made net t wt is arcs))
          (All-nil (MadeHasRoom (sys net t wt is arcs) (occurrence t)));
    }

    -- an enabled transition's occurrence is enabled
    pub occurs : (depth : ℕ) → WEnabled wt m →
        Enabled (sys net t wt is arcs) (marking_of m) (occurrence t) depth
    occurs depth enabled = record {
      shape = shape net t wt is arcs depth;
      agrees = agrees net t wt is arcs;
      derived = derived net t wt is arcs;
      fits = fits enabled;
    }

    -- and an enabled occurrence's transition is
    pub may_occur : Fits (sys net t wt is arcs) (marking_of m) (occurrence t) → WEnabled wt m
    may_occur fit = record {
      enough = λ place.
          within_fewer (total taken wt place) (slice_index m place)
          (subst (λ ws. IsWithin (blacks (total taken wt place)) ws) (held m place)
          (subst (λ vs. IsWithin vs (tokens (marking_of m) (Old 1) place)) (taken_is place)
          (fit.places (Old 1) place).enough));
      absent = All-weaker (Contains wt.arcs)
          (λ a. a.kind ≡ Inhibit → slice_index m a.place ≡ 0)
          (λ a there inhibit. none_held a there inhibit (slice_index m a.place) refl) wt.arcs
          (All-contains_itself wt.arcs);
    }
      where
        none_held : (a : WArc) → Contains wt.arcs a → a.kind ≡ Inhibit → (n : ℕ) →
            slice_index m a.place ≡ n → n ≡ 0
        none_held a there inhibit zero e = refl
        none_held a there inhibit (suc n) e =
            let asked : Contains (inhibited_at (sys net t wt is arcs) (occurrence t) (Old 1) a.place)
            black =
            subst (λ vs. Contains vs black) (sym (inhibited_is a.place))
            (black_there (total inhibited wt a.place)
            (some_inhibits wt.arcs places a arcs there inhibit)) in
            let some : 0 < slice_index m a.place = omega (arith, e) in
            let held_there : Contains (tokens (marking_of m) (Old 1) a.place) black =
            subst (λ vs. Contains vs black) (sym (held m a.place))
            (black_there (slice_index m a.place) some) in
            absurd ((fit.places (Old 1) a.place).absent black asked held_there)
