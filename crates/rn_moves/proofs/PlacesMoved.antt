-- Where a firing puts something: at places of instances that are there or that it makes.
use Rattle.std.proofs.Common.{◌≡◌, ℕ, suc, ◌+◌, ◌<◌, List, [], ◌∷◌, ◌++◌, cond, length}
use Rattle.std.proofs.Common.{Bool, true, false, refl, sym, ap, ◌∙◌, arith}
use Rattle.std.specs.Prelude.{Some, None, Contains, nat_eq, slice_get, ⊤}
use Rattle.std.proofs.lemmas.Bool.{eqb-true}
use Rattle.std.proofs.lemmas.List.Elements.{All-contains, All-from_recursion}
use Rattle.std.proofs.lemmas.Option.{same_Some}
use Rattle.rn_value.specs.declared.value.InstRef.TheVariants.{Old}
use Rattle.rn_value.specs.declared.value.Value.{Value}
use Rattle.rn_model.specs.declared.system.System.{System}
use Rattle.rn_model.specs.declared.binding.Binding.{Binding}
use Rattle.rn_model.specs.declared.binding.Node.{Node}
use Rattle.rn_model.specs.Demands.{puts}
use Rattle.rn_model.specs.Enabling.{Enabled}
use Rattle.rn_model.specs.Firing.{Effects, effects, named}
use Rattle.rn_model.specs.FiringLaws.{put_by}
use Rattle.rn_model.specs.Good.{Good}
use Rattle.rn_model.specs.Markings.{Instance, Marking, IsMarking, fresh_instance, instance_at}
use Rattle.rn_model.proofs.PutValues.{StaysSo, reading_stays}
use Rattle.rn_table.specs.Changes.{new_from, with_made}
use Rattle.rn_table.specs.declared.change.Row.{Row}
use Rattle.rn_table.specs.link.Leaves.{numbered}
use Rattle.rn_acts.specs.Acted.{IsOfArc}
use Rattle.rn_acts.proofs.AskedFrom.{asked_from}
use Rattle.rn_acts.proofs.PlacedNodes.{rows_placed}
use Rattle.rn_moves.specs.Moves.{nets_by}

-- an instance of this number and with this place is there
abbrev pub HasPlace : Marking → ℕ → ℕ → Type 0
HasPlace m n place =
    (i : Instance) × (instance_at m n ≡ Some i) × (place < length i.places)

module _ (system : System) (m : Marking) (b : Binding) (depth step : ℕ) (acts : Effects)
    (good : Good system) (is : IsMarking system m) (enabled : Enabled system m b depth)
    (are : effects system b m.next step ≡ Some acts) where
  -- the marking with the new instances
  abbrev pub full : Marking
  full = with_made system (nets_by system b) m

  any_read : (nodes : List Node) → StaysSo system step nodes (λ node env. ⊤)
  any_read nodes = record {
    begins = λ node there. tt;
    goes_on = λ node x e v env there has before value. tt;
  }

  -- what is put is put at a place that is there
  pub put_placed : (n place : ℕ) (v : Value) → Contains (put_by system acts n place) v →
      HasPlace full n place
  put_placed n place v has =
      let nodes = (named system b m.next).nodes in
      let from = asked_from puts system acts.read (Old n) place v has in
      let read = reading_stays system step (λ node env. ⊤) nodes (any_read nodes) acts are from.reading from.there in
      let row : Row = record { inst = n; place = place; values = [] } in
      let of : IsOfArc system nodes row = record {
        node = from.reading.node;
        there = read.0;
        stands = from.stands;
        arc = from.arc;
        arc_there = from.arc_there;
        place = from.place_is;
      } in
      All-contains (λ (row : Row). HasPlace full row.inst row.place) (row ∷ []) row
      (rows_placed system m b depth good is enabled (row ∷ [])
      (All-from_recursion (IsOfArc system nodes) (row ∷ []) (of, tt))) (0, omega arith, refl)

-- an instance is the new one of this number, where the new ones are of these nets
abbrev pub IsNew : System → ℕ → List ℕ → ℕ → Instance → Type 0
IsNew system next nets n j =
    (k : ℕ) × (net : ℕ) × (slice_get nets k ≡ Some net) × (next + k ≡ n)
    × (j ≡ fresh_instance system n net)

by_first : (system : System) (next net : ℕ) (nets : List ℕ) (n : ℕ) (j : Instance) →
    (numbered n (new_from system (next + 1) nets) ≡ Some j → IsNew system (next + 1) nets n j) →
    (first : Bool) → nat_eq next n ≡ first →
    cond first (Some (fresh_instance system next net)) (numbered n (new_from system (next + 1) nets)) ≡ Some j →
    IsNew system next (net ∷ nets) n j
by_first system next net nets n j later true here e =
    let number : next ≡ n = eqb-true next n here in
    let is : fresh_instance system next net ≡ j = same_Some (fresh_instance system next net) j e in
    (0, net, refl, omega (arith, number), sym is ∙ ap (λ k. fresh_instance system k net) number)
by_first system next net nets n j later false here e =
    let rest = later e in
    let number = rest.3 in
    (suc rest.0, rest.1, rest.2, omega (arith, number), rest.4)

-- the new instance of a number is of the net at its index
pub found_new : (system : System) (next : ℕ) (nets : List ℕ) (n : ℕ) (j : Instance) →
    numbered n (new_from system next nets) ≡ Some j → IsNew system next nets n j
found_new system next [] n j e = absurd (let no : ⊥ = cc in no)
found_new system next (net ∷ nets) n j e =
    by_first system next net nets n j (λ later. found_new system (next + 1) nets n j later)
    (nat_eq next n) refl e

behind_first : (i : Instance) (n : ℕ) (is js : List Instance) →
    (numbered n is ≡ None → numbered n (is ++ js) ≡ numbered n js) →
    (first : Bool) → nat_eq i.number n ≡ first → cond first (Some i) (numbered n is) ≡ None →
    cond (nat_eq i.number n) (Some i) (numbered n (is ++ js)) ≡ numbered n js
behind_first i n is js later true here e = absurd (let no : ⊥ = cc in no)
behind_first i n is js later false here e =
    ap (λ b. cond b (Some i) (numbered n (is ++ js))) here ∙ later e

-- behind those of which none has the number
pub found_later : (n : ℕ) (is js : List Instance) → numbered n is ≡ None →
    numbered n (is ++ js) ≡ numbered n js
found_later n [] js none = refl
found_later n (i ∷ is) js none =
    behind_first i n is js (λ later. found_later n is js later) (nat_eq i.number n) refl none
