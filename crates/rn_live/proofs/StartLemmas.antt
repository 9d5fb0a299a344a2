-- The instances that are live by their net are those that start.
use Rattle.std.proofs.Common.{◌≡◌, ℕ, zero, suc, ◌+◌, ◌<◌, Bool, true, false, ◌||◌, List, [], ◌∷◌, map, get_or, refl, sym, ap, ◌∙◌, subst, inl, inr, arith, eq-eqb}
use Rattle.std.specs.Prelude.{◌⊎◌, Option, Some, None, IsTrue, is_none, nat_eq, slice_get, slice_index_or, unwrap_or}
use Rattle.std.specs.List.{list_any}
use Rattle.std.specs.Option.{option_map_or}
use Rattle.std.proofs.lemmas.Bool.{eqb-true}
use Rattle.rn_items.proofs.Bools.{both_true, true_both, or_true, or_left, or_right}
use Rattle.rn_model.specs.declared.system.System.{System}
use Rattle.rn_model.specs.declared.system.Net.{Net}
use Rattle.rn_model.specs.Systems.{empty_net, may_start}
use Rattle.rn_model.specs.Liveness.{IsLive, starts}
use Rattle.rn_model.specs.Markings.{Marking, net_of}
use Rattle.rn_live.specs.Rooms.{starts_of}
use Rattle.rn_live.specs.link.Marks.{is_start, is_start_below}

abbrev pub starts_net : Net → Bool
starts_net net = list_any (λ t. is_none t.uplink) net.transitions

starting_at : (nets : List Net) (k : ℕ) → get_or (map starts_net nets) k false ≡ starts_net (unwrap_or (slice_get nets k) empty_net)
starting_at [] k = refl
starting_at (net ∷ nets) zero = refl
starting_at (net ∷ nets) (suc k) = starting_at nets k

net_is : (starting : List Bool) (o : Option ℕ) → option_map_or (λ net. slice_index_or starting net false) o false ≡ true → (net : ℕ) × (o ≡ Some net) × (slice_index_or starting net false ≡ true)
net_is starting None e = absurd (let no : ⊥ = cc in no)
net_is starting (Some net) e = (net, refl, e)

-- the first numbers and one more
pub start_more : (m : Marking) (starting : List Bool) (end n : ℕ) → is_start_below m starting (end + 1) n ≡ (is_start_below m starting end n || is_start m starting end n)
start_more m starting end n = let next : end + 1 ≡ suc end = omega arith in ap (λ k. is_start_below m starting k n) next

-- one below an end is one by its own number
is_start_itself : (m : Marking) (starting : List Bool) (end n : ℕ) → is_start_below m starting end n ≡ true → is_start m starting n n ≡ true
is_start_itself m starting zero n e = absurd (let no : ⊥ = cc in no)
is_start_itself m starting (suc end) n e = elim (or_true (is_start_below m starting end n) (is_start m starting end n) e) as (λ _. is_start m starting n n ≡ true) [
  | inl early ↦ is_start_itself m starting end n early
  | inr last ↦
      let both = both_true (nat_eq end n) (option_map_or (λ net. slice_index_or starting net false) (net_of m end) false) last in
      subst (λ k. is_start m starting k n ≡ true) (eqb-true end n both.0) last
]

below_or_last : (n k : ℕ) → n < suc k → (n < k) ⊎ (k ≡ n)
below_or_last zero zero h = inr refl
below_or_last zero (suc k) h = inl (omega arith)
below_or_last (suc n) zero h = absurd (let no : ⊥ = omega (arith, h) in no)
below_or_last (suc n) (suc k) h = elim (below_or_last n k (omega (arith, h))) as (λ _. (suc n < suc k) ⊎ (suc k ≡ suc n)) [
  | inl less ↦ inl (omega (arith, less))
  | inr same ↦ inr (ap suc same)
]

-- one by its own number is one below each end past it
is_start_there : (m : Marking) (starting : List Bool) (end n : ℕ) → n < end → is_start m starting n n ≡ true → is_start_below m starting end n ≡ true
is_start_there m starting zero n h e = absurd (let no : ⊥ = omega (arith, h) in no)
is_start_there m starting (suc end) n h e = elim (below_or_last n end h) as (λ _. is_start_below m starting (suc end) n ≡ true) [
  | inl less ↦ or_left (is_start_below m starting end n) (is_start m starting end n) (is_start_there m starting end n less e)
  | inr same ↦ or_right (is_start_below m starting end n) (is_start m starting end n) (subst (λ k. is_start m starting k n ≡ true) (sym same) e)
]

module _ (system : System) (m : Marking) where
  abbrev pub is_starting : ℕ → ℕ → Bool
  is_starting end n = is_start_below m (starts_of system) end n

  pub starting_live : (end n : ℕ) → is_starting end n ≡ true → IsLive system m n
  starting_live end n e =
      let itself = is_start_itself m (starts_of system) end n e in
      let both = both_true (nat_eq n n) (option_map_or (λ net. slice_index_or (starts_of system) net false) (net_of m n) false) itself in
      let net = net_is (starts_of system) (net_of m n) both.1 in
      let may : IsTrue (may_start system net.0) = sym (starting_at system.nets net.0) ∙ net.2 in
      starts {n = n} {net = net.0} net.1 may

  pub live_starting : (end n net : ℕ) → net_of m n ≡ Some net → IsTrue (may_start system net) → n < end → is_starting end n ≡ true
  live_starting end n net is may within =
      let starts_here : option_map_or (λ k. slice_index_or (starts_of system) k false) (net_of m n) false ≡ true
      = ap (λ o. option_map_or (λ k. slice_index_or (starts_of system) k false) o false) is ∙ starting_at system.nets net ∙ may in
      is_start_there m (starts_of system) end n within
      (true_both (nat_eq n n) (option_map_or (λ k. slice_index_or (starts_of system) k false) (net_of m n) false) (eq-eqb n n refl) starts_here)
