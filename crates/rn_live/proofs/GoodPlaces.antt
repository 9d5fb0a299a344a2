-- Instances of a good system have few places.
use Rattle.std.proofs.Common.{◌≡◌, ℕ, zero, suc, ◌<◌, ◌≤◌, List, [], ◌∷◌, length, unwrap_or, arith}
use Rattle.std.specs.Prelude.{All, slice_get}
use Rattle.std.proofs.lemmas.List.Elements.{All-head, All-tail}
use Rattle.rn_model.specs.declared.system.Net.{Net}
use Rattle.rn_model.specs.Good.{IsGoodNet}
use Rattle.rn_model.specs.Systems.{empty_net, net_at}
use Rattle.rn_model.specs.Markings.{Instance}
use Rattle.rn_live.specs.Laws.{PlacesAreFew}
use Rattle.rn_live.proofs.HolderLemmas.{of_each}

few_of_each : (P : Net → Type 0) → ((net : Net) → P net → length net.places ≤ 1000) → (nets : List Net) (k : ℕ) → All P nets → length (unwrap_or (slice_get nets k) empty_net).places ≤ 1000
few_of_each P few [] k all = omega arith
few_of_each P few (net ∷ nets) zero all = few net (All-head P net nets all)
few_of_each P few (net ∷ nets) (suc k) all = few_of_each P few nets k (All-tail P net nets all)

-- at a marking of a good system each instance has fewer than 2^32 places
pub good_places : PlacesAreFew
good_places system m good form n i there =
    let P : Instance → Type 0 = λ i. (i.net < length system.nets) × (length i.places ≡ length (net_at system i.net).places) in
    let placed = of_each P m n i form.placed there in
    let few = few_of_each (IsGoodNet system) (λ net is. is.few_places) system.nets i.net good.nets in
    omega (arith, placed.1, few)
