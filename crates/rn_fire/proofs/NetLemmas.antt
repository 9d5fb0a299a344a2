-- The nets of the instances of a run, and how many there are.
use Rattle.std.proofs.Common.{◌≡◌, ℕ, ◌+◌, suc, ◌≤◌, List, [], ◌∷◌, ◌++◌, length, map, sym, ap, ◌∙◌, arith}
use Rattle.std.specs.Prelude.{None, drop, take, flat_map}
use Rattle.std.proofs.lemmas.List.{append-nil, length-append, length-map, map-append, take-append-drop, take-append-le, take_all}
use Rattle.std.proofs.lemmas.Grind.{flat_map-append}
use Rattle.rn_model.specs.declared.binding.Binding.{Binding}
use Rattle.rn_model.specs.declared.log.Entry.{Entry}
use Rattle.rn_model.specs.declared.system.System.{System}
use Rattle.rn_model.specs.Firing.{Fired, creations_of}
use Rattle.rn_model.specs.Markings.{Marking, initial_marking}
use Rattle.rn_model.specs.Runs.{Firing, Run, RunFrom, after_firing, end_from, end_of, entries_of}
use Rattle.rn_model.specs.Systems.{main_net}
use Rattle.rn_model.proofs.CountsAfterFiring.{next_after_firing}
use Rattle.rn_acts.proofs.CreationLemmas.{nets_made as made_nets}
use Rattle.rn_spell.specs.Made.{made_in, nets_made}
use Rattle.rn_fire.specs.Nets.{nets_of_entries}
use Rattle.rn_fire.proofs.EntryLemmas.{entry_of}

-- the nets of the creations of a binding
pub made_are : (system : System) (b : Binding) →
    map (λ c. c.net) (creations_of system b) ≡ nets_made system b
made_are system b = sym (made_nets system b.nodes)

made_count : (system : System) (b : Binding) →
    length (nets_made system b) ≡ length (creations_of system b)
made_count system b =
    ap length (sym (made_are system b)) ∙ length-map (creations_of system b) (λ c. c.net)

-- one entry more
pub nets_more : (system : System) (entries : List Entry) (e : Entry) →
    nets_of_entries system (entries ++ e ∷ [])
    ≡ nets_of_entries system entries ++ made_in system e
nets_more system entries e =
    ap (λ nets. main_net system ∷ nets)
    (flat_map-append (made_in system) entries (e ∷ [])
    ∙ ap (λ nets. flat_map (made_in system) entries ++ nets) (append-nil (made_in system e)))

pub nets_follow : (system : System) (entries more : List Entry) (e : Entry)
    (made longer added : List ℕ) → made ≡ nets_of_entries system entries →
    more ≡ entries ++ e ∷ [] → longer ≡ made ++ added → added ≡ made_in system e →
    longer ≡ nets_of_entries system more
nets_follow system entries more e made longer added are is long own =
    long ∙ ap (λ nets. nets ++ added) are
    ∙ ap (λ nets. nets_of_entries system entries ++ nets) own
    ∙ sym (nets_more system entries e) ∙ ap (nets_of_entries system) (sym is)

-- one that makes none
pub nets_stay : (system : System) (entries more : List Entry) (e : Entry) (made : List ℕ) →
    made ≡ nets_of_entries system entries → more ≡ entries ++ e ∷ [] → made_in system e ≡ [] →
    made ≡ nets_of_entries system more
nets_stay system entries more e made are is none =
    nets_follow system entries more e made made [] are is (sym (append-nil made)) (sym none)

-- each firing gives a number to each instance that it makes
next_from : (system : System) (depth step : ℕ) (m : Marking) (fs : List Firing) →
    RunFrom system depth step m fs →
    (end_from system step m fs).next
    ≡ m.next + length (flat_map (made_in system) (map entry_of fs))
next_from system depth step m [] run = omega arith
next_from system depth step m (f ∷ fs) (fires, run) =
    let after : Marking = after_firing system step m f in
    let given : Fired = record { marking = after; outs = f.outs } in
    let here : after.next ≡ m.next + length (creations_of system f.binding) =
    next_after_firing system m f.binding step given fires.fired in
    let rest = next_from system depth (suc step) after fs run in
    let many = made_count system f.binding in
    let both =
    length-append (nets_made system f.binding) (flat_map (made_in system) (map entry_of fs)) in
    omega (arith, here, rest, many, both)

-- so the next number tells how many nets there are
pub nets_counted : (system : System) (depth : ℕ) (fs : List Firing) → Run system depth fs →
    (end_of system fs).next ≡ suc (length (nets_of_entries system (entries_of fs None)))
nets_counted system depth fs run =
    let count = next_from system depth 1 (initial_marking system) fs run in
    let same =
    ap (λ es. length (flat_map (made_in system) es)) (append-nil (map entry_of fs)) in
    omega (arith, count, same)

-- and more firings don't lessen it
pub next_grows : (system : System) (depth : ℕ) (fs gs : List Firing) → Run system depth fs →
    Run system depth (fs ++ gs) → (end_of system fs).next ≤ (end_of system (fs ++ gs)).next
next_grows system depth fs gs run longer =
    let made = flat_map (made_in system) in
    let first = next_from system depth 1 (initial_marking system) fs run in
    let all = next_from system depth 1 (initial_marking system) (fs ++ gs) longer in
    let parts =
    ap length (ap made (map-append entry_of fs gs)
    ∙ flat_map-append (made_in system) (map entry_of fs) (map entry_of gs)) in
    let both = length-append (made (map entry_of fs)) (made (map entry_of gs)) in
    omega (arith, first, all, parts, both)

-- the nets of the first entries come first
pub first_nets_are : (system : System) (entries : List Entry) (k : ℕ) →
    take (length (nets_of_entries system (take k entries))) (nets_of_entries system entries)
    ≡ nets_of_entries system (take k entries)
first_nets_are system entries k =
    let first : List ℕ = nets_of_entries system (take k entries) in
    let rest : List ℕ = flat_map (made_in system) (drop k entries) in
    ap (λ es. take (length first) (nets_of_entries system es)) (sym (take-append-drop k entries))
    ∙ ap (λ nets. take (length first) (main_net system ∷ nets))
    (flat_map-append (made_in system) (take k entries) (drop k entries))
    ∙ take-append-le (length first) first rest (omega arith)
    ∙ take_all (length first) first (omega arith)
