-- A state that goes back to its first firings.
use Rattle.std.proofs.Common.{◌≡◌, ℕ, suc, ◌≤◌, List, length, map, sym, ap, ◌∙◌, subst, arith}
use Rattle.std.specs.Prelude.{Option, None, drop, take}
use Rattle.std.proofs.lemmas.List.{append-nil, length-map, take-append-drop, take-append-le, take-map}
use Rattle.rn_model.specs.declared.log.Entry.{Entry}
use Rattle.rn_model.specs.declared.log.Reason.{Reason}
use Rattle.rn_model.specs.Liveness.{Stands}
use Rattle.rn_model.specs.Runs.{Firing, Log, Run, end_entries, end_of, entries_of}
use Rattle.rn_model.proofs.RunLemmas.{prefixes_are_logs}
use Rattle.rn_table.specs.Tables.{Kept, IsTableOf}
use Rattle.rn_fire.specs.declared.setup.Setup.{Setup}
use Rattle.rn_live.specs.Rooms.{Room}
use Rattle.rn_fire.specs.Nets.{nets_of_entries}
use Rattle.rn_fire.specs.Parts.{HoldsLive}
use Rattle.rn_fire.specs.link.States.{KeepsRun, state_of, firings_in, end_in}
use Rattle.rn_fire.proofs.EntryLemmas.{entry_of}
use Rattle.rn_fire.proofs.NetLemmas.{first_nets_are, nets_counted, next_grows}
use Rattle.rn_fire.proofs.StateLemmas.{keeps, state_with}

-- the first entries of a log are its first firings
pub first_are : (fs : List Firing) (ended : Option Reason) (count : ℕ) → count ≤ length fs →
    take count (entries_of fs ended) ≡ entries_of (take count fs) None
first_are fs ended count within =
    take-append-le count (map entry_of fs) (end_entries ended)
    (let count_of = length-map fs entry_of in omega (arith, within, count_of))
    ∙ take-map entry_of count fs ∙ sym (append-nil (map entry_of (take count fs)))

module _ (setup : Setup) (entries : List Entry) (room : ℕ) (table after : Kept)
    (k : KeepsRun setup entries room table) (count : ℕ) (within : count ≤ length (firings_in entries))
  where
    abbrev fs : List Firing
    fs = firings_in entries

    first_entries : take count entries ≡ entries_of (take count fs) None
    first_entries = ap (take count) k.whole ∙ first_are fs (end_in entries) count within

    pub goes_back : state_of setup (take count entries) after
        ≡ record { setup = setup; fired = take count fs; ended = None; table = after }
    goes_back =
        ap (λ es. state_of setup es after) first_entries ∙ state_with setup (take count fs) None after

    first_log : Log setup.system setup.options (take count fs) None
    first_log =
        prefixes_are_logs setup.system setup.options (take count fs) (drop count fs) (end_in entries)
        (subst (λ gs. Log setup.system setup.options gs (end_in entries))
        (sym (take-append-drop count fs)) k.state.log)

    pub keeps_first : Stands setup.system after.marking (end_of setup.system (take count fs)) →
        IsTableOf setup.system after → KeepsRun setup (take count entries) room after
    keeps_first stands of =
        keeps setup (take count entries) room after (take count fs) None first_entries
        (record {
          good = k.state.good;
          limits = k.state.limits;
          log = first_log;
          stands = stands;
          of_system = of;
        }) k.enough

    -- the next number of the table that is given tells how many nets there were
    module _ (stands : Stands setup.system after.marking (end_of setup.system (take count fs))) where
      nets_then : after.marking.next
          ≡ suc (length (nets_of_entries setup.system (take count entries)))
      nets_then =
          stands.next
          ∙ nets_counted setup.system setup.options.depth (take count fs) first_log.run
          ∙ ap (λ es. suc (length (nets_of_entries setup.system es))) (sym first_entries)

      pub some_made : 1 ≤ after.marking.next
      some_made = let then = nets_then in omega (arith, then)

      pub keeps_first_nets : (made : List ℕ) → made ≡ nets_of_entries setup.system entries → (n : ℕ) →
          suc n ≡ after.marking.next →
          take n made ≡ nets_of_entries setup.system (take count entries)
      keeps_first_nets made are n last =
          let then = nets_then in
          let many : n ≡ length (nets_of_entries setup.system (take count entries)) =
          omega (arith, last, then) in
          ap (take n) are ∙ ap (λ j. take j (nets_of_entries setup.system entries)) many
          ∙ first_nets_are setup.system entries count

      -- and it isn't above the last one, for whose table there is room
      pub keeps_first_room : (marked : Room) → HoldsLive setup.system table.marking.next marked →
          HoldsLive setup.system after.marking.next marked
      keeps_first_room marked holds =
          let whole = take-append-drop count fs in
          let low = next_grows setup.system setup.options.depth (take count fs) (drop count fs)
          first_log.run (subst (Run setup.system setup.options.depth) (sym whole) k.state.log.run) in
          let high : after.marking.next ≤ (end_of setup.system fs).next =
          subst (λ (n : ℕ). n ≤ (end_of setup.system fs).next) (sym stands.next)
          (subst (λ gs. (end_of setup.system (take count fs)).next ≤ (end_of setup.system gs).next) whole
          low) in
          let last = k.state.stands.next in
          let room = holds.room in
          record { room = omega (arith, high, last, room); of_system = holds.of_system }
