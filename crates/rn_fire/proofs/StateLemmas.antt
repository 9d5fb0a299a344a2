-- States with one entry more.
use Rattle.std.proofs.Common.{◌≡◌, ℕ, ◌+◌, ◌<◌, ◌≤◌, List, [], ◌∷◌, ◌++◌, length, refl, sym, ap, ◌∙◌, subst, arith}
use Rattle.std.specs.Prelude.{Option, Some, None, drop, take}
use Rattle.std.proofs.lemmas.List.{append-nil, take-append-drop}
use Rattle.rn_model.specs.declared.log.Entry.{Entry}
use Rattle.rn_model.specs.declared.log.Entry.TheVariants.{End}
use Rattle.rn_model.specs.declared.log.Reason.{Reason}
use Rattle.rn_model.specs.Runs.{Firing, Run, end_of, entries_of}
use Rattle.rn_model.specs.Enabling.{DeadAt}
use Rattle.rn_model.proofs.RunLemmas.{dead_runs_stop}
use Rattle.rn_table.specs.Tables.{Kept}
use Rattle.rn_fire.specs.declared.setup.Setup.{Setup}
use Rattle.rn_fire.specs.States.{State, IsState, end_marking}
use Rattle.rn_fire.specs.link.States.{KeepsRun, state_of, firings_in, end_in}
use Rattle.rn_fire.specs.Ends.{MayEndBy, WasDead, with_end}
use Rattle.rn_fire.proofs.EntryLemmas.{firings_of, end_of_entries, ended_more, count_going}

-- a state with its entries
pub state_with : (setup : Setup) (fs : List Firing) (ended : Option Reason) (table : Kept) →
    state_of setup (entries_of fs ended) table
    ≡ record { setup = setup; fired = fs; ended = ended; table = table }
state_with setup fs ended table =
    ap (λ gs. let s : State = record { setup = setup; fired = gs; ended = end_in (entries_of fs ended); table = table } in s) (firings_of fs ended)
    ∙ ap (λ e. let s : State = record { setup = setup; fired = fs; ended = e; table = table } in s) (end_of_entries fs ended)

-- the fields of a state keep what they must
pub keeps : (setup : Setup) (entries : List Entry) (room : ℕ) (table : Kept) (fs : List Firing) (ended : Option Reason) →
    entries ≡ entries_of fs ended →
    IsState (record { setup = setup; fired = fs; ended = ended; table = table }) →
    setup.options.steps + 1 ≤ room → KeepsRun setup entries room table
keeps setup entries room table fs ended are is enough = record {
  state = subst (λ es. IsState (state_of setup es table)) (sym are)
      (subst IsState (sym (state_with setup fs ended table)) is);
  whole = are ∙ ap (λ gs. entries_of gs ended) (sym (ap firings_in are ∙ firings_of fs ended))
      ∙ ap (λ e. entries_of (firings_in entries) e) (sym (ap end_in are ∙ end_of_entries fs ended));
  enough = enough;
}

-- Of a state whose log hasn't ended.
module _ (setup : Setup) (entries : List Entry) (room : ℕ) (table : Kept)
    (k : KeepsRun setup entries room table) (going : end_in entries ≡ None) where
  abbrev fs : List Firing
  fs = firings_in entries

  pub are_firings : entries ≡ entries_of fs None
  are_firings = k.whole ∙ ap (entries_of fs) going

  -- there is room for one entry more
  pub has_room : length entries < room
  has_room =
      let count = ap length are_firings ∙ count_going fs in
      let most = k.state.log.steps in
      let wide = k.enough in
      omega (arith, count, most, wide)

  -- and with an end that is true the fields keep what they must
  pub ends : (reason : Reason) (after : List Entry) → after ≡ entries ++ End reason ∷ [] →
      MayEndBy (state_of setup entries table) reason →
      state_of setup after table ≡ with_end reason (state_of setup entries table)
  ends reason after is true_end =
      ap (λ es. state_of setup es table) (is ∙ ap (λ es. es ++ End reason ∷ []) are_firings ∙ ended_more fs reason)
      ∙ state_with setup fs (Some reason) table

  pub keeps_ended : (reason : Reason) (after : List Entry) → after ≡ entries ++ End reason ∷ [] →
      MayEndBy (state_of setup entries table) reason → KeepsRun setup after room table
  keeps_ended reason after is true_end =
      keeps setup after room table fs (Some reason)
      (is ∙ ap (λ es. es ++ End reason ∷ []) are_firings ∙ ended_more fs reason)
      (record {
        good = k.state.good;
        limits = k.state.limits;
        log = record { run = k.state.log.run; steps = k.state.log.steps; ends = true_end };
        stands = k.state.stands;
        of_system = k.state.of_system;
      }) k.enough

-- where nothing was enabled, nothing was added since
pub still_dead : (s : State) (seen : ℕ) → IsState s → WasDead s seen →
    DeadAt s.setup.system (end_marking s) s.setup.options.depth
still_dead s seen is was = by_rest (drop seen s.fired) refl
  where
    by_rest : (rest : List Firing) → drop seen s.fired ≡ rest →
        DeadAt s.setup.system (end_marking s) s.setup.options.depth
    by_rest [] e =
        let all : take seen s.fired ≡ s.fired =
        sym (append-nil (take seen s.fired)) ∙ ap (λ fs. take seen s.fired ++ fs) (sym e)
        ∙ take-append-drop seen s.fired in
        subst (λ fs. DeadAt s.setup.system (end_of s.setup.system fs) s.setup.options.depth) all was.dead
    by_rest (f ∷ gs) e =
        let whole : s.fired ≡ take seen s.fired ++ f ∷ gs =
        sym (take-append-drop seen s.fired) ∙ ap (λ fs. take seen s.fired ++ fs) e in
        absurd (dead_runs_stop s.setup.system s.setup.options.depth (take seen s.fired) gs f was.dead
        (subst (Run s.setup.system s.setup.options.depth) whole is.log.run))

-- an end that can't be there isn't
pub going_on : (ended : Option Reason) → ¬ (¬ (ended ≡ None)) → ended ≡ None
going_on None some = refl
going_on (Some reason) some = absurd (some (λ e. let no : ⊥ = cc in no))
