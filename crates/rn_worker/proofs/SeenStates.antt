-- What is so after the entries that a worker has seen, and in a later state.
use Rattle.std.proofs.Common.{◌≡◌, ℕ, ◌+◌, ◌*◌, ◌-◌, ◌<◌, ◌≤◌, List, length, cond, refl, sym, ap, ◌∙◌, subst, arith}
use Rattle.std.specs.Prelude.{Option, Some, None, Result, Ok, Err, Bool, true, false, IfOk}
use Rattle.std.proofs.lemmas.List.{length-append}
use Rattle.rn_choices.specs.declared.flag.Halt.{Halt}
use Rattle.rn_model.specs.declared.binding.Binding.{Binding}
use Rattle.rn_model.specs.declared.log.Entry.{Entry}
use Rattle.rn_model.specs.declared.system.System.{System}
use Rattle.rn_model.specs.Markings.{Marking}
use Rattle.rn_model.specs.Enabling.{DeadAt, Enabled}
use Rattle.rn_model.specs.Liveness.{IsLive, Stands}
use Rattle.rn_model.specs.SoundTokens.{HasSoundTokens}
use Rattle.rn_model.specs.declared.log.Options.{Options}
use Rattle.rn_model.specs.Limits.{most_steps}
use Rattle.rn_model.specs.Runs.{Log, Run, end_of, entries_of}
use Rattle.rn_model.proofs.SoundRuns.{dead_stay_dead_in_runs, runs_end_sound}
use Rattle.rn_model.proofs.StandingTables.{as_in_table, tables_enable_the_same, tables_have_the_same_live}
use Rattle.rn_channel.specs.declared.uplinks.Uplinks.{Uplinks}
use Rattle.rn_channel.specs.link.Uplinks.{AreUplinksOf}
use Rattle.rn_desk.specs.Entries.{StartsWith}
use Rattle.rn_table.specs.Tables.{IsTableOf}
use Rattle.rn_finder.proofs.FitTokens.{standing_tokens_fit}
use Rattle.rn_live.proofs.GoodPlaces.{good_places}
use Rattle.rn_fire.specs.declared.setup.Setup.{Setup}
use Rattle.rn_fire.specs.States.{State, IsState, logged}
use Rattle.rn_fire.specs.link.States.{firings_in}
use Rattle.rn_fire.proofs.EntryLemmas.{firings_of}
use Rattle.rn_worker.specs.declared.considering.Plan.{Plan}
use Rattle.rn_worker.specs.declared.looking.Sight.{Sight}
use Rattle.rn_worker.specs.link.Seen.{IsUnended, IsSightOf, Shows, marking_after}
use Rattle.rn_worker.specs.link.Plans.{AddsOwn, AreDeadAt, FitsIn, GrowsBy, HasNoneLive, IsFoundAt, IsPlanAt, IsToSearch, Knows, WasFound}
use Rattle.rn_worker.proofs.SeenEntries.{fired_then, going_count, had_seen, taken}

-- what is seen of a state whose log goes on
pub shows : (t : State) (v : Sight) (setup : Setup) (es : List Entry) → IsSightOf t v →
    t.setup ≡ setup → es ≡ logged t → Shows setup es v
shows t v setup es (is, going, table, count) same are =
    let firings : firings_in es ≡ t.fired = ap firings_in are ∙ firings_of t.fired t.ended in
    subst (λ x. Shows x es v) same
    (record {
      good = is.good;
      limits = is.limits;
      going = are ∙ ap (entries_of t.fired) going ∙ ap (λ fs. entries_of fs None) (sym firings);
      log = subst (λ fs. Log t.setup.system t.setup.options fs None) (sym firings)
          (subst (Log t.setup.system t.setup.options t.fired) going is.log);
      stands = subst (λ k. Stands t.setup.system k.marking (marking_after t.setup es)) (sym table)
          (subst (λ fs. Stands t.setup.system t.table.marking (end_of t.setup.system fs))
          (sym firings) is.stands);
      of_system = subst (IsTableOf t.setup.system) (sym table) is.of_system;
      count = count ∙ ap length (sym are);
    })

-- a turn leaves the setup as it was
pub kept_setup : (worker : ℕ) (fired : Bool) (old new : State) → AddsOwn worker fired old new →
    new.setup ≡ old.setup
kept_setup worker true old new adds = adds.0
kept_setup worker false old new stays = stays.0

-- What a snapshot shows.
module _ (setup : Setup) (es : List Entry) (v : Sight) (shown : Shows setup es v) where
  abbrev m : Marking
  m = marking_after setup es

  tokens_sound : HasSoundTokens setup.system m
  tokens_sound = runs_end_sound setup.system setup.options.depth (firings_in es) shown.good shown.log.run

  -- it may be searched
  pub to_search : (uplinks : Uplinks) → AreUplinksOf setup.system uplinks →
      IsToSearch setup.system uplinks v.table
  to_search uplinks own = record {
    good = shown.good;
    own = own;
    of_system = shown.of_system;
    tokens = standing_tokens_fit setup.system v.table.marking m tokens_sound shown.stands;
    few = good_places setup.system v.table.marking shown.good shown.stands.form;
  }

  -- what is found there is so after the entries
  found_after : (found : Option Binding) →
      IsFoundAt setup.system setup.options.depth v.table.marking found →
      IsFoundAt setup.system setup.options.depth m found
  found_after (Some b) enabled =
      (tables_enable_the_same setup.system v.table.marking m b setup.options.depth tokens_sound shown.stands).0
      enabled
  found_after None dead = λ b enabled.
      dead b
      ((tables_enable_the_same setup.system v.table.marking m b setup.options.depth tokens_sound shown.stands).1
      enabled)

  dead_after : (numbers : List ℕ) → AreDeadAt setup.system v.table.marking numbers →
      AreDeadAt setup.system m numbers
  dead_after numbers dead n listed =
      let here = dead n listed in
      let there = here.0 in (
        (there.0, as_in_table setup.system v.table.marking m shown.stands n there.0 there.1),
        λ live. here.1
            ((tables_have_the_same_live setup.system v.table.marking m shown.stands n).1 live),
      )

  -- what a plan says of the snapshot is so after the entries
  pub knows : (p : Plan) → IsPlanAt setup.system setup.options.depth v.table p → Knows setup es p
  knows p plan = (found_after p.found plan.0, dead_after p.dead.items plan.1)

  -- the entries are no more than the limit
  pub few_seen : length es ≤ setup.options.steps
  few_seen =
      let count = going_count es shown.going in
      let few = shown.log.steps in
      omega (arith, count, few)

  -- so they are no more than any run may have
  pub never_many : length es ≤ most_steps
  never_many =
      let few = few_seen in
      let most = shown.limits.steps in
      omega (arith, few, most)

-- The same of a system and its options.
module _ (setup : Setup) (system : System) (options : Options)
    (same : setup ≡ record { system = system; options = options }) (es : List Entry) (v : Sight)
    (shown : Shows setup es v) where
  abbrev own : Setup
  own = record { system = system; options = options }

  own_shown : Shows own es v
  own_shown = subst (λ x. Shows x es v) same shown

  -- the snapshot may be searched
  pub searched_by : (uplinks : Uplinks) → AreUplinksOf system uplinks →
      IsToSearch system uplinks v.table
  searched_by uplinks are = to_search own es v own_shown uplinks are

  pub known_by : (r : Result Plan Halt) → IfOk r (IsPlanAt system options.depth v.table) →
      IfOk r (Knows setup es)
  known_by (Ok p) plan = subst (λ x. Knows x es p) (sym same) (knows own es v own_shown p plan)
  known_by (Err halt) plan = tt

  -- the entries are no more than the limit
  pub few_by : length es ≤ options.steps
  few_by = few_seen own es v own_shown

-- A later state.
module _ (t : State) (is : IsState t) (es : List Entry) (begins : StartsWith (logged t) es)
    (going : IsUnended es) where
  still_found : (found : Option Binding) →
      IsFoundAt t.setup.system t.setup.options.depth (marking_after t.setup es) found →
      WasFound t (length es) found
  still_found (Some b) enabled = (
    record { shape = enabled.shape; agrees = enabled.agrees; derived = enabled.derived },
    record {
      firings = had_seen t es begins going;
      enabled =
          subst (λ fs. Enabled t.setup.system (end_of t.setup.system fs) b t.setup.options.depth)
          (sym (taken t es begins going)) enabled;
    },
  )
  still_found None dead = record {
    firings = had_seen t es begins going;
    dead =
        subst (λ fs. DeadAt t.setup.system (end_of t.setup.system fs) t.setup.options.depth)
        (sym (taken t es begins going)) dead;
  }

  still_dead : (numbers : List ℕ) → AreDeadAt t.setup.system (marking_after t.setup es) numbers →
      HasNoneLive t numbers
  still_dead numbers dead n listed live =
      let system = t.setup.system in
      let then = fired_then t es begins in
      let here = dead n listed in
      dead_stay_dead_in_runs system t.setup.options.depth (firings_in es) (firings_in begins.0) is.good
      (subst (Run system t.setup.options.depth) then is.log.run) n here.0 here.1
      (subst (λ fs. IsLive system (end_of system fs) n) then live)

  -- a plan that is known after the entries fits the later state
  pub fits_in : (setup : Setup) → t.setup ≡ setup → (p : Plan) → Knows setup es p →
      FitsIn t (length es) p
  fits_in setup same p known =
      let own = subst (λ x. Knows x es p) (sym same) known in
      (still_found p.found own.0, still_dead p.dead.items own.1)

  pub fits : (setup : Setup) → t.setup ≡ setup → (seen : ℕ) → seen ≡ length es →
      (r : Result Plan Halt) → IfOk r (Knows setup es) → IfOk r (FitsIn t seen)
  fits setup same seen count (Ok p) known =
      subst (λ k. FitsIn t k p) (sym count) (fits_in setup same p known)
  fits setup same seen count (Err halt) known = tt

-- who begins with entries has no fewer
pub never_fewer : (es before : List Entry) → StartsWith es before → length before ≤ length es
never_fewer es before begins =
    let all = ap length begins.1 ∙ length-append before begins.0 in omega (arith, all)

-- A round sees an entry more, or was stopped; then the next one isn't.
pub rounds_end : (stopped before : Bool) (steps old turned new : ℕ) → old ≤ steps → old ≤ turned →
    turned ≤ new → (stopped ≡ false → old < turned) → (before ≡ true → stopped ≡ true → ⊥) →
    2 * ((steps + 2) - new) + cond stopped 0 1 < 2 * ((steps + 2) - old) + cond before 0 1
rounds_end true true steps old turned new few later then more never = absurd (never refl refl)
rounds_end true false steps old turned new few later then more never =
    omega (arith, few, later, then)
rounds_end false true steps old turned new few later then more never =
    let grows = more refl in omega (arith, few, grows, then)
rounds_end false false steps old turned new few later then more never =
    let grows = more refl in omega (arith, few, grows, then)

-- Firings of one's own are among the entries that were seen: where one fired, an entry came.
pub own_within : (fired stopped : Bool) (own more : List Entry) (old turned new : ℕ) →
    GrowsBy fired own more → length own ≤ old → old ≤ turned → (stopped ≡ false → old < turned) →
    (stopped ≡ true → fired ≡ false) → turned ≤ new → length more ≤ new
own_within true true own more old turned new grows within later goes halts then =
    let no : true ≡ false = halts refl in cc
own_within true false own more old turned new grows within later goes halts then =
    let further = goes refl in omega (arith, grows, within, further, then)
own_within false stopped own more old turned new grows within later goes halts then =
    let same = ap length grows in omega (arith, same, within, later, then)
